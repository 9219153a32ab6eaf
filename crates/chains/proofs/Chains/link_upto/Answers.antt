use Rattle.chains.proofs.Chain.{inside, too_many, too_short}
use mathlib.Core.Path.{refl}
use Rattle.chains.proofs.Chains.link_upto.Goals.{else-n-le256-via-then-n-le256+else-n-table, else-n-le256-via-else-n-le256}
use Rattle.chains.proofs.Chains.link_upto.Goals as goal

pub returns-then-n-table : goal.returns-then-n-table
returns-then-n-table c = rw (inside c.args.table.now _ c.if-n-le256.true c.if-n-table.true) c.link_all.ensures

pub returns-else-n-le256 : goal.returns-else-n-le256
returns-else-n-le256 c = elim c.else-n-le256.branch [
  | else-n-le256-via-then-n-le256+else-n-table w ↦ rw (too_short c.args.table.now _ w.if-n-le256.true w.if-n-table.false) (refl, refl)
  | else-n-le256-via-else-n-le256 w ↦ rw (too_many c.args.table.now _ w.if-n-le256.false) (refl, refl)
]
