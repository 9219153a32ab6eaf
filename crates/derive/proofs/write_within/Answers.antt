use mathlib.Core.Path.{refl}
use lib.ListN.{length-replicate}
use Rattle.derive.proofs.Laws.{derivation_written}
use Rattle.derive.proofs.write_within.Goals as goal

pub returns : goal.returns
returns g c = derivation_written _ _ _ _ _ _ _ refl c.want.ensures c.mark_wanted.ensures (rw length-replicate at c.write_marked.ensures)
