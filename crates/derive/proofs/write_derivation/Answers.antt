use Rattle.derive.proofs.Laws.{small_tables, large_tables}
use Rattle.derive.proofs.write_derivation.Goals as goal

pub returns-then-places-le-FEW : goal.returns-then-places-le-FEW
returns-then-places-le-FEW c = rw (small_tables c.args.n c.args.holder.now.principals (rw (c.from.ensures, c.from-2.ensures) at c.if-places-le-FEW.true)) c.write_within.ensures

pub returns-else-places-le-FEW : goal.returns-else-places-le-FEW
returns-else-places-le-FEW c = rw (large_tables c.args.n c.args.holder.now.principals (rw (c.from.ensures, c.from-2.ensures) at c.if-places-le-FEW.false)) c.write_within-else-places-le-FEW.ensures
