use native.Mathlib.Omega.{arith}
use Rattle.places.proofs.Laws.{sized}
use Rattle.places.proofs.size_of.Goals as goal

-- The formulas that the index has, and the principals among them.
pub returns : goal.returns
returns c = sized c.args.formulas c.args.numbers.now (omega arith) (omega arith) (rw c.from.ensures at c.rank_of.ensures) (omega arith)
