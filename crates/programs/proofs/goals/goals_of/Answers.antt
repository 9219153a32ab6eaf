use native.Mathlib.Omega.{arith}
use Rattle.programs.proofs.Laws.{few_goals}
use Rattle.programs.proofs.goals.goals_of.Goals as goal

-- A book that was read has few goals.
pub overflow_cast-result : goal.overflow_cast-result
overflow_cast-result c = let l = few_goals c.args.book.now (λ i. (c.shared_slice_known-1.given i).fits) c.read.ensures c.in_ok-n.was in omega arith
