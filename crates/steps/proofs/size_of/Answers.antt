use native.Mathlib.Omega.{arith}
use Prim.Native.Nat.{ℕ, ◌+◌, ◌*◌}
use mathlib.Core.Path.{ap}
use Rattle.logic.specs.Step.{step_size}
use Rattle.steps.proofs.size_of.Goals as goal

pub returns : goal.returns
unfolding step_size
returns c = let e = c.numbers_in.ensures in (ap (λ (n : ℕ). 8 + 2 * n) e.0, (omega arith), (let l = e.1 in omega arith))
