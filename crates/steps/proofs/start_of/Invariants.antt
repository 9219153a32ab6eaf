use Prim.Native.Nat.{◌≤◌}
use mathlib.Core.Path.{◌≡◌}
use lib.ListN.{length, drop}
use Rattle.logic.specs.Explained.{behind_steps}
use Rattle.steps.proofs.start_of.Given as goal

abbrev pub invariant-loop-n : goal.invariant-loop-n
invariant-loop-n l = (drop l.at l.derivation ≡ behind_steps l.n l.derivation) × (l.at ≤ length l.derivation)
