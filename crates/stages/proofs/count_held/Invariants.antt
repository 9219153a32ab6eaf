use Rattle.stages.specs.Stages.{held_in}
use Prim.Native.Nat.{◌*◌, ◌≤◌}
use mathlib.Core.Path.{◌≡◌}
use Rattle.stages.proofs.count_held.Given as goal

abbrev pub invariant-loop-x : goal.invariant-loop-x
invariant-loop-x l = (l.facts ≤ l.x * 192) × (l.facts ≡ held_in l.held.words l.x)
