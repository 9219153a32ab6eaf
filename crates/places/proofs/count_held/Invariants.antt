use Rattle.std.proofs.Common.{◌≡◌, ◌≤◌, take}
use Rattle.logic.specs.Survey.{held}
use Rattle.places.proofs.count_held.Given as goal

-- The bytes passed that are not 0.
abbrev pub invariant-loop-b : goal.invariant-loop-b
invariant-loop-b l = (l.held ≤ l.b-index) × (l.held ≡ held (take l.b-index l.b-items))
