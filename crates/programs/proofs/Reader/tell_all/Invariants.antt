-- No more goals are reached than there were.
use Rattle.std.proofs.Common.{length, ◌≡◌, ◌≤◌}
use Rattle.programs.proofs.Reader.tell_all.Given as goal

abbrev pub invariant-loop-goal : goal.invariant-loop-goal
invariant-loop-goal l = (length l.work ≡ length l.initial.work) × (length l.derivation ≡ length l.initial.derivation) × (l.reached ≤ l.goal)
