-- Each piece begins behind the one before.
use Rattle.std.proofs.Common.{length, ◌-◌, ◌≡◌}
use Rattle.programs.proofs.Reader.list_pieces.Given as goal

abbrev pub invariant-loop-next : goal.invariant-loop-next
invariant-loop-next l = length l.buffer ≡ length l.initial.buffer

abbrev pub decreases-loop-next : goal.decreases-loop-next
decreases-loop-next l = 18446744073709551616 - l.from
