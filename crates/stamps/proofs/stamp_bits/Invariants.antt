use Rattle.stamps.specs.Stamps.{stamped, stamp_bits}
use lib.ListN.{length}
use mathlib.Core.Path.{◌≡◌}
use Rattle.stamps.proofs.stamp_bits.Given as goal

abbrev pub invariant-loop-rest : goal.invariant-loop-rest
invariant-loop-rest l =
    (length l.table ≡ length l.initial.table) × (stamp_bits l.turn.stamps.now l.turn.stride l.at 64 l.rest (stamped l.table l.written) ≡ stamp_bits l.turn.stamps.now l.turn.stride l.at 64 l.bits (stamped l.initial.table l.count))

abbrev pub decreases-loop-rest : goal.decreases-loop-rest
decreases-loop-rest l = l.rest
