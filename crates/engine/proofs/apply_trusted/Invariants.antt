use Rattle.rules.specs.Rules.{trusted_by, for_all}
use Rattle.facts.specs.Lists.{upto}
use Rattle.lanes.specs.Held.{state_of, SameLog}
use Rattle.engine.specs.Laid.{array_of, ran}
use Prim.Native.Nat.{◌-◌, ◌≤◌}
use mathlib.Core.Path.{◌≡◌}
use Rattle.engine.proofs.apply_trusted.Given as goal

abbrev pub invariant-loop-r : goal.invariant-loop-r
invariant-loop-r l = record { within : l.r ≤ 256; log : SameLog l.initial.held l.held; state : state_of l.held ≡ ran l.book l.initial.held (for_all (upto (trusted_by (array_of l.book) l.book.rows.now l.x) l.r)) }

abbrev pub decreases-loop-r : goal.decreases-loop-r
decreases-loop-r l = 256 - l.r
