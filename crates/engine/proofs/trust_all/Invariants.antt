use Rattle.rules.specs.Rules.{trusts, for_all}
use Rattle.facts.specs.Lists.{upto}
use Rattle.lanes.specs.Held.{state_of, SameLog}
use Rattle.engine.specs.Laid.{array_of, ran}
use Prim.Native.Nat.{◌-◌, ◌≤◌}
use mathlib.Core.Path.{◌≡◌}
use Rattle.engine.proofs.trust_all.Given as goal

abbrev pub invariant-loop-x : goal.invariant-loop-x
invariant-loop-x l = record { within : l.x ≤ 256; log : SameLog l.initial.held l.held; state : state_of l.held ≡ ran l.book l.initial.held (for_all (upto (trusts (array_of l.book) l.book.rows.now l.r) l.x)) }

abbrev pub decreases-loop-x : goal.decreases-loop-x
decreases-loop-x l = 256 - l.x
