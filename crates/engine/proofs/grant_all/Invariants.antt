use Rattle.rules.specs.Rules.{grants, for_all}
use Rattle.facts.specs.Lists.{upto}
use Rattle.lanes.specs.Held.{state_of, SameLog}
use Rattle.engine.specs.Laid.{array_of, ran}
use Prim.Native.Nat.{◌-◌, ◌≤◌}
use mathlib.Core.Path.{◌≡◌}
use Rattle.engine.proofs.grant_all.Given as goal

abbrev pub invariant-loop-c : goal.invariant-loop-c
invariant-loop-c l = record { within : l.c ≤ 256; log : SameLog l.initial.held l.held; state : state_of l.held ≡ ran l.book l.initial.held (for_all (upto (grants (array_of l.book) l.book.rows.now l.r) l.c)) }

abbrev pub decreases-loop-c : goal.decreases-loop-c
decreases-loop-c l = 256 - l.c
