use Rattle.rules.specs.Rules.{vouches, for_all}
use Rattle.facts.specs.Lists.{upto}
use Rattle.lanes.specs.Held.{state_of, SameLog}
use Rattle.engine.specs.Laid.{ran}
use mathlib.Core.Path.{◌≡◌}
use Rattle.engine.proofs.apply_clear.Given as goal

abbrev pub invariant-loop-j : goal.invariant-loop-j
invariant-loop-j l = record { log : SameLog l.initial.held l.held; state : state_of l.held ≡ ran l.book l.initial.held (for_all (upto (vouches l.r) l.j)) }
