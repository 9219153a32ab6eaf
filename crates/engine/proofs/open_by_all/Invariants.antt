use Rattle.rules.specs.Rules.{unsealed, along, opened}
use Rattle.lanes.specs.Held.{state_of, SameLog}
use Rattle.lanes.specs.Lanes.{run}
use Rattle.engine.specs.Laid.{array_of, ran}
use Prim.Native.Nat.{◌<◌}
use mathlib.Core.Path.{◌≡◌}
use Rattle.engine.proofs.open_by_all.Given as goal

abbrev pub invariant-loop-y : goal.invariant-loop-y
invariant-loop-y l = record {
  below : l.y < 256;
  log : SameLog l.initial.held l.held;
  state : run l.book.users.now l.initial.held.logged (state_of l.held) (along (unsealed (array_of l.book) l.m l.r) l.book.links.now 256 l.y) ≡ ran l.book l.initial.held (opened (array_of l.book) l.book.links.now l.m l.r);
}

abbrev pub decreases-loop-y : goal.decreases-loop-y
decreases-loop-y l = l.y
