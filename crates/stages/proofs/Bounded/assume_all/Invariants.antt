use Rattle.lanes.specs.Held.{state_of, SameLog}
use Rattle.engine.specs.Laid.{array_of}
use Rattle.stages.specs.Stages.{assumed_in}
use mathlib.Core.Path.{◌≡◌}
use Rattle.stages.proofs.Bounded.assume_all.Given as goal

abbrev pub invariant-loop-a : goal.invariant-loop-a
invariant-loop-a l = record {
  log : SameLog l.initial.held l.held;
  state : state_of l.held ≡ assumed_in (array_of l.self.book.now) l.self.book.now.users.now l.initial.held.logged l.self.given.now.force l.a (state_of l.initial.held);
}
