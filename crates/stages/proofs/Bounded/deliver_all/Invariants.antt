use Rattle.lanes.specs.Held.{state_of, SameLog}
use Rattle.stages.specs.Stages.{delivered_from}
use mathlib.Core.Path.{◌≡◌}
use Rattle.stages.proofs.Bounded.deliver_all.Given as goal

abbrev pub invariant-loop-m : goal.invariant-loop-m
invariant-loop-m l = record {
  log : SameLog l.initial.held l.held;
  state : state_of l.held ≡ delivered_from l.self.given.now.deliveries.now l.self.book.now.users.now l.initial.held.logged 0 l.m (state_of l.initial.held);
}
