use Rattle.lanes.specs.Held.{state_of, SameLog}
use Rattle.stages.specs.Stages.{Turning}
use Rattle.stages.proofs.Bounded.deliver_turn.Given as goal

abbrev pub invariant-loop-next : goal.invariant-loop-next
invariant-loop-next l = record {
  log : SameLog l.initial.held l.held;
  turn : Turning l.self.given.now.deliveries.now l.self.book.now.users.now l.m (state_of l.initial.held) l.next (state_of l.held) l.each;
}
