use Rattle.lanes.specs.Held.{state_of, SameLog}
use Rattle.rules.specs.Close.{Reaches}
use Rattle.engine.specs.Laid.{array_of}
use Rattle.stages.proofs.Closed.{measure}
use Rattle.stages.proofs.Bounded.close.Given as goal

abbrev pub invariant-loop-r : goal.invariant-loop-r
invariant-loop-r l = record {
  log : SameLog l.initial.held l.held;
  reached : Reaches (array_of l.self.book.now) l.self.book.now.links.now l.self.book.now.rows.now l.self.book.now.users.now l.initial.held.logged (state_of l.initial.held) (state_of l.held);
}

abbrev pub decreases-loop-r : goal.decreases-loop-r
decreases-loop-r l = measure l.held.words l.held.pending
