use Rattle.lanes.specs.Held.{state_of, SameLog}
use Rattle.stamps.specs.Stamped.{SameTable}
use Rattle.engine.specs.Laid.{array_of}
use Rattle.stages.specs.Given.{AllWords}
use Rattle.stages.proofs.Running.{Goes}
use Prim.Native.Nat.{◌+◌, ◌*◌, ◌-◌, ◌≤◌}
use lib.ListN.{length}
use Rattle.stages.proofs.Bounded.run_turns.Given as goal

abbrev pub invariant-loop-m : goal.invariant-loop-m
invariant-loop-m l = record {
  within : l.m ≤ length l.self.given.now.deliveries.now;
  log : SameLog l.initial.held l.held;
  table : SameTable l.initial.out l.out;
  whole : AllWords l.held;
  few : l.stamps ≤ (l.m + 1) * 65536;
  goes :
      Goes (array_of l.self.book.now) l.self.book.now.links.now l.self.book.now.rows.now l.self.book.now.users.now l.self.given.now.deliveries.now l.self.given.now.sizes.formulas l.self.given.now.sizes.principals l.self.given.now.force l.self.given.now.sizes.assumptions
      (state_of l.initial.held) l.initial.out.before l.initial.out.table.now l.initial.stamps l.initial.m l.m (state_of l.held) l.out.before l.out.table.now l.stamps;
}

abbrev pub decreases-loop-m : goal.decreases-loop-m
decreases-loop-m l = length l.self.given.now.deliveries.now - l.m
