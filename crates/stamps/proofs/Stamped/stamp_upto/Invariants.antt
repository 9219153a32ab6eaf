use Rattle.stamps.specs.Stamps.{stamp_upto}
use Rattle.stamps.specs.Stamped.{state_of, SameTable}
use mathlib.Core.Path.{◌≡◌}
use Prim.Native.Nat.{◌*◌, ◌≤◌}
use Rattle.stamps.proofs.Stamped.stamp_upto.Given as goal

abbrev pub invariant-loop-x : goal.invariant-loop-x
invariant-loop-x l = record {
  few : l.self.count ≤ l.x * 192;
  table : SameTable l.initial.self l.self;
  state : state_of l.self ≡ stamp_upto l.turn.words.now l.turn.stamps.now l.turn.stride l.turn.ranks l.x (state_of l.initial.self);
}
