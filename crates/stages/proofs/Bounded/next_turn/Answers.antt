use mathlib.Core.List.{[]}
use Rattle.engine.specs.Laid.{array_of}
use Rattle.lanes.specs.Lanes.{state}
use Rattle.stages.proofs.Closed.{closes_at}
use Rattle.stages.proofs.Lengths.{turn_whole, turn_is}
use mathlib.Core.Path.{refl, ◌∙◌}
use Rattle.stages.proofs.Bounded.next_turn.Goals as goal

pub close-requires : goal.close-requires
close-requires c = turn_whole (array_of c.args.self.now.book.now) [] [] c.args.self.now.book.now.users.now c.args.self.now.given.now.deliveries.now _ _ _ (state [] [] [] 0) _ 0 0 _ [] [] c.requires.0 c.deliver_turn-next.ensures.turn

pub returns-clause-turn : goal.returns-clause-turn
returns-clause-turn c = turn_is _ _ _ _ _ _ _ _ _ _ _ _ _ _ _ c.requires.0 c.deliver_turn-next.ensures.turn (closes_at _ _ _ _ _ (c.deliver_turn-next.ensures.log.2 ∙ c.requires.2) refl c.close.ensures.state) _ c.stamp.ensures.state c.stamp.ensures.few
