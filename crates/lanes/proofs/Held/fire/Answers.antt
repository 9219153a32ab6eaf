use Rattle.lanes.proofs.Laws.{concluded_is, concluded_held}
use Rattle.lanes.proofs.Held.fire.Goals as goal

pub returns-then-is_held-clause-state : goal.returns-then-is_held-clause-state
returns-then-is_held-clause-state c = concluded_held _ _ _ _ _ c.holders-who.ensures c.is_held.ensures c.if-is_held.true

pub returns-clause-state : goal.returns-clause-state
returns-clause-state c = concluded_is _ _ _ _ _ c.holders-who.ensures c.enter.ensures.state
