use Rattle.engine.proofs.Laws.{since}
use Rattle.engine.proofs.Applied.{delegated_none, delegated_all}
use Rattle.engine.proofs.apply_delegation.Goals as goal

pub returns-then-lane-eq0-clause-state : goal.returns-then-lane-eq0-clause-state
returns-then-lane-eq0-clause-state c = delegated_none _ _ _ _ _ _ _ _ _ c.believes.ensures c.lane.ensures c.if-lane-eq0.true

pub returns-clause-state : goal.returns-clause-state
returns-clause-state c = delegated_all _ _ _ _ _ _ c.trust_all.ensures.state (since _ _ _ c.trust_all.ensures.log.2 c.grant_all.ensures.state)
