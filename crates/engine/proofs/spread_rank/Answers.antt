use Rattle.engine.proofs.Laws.{since}
use Rattle.engine.proofs.Applied.{spread_two}
use Rattle.engine.proofs.spread_rank.Goals as goal

pub returns-clause-state : goal.returns-clause-state
returns-clause-state c = spread_two _ _ _ _ _ _ _ c.said.ensures c.said-2.ensures c.spread.ensures.state c.believed.ensures c.believed-2.ensures (since _ _ _ c.spread.ensures.log.2 c.spread-2.ensures.state)
