use Rattle.engine.proofs.Applied.{trust_one}
use Rattle.engine.proofs.trust.Goals as goal

pub returns-clause-state : goal.returns-clause-state
returns-clause-state c = trust_one _ _ _ _ _ _ c.second_at-c.ensures c.first_at.ensures c.rank_at-j.ensures.0 c.opened_at.ensures c.believes-p.ensures c.believed-q.ensures c.join-i.ensures c.fire.ensures.state
