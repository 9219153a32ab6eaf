use Rattle.stages.proofs.Laws.{assumed_is}
use Rattle.stages.proofs.assume.Goals as goal

pub returns-clause-state : goal.returns-clause-state
returns-clause-state c = assumed_is _ _ _ _ _ c.assumption_at-f.ensures c.first_at.ensures c.only_one-who.ensures c.stated_at.ensures c.giving-fact.ensures c.give.ensures.state
