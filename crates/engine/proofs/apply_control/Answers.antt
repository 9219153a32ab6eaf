use Rattle.engine.proofs.Applied.{controlled_is}
use Rattle.engine.proofs.apply_control.Goals as goal

pub returns-clause-state : goal.returns-clause-state
returns-clause-state c = controlled_is _ _ _ _ _ c.second_at-x.ensures c.first_at.ensures c.rank_at-j.ensures.0 c.opened_at-c.ensures c.believes.ensures c.believed.ensures c.join-i.ensures c.fire.ensures.state
