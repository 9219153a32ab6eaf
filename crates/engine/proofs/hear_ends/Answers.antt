use Rattle.engine.proofs.Laws.{since_one}
use Rattle.engine.proofs.Applied.{ends_heard}
use Rattle.engine.proofs.hear_ends.Goals as goal

pub returns-clause-state : goal.returns-clause-state
returns-clause-state c = ends_heard _ _ _ _ _ c.args.m _ _ c.requires c.first_at-x.ensures c.first_at-a.ensures c.third_at-c.ensures c.believes.ensures c.sees.ensures c.rank_at.ensures.0 c.said.ensures c.join-first.ensures c.only_one.ensures c.fire.ensures.state c.believes-2.ensures c.sees-2.ensures c.rank_at-2.ensures.0 c.said-2.ensures c.join-second.ensures c.only_one-2.ensures (since_one _ _ _ c.fire.ensures.log.2 c.fire-2.ensures.state)
