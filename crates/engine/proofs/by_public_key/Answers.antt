use mathlib.Core.Path.{ap}
use mathlib.Core.Bool.{not}
use Rattle.engine.proofs.Laws.{since_one}
use Rattle.engine.proofs.Applied.{public_none, public_all}
use Rattle.engine.proofs.by_public_key.Goals as goal

pub returns-then-not-is_public-clause-state : goal.returns-then-not-is_public-clause-state
returns-then-not-is_public-clause-state c = public_none _ _ _ _ _ _ _ c.is_public.ensures (ap not c.if-not-is_public.true)

pub returns-clause-state : goal.returns-clause-state
returns-clause-state c = public_all _ _ _ _ _ _ _ c.is_public.ensures (ap not c.if-not-is_public.false) c.first_at-x.ensures c.second_at.ensures c.rank_at-j.ensures.0 c.believes.ensures c.sees.ensures c.said.ensures c.join-heard.ensures c.fire.ensures.state c.believes-2.ensures c.sees-2.ensures c.sees-3.ensures c.join-open.ensures (since_one _ _ _ c.fire.ensures.log.2 c.fire-2.ensures.state)
