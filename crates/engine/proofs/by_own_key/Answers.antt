use mathlib.Core.Path.{ap}
use mathlib.Core.Bool.{not}
use Rattle.engine.proofs.Applied.{own_none, own_all}
use Rattle.engine.proofs.by_own_key.Goals as goal

pub returns-then-not-is_public-clause-state : goal.returns-then-not-is_public-clause-state
returns-then-not-is_public-clause-state c = own_none _ _ _ _ _ _ _ c.is_public.ensures (ap not c.if-not-is_public.true)

pub returns-clause-state : goal.returns-clause-state
returns-clause-state c = own_all _ _ _ _ _ _ _ c.is_public.ensures (ap not c.if-not-is_public.false) c.second_at.ensures c.only_one-own.ensures c.believes.ensures c.sees.ensures c.first_at.ensures c.sees-2.ensures c.join-open.ensures c.fire.ensures.state
