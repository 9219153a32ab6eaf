use mathlib.Core.Path.{ap}
use mathlib.Core.Bool.{not}
use Rattle.engine.proofs.Laws.{since_one}
use Rattle.engine.proofs.Applied.{shared_none, shared_all}
use Rattle.engine.proofs.by_shared_key.Goals as goal

pub returns-then-not-is_about-clause-state : goal.returns-then-not-is_about-clause-state
returns-then-not-is_about-clause-state c = shared_none _ _ _ _ _ _ _ c.is_about.ensures (ap not c.if-not-is_about.true)

pub returns-clause-state : goal.returns-clause-state
returns-clause-state c = shared_all _ _ _ _ _ _ _ c.is_about.ensures (ap not c.if-not-is_about.false) c.hear_ends.ensures.state c.first_at.ensures c.only_one.ensures c.third_at.ensures c.only_one-2.ensures c.believes.ensures c.sees.ensures c.first_at-2.ensures c.sees-2.ensures c.join-open.ensures (since_one _ _ _ c.hear_ends.ensures.log.2 c.fire.ensures.state)
