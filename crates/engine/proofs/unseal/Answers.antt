use native.Mathlib.Omega.{arith}
use Rattle.engine.proofs.Laws.{since}
use Rattle.engine.proofs.Applied.{unsealed_none, unsealed_5, unsealed_6, unsealed_7}
use Rattle.engine.proofs.unseal.Goals as goal

pub returns-then-lane-eq0-clause-state : goal.returns-then-lane-eq0-clause-state
returns-then-lane-eq0-clause-state c = unsealed_none _ _ _ _ _ _ _ _ _ _ c.believes.ensures c.lane.ensures c.if-lane-eq0.true

pub returns-in-5-clause-state : goal.returns-in-5-clause-state
returns-in-5-clause-state c = unsealed_5 _ _ _ _ _ _ _ c.kind_at.ensures c.in-5.is c.by_shared_key.ensures.state (since _ _ _ c.by_shared_key.ensures.log.2 c.by_own_key.ensures.state)

pub returns-in-6-clause-state : goal.returns-in-6-clause-state
returns-in-6-clause-state c = unsealed_6 _ _ _ _ _ _ _ c.kind_at.ensures (λ e. omega (arith, c.in-6.is)) c.in-6.is c.by_public_key.ensures.state

pub returns-in_default-clause-state : goal.returns-in_default-clause-state
returns-in_default-clause-state c = unsealed_7 _ _ _ _ _ _ _ c.kind_at.ensures (λ e. omega arith) (λ e. omega arith) c.by_secret.ensures.state
