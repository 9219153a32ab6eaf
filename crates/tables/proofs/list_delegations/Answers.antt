use Rattle.tables.proofs.Laws.{delegated_more, none_delegated, all_delegated, end_at}
use Rattle.tables.specs.Delegations.{delegated_upto}
use native.Mathlib.Omega.{arith}
use mathlib.Core.Path.{refl}
use Rattle.tables.proofs.list_delegations.Goals as goal

pub returns-then-n-gt256 : goal.returns-then-n-gt256
returns-then-n-gt256 c = none_delegated _ _ _ c.if-n-gt256.true

pub loop-d-init : goal.loop-d-init
unfolding delegated_upto
loop-d-init c = refl

pub loop-d-preserved : goal.loop-d-preserved
loop-d-preserved c = delegated_more _ _ _ c.loop-d.invariant c.list_delegation.ensures

pub returns : goal.returns
returns c = all_delegated _ _ _ c.if-n-gt256.false (end_at (delegated_upto _) _ _ _ c.loop-d.invariant (omega arith))
