use Rattle.tables.proofs.Laws.{delivered_more, none_listed, all_listed, end_at}
use Rattle.tables.specs.Deliveries.{delivered_upto}
use native.Mathlib.Omega.{arith}
use mathlib.Core.Path.{refl}
use Rattle.tables.proofs.list_deliveries.Goals as goal

pub returns-then-n-gt16 : goal.returns-then-n-gt16
returns-then-n-gt16 c = none_listed _ _ _ c.if-n-gt16.true

pub loop-m-init : goal.loop-m-init
unfolding delivered_upto
loop-m-init c = refl

pub loop-m-preserved : goal.loop-m-preserved
loop-m-preserved c = delivered_more _ _ _ c.loop-m.invariant c.delivery_at.ensures

pub returns : goal.returns
returns c = all_listed _ _ _ c.if-n-gt16.false (end_at (delivered_upto _) _ _ _ c.loop-m.invariant (omega arith))
