use Rattle.tables.proofs.Laws.{linked_more, too_many, linked_all, end_at}
use Rattle.tables.specs.Links.{linked_upto}
use native.Mathlib.Omega.{arith}
use mathlib.Core.Path.{refl}
use Rattle.tables.proofs.link.Goals as goal

pub returns-then-n-gt256 : goal.returns-then-n-gt256
returns-then-n-gt256 c = too_many _ _ _ c.if-n-gt256.true

pub loop-y-init : goal.loop-y-init
unfolding linked_upto
loop-y-init c = refl

pub loop-y-preserved : goal.loop-y-preserved
loop-y-preserved c = linked_more _ _ _ c.loop-y.invariant c.link_one.ensures

pub returns : goal.returns
returns c = linked_all _ _ _ c.if-n-gt256.false (end_at (linked_upto _) _ _ _ c.loop-y.invariant (omega arith))
