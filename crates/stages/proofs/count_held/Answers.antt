use Rattle.stages.proofs.Finding.{held_none, held_more}
use native.Mathlib.Omega.{arith}
use Rattle.stages.proofs.count_held.Goals as goal

pub loop-x-init : goal.loop-x-init
loop-x-init c = (omega arith, held_none _)

pub loop-x-preserved : goal.loop-x-preserved
loop-x-preserved c = let v = c.loop-x.invariant in (omega (arith, v.0, c.ones.ensures.1, c.ones-in-loop-x.ensures.1, c.ones-in-loop-x-2.ensures.1), held_more _ _ v.1 c.ones.ensures.0 c.ones-in-loop-x.ensures.0 c.ones-in-loop-x-2.ensures.0)
