use Prim.Native.Nat.{zero-le}
use mathlib.Core.Path.{refl}
use Rattle.logic.specs.Explained.{behind_steps}
use Rattle.steps.proofs.Laws.{ends, one_more_lem}
use native.Mathlib.Omega.{arith}
use Rattle.steps.proofs.start_of.Goals as goal

pub loop-n-init : goal.loop-n-init
unfolding behind_steps
loop-n-init c = (refl, zero-le)

pub returns-then-derivation-at : goal.returns-then-derivation-at
returns-then-derivation-at c = let a = c.args in let v = c.loop-n.invariant in ends a.derivation.now c.loop-n.at c.loop-n.n a.i v.0 c.if-derivation-at.true (omega arith)

pub loop-n-preserved : goal.loop-n-preserved
loop-n-preserved c = let a = c.args in let v = c.loop-n.invariant in let e = c.next-at.ensures in (one_more_lem a.derivation.now c.loop-n.at c.next-at.result c.loop-n.n v.0 e.0, e.1)
