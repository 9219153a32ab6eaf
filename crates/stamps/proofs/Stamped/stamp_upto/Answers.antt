use Rattle.stamps.proofs.Laws.{record_few, upto_more}
use Rattle.stamps.specs.Stamps.{stamp_upto}
use native.Mathlib.Omega.{arith}
use mathlib.Core.Path.{refl}
use borrow.Author.Rules.{rules}
use Rattle.stamps.proofs.Stamped.stamp_upto.Goals as goal

pub loop-x-init : goal.loop-x-init
unfolding stamp_upto
loop-x-init c = record { few = omega arith; table = search rules; state = refl }

pub loop-x-preserved : goal.loop-x-preserved
loop-x-preserved c = let v = c.loop-x.invariant in record { few = omega (arith, record_few _ _ _ _ _ _ c.stamp_record.ensures.state, v.few); table = search rules; state = upto_more _ _ _ _ _ _ v.state c.stamp_record.ensures.state }
