use mathlib.Core.Path.{refl}
use Rattle.instances.proofs.Laws.{imaged_none, imaged_more}
use Rattle.instances.proofs.Formulas.put_key.Goals as goal

pub loop-y-init : goal.loop-y-init
loop-y-init c = let z = imaged_none _ _ _ _ _ _ in (refl, refl, refl, z.0, z.1)

pub loop-y-preserved : goal.loop-y-preserved
loop-y-preserved c =
    let v = c.loop-y.invariant in
    let r = imaged_more _ _ _ _ _ _ _ (v.3, v.4) (rw (v.0, v.1, v.2) at c.image_of-x.ensures) c.add.ensures in
    (v.0, v.1, v.2, rw c.from.ensures r.0, r.1)
