use Rattle.std.proofs.Common.{◌≡◌}
use Rattle.instances.specs.Images.{images_upto}
use Rattle.instances.specs.Rows.{imaged_upto}
use Rattle.instances.proofs.Formulas.put_key.Given as goal

abbrev pub invariant-loop-y : goal.invariant-loop-y
invariant-loop-y l =
    let i = l.self.index.now in
    let upto = l.y-index in
    (l.images.formulas ≡ l.self) × (l.images.v ≡ l.v) × (l.images.k ≡ l.k) × (l.images.images ≡ images_upto i.numbers.now i.formulas l.v l.k l.just upto)
    × (l.rows ≡ imaged_upto i.numbers.now i.formulas l.v l.k l.just upto l.initial.rows)
