use Rattle.layout.specs.Flat.{principals_in, forms_in}
use Prim.Native.Nat.{◌≤◌}
use mathlib.Core.Path.{◌≡◌}
use Rattle.layout.proofs.lay_forms.Given as goal

abbrev pub invariant-loop-x : goal.invariant-loop-x
invariant-loop-x l = (l.k ≤ l.x) × (l.k ≡ principals_in l.index.numbers.now l.x) × (l.flat ≡ forms_in l.index.numbers.now l.x l.initial.flat)
