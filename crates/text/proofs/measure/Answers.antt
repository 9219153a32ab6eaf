use Rattle.text.proofs.Lengths.{length_right, measured_more}
use lib.ListN.{length, length-set}
use native.Mathlib.Omega.{arith}
use Prim.Native.Nat.{◌<◌}
use mathlib.Core.Path.{refl, ◌∙◌}
use Rattle.written.specs.Stated.{records_in}
use Rattle.text.proofs.measure.Goals as goal

pub loop-i-preserved : goal.loop-i-preserved
loop-i-preserved c =
    let a = c.args in
    let l = c.loop-i in
    let v = l.invariant in
    let h : l.i < length (records_in a.index.now.formulas a.index.now.numbers.now) = omega (arith, c.requires.inside) in
    let r = length_right a.audience a.index.now.formulas a.index.now.numbers.now l.lengths c.requires.book l.i v.1 h _ refl in
    ((simp length-set) ∙ v.0, measured_more a.audience a.index.now.formulas a.index.now.numbers.now l.lengths l.i v.1 (omega (arith, v.0, c.requires.inside)) (c.formula_length.ensures ∙ r) refl)
