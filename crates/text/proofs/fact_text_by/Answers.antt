use native.Mathlib.Omega.{arith}
use Prim.Native.Nat.{◌<◌}
use mathlib.Core.Path.{refl, sym, ◌∙◌}
use lib.Dec.{lit≤}
use borrow.Author.Rules.{rules}
use Rattle.format.specs.Index.{look_in}
use Rattle.written.specs.Stated.{records_in}
use Rattle.written.proofs.Laws.{malformed_noted, formula_here}
use Rattle.digits.proofs.Puts.{writes, front_puts}
use Rattle.text.proofs.Lengths.{fact_long}
use Rattle.text.proofs.Facts.{malformed, too_long, too_narrow, printed}
use Rattle.text.proofs.fact_text_by.Goals as goal

pub returns-then-is_malformed : goal.returns-then-is_malformed
returns-then-is_malformed c =
    let a = c.args in
    let f = a.counts.formulas in
    let t = a.numbers.now in
    malformed a.audience (records_in f t) a.fact.now a.buffer.now (c.is_malformed.ensures ∙ malformed_noted f t c.requires.noted a.fact.now) c.if-is_malformed.true (rw c.at.ensures refl)

pub returns-then-size-gt-LONGEST : goal.returns-then-size-gt-LONGEST
returns-then-size-gt-LONGEST c =
    let a = c.args in
    let v = c.new-printer.ensures.same in
    let f = a.counts.formulas in
    let t = a.numbers.now in
    let n = c.numbers_of-n.ensures in
    let right = sym (malformed_noted f t c.requires.noted a.fact.now) ∙ sym c.is_malformed.ensures ∙ c.if-is_malformed.false in
    let l = formula_here f t a.fact.now n right in
    let x : c.numbers_of-n.result.x < f = omega (arith, c.requires.formulas) in
    let es = c.from-size.ensures ∙ c.fact_length.ensures ∙ fact_long a.audience f t c.new-printer.result.lengths (look_in f t) _ _ _ _ (rw (v.0, v.1, v.2) at c.new-printer.result.known) x in
    too_long a.audience f t a.fact.now n right a.buffer.now es c.if-size-gt-LONGEST.true (rw c.at-then-size-gt-LONGEST.ensures refl)

pub returns-then-buffer-size : goal.returns-then-buffer-size
returns-then-buffer-size c =
    let a = c.args in
    let v = c.new-printer.ensures.same in
    let f = a.counts.formulas in
    let t = a.numbers.now in
    let n = c.numbers_of-n.ensures in
    let right = sym (malformed_noted f t c.requires.noted a.fact.now) ∙ sym c.is_malformed.ensures ∙ c.if-is_malformed.false in
    let l = formula_here f t a.fact.now n right in
    let x : c.numbers_of-n.result.x < f = omega (arith, c.requires.formulas) in
    let es = c.from-size.ensures ∙ c.fact_length.ensures ∙ fact_long a.audience f t c.new-printer.result.lengths (look_in f t) _ _ _ _ (rw (v.0, v.1, v.2) at c.new-printer.result.known) x in
    too_narrow a.audience f t a.fact.now n right a.buffer.now es c.if-size-gt-LONGEST.false c.if-buffer-size.true (rw c.at-then-buffer-size.ensures refl)

pub put_fact-requires : goal.put_fact-requires
put_fact-requires c =
    let a = c.args in
    let f = a.counts.formulas in
    let t = a.numbers.now in
    let n = c.numbers_of-n.ensures in
    let right = sym (malformed_noted f t c.requires.noted a.fact.now) ∙ sym c.is_malformed.ensures ∙ c.if-is_malformed.false in
    let l = formula_here f t a.fact.now n right in
    omega (arith, c.requires.formulas)

pub returns : goal.returns
returns c =
    let a = c.args in
    let v = c.new-printer.ensures.same in
    let f = a.counts.formulas in
    let t = a.numbers.now in
    let n = c.numbers_of-n.ensures in
    let right = sym (malformed_noted f t c.requires.noted a.fact.now) ∙ sym c.is_malformed.ensures ∙ c.if-is_malformed.false in
    let l = formula_here f t a.fact.now n right in
    let x : c.numbers_of-n.result.x < f = omega (arith, c.requires.formulas) in
    let es = c.from-size.ensures ∙ c.fact_length.ensures ∙ fact_long a.audience f t c.new-printer.result.lengths (look_in f t) _ _ _ _ (rw (v.0, v.1, v.2) at c.new-printer.result.known) x in
    let u = front_puts {m = 4096} c.new-w.ensures.unwritten (writes (rw (v.0, v.1, v.2) at c.put_fact.ensures).put) (search rules) (omega (arith, es, c.if-size-gt-LONGEST.false)) (lit≤ tt) in
    printed a.audience f t a.fact.now n right a.buffer.now es c.if-size-gt-LONGEST.false c.if-buffer-size.false u.0
