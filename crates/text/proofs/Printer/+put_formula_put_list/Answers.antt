use Rattle.text.proofs.Shape.{leaf_here, front_text, list_text_lem, inner_below, first_below, second_below, right_in, pair_on, on_kinds}
use Rattle.text.proofs.Printers.{list_writes, none_writes, second_writes}
use Rattle.digits.proofs.Puts.{writes, writes_then, writes_as, appends_of, appends_as}
use Rattle.written.specs.Stated.{records_in}
use Rattle.words.specs.Words.{behind}
use Rattle.format.specs.Index.{look_in}
use Rattle.text.specs.Printing.{text_in}
use Rattle.logic.specs.declared.Record.{Record}
use mathlib.Core.Path.{sym, ap, ◌∙◌}
use mathlib.Core.List.{append_assoc}
use lib.ListN.{length}
use native.Mathlib.Omega.{arith}
use Prim.Native.Nat.{◌<◌}
use Rattle.text.proofs.Printer.+put_formula_put_list.Goals as goal

pub put_formula-returns-then-is_leaf-clause-put : goal.put_formula-returns-then-is_leaf-clause-put
put_formula-returns-then-is_leaf-clause-put t c =
    let s = c.args.self.now in
    let p = c.requires in
    let r = c.look-r in
    appends_as (sym (leaf_here s.audience s.index.formulas s.index.numbers.now s.book.proper c.args.x p.inside r.result r.ensures (sym c.is_leaf.ensures ∙ c.if-is_leaf.true))) (writes c.put_leaf.ensures.put) (omega arith)

pub put_formula-put_formula-requires : goal.put_formula-put_formula-requires
put_formula-put_formula-requires t c =
    let s = c.args.self.now in
    let p = c.requires in
    let r = c.look-r in
    let l = inner_below s.audience s.index.formulas s.index.numbers.now s.book.proper c.args.x p.inside r.result r.ensures c.inner_of.ensures (sym c.is_leaf.ensures ∙ c.if-is_leaf.false) in
    (omega arith, omega (arith, p.inside))

pub put_formula-put_list-requires : goal.put_formula-put_list-requires
put_formula-put_list-requires t c =
    let s = c.args.self.now in
    let p = c.requires in
    let r = c.look-r in
    let k = on_kinds s.audience s.index.formulas s.index.numbers.now r.result (sym c.goes_on.ensures ∙ c.if-goes_on.true) in
    let l = second_below s.audience s.index.formulas s.index.numbers.now s.book.proper c.args.x p.inside r.result r.ensures (pair_on r.result.kind k.0) in
    (omega arith, ((omega (arith, p.inside), k.1)))

pub put_formula-returns-then-goes_on-clause-put : goal.put_formula-returns-then-goes_on-clause-put
put_formula-returns-then-goes_on-clause-put t c =
    let s = c.args.self.now in
    let p = c.requires in
    let r = c.look-r in
    let e = front_text s.audience s.index.formulas s.index.numbers.now s.book.proper c.args.x p.inside r.result r.ensures c.inner_of.ensures (sym c.is_leaf.ensures ∙ c.if-is_leaf.false) in
    let u = writes_then (writes c.put_before.ensures.put) (writes_then (writes c.put_formula.ensures.put) (writes c.put_behind.ensures.put)) in
    appends_of (list_writes s.audience s.index.formulas s.index.numbers.now r.result e u (sym c.goes_on.ensures ∙ c.if-goes_on.true) (writes c.put_list.ensures.put)) (omega arith)

pub put_formula-returns-then-not-is_pair-clause-put : goal.put_formula-returns-then-not-is_pair-clause-put
put_formula-returns-then-not-is_pair-clause-put t c =
    let s = c.args.self.now in
    let p = c.requires in
    let r = c.look-r in
    let e = front_text s.audience s.index.formulas s.index.numbers.now s.book.proper c.args.x p.inside r.result r.ensures c.inner_of.ensures (sym c.is_leaf.ensures ∙ c.if-is_leaf.false) in
    let u = writes_then (writes c.put_before.ensures.put) (writes_then (writes c.put_formula.ensures.put) (writes c.put_behind.ensures.put)) in
    appends_of (none_writes s.audience s.index.formulas s.index.numbers.now r.result e u (sym c.is_pair.ensures ∙ c.if-not-is_pair.true)) (omega arith)

pub put_formula-put_formula-requires-2 : goal.put_formula-put_formula-requires-2
put_formula-put_formula-requires-2 t c =
    let s = c.args.self.now in
    let p = c.requires in
    let r = c.look-r in
    let l = second_below s.audience s.index.formulas s.index.numbers.now s.book.proper c.args.x p.inside r.result r.ensures (sym c.is_pair.ensures ∙ c.if-not-is_pair.false) in
    (omega arith, omega (arith, p.inside))

pub put_formula-returns-clause-put : goal.put_formula-returns-clause-put
put_formula-returns-clause-put t c =
    let s = c.args.self.now in
    let p = c.requires in
    let r = c.look-r in
    let l = second_below s.audience s.index.formulas s.index.numbers.now s.book.proper c.args.x p.inside r.result r.ensures (sym c.is_pair.ensures ∙ c.if-not-is_pair.false) in
    let m : r.result.second < length (records_in s.index.formulas s.index.numbers.now) = omega (arith, p.inside) in
    let e = front_text s.audience s.index.formulas s.index.numbers.now s.book.proper c.args.x p.inside r.result r.ensures c.inner_of.ensures (sym c.is_leaf.ensures ∙ c.if-is_leaf.false) in
    let u = writes_then (writes c.put_before.ensures.put) (writes_then (writes c.put_formula.ensures.put) (writes c.put_behind.ensures.put)) in
    appends_of (second_writes s.audience s.index.formulas s.index.numbers.now r.result e u s.book.proper m (sym c.goes_on.ensures ∙ c.if-goes_on.false) (sym c.is_pair.ensures ∙ c.if-not-is_pair.false) (writes c.put_formula-2.ensures.put) (writes_as c.ending.ensures.0 (writes c.text.ensures.put))) (omega arith)

pub put_list-put_formula-requires : goal.put_list-put_formula-requires
put_list-put_formula-requires t c =
    let s = c.args.self.now in
    let p = c.requires in
    let r = c.look-r in
    let q = ap (λ (z : Record). z.kind) r.ensures ∙ p.conjunction in
    let l = first_below s.audience s.index.formulas s.index.numbers.now s.book.proper c.args.x p.inside r.result r.ensures q in
    (omega arith, omega (arith, p.inside))

pub put_list-put_list-requires : goal.put_list-put_list-requires
put_list-put_list-requires t c =
    let s = c.args.self.now in
    let p = c.requires in
    let r = c.look-r in
    let q = ap (λ (z : Record). z.kind) r.ensures ∙ p.conjunction in
    let l = second_below s.audience s.index.formulas s.index.numbers.now s.book.proper c.args.x p.inside r.result r.ensures (pair_on r.result.kind q) in
    (omega arith, ((omega (arith, p.inside), (on_kinds s.audience s.index.formulas s.index.numbers.now r.result (sym c.goes_on.ensures ∙ c.if-goes_on.true)).1)))

pub put_list-returns-then-goes_on-clause-put : goal.put_list-returns-then-goes_on-clause-put
put_list-returns-then-goes_on-clause-put t c =
    let s = c.args.self.now in
    let p = c.requires in
    let r = c.look-r in
    let q = ap (λ (z : Record). z.kind) r.ensures ∙ p.conjunction in
    let look = look_in s.index.formulas s.index.numbers.now in
    let e = list_text_lem s.audience s.index.formulas s.index.numbers.now s.book.proper c.args.x p.inside r.result r.ensures q ∙ sym (append_assoc (text_in s.audience s.index.formulas s.index.numbers.now r.result.first) (behind look r.result) (right_in s.audience s.index.formulas s.index.numbers.now r.result)) in
    let u = writes_then (writes c.put_formula.ensures.put) (writes c.put_behind.ensures.put) in
    appends_of (list_writes s.audience s.index.formulas s.index.numbers.now r.result e u (sym c.goes_on.ensures ∙ c.if-goes_on.true) (writes c.put_list.ensures.put)) (omega arith)

pub put_list-put_formula-requires-2 : goal.put_list-put_formula-requires-2
put_list-put_formula-requires-2 t c =
    let s = c.args.self.now in
    let p = c.requires in
    let r = c.look-r in
    let q = ap (λ (z : Record). z.kind) r.ensures ∙ p.conjunction in
    let l = second_below s.audience s.index.formulas s.index.numbers.now s.book.proper c.args.x p.inside r.result r.ensures (pair_on r.result.kind q) in
    (omega arith, omega (arith, p.inside))

pub put_list-returns-clause-put : goal.put_list-returns-clause-put
put_list-returns-clause-put t c =
    let s = c.args.self.now in
    let p = c.requires in
    let r = c.look-r in
    let q = ap (λ (z : Record). z.kind) r.ensures ∙ p.conjunction in
    let l = second_below s.audience s.index.formulas s.index.numbers.now s.book.proper c.args.x p.inside r.result r.ensures (pair_on r.result.kind q) in
    let m : r.result.second < length (records_in s.index.formulas s.index.numbers.now) = omega (arith, p.inside) in
    let look = look_in s.index.formulas s.index.numbers.now in
    let e = list_text_lem s.audience s.index.formulas s.index.numbers.now s.book.proper c.args.x p.inside r.result r.ensures q ∙ sym (append_assoc (text_in s.audience s.index.formulas s.index.numbers.now r.result.first) (behind look r.result) (right_in s.audience s.index.formulas s.index.numbers.now r.result)) in
    let u = writes_then (writes c.put_formula.ensures.put) (writes c.put_behind.ensures.put) in
    appends_of (second_writes s.audience s.index.formulas s.index.numbers.now r.result e u s.book.proper m (sym c.goes_on.ensures ∙ c.if-goes_on.false) (pair_on r.result.kind q) (writes c.put_formula-2.ensures.put) (writes_as c.ending.ensures.0 (writes c.text.ensures.put))) (omega arith)
