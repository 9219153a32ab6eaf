use native.Mathlib.Omega.{arith}
use mathlib.Core.Path.{sym, ap, ◌∙◌}
use lib.ListN.{length, length-append}
use borrow.Author.Rules.{rules}
use Rattle.logic.specs.declared.Audience.{Audience}
use Rattle.logic.specs.Step.{step_at}
use Rattle.logic.specs.Listing.{printed}
use Rattle.logic.specs.Explained.{step_line}
use Rattle.format.specs.Index.{look_in}
use Rattle.written.specs.Stated.{records_in}
use Rattle.written.proofs.Laws.{formula_here}
use Rattle.digits.proofs.Puts.{writes, writes_then, writes_as}
use Rattle.text.specs.Printing.{fact_text_in}
use Rattle.text.proofs.Facts.{text_is}
use Rattle.text.proofs.Lines.{line_written}
use Rattle.text.proofs.StepLines.{printable}
use Rattle.text.proofs.ForOwner.put_step.Goals as goal

-- The number, the fact and the reason, one behind the other.
pub slice_bounds-numbers_of-end : goal.slice_bounds-numbers_of-end
slice_bounds-numbers_of-end c = let s = c.args.self.now.printer in let q = printable (records_in s.index.formulas s.index.numbers.now) c.args.step.now c.requires.right in omega (arith, q.long)

pub put_printed-requires : goal.put_printed-requires
put_printed-requires c =
    let s = c.args.self.now.printer in
    let q = printable (records_in s.index.formulas s.index.numbers.now) c.args.step.now c.requires.right in
    let l = formula_here s.index.formulas s.index.numbers.now _ c.numbers_of-n.ensures q.right in
    omega (arith, c.args.self.now.printer.book.formulas)

pub returns : goal.returns
unfolding step_line step_at
returns c =
    let a = c.args in
    let s = c.args.self.now.printer in
    let n = c.numbers_of-n.result in
    let q = printable (records_in s.index.formulas s.index.numbers.now) a.step.now c.requires.right in
    let o = ap (λ (u : Audience). printed (fact_text_in u s.index.formulas s.index.numbers.now (look_in s.index.formulas s.index.numbers.now) n.mode n.p n.q n.x)) c.args.self.now.owner ∙ ap printed (sym (text_is _ s.index.formulas s.index.numbers.now _ c.numbers_of-n.ensures q.right)) in
    line_written c.new-w.ensures.unwritten
    (writes_then (writes_then (writes_then (writes c.step_number.ensures.put) (writes c.text.ensures.put)) (writes_as o (writes c.put_printed.ensures.put))) (writes c.step_reason.ensures.put)) (search rules)
    (simp length-append (omega (arith, c.step_number.ensures.few, c.put_printed.ensures.few, ap length o, c.step_reason.ensures.few)))
