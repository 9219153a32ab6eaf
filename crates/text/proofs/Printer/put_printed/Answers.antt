use native.Mathlib.Omega.{arith}
use mathlib.Core.Path.{sym, ◌∙◌}
use Rattle.format.specs.Index.{look_in}
use Rattle.text.specs.Printing.{fact_text_in}
use Rattle.digits.proofs.Puts.{writes, appends_as}
use Rattle.text.proofs.Lengths.{fact_long}
use Rattle.text.proofs.Lines.{long_printed, short_printed}
use Rattle.text.proofs.Printer.put_printed.Goals as goal

-- A text that is too long, and one that is put.
pub returns-then-from-gt-LONGEST-clause-put : goal.returns-then-from-gt-LONGEST-clause-put
returns-then-from-gt-LONGEST-clause-put c =
    let s = c.args.self.now in
    let n = c.args.n in
    let look = look_in s.index.formulas s.index.numbers.now in
    let e = c.from.ensures ∙ c.fact_length.ensures ∙ fact_long s.audience s.index.formulas s.index.numbers.now s.lengths look n.mode n.p n.q n.x c.args.self.now.known c.requires.inside in
    appends_as (sym (long_printed (fact_text_in s.audience s.index.formulas s.index.numbers.now look n.mode n.p n.q n.x) (omega (arith, e, c.if-from-gt-LONGEST.true)))) (writes c.text.ensures.put) (omega arith)

pub returns-clause-put : goal.returns-clause-put
returns-clause-put c =
    let s = c.args.self.now in
    let n = c.args.n in
    let look = look_in s.index.formulas s.index.numbers.now in
    let e = c.from.ensures ∙ c.fact_length.ensures ∙ fact_long s.audience s.index.formulas s.index.numbers.now s.lengths look n.mode n.p n.q n.x c.args.self.now.known c.requires.inside in
    appends_as (sym (short_printed (fact_text_in s.audience s.index.formulas s.index.numbers.now look n.mode n.p n.q n.x) (omega (arith, e, c.if-from-gt-LONGEST.false)))) (writes c.put_fact.ensures.put) (omega arith)
