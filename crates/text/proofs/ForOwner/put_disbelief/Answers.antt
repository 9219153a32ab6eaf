use native.Mathlib.Omega.{arith}
use mathlib.Core.Path.{sym, ap, ◌∙◌}
use lib.ListN.{length, length-append}
use borrow.Author.Rules.{rules}
use Rattle.logic.specs.declared.Record.{Record}
use Rattle.logic.specs.declared.Audience.{Audience}
use Rattle.logic.specs.Formula.{name_of}
use Rattle.logic.specs.Listing.{printed}
use Rattle.logic.specs.Honesty.{disbelief_heading, disbelief_line}
use Rattle.format.specs.Index.{message_in}
use Rattle.written.specs.Stated.{records_in}
use Rattle.written.proofs.Laws.{look_is}
use Rattle.digits.proofs.Puts.{writes, writes_then, writes_as}
use Rattle.text.specs.Printing.{text_in}
use Rattle.text.proofs.Lines.{line_written}
use Rattle.text.proofs.Index.{message_here}
use Rattle.text.proofs.ForOwner.put_disbelief.Goals as goal

-- The heading, the text of the formula, and the end of the line.
pub returns : goal.returns
unfolding disbelief_line text_in
returns c =
    let a = c.args in
    let s = c.args.self.now.printer in
    let p = c.requires in
    let f = s.index.formulas in
    let t = s.index.numbers.now in
    let e = c.message_at-sent.ensures ∙ ap (message_in t) c.from.ensures ∙ sym (message_here t s.counts.messages a.message p.pair.0 p.pair.1) in
    let sender = c.name_at-name.ensures ∙ ap (λ (r : Record). r.first) (look_is f t _) ∙ ap (λ (r : Record). name_of (records_in f t) r.first) e in
    let o = ap (λ (u : Audience). printed (text_in u f t a.formula)) c.args.self.now.owner in
    let h = ap (disbelief_heading a.message) sender in
    line_written c.new-w.ensures.unwritten
    (writes_then (writes_then (writes_as h (writes c.disbelief_heading.ensures.put)) (writes_as o (writes c.put_statement.ensures.put))) (writes c.text.ensures.put)) (search rules)
    (simp length-append (omega (arith, c.disbelief_heading.ensures.few, ap length h, c.put_statement.ensures.few, ap length o)))
