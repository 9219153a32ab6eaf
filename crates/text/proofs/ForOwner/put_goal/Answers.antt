use native.Mathlib.Omega.{arith}
use mathlib.Core.Path.{sym, ap, ◌∙◌}
use lib.ListN.{length, get_or, length-append}
use borrow.Author.Rules.{rules}
use Rattle.logic.specs.declared.Record.{Record}
use Rattle.logic.specs.declared.Audience.{Audience}
use Rattle.logic.specs.Record.{no_record}
use Rattle.logic.specs.Formula.{tree_of}
use Rattle.logic.specs.Text.{datum_text, text}
use Rattle.logic.specs.Listing.{printed}
use Rattle.logic.specs.Explained.{goal_heading, goal_line}
use Rattle.written.specs.Stated.{records_in}
use Rattle.places.specs.Places.{goals_in}
use Rattle.digits.proofs.Puts.{writes, writes_then, writes_as}
use Rattle.text.specs.Printing.{text_in}
use Rattle.text.proofs.GoalText.{goal_text}
use Rattle.text.proofs.Lines.{line_written}
use Rattle.text.proofs.StepLines.{goal_here}
use Rattle.text.proofs.ForOwner.put_goal.Goals as goal

-- The heading, the text of the formula, and the end of the line.
pub put_statement-requires : goal.put_statement-requires
unfolding text_in
put_statement-requires c =
    let a = c.args in
    let s = c.args.self.now.printer in
    let p = c.requires in
    let e = c.goal_at-goal.ensures ∙ sym (goal_here s.index.numbers.now s.counts.goals a.g p.goal.0) in
    let q = goal_text datum_text (records_in s.index.formulas s.index.numbers.now) s.book.proper (get_or (goals_in s.counts.goals s.index.numbers.now) a.g no_record) (p.goal.1 a.g p.goal.0) in
    let x = ap (λ (r : Record). r.second) e in
    omega (arith, x, q.0, s.book.formulas)

pub returns : goal.returns
unfolding goal_line text_in
returns c =
    let a = c.args in
    let s = c.args.self.now.printer in
    let p = c.requires in
    let e = c.goal_at-goal.ensures ∙ sym (goal_here s.index.numbers.now s.counts.goals a.g p.goal.0) in
    let q = goal_text datum_text (records_in s.index.formulas s.index.numbers.now) s.book.proper (get_or (goals_in s.counts.goals s.index.numbers.now) a.g no_record) (p.goal.1 a.g p.goal.0) in
    let o = ap (λ (u : Audience). printed (text_in u s.index.formulas s.index.numbers.now c.goal_at-goal.result.second)) c.args.self.now.owner in
    let v = ap (λ (r : Record). goal_heading a.g r.first) e in
    let w = o ∙ ap printed (ap (λ (r : Record). text datum_text (tree_of (records_in s.index.formulas s.index.numbers.now) r.second)) e ∙ sym q.1) in
    line_written c.new-w.ensures.unwritten
    (writes_then (writes_then (writes_as v (writes c.goal_heading.ensures.put)) (writes_as w (writes c.put_statement.ensures.put))) (writes c.text.ensures.put)) (search rules)
    (simp length-append (omega (arith, c.goal_heading.ensures.few, ap length v, c.put_statement.ensures.few, ap length w)))
