use Rattle.written.specs.Stated.{records_in, told_cause}
use Rattle.text.proofs.StepLines.{a_cause, not_printable, a_piece}
use mathlib.Core.Path.{refl, sym, ap, ◌∙◌}
use Rattle.std.specs.Prelude.{Some}
use Rattle.text.proofs.explaining.explain_in.Goals as goal

-- The end, a step that cannot be printed, a buffer that is too short, and a piece.
pub returns-in-Some : goal.returns-in-Some
returns-in-Some c =
    let a = c.args in
    let fs = records_in a.n.formulas a.numbers.now in
    let d = a.derivation.now in
    let e = c.start_of-start.ensures.0 in
    let at = c.start_of-start.result in
    not_printable fs d a.from a.buffer.now at e c.if-derivation-start.false (ap told_cause (sym c.in-Some.is) ∙ c.unreadable_at.ensures) (a_cause (Some c.in-Some.cause) refl refl) (rw c.at.ensures refl)

pub returns : goal.returns
returns c =
    let a = c.args in
    let u = c.new-printer.ensures.same in
    let fs = records_in a.n.formulas a.numbers.now in
    let d = a.derivation.now in
    let e = c.start_of-start.ensures.0 in
    let at = c.start_of-start.result in
    a_piece fs d a.from a.buffer.now at e c.if-derivation-start.false c.unreadable_at.ensures (ap told_cause c.in_default.is) (rw (u.1, u.2) at c.put_steps-done.ensures) c.if-done-eq0.false
