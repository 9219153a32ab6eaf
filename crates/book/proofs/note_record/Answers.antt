use Rattle.book.proofs.Laws.{noted_other, noted_still, noted_first, noted_later}
use mathlib.Core.Path.{sym, ◌∙◌}
use Rattle.book.proofs.note_record.Goals.{else-bare-via-then-bare+else-kind-lt-VARIABLE, else-bare-via-else-bare}
use Rattle.book.proofs.note_record.Goals as goal

pub returns-then-not-is_formula_record : goal.returns-then-not-is_formula_record
returns-then-not-is_formula_record c = noted_other _ _ _ _ _ (sym c.is_formula_record.ensures ∙ c.if-not-is_formula_record.true)

pub returns-then-kind-lt-VARIABLE : goal.returns-then-kind-lt-VARIABLE
returns-then-kind-lt-VARIABLE c =
    noted_still _ _ _ _ (sym c.is_formula_record.ensures ∙ c.if-not-is_formula_record.false) c.args.bare c.if-bare.true c.if-kind-lt-VARIABLE.true c.requires c.put.ensures

pub returns : goal.returns
returns c =
    let e = sym c.is_formula_record.ensures ∙ c.if-not-is_formula_record.false in
    elim c.else-bare.branch [
      | else-bare-via-then-bare+else-kind-lt-VARIABLE w ↦ noted_first _ _ _ _ e c.args.bare w.if-kind-lt-VARIABLE.false c.note.ensures
      | else-bare-via-else-bare w ↦ noted_later _ _ _ _ e c.args.bare w.if-bare.false c.note.ensures
    ]
