use Rattle.logic.specs.declared.Counts.{Counts}
use Rattle.book.specs.Read.{Small}
use Rattle.book.proofs.Laws.{more_formulas, more_others, plus_one}
use mathlib.Core.Path.{sym, subst, ◌∙◌}
use Rattle.book.proofs.Tally.one_more.Goals as goal

pub invariant_of-result : goal.invariant_of-result
invariant_of-result c =
    let e = more_formulas _ _ (sym c.is_formula_record.ensures ∙ c.if-is_formula_record.true) (plus_one _ _ c.from.ensures) in
    record { small = subst (λ (m : Counts). Small m) (sym e) c.requires }

pub invariant_of-result-2 : goal.invariant_of-result-2
invariant_of-result-2 c =
    let e = more_others _ _ (sym c.is_formula_record.ensures ∙ c.if-is_formula_record.false) (plus_one _ _ c.from-2.ensures) (plus_one _ _ c.from-3.ensures) (plus_one _ _ c.from-4.ensures) in
    record { small = subst (λ (m : Counts). Small m) (sym e) c.requires }

pub returns-then-is_formula_record : goal.returns-then-is_formula_record
returns-then-is_formula_record c = more_formulas _ _ (sym c.is_formula_record.ensures ∙ c.if-is_formula_record.true) (plus_one _ _ c.from.ensures)

pub returns : goal.returns
returns c =
    more_others _ _ (sym c.is_formula_record.ensures ∙ c.if-is_formula_record.false)
    (plus_one _ _ c.from-2.ensures) (plus_one _ _ c.from-3.ensures) (plus_one _ _ c.from-4.ensures)
