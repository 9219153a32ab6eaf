use mathlib.Core.Path.{refl}
use Rattle.search.proofs.Laws.{all_rows, survey_of_lem}
use Rattle.search.proofs.survey_indexed.Goals as goal

pub returns : goal.returns
returns c =
    let a = c.args in
    let f = c.requires.formulas in
    survey_of_lem a.index.now.numbers.now a.n a.table.now _ _ _ _ c.lay_out.ensures
    (all_rows _ _ (rw f at c.has_delegation.ensures) c.if-not-has_delegation.false c.lay_out.ensures refl (rw f at c.list_rows.ensures))
    c.survey_laid-2.ensures
