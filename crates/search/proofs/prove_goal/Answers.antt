use mathlib.Core.Path.{refl}
use Rattle.search.proofs.Laws.{all_rows, found_of}
use Rattle.search.proofs.prove_goal.Goals as goal

pub returns : goal.returns
returns c =
    let a = c.args in
    let f = c.requires.formulas in
    found_of a.index.now.numbers.now a.n a.goal _ _ _ _ _ _ c.lay_out.ensures
    (all_rows _ _ (rw f at c.has_delegation.ensures) c.if-not-has_delegation.false c.lay_out.ensures refl (rw f at c.list_rows.ensures))
    c.prove_from-2.ensures
