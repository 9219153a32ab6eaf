use mathlib.Core.Path.{◌∙◌}
use Rattle.places.proofs.Laws.{opened_is}
use Rattle.places.proofs.Formulas.opened_place.Goals as goal

-- The four cases of a belief are those of `belief_place`.
pub returns : goal.returns
returns c =
    let s = c.args.self.now in
    c.belief_place.ensures ∙ opened_is s.index.formulas s.index.numbers.now s.sized _ _ c.rank_of-a.ensures c.look-r.ensures c.rank_of-b.ensures
