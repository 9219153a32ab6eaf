use Rattle.places.proofs.Laws.{mark_is}
use Rattle.places.proofs.Formulas.is_reached.Goals as goal

-- The byte of what the goal asks for.
pub returns : goal.returns
returns c =
    let s = c.args.self.now in
    mark_is s.index.formulas s.index.numbers.now s.sized c.args.table.now c.goal_at-goal.ensures c.stated_place-place.ensures c.byte.ensures c.is_within.ensures
