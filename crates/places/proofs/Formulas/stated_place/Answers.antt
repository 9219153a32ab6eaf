use Rattle.places.proofs.Laws.{with_place, stated_belief, stated_sight}
use Rattle.places.proofs.Formulas.stated_place.Goals as goal

-- A belief, or something seen.
pub returns-then-r-eq12 : goal.returns-then-r-eq12
returns-then-r-eq12 c =
    let s = c.args.self.now in
    stated_belief s.index.formulas s.index.numbers.now s.sized c.look-r.ensures c.if-r-eq12.true c.opened_place.ensures

pub returns : goal.returns
returns c =
    let s = c.args.self.now in
    stated_sight s.index.formulas s.index.numbers.now s.sized c.look-r.ensures c.if-r-eq12.false (with_place s.index.formulas s.index.numbers.now s.sized _ _ _ c.rank_of.ensures c.place_with.ensures)
