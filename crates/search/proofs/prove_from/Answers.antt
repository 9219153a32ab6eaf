use Rattle.search.proofs.Laws.{found_same}
use Rattle.search.proofs.prove_from.Goals as goal

pub returns : goal.returns
returns c =
    let a = c.args in
    let t = c.new-tables.ensures in
    let l = c.list.ensures in
    let b = c.laid-laid.ensures in
    let s = c.given-given.ensures.sizes in
    let d = c.given-given.ensures.given in
    found_same a.n a.goal _ _ _ _ _ _ _ _ _ (rw t.0 at l.0) (rw t.1 at l.1) (rw (t.2, c.from-m.ensures) at l.2)
    (rw (b.0, b.1, b.2, b.3, s.0, s.1, s.2, d.1, c.from-m.ensures) at c.prove_laid.ensures)
