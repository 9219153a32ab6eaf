use Rattle.std.proofs.Common.{rules, ◌≡◌, replicate, length}
use Rattle.search.proofs.Laws.{survey_is}
use Rattle.search.proofs.survey_laid.Goals as goal

pub returns : goal.returns
returns c =
    let a = c.args in
    let t = c.new-tables.ensures in
    let l = c.list.ensures in
    let b = c.laid-laid.ensures in
    let s = c.given-given.ensures.sizes in
    let d = c.given-given.ensures.given in
    let blank : c.fill.new.self ≡ replicate (length a.table.now) 0 = search rules in
    survey_is a.n a.table.now _ _ _ _ _ _ _ _ (rw t.0 at l.0) (rw t.1 at l.1) blank (rw t.2 at l.2) (rw (b.0, b.1, b.2, b.3, s.0, s.1, s.2, d.0, d.1) at c.survey.ensures)
