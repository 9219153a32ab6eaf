use Rattle.reports.proofs.ReportLaws.{byte_is}
use Rattle.reports.proofs.Survey.is_held_before.Goals as goal

pub returns : goal.returns
returns c =
    let a = c.args in
    let s = a.self.now in
    byte_is s.index.formulas s.index.numbers.now s.table.now a.m a.p a.x s.sized c.look-r.ensures c.rank_at-a.ensures c.rank_at-b.ensures c.belief_place-place.ensures c.byte.ensures c.is_before.ensures
