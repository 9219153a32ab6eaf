use Rattle.reports.proofs.ReportLaws.{unmarked, unasked, named_is}
use Rattle.reports.proofs.Survey.is_named.Goals as goal

pub returns-then-byte-eq0 : goal.returns-then-byte-eq0
returns-then-byte-eq0 c =
    let a = c.args in
    let s = a.self.now in
    unmarked s.index.formulas s.index.numbers.now s.table.now a.marks.now a.m a.p a.x c.from.ensures c.byte.ensures c.if-byte-eq0.true

pub returns-then-is_to_be_believed : goal.returns-then-is_to_be_believed
returns-then-is_to_be_believed c =
    let a = c.args in
    let s = a.self.now in
    named_is s.index.formulas s.index.numbers.now s.table.now a.marks.now a.m a.p a.x c.from.ensures c.byte.ensures c.if-byte-eq0.false c.kind_at.ensures c.is_to_be_believed.ensures c.if-is_to_be_believed.true c.is_held_before.ensures

pub returns-else-is_to_be_believed : goal.returns-else-is_to_be_believed
returns-else-is_to_be_believed c =
    let a = c.args in
    let s = a.self.now in
    unasked s.index.formulas s.index.numbers.now s.table.now a.marks.now a.m a.p a.x c.from.ensures c.byte.ensures c.if-byte-eq0.false c.kind_at.ensures c.is_to_be_believed.ensures c.if-is_to_be_believed.false
