use Rattle.std.proofs.Common.{rules}
use native.Mathlib.Omega.{arith}
use Rattle.digits.proofs.Puts.{writes}
use Rattle.reports.proofs.ReportLaws.{report_is, report_none}
use Rattle.reports.proofs.report.Goals as goal

pub returns-then-formulas-gt256 : goal.returns-then-formulas-gt256
returns-then-formulas-gt256 c = let a = c.args in report_none a.numbers.now a.formulas a.messages a.table.now _ c.if-formulas-gt256.true

pub returns : goal.returns
returns c =
    let a = c.args in
    report_is a.numbers.now a.formulas a.messages a.table.now c.if-formulas-gt256.false c.from.ensures (omega arith) c.new-w.ensures.unwritten (writes c.put_messages.ensures.put) (search rules)
