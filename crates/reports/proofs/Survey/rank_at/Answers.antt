use native.Mathlib.Omega.{arith}
use Rattle.written.specs.Stated.{records_in}
use Rattle.reports.proofs.ReportLaws.{rank_past, sized_within}
use Rattle.reports.proofs.Survey.rank_at.Goals as goal

-- What is behind the formulas.
pub returns-else-i-self : goal.returns-else-i-self
returns-else-i-self c =
    let s = c.args.self.now in
    let h = sized_within s.index.formulas s.index.numbers.now s.sized in
    rank_past (records_in s.index.formulas s.index.numbers.now) c.args.x s.sized (omega (arith, h))
