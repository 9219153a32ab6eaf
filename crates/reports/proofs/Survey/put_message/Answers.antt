use mathlib.Core.Path.{ap, ◌∙◌}
use Rattle.format.specs.Index.{look_in, message_in}
use Rattle.written.specs.Stated.{records_in}
use Rattle.reports.proofs.ReportLaws.{message_is}
use Rattle.reports.proofs.Survey.put_message.Goals as goal

pub returns-clause-put : goal.returns-clause-put
returns-clause-put c =
    let s = c.args.self.now in
    message_is (look_in s.index.formulas s.index.numbers.now) (records_in s.index.formulas s.index.numbers.now) s.table.now s.index.formulas c.args.m
    (c.message_at-r.ensures ∙ ap (message_in s.index.numbers.now) c.from.ensures) c.walk.ensures c.put_named.ensures.put
