use mathlib.Core.Path.{refl, ◌∙◌}
use Rattle.format.specs.Index.{look_in, message_in}
use Rattle.written.specs.Stated.{records_in}
use Rattle.digits.proofs.Puts.{writes}
use Rattle.reports.proofs.ReportLaws.{pairs_none, pairs_more}
use Rattle.reports.proofs.Survey.put_messages.Goals as goal

pub loop-m-init : goal.loop-m-init
loop-m-init c =
    let s = c.args.self.now in
    let w = c.args.w.now in
    record {
      same_buffer = refl;
      put = pairs_none (look_in s.index.formulas s.index.numbers.now) (records_in s.index.formulas s.index.numbers.now) s.table.now s.index.formulas (message_in s.index.numbers.now) w.out.now w.at;
    }

pub loop-m-preserved : goal.loop-m-preserved
loop-m-preserved c =
    let s = c.args.self.now in
    let l = c.loop-m in
    let k = c.put_message.ensures in
    record {
      same_buffer = k.same_buffer ∙ l.invariant.same_buffer;
      put = pairs_more (look_in s.index.formulas s.index.numbers.now) (records_in s.index.formulas s.index.numbers.now) s.table.now s.index.formulas (message_in s.index.numbers.now) l.m l.invariant.put (writes k.put);
    }
