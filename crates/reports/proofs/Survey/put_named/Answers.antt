use mathlib.Core.Path.{refl, ◌∙◌}
use Rattle.written.specs.Stated.{records_in}
use Rattle.digits.proofs.Puts.{writes}
use Rattle.reports.specs.Pairs.{is_named}
use Rattle.reports.proofs.ReportLaws.{named_none, named_more, named_less}
use Rattle.reports.proofs.Survey.put_named.Goals.{then-is_named, else-is_named}
use Rattle.reports.proofs.Survey.put_named.Goals as goal

pub loop-x-init : goal.loop-x-init
loop-x-init c = let w = c.args.w.now in record { same_buffer = refl; put = named_none _ c.args.m w.out.now w.at }

pub loop-x-preserved : goal.loop-x-preserved
loop-x-preserved c =
    let a = c.args in
    let s = a.self.now in
    let v = c.loop-x.invariant in
    let named = is_named (records_in s.index.formulas s.index.numbers.now) s.table.now a.marks.now a.m a.p in
    elim c.if-is_named.branch [
      | then-is_named w ↦ rw w.w-is (record {
        same_buffer = w.put_pair.ensures.same_buffer ∙ v.same_buffer;
        put = named_more named a.m c.loop-x.x v.put c.is_named.ensures w.if-is_named.true (writes w.put_pair.ensures.put);
      })
      | else-is_named w ↦ rw w.w-is (record { same_buffer = v.same_buffer; put = named_less named a.m c.loop-x.x v.put c.is_named.ensures w.if-is_named.false })
    ]
