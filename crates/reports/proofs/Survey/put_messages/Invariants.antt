use mathlib.Core.Path.{◌≡◌}
use Rattle.format.specs.Index.{look_in, message_in}
use Rattle.logic.specs.Honesty.{report_bytes}
use Rattle.written.specs.Stated.{records_in}
use Rattle.digits.proofs.Puts.{Writes}
use Rattle.reports.specs.Pairs.{pairs_upto}
use Rattle.reports.proofs.Survey.put_messages.Given as goal

-- The messages passed.
abbrev pub invariant-loop-m : goal.invariant-loop-m
invariant-loop-m l =
    let f = l.self.index.formulas in
    let t = l.self.index.numbers.now in
    let w = l.initial.w in
    record {
      same_buffer : l.w.out.ghost_name ≡ w.out.ghost_name;
      put : Writes w.out.now w.at (report_bytes (pairs_upto (look_in f t) (records_in f t) l.self.table.now f (message_in t) l.m)) l.w.out.now l.w.at;
    }
