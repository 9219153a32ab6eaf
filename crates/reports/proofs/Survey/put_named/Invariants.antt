use mathlib.Core.Path.{◌≡◌}
use Rattle.logic.specs.Honesty.{report_bytes}
use Rattle.written.specs.Stated.{records_in}
use Rattle.digits.proofs.Puts.{Writes}
use Rattle.reports.specs.Pairs.{is_named, named_below}
use Rattle.reports.proofs.Survey.put_named.Given as goal

-- The formulas passed that are named.
abbrev pub invariant-loop-x : goal.invariant-loop-x
invariant-loop-x l =
    let fs = records_in l.self.index.formulas l.self.index.numbers.now in
    let w = l.initial.w in
    record {
      same_buffer : l.w.out.ghost_name ≡ w.out.ghost_name;
      put : Writes w.out.now w.at (report_bytes (named_below (is_named fs l.self.table.now l.marks l.m l.p) l.m l.x)) l.w.out.now l.w.at;
    }
