use Rattle.std.proofs.Common.{length}
use Rattle.derive.specs.Written.{SameMemory}
use Rattle.derive.proofs.Laws.{Progress}
use Rattle.derive.proofs.write_marked.Given as goal

abbrev pub invariant-loop-k : goal.invariant-loop-k
invariant-loop-k l =
    let h = l.holder in
    let w = l.written in
    let at_first = l.initial.written in
    record {
      memory : SameMemory at_first w;
      progress : Progress (length at_first.numbers.now) h.principals h.names.now h.formula l.marks l.log.bytes.now at_first.out.now w.out.now w.numbers.now w.done.steps w.done.bytes l.k;
    }
