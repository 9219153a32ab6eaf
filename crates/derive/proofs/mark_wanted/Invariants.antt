use Rattle.std.proofs.Common.{◌≡◌}
use Rattle.derive.specs.Log.{instances}
use Rattle.derive.specs.Steps.{wanted}
use Rattle.derive.proofs.mark_wanted.Given as goal

abbrev pub invariant-loop-k : goal.invariant-loop-k
invariant-loop-k l = wanted l.p l.marks (instances l.log.bytes.now l.k) ≡ wanted l.p l.initial.marks (instances l.log.bytes.now l.log.count)
