use Rattle.std.proofs.Common.{◌≡◌}
use Rattle.instances.specs.Rows.{own_upto}
use Rattle.instances.proofs.add_each_own.Given as goal

abbrev pub invariant-loop-y : goal.invariant-loop-y
invariant-loop-y l = l.rows ≡ own_upto l.index.numbers.now l.y l.initial.rows
