use Rattle.std.proofs.Common.{◌≡◌}
use Rattle.instances.specs.Images.{count_just, list_just}
use Rattle.instances.proofs.list_just.Given as goal

abbrev pub invariant-loop-y : goal.invariant-loop-y
invariant-loop-y l = (l.m ≡ count_just l.index.numbers.now l.v l.y) × (l.just ≡ list_just l.index.numbers.now l.v l.y l.initial.just)
