use Rattle.std.proofs.Common.{◌≡◌}
use Rattle.search.specs.Answers.{names_upto}
use Rattle.search.proofs.list_names.Given as goal

abbrev pub invariant-loop-x : goal.invariant-loop-x
invariant-loop-x l = l.names ≡ names_upto l.flat.bytes l.x l.initial.names
