use Rattle.chains.specs.Chain.{found_from}
use lib.ListN.{get_or}
use mathlib.Core.Path.{◌≡◌}
use Rattle.chains.proofs.Chains.find.Given as goal

abbrev pub invariant-loop-c : goal.invariant-loop-c
invariant-loop-c l = found_from l.table l.self.next l.x l.c ≡ found_from l.table l.self.next l.x (get_or l.self.heads l.h 0)

abbrev pub decreases-loop-c : goal.decreases-loop-c
decreases-loop-c l = l.c
