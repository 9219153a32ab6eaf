use Rattle.chains.specs.Chain.{heads_upto, next_upto}
use mathlib.Core.Path.{◌≡◌}
use Rattle.chains.proofs.Chains.link_all.Given as goal

abbrev pub invariant-loop-i : goal.invariant-loop-i
invariant-loop-i l = (l.self.heads ≡ heads_upto l.table l.i l.initial.self.heads) × (l.self.next ≡ next_upto l.table l.i l.initial.self.heads l.initial.self.next)
