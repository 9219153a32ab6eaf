use Rattle.format.specs.Index.{record_in}
use Rattle.claims.specs.Follow.{clears_up_to}
use mathlib.Core.Path.{◌≡◌}
use Rattle.claims.proofs.fill_clears.Given as goal

abbrev pub invariant-loop-i : goal.invariant-loop-i
invariant-loop-i l = l.clears ≡ clears_up_to (record_in l.index.numbers.now) l.initial.clears l.i
