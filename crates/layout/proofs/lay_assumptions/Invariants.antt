use Rattle.layout.specs.Flat.{assumptions_in}
use mathlib.Core.Path.{◌≡◌}
use Rattle.layout.proofs.lay_assumptions.Given as goal

abbrev pub invariant-loop-a : goal.invariant-loop-a
invariant-loop-a l = l.flat ≡ assumptions_in l.index.numbers.now l.a l.initial.flat
