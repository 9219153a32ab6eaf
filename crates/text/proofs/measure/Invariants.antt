use Rattle.text.specs.Printing.{Measured}
use lib.ListN.{length}
use mathlib.Core.Path.{◌≡◌}
use Rattle.text.proofs.measure.Given as goal

abbrev pub invariant-loop-i : goal.invariant-loop-i
invariant-loop-i l = (length l.lengths ≡ 256) × Measured l.audience l.index.formulas l.index.numbers.now l.lengths l.i
