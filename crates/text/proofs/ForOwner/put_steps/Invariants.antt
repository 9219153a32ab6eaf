use Prim.Native.Nat.{◌-◌}
use mathlib.Core.Path.{◌≡◌}
use lib.ListN.{length}
use Rattle.written.specs.Stated.{records_in}
use Rattle.text.proofs.StepLines.{Stepping}
use Rattle.text.proofs.ForOwner.put_steps.Given as goal

-- Step by step: what is written, and what fits of the rest.
abbrev pub invariant-loop-at : goal.invariant-loop-at
invariant-loop-at l =
    (length l.line ≡ length l.initial.line) × Stepping (records_in l.self.printer.index.formulas l.self.printer.index.numbers.now) l.derivation l.from l.initial.buffer l.buffer l.written l.at l.i

abbrev pub decreases-loop-at : goal.decreases-loop-at
decreases-loop-at l =
    length l.derivation - l.at
