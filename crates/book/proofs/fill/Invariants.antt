use Rattle.book.specs.Read.{Bare, bound}
use Rattle.chains.proofs.Chain.{Chained}
use Rattle.book.proofs.Stage.{Reached}
use lib.ListN.{length}
use Prim.Native.Nat.{◌-◌, ◌≤◌}
use mathlib.Core.Path.{◌≡◌}
use Rattle.book.proofs.fill.Given as goal

abbrev pub invariant-loop-at : goal.invariant-loop-at
invariant-loop-at l =
    (l.at ≡ l.c.at) × (l.c.at ≤ length l.book) × (length l.table ≡ length l.initial.table) × Reached l.book l.initial.table l.table l.n.counts l.c × Chained l.table l.chains.heads l.chains.next l.n.counts.formulas
    × Bare l.table l.n.counts.formulas (bound l.bare)

abbrev pub decreases-loop-at : goal.decreases-loop-at
decreases-loop-at l = length l.book - l.at
