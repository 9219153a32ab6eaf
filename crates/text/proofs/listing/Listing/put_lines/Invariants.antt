use mathlib.Core.Path.{◌≡◌}
use lib.ListN.{length}
use Prim.Native.Nat.{◌+◌}
use Rattle.logic.specs.Listing.{line_at}
use Rattle.written.specs.Stated.{records_in}
use Rattle.places.specs.Places.{goals_in}
use Rattle.text.proofs.Lines.{Going}
use Rattle.text.proofs.listing.Listing.put_lines.Given as goal

-- Line by line: what is written, and what fits of the rest.
abbrev pub invariant-loop-i : goal.invariant-loop-i
invariant-loop-i l =
    let s = l.self.printer in
    (length l.line ≡ length l.initial.line)
    × Going (line_at s.audience (records_in s.index.formulas s.index.numbers.now) (goals_in s.counts.goals s.index.numbers.now) l.self.table.now) (l.self.size + 2) l.from l.initial.buffer l.buffer l.at l.i
