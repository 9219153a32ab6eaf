use Rattle.std.proofs.Common.{◌≡◌, ◌≤◌}
use Rattle.logic.specs.Place.{rank}
use Rattle.written.specs.Stated.{records_in}
use Rattle.places.proofs.rank_of.Given as goal

-- The principals among the formulas passed.
abbrev pub invariant-loop-i : goal.invariant-loop-i
invariant-loop-i l = (l.r ≤ l.i) × (l.r ≡ rank (records_in l.index.formulas l.index.numbers.now) l.i)
