use Rattle.std.proofs.Common.{◌≡◌, ◌≤◌}
use Rattle.logic.specs.Listing.{count_true, marks_by}
use Rattle.written.specs.Stated.{records_in}
use Rattle.places.specs.Places.{goals_in}
use Rattle.places.proofs.count_reached.Given as goal

-- The goals passed that are reached.
abbrev pub invariant-loop-g : goal.invariant-loop-g
invariant-loop-g l = (l.reached ≤ l.g) × (l.reached ≡ count_true (marks_by (records_in l.formulas l.numbers) (goals_in l.g l.numbers) l.table))
