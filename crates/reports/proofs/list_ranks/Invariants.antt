use Rattle.std.proofs.Common.{◌≡◌, ◌≤◌}
use Rattle.logic.specs.Place.{rank as rank_of}
use Rattle.written.specs.Stated.{records_in}
use Rattle.reports.specs.Pairs.{Ranked}
use Rattle.reports.proofs.list_ranks.Given as goal

-- The principals among the formulas passed.
abbrev pub invariant-loop-x : goal.invariant-loop-x
invariant-loop-x l =
    let fs = records_in l.index.formulas l.index.numbers.now in
    (l.rank ≤ l.x) × (l.rank ≡ rank_of fs l.x) × Ranked fs l.x l.ranks
