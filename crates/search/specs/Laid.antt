-- A book laid out for the engine, from its index: the flat array, the chains of its statements, the instances of each formula, who uses each
-- formula, and the deliveries. And what the functions below survey and prover say. That this is what the demands ask for is proved; no promise to a
-- caller mentions it.
use Rattle.std.specs.Prelude.{ℕ, List, [], cond, length, replicate}
use Rattle.logic.specs.declared.Counts.{Counts}
use Rattle.layout.specs.Flat.{laid_out}
use Rattle.instances.specs.Rows.{has_delegation, instances_of}
use Rattle.tables.specs.Links.{linked}
use Rattle.tables.specs.Users.{users_of}
use Rattle.tables.specs.Delegations.{delegations_of}
use Rattle.tables.specs.Deliveries.{listed}
use Rattle.stages.specs.Stages.{Surveys}

-- the flat array of an index
abbrev pub laid_flat : List ℕ → Counts → List ℕ
laid_flat t n = laid_out t n (replicate 2144 0)

abbrev pub laid_links : List ℕ → Counts → List ℕ
laid_links t n = linked (laid_flat t n) n.formulas (replicate 512 0)

-- the instances of each formula and who lets somebody control each; a book without kind 17 has no rows
abbrev pub laid_rows : List ℕ → Counts → List ℕ
laid_rows t n =
    cond (has_delegation t n.formulas) (delegations_of (laid_flat t n) n.formulas (instances_of t n.formulas (replicate 2048 0))) []

abbrev pub laid_users : List ℕ → Counts → List ℕ
laid_users t n = users_of (laid_flat t n) n.formulas (replicate 1024 0)

abbrev pub laid_deliveries : List ℕ → Counts → List ℕ
laid_deliveries t n = listed (laid_flat t n) n.messages

-- the set of all 64 assumptions
abbrev pub every_assumption : ℕ
every_assumption = 18446744073709551615

-- the survey of a book that is laid out in the array b, in a table that is cleared first; and that of an index
abbrev pub LaidSurveyIs : (b rows : List ℕ) (n : Counts) (t t' : List ℕ) (held : ℕ) → Type 0
LaidSurveyIs b rows n t t' held =
    Surveys b (linked b n.formulas (replicate 512 0)) rows (users_of b n.formulas (replicate 1024 0)) (listed b n.messages) n.formulas n.principals every_assumption n.assumptions (replicate (length t) 0) t' held

abbrev pub SurveyIs : (ix : List ℕ) (n : Counts) (t t' : List ℕ) (held : ℕ) → Type 0
SurveyIs ix n t t' held = LaidSurveyIs (laid_flat ix n) (laid_rows ix n) n t t' held
