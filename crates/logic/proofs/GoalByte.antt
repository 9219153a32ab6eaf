-- A goal is reached exactly when the survey's byte at the place of its fact is 1 to 1 + m, m being the goal's message number.
-- Assumes nothing.
use Prim.Native.Nat.{ℕ, ◌+◌, ◌≤◌, ◌<◌}
use mathlib.Core.Path.{subst, sym}
use mathlib.Core.List.{List}
use lib.ListN.{length, get_or}
use Rattle.logic.specs.declared.Record.{Record}
use Rattle.logic.specs.Count.{formulas, goals}
use Rattle.logic.specs.Book.{Book}
use Rattle.logic.specs.Formula.{Tree}
use Rattle.logic.specs.Fact.{Fact, goal_fact, initial}
use Rattle.logic.specs.Derivation.{Derivable}
use Rattle.logic.specs.Place.{place}
use Rattle.logic.specs.Step.{goal_of}
use Rattle.logic.specs.Survey.{IsSurvey}
use Rattle.logic.specs.Proof.{Reached}
use Rattle.logic.specs.Written.{goal_fact_on}
use Rattle.logic.proofs.Contents.{contents, among_at}
use Rattle.logic.proofs.Meaning.{written}
use Rattle.logic.proofs.Initial.{Means, asks}
use Rattle.logic.proofs.Derivable.{initial_later}
use Rattle.logic.proofs.Surveys.{follows_by_byte}

-- the survey's byte at the place of what goal g asks
abbrev pub goal_byte : List Record → ℕ → List ℕ → ℕ
goal_byte rs g t = get_or t (place (formulas rs) (goal_fact_on (formulas rs) (goal_of rs g))) 0

-- it is one of 1 to 1 + m
abbrev pub WithinGoal : List Record → ℕ → List ℕ → Type 0
WithinGoal rs g t = (1 ≤ goal_byte rs g t) × (goal_byte rs g t ≤ 1 + (goal_of rs g).first)

pub reached_by_byte : (rs : List Record) → Book rs → (g : ℕ) → g < length (goals rs) → (t : List ℕ) → IsSurvey (formulas rs) (initial rs) t
    → (WithinGoal rs g t → Reached rs g) × (Reached rs g → WithinGoal rs g t)
reached_by_byte rs book g l t s =
    let r = goal_of rs g in
    let fs = formulas rs in
    let a : Means fs (goal_fact_on fs r) (goal_fact fs r) = asks rs (contents rs book) r (among_at (goals rs) g l) in
    let f = follows_by_byte fs (initial rs) t s (initial_later rs) (goal_fact_on fs r) (written fs (goal_fact_on fs r) a.0) r.first in (
      (λ w. subst (λ (x : Fact Tree). Derivable (formulas rs) (initial rs r.first) x) a.1 (f.1 w)),
      (λ d. f.0 (subst (λ (x : Fact Tree). Derivable (formulas rs) (initial rs r.first) x) (sym a.1) d)),
    )
