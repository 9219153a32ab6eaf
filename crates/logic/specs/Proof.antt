-- What the prover answers: demand 3. Document 01, "Survey and prover".
-- Free are which derivation it is, as long as `Proves` holds of it, and the first F × 8 bytes of work.
use Rattle.std.specs.Prelude.{ℕ, suc, ◌*◌, ◌≤◌, ◌<◌, ◌≡◌, ◌⊎◌, List, [], ◌∷◌, map, length, get_or, take, drop}
use Rattle.logic.specs.declared.Record.{Record}
use Rattle.logic.specs.Count.{formulas, goals}
use Rattle.logic.specs.Refusal.{Outcome}
use Rattle.logic.specs.Refusal.Outcome.{accepted, refused}
use Rattle.logic.specs.Reading.{reading}
use Rattle.logic.specs.Fact.{goal_fact, initial}
use Rattle.logic.specs.Derivation.{Among, Derivable}
use Rattle.logic.specs.Place.{F}
use Rattle.logic.specs.Step.{Step, step_at, steps_in, premises_of, goal_of, Verdict}
use Rattle.logic.specs.Survey.{IsSurvey, held_after}

-- no member is repeated
abbrev pub Distinct : {A : Type 0} → List A → Type 0
Distinct [] = Unit
Distinct (a ∷ l) = (Among a l → ⊥) × Distinct l

-- every step before the last is a premise of a later step
abbrev pub AllUsed : List Step → Type 0
AllUsed qs =
    (i : ℕ) → suc i < length qs → (j : ℕ) × (i < j) × (j < length qs) × Among i (premises_of (get_or qs j (step_at [])))

-- the bytes s prove goal g: the checker accepts them, no fact is repeated, and every step before the last is used
pub record Proves (rs : List Record) (g : ℕ) (s : List ℕ) : Type 0 where
  pub accepts : Verdict rs g s (accepted tt)
  pub distinct : Distinct (map (λ q. q.fact) (steps_in s))
  pub used : AllUsed (steps_in s)

-- goal g is reached: a derivation over trees up to the goal's message ends in the goal's fact
abbrev pub Reached : List Record → ℕ → Type 0
Reached rs g = Derivable (formulas rs) (initial rs (goal_of rs g).first) (goal_fact (formulas rs) (goal_of rs g))

-- the answers: reached, with the steps and the bytes written, or not reached; either way with the number of facts held
pub data Answer : Type 0 where
  reached : (steps bytes held : ℕ) → Answer
  not_reached : (held : ℕ) → Answer

-- h facts are held after the message of goal g
abbrev pub HeldFor : List Record → ℕ → ℕ → Type 0
HeldFor rs g h = (t : List ℕ) × IsSurvey (formulas rs) (initial rs) t × (h ≡ held_after (goal_of rs g).first t)

-- what an answer promises of the derivation's bytes d before and d' afterwards
abbrev pub Promises : List Record → ℕ → (d d' : List ℕ) → Answer → Type 0
-- the bytes written prove the goal, and those past them stay
Promises rs g d d' (reached k l h) =
    Proves rs g (take l d') × (k ≡ length (steps_in (take l d'))) × (l ≤ length d) × (length d' ≡ length d)
    × (drop l d' ≡ drop l d) × HeldFor rs g h
-- no derivation ends in the goal, and all bytes stay
Promises rs g d d' (not_reached h) = (Reached rs g → ⊥) × (d' ≡ d) × HeldFor rs g h

-- nothing is changed
abbrev pub Unchanged : (work work' d d' : List ℕ) → Type 0
Unchanged work work' d d' = (work' ≡ work) × (d' ≡ d)

-- What the prover answers for a goal that is there, with `work` and d before, work' and d' afterwards: 14 at 0 if a buffer is short;
-- otherwise an answer, and the work bytes after the first F × 8 stay.
abbrev pub ProvedFor : List Record → ℕ → (work work' d d' : List ℕ) → Outcome Answer → Type 0
ProvedFor rs g work work' d d' o =
    (((length work < F (formulas rs) * 8) ⊎ (length d < F (formulas rs) * 12)) × (o ≡ refused 14 0) × Unchanged work work' d d')
    ⊎ ((F (formulas rs) * 8 ≤ length work) × (F (formulas rs) * 12 ≤ length d) × (length work' ≡ length work)
    × (drop (F (formulas rs) * 8) work' ≡ drop (F (formulas rs) * 8) work)
    × ((a : Answer) × (o ≡ accepted a) × Promises rs g d d' a))

-- the same for a book that was read: the book's refusals come first, then 13 for a goal that is not there; a refusal leaves all as
-- it was
abbrev pub ProvedAfter : Outcome (List Record) → ℕ → (work work' d d' : List ℕ) → Outcome Answer → Type 0
ProvedAfter (refused f i) g work work' d d' o = (o ≡ refused f i) × Unchanged work work' d d'
ProvedAfter (accepted rs) g work work' d d' o =
    ((length (goals rs) ≤ g) × (o ≡ refused 13 g) × Unchanged work work' d d')
    ⊎ ((g < length (goals rs)) × ProvedFor rs g work work' d d' o)

-- what the prover answers for the bytes of a book
abbrev pub Proved : (book : List ℕ) (g : ℕ) (work work' d d' : List ℕ) → Outcome Answer → Type 0
Proved book g work work' d d' o = ProvedAfter (reading book) g work work' d d' o
