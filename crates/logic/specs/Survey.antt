-- The survey: what each place holds. Document 01, "Survey and prover".
use Rattle.std.specs.Prelude.{ℕ, ◌+◌, ◌≤◌, ◌<◌, ◌≡◌, ◌⊎◌, List, [], ◌∷◌, ◌++◌, Bool, cond, ◌&&◌, length, get_or, drop, leb, ltb}
use Rattle.logic.specs.declared.Record.{Record}
use Rattle.logic.specs.Count.{formulas}
use Rattle.logic.specs.Refusal.{Outcome}
use Rattle.logic.specs.Refusal.Outcome.{accepted, refused}
use Rattle.logic.specs.Reading.{reading}
use Rattle.logic.specs.Formula.{Tree}
use Rattle.logic.specs.Fact.{Fact, initial}
use Rattle.logic.specs.Derivation.{Derivable}
use Rattle.logic.specs.Written.{meaning, is_written}
use Rattle.logic.specs.Place.{F, fact_at}

-- Below, fs are formula records, and `given m` are the facts that are given up to message m: for a book with the records rs these are
-- `formulas rs` and `initial rs`.

-- m is the first message number after which f follows
abbrev pub FirstAfter : (fs : List Record) (given : ℕ → List (Fact Tree)) → Fact Tree → ℕ → Type 0
FirstAfter fs given f m = Derivable fs (given m) f × ((k : ℕ) → k < m → Derivable fs (given k) f → ⊥)

-- v is 0 if the fact never follows, else 1 + the first message number after which it follows
abbrev pub ByteOf : (fs : List Record) (given : ℕ → List (Fact Tree)) → Fact Tree → ℕ → Type 0
ByteOf fs given f v = ((v ≡ 0) × ((m : ℕ) → Derivable fs (given m) f → ⊥)) ⊎ ((m : ℕ) × (v ≡ 1 + m) × FirstAfter fs given f m)

-- place i holds v: places of unopened beliefs, of principals, keys and variables and of formulas with a loose variable, whose facts may
-- not be written, hold 0
abbrev pub PlaceHolds : (fs : List Record) (given : ℕ → List (Fact Tree)) → ℕ → ℕ → Type 0
PlaceHolds fs given i v = cond (is_written fs (fact_at fs i)) (ByteOf fs given (meaning fs (fact_at fs i)) v) (v ≡ 0)

-- t is the survey: one byte for each of F places
pub record IsSurvey (fs : List Record) (given : ℕ → List (Fact Tree)) (t : List ℕ) : Type 0 where
  pub size : length t ≡ F fs
  pub holds : (i : ℕ) → i < F fs → PlaceHolds fs given i (get_or t i 0)

-- how many members of a list pass a test
unfoldable pub count : (ℕ → Bool) → List ℕ → ℕ
count p [] = 0
count p (v ∷ t) = cond (p v) 1 0 + count p t

-- the count of nonzero bytes
abbrev pub held : List ℕ → ℕ
held t = count (λ v. ltb 0 v) t

-- whether a survey byte v is 1 to 1 + m: its fact is held after message m
abbrev pub is_within : (m v : ℕ) → Bool
is_within m v = leb 1 v && leb v (1 + m)

-- the number of facts held after message m: the places whose survey byte is 1 to 1 + m
abbrev pub held_after : ℕ → List ℕ → ℕ
held_after m t = count (is_within m) t

-- What the survey answers, for the lent bytes `table` and what they are afterwards: the count, or a refusal that leaves all as it
-- was. The book's refusals come first, then 14 at 0 for less than F bytes; the bytes after F stay.
abbrev pub SurveyedAfter : Outcome (List Record) → (table table' : List ℕ) → Outcome ℕ → Type 0
SurveyedAfter (refused f i) table table' o = (o ≡ refused f i) × (table' ≡ table)
SurveyedAfter (accepted rs) table table' o =
    ((length table < F (formulas rs)) × (o ≡ refused 14 0) × (table' ≡ table))
    ⊎ ((F (formulas rs) ≤ length table)
    × ((t : List ℕ) × IsSurvey (formulas rs) (initial rs) t × (o ≡ accepted (held t)) × (table' ≡ t ++ drop (F (formulas rs)) table)))

abbrev pub Surveyed : (book table table' : List ℕ) → Outcome ℕ → Type 0
Surveyed book table table' o = SurveyedAfter (reading book) table table' o
