-- THE NUMBERS GIVEN. As the facts of one principal are found each gets a number: in the order given, with the fact that each is given
-- to. Document 02, wish 3. k is the rank of the principal.
use Rattle.std.specs.Prelude.{ℕ, zero, suc, ◌+◌, ◌*◌, ◌<◌, ◌≡◌, List, [], ◌∷◌, ◌++◌, map, cond, length, get_or}
use Rattle.logic.specs.Book.{All}
use Rattle.logic.specs.Proof.{Distinct}
use Rattle.facts.specs.declared.Cell.{Cell}
use Rattle.lanes.specs.Lanes.{lane, State, Common, is_new, ready, fired}

-- a number and what it is given to
pub record Numbered (Fact : Type 0) : Type 0 where
  pub number : ℕ
  pub fact : Fact

-- FIRING AN INSTANCE gives one number or none: what is new for the principal gets the count of the numbers given before
unfoldable pub number_by : (k : ℕ) → State → Common → List (Numbered Cell)
number_by k s c =
    cond (is_new k (lane s.words c.by.gives) (ready s.words c)) (record { number = s.count; fact = c.by.gives } ∷ []) []

-- firing a list of instances, whichever they are
unfoldable pub numbers_by : (u : List ℕ) (k : ℕ) → State → List Common → List (Numbered Cell)
numbers_by u k s [] = []
numbers_by u k s (c ∷ l) = number_by k s c ++ numbers_by u k (fired u k s c) l

-- WHERE A NUMBER IS KEPT: it is the place of its fact's entry in the log, counted in entries of eight bytes, which begin with the fact
abbrev pub StandsIn : List ℕ → Numbered Cell → Type 0
StandsIn log a = (get_or log (a.number * 8) 0 ≡ a.fact.formula) × (get_or log (a.number * 8 + 1) 0 ≡ a.fact.bit)

-- WHAT IS ASKED OF NUMBERS
abbrev pub numbers : {Fact : Type 0} → List (Numbered Fact) → List ℕ
numbers l = map (λ a. a.number) l

abbrev pub facts : {Fact : Type 0} → List (Numbered Fact) → List Fact
facts l = map (λ a. a.fact) l

-- 0, 1, 2 and so on: the first n numbers
abbrev pub first_numbers : ℕ → List ℕ
first_numbers zero = []
first_numbers (suc n) = first_numbers n ++ (n ∷ [])

-- each is below N; none is given twice; no fact gets two; and there is no gap
pub record RunningOrder {Fact : Type 0} (N : ℕ) (l : List (Numbered Fact)) : Type 0 where
  pub below : All (λ a. a.number < N) l
  pub no_number_twice : Distinct (numbers l)
  pub no_fact_twice : Distinct (facts l)
  pub without_gap : numbers l ≡ first_numbers (length l)

-- the same numbers, with their facts told in another way
abbrev pub told_by : {Fact Told : Type 0} → (Fact → Told) → List (Numbered Fact) → List (Numbered Told)
told_by f l = map (λ a. record { number = a.number; fact = f a.fact }) l
