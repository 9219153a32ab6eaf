-- THE NUMBERS OF A CALL: what `find` gives to the facts of the principal of rank k as it finds them. All that it fires is fired in this
-- order: the assumptions in force, the deliveries, and then the rules of the pending records as they are taken.
use Rattle.std.specs.Prelude.{ℕ, zero, suc, ◌+◌, List, [], ◌∷◌, ◌++◌, cond, length}
use Rattle.facts.specs.declared.Cell.{Cell}
use Rattle.facts.specs.Facts.{bit_at}
use Rattle.flat.specs.Layout.{at, first_at, assumption_at, stated_at}
use Rattle.lanes.specs.Lanes.{State, Common, common}
use Rattle.lanes.specs.Numbers.{Numbered, numbers_by}
use Rattle.rules.specs.Rules.{only_one, rules_of}
use Rattle.rules.specs.Close.{without, Reaches, Closes}
use Rattle.rules.specs.Close.Reaches.{start, more}
use Rattle.stages.specs.Stages.{nothing, gives, receiver_in, formula_in, only, given_all}

-- assumption a for its principal, and delivery m, counted from 0, for its receiver
abbrev pub assumption_of : List ℕ → ℕ → Common
assumption_of b a = common (only_one b (first_at b (assumption_at b a))) (gives 64 a (stated_at b (assumption_at b a)))

abbrev pub delivery : List ℕ → ℕ → Common
delivery ds m = common (only (receiver_in ds m)) (gives 65 (m + 1) (at (formula_in ds m) 0))

-- of the first so many assumptions those in force
unfoldable pub assumptions_in : (b : List ℕ) (force : ℕ) → ℕ → List Common
assumptions_in b c zero = []
assumptions_in b c (suc a) = assumptions_in b c a ++ cond (bit_at c a) (assumption_of b a ∷ []) []

-- the first so many deliveries
unfoldable pub deliveries_in : List ℕ → ℕ → List Common
deliveries_in ds zero = []
deliveries_in ds (suc m) = deliveries_in ds m ++ (delivery ds m ∷ [])

module _ (b links rows u : List ℕ) (k : ℕ) where
  -- as pending records are taken, each with its rules
  unfoldable pub taken_numbers : (s t : State) → Reaches b links rows u k s t → List (Numbered Cell)
  taken_numbers s _ start = []
  taken_numbers s _ (more t r l p h) = taken_numbers s t h ++ numbers_by u k (without r t) (rules_of b links rows r)

  -- in the whole call, with the log l
  unfoldable pub call_numbers : (ds : List ℕ) (force a : ℕ) (l : List ℕ) (s : State) → Closes b links rows u k (given_all b u ds k force a l) s → List (Numbered Cell)
  call_numbers ds force a l s c =
      numbers_by u k (nothing l) (assumptions_in b force a ++ deliveries_in ds (length ds)) ++ taken_numbers (given_all b u ds k force a l) s c.reached
