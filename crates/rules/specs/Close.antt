-- Looking at records again until none is pending. The order in which they are taken is not said: it is no matter.
use Rattle.std.specs.Prelude.{ℕ, ◌-◌, ◌/◌, ◌%◌, ◌^◌, ◌<◌, ◌≡◌, ◌⊎◌, List, true, get_or, set}
use Rattle.facts.specs.Facts.{bit_at}
use Rattle.lanes.specs.Lanes.{State, state, run}
use Rattle.rules.specs.Rules.{rules_of}

-- record r is pending
abbrev pub Pending : List ℕ → ℕ → Type 0
Pending d r = true ≡ bit_at (get_or d (r / 64) 0) (r % 64)

-- r is a pending record, or 256 where none is pending
abbrev pub IsLast : List ℕ → ℕ → Type 0
IsLast d r = ((r < 256) × Pending d r) ⊎ ((r ≡ 256) × ((j : ℕ) → j < 256 → Pending d j → ⊥))

-- record r is taken from those that are pending
abbrev pub taken : List ℕ → ℕ → List ℕ
taken d r = set d (r / 64) (get_or d (r / 64) 0 - 2 ^ (r % 64))

abbrev pub without : ℕ → State → State
without r s = state s.words (taken s.pending r) s.log s.count

-- what comes of a state by taking pending records, one after the other, and applying their rules
pub data Reaches (b links rows u : List ℕ) (k : ℕ) (s : State) : State → Type 0 where
  start : Reaches b links rows u k s s
  more : (t : State) (r : ℕ) → r < 256 → Pending t.pending r → Reaches b links rows u k s t → Reaches b links rows u k s (run u k (without r t) (rules_of b links rows r))

-- until none is pending
pub record Closes (b links rows u : List ℕ) (k : ℕ) (s t : State) : Type 0 where
  pub reached : Reaches b links rows u k s t
  pub done : (r : ℕ) → r < 256 → Pending t.pending r → ⊥
