-- What is given in an array: the assumptions of its principals, and what each message adds. Assumes nothing.
use Prim.Native.Nat.{ℕ, zero, suc, ◌<◌}
use native.Mathlib.Omega.{arith}
use mathlib.Core.Path.{◌≡◌}
use mathlib.Core.List.{List, [], ◌∷◌}
use lib.ListN.{length, get_or}
use Rattle.logic.specs.declared.Record.{Record}
use Rattle.logic.specs.Book.{All}
use Rattle.logic.specs.Fact.{Fact}
use Rattle.logic.specs.Fact.Fact.{Sees}
use Rattle.logic.proofs.Meaning.{Valid}
use Rattle.logic.proofs.Holder.{holder}
use Rattle.flat.specs.Layout.{at, first_at, assumption_at, receiver_at, message_at, stated_at}
use Rattle.flat.proofs.Cells.{Ranking, cell_of}

-- what stands behind the end of a list of facts
abbrev pub no_fact : Fact ℕ
no_fact = Sees 0 0

-- The array b has the assumptions `α` and the facts `ms` that the messages add.
pub record Starts {fs : List Record} (ρ : Ranking fs) (b : List ℕ) (α ms : List (Fact ℕ)) : Type 0 where
  pub assumption : (k : ℕ) → k < length α
      → (first_at b (assumption_at b k) ≡ holder (get_or α k no_fact)) × (stated_at b (assumption_at b k) ≡ cell_of ρ (get_or α k no_fact))
  pub message : (m : ℕ) → m < length ms → (receiver_at b m ≡ holder (get_or ms m no_fact)) × (at (message_at b m) 0 ≡ cell_of ρ (get_or ms m no_fact))
  pub valid_assumptions : All (Valid fs) α
  pub valid_messages : All (Valid fs) ms

pub all_get_d : (P : Fact ℕ → Type 0) (l : List (Fact ℕ)) (k : ℕ) → k < length l → All P l → P (get_or l k no_fact)
all_get_d P [] k h a = absurd (omega arith)
all_get_d P (g ∷ l) zero h a = a.0
all_get_d P (g ∷ l) (suc k) h a = all_get_d P l k (omega arith) a.1
