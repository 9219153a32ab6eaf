-- What the functions leave, by the tests that they make. Each law takes what a call ensures as an equation. Assumes nothing.
use Prim.Native.Nat.{ℕ, ◌+◌, ◌*◌, ◌^◌, ◌<◌, ◌≤◌}
use native.Mathlib.Nat.{div-eq_of_lt, lt_of_lt_of_le}
use mathlib.Core.Path.{◌≡◌}
use mathlib.Core.List.{List}
use mathlib.Core.Bool.{Bool, true, false, not}
use lib.ListN.{get_or, set}
use lib.Seq.{sets}
use lib.Pow.{pow_mono}
use lib.Bits.{bit_or}
use borrow.Author.Tests.{lt-ltb, eq-eqb, ne_eqb}
use Rattle.facts.specs.declared.Instance.{Instance}
use Rattle.facts.specs.Facts.{bit_at, entry_of}
use Rattle.lanes.specs.Lanes.{word_of, shift_of, lane, State, state, marked, common, is_new, noted, counted, is_held, entered, holders, concluded}

-- a set of ranks has none above 7
pub no_rank : (w k : ℕ) → w < 256 → 8 ≤ k → false ≡ bit_at w k
unfolding bit_at
no_rank w k l h = rw (div-eq_of_lt {n = w} {m = 2 ^ k} (lt_of_lt_of_le l (pow_mono {i = 8} {j = k} h)))

module _ (k old new : ℕ) {y : Bool} (e : y ≡ bit_at new k) where
  pub new_in : {z : Bool} → y ≡ true → z ≡ bit_at old k → not z ≡ is_new k old new
  unfolding is_new
  new_in h f = rw (← e, h, f)

  pub new_out : y ≡ false → false ≡ is_new k old new
  unfolding is_new
  new_out h = rw (← e, h)

module _ (news : Bool) (i : Instance) (l : List ℕ) (n : ℕ) where
  pub noted_none : news ≡ false → (l ≡ noted news i l n) × (n ≡ counted news n)
  unfolding noted counted
  noted_none e = (rw e, rw e)

  pub noted_full : news ≡ true → n ≡ 65535 → (l ≡ noted news i l n) × (n ≡ counted news n)
  unfolding noted counted
  noted_full e f = (rw (e, f), rw (e, f))

  pub noted_more : {l' : List ℕ} → news ≡ true → n < 65535 → l' ≡ sets l (n * 8) (entry_of 0 i) → (l' ≡ noted news i l n) × (n + 1 ≡ counted news n)
  unfolding noted counted
  noted_more e f g = (rw (e, lt-ltb n 65535 f) g, rw (e, lt-ltb n 65535 f))

pub log_is : (ws d : List ℕ) {l l' : List ℕ} {n n' : ℕ} → (l ≡ l') × (n ≡ n') → state ws d l n ≡ state ws d l' n'
log_is ws d (e, f) = rw (e, f)

module _ (u : List ℕ) (k who : ℕ) (i : Instance) (ws d l : List ℕ) (n : ℕ) {old b : ℕ} (eo : old ≡ get_or ws (word_of i.gives) 0)
    (eb : b ≡ who * 2 ^ shift_of i.gives) where
  pub entered_same : bit_or old b ≡ old → state ws d l n ≡ entered u k who i (state ws d l n)
  unfolding entered is_held
  entered_same f = rw (← eb, ← eo, eq-eqb (bit_or old b) old f)

  pub entered_new : {ln : ℕ} {news : Bool} → (bit_or old b ≡ old → ⊥) → ln ≡ lane ws i.gives → news ≡ is_new k ln who
      → state (set ws (word_of i.gives) (bit_or old b)) (marked u d i.gives.formula) (noted news i l n) (counted news n) ≡ entered u k who i (state ws d l n)
  unfolding entered is_held
  entered_new f o w = rw (w, o, ← eb, ← eo, ne_eqb (bit_or old b) old f)

-- where all who could conclude it hold it already, nothing changes
pub concluded_held : (u : List ℕ) (k : ℕ) (s : State) (m : ℕ) (i : Instance) {w : ℕ} {y : Bool} → w ≡ holders s.words (common m i) → y ≡ is_held s.words w i.gives → y ≡ true
    → s ≡ concluded u k s (common m i)
unfolding concluded entered
concluded_held u k s m i e f h = rw (← e, ← f, h)

pub concluded_is : (u : List ℕ) (k : ℕ) (s : State) (m : ℕ) (i : Instance) {w : ℕ} {t : State} → w ≡ holders s.words (common m i) → t ≡ entered u k w i s → t ≡ concluded u k s (common m i)
unfolding concluded
concluded_is u k s m i e f = rw (← e) f
