-- Words grow towards 2 ^ 64: an instance that changes anything leaves less to come. Assumes nothing.
use Prim.Native.Nat.{ℕ, zero, suc, ◌+◌, ◌-◌, ◌*◌, ◌/◌, ◌%◌, ◌^◌, ◌<◌, ◌≤◌}
use native.Mathlib.Nat.{lt_of_lt_of_le, lt_of_le_of_lt, mod-lt, mod-eq_of_lt, div-add-mod'}
use native.Mathlib.Omega.{arith}
use native.Mathlib.Decide.{ℕ_discrete}
use mathlib.Core.Path.{◌≡◌, refl, sym, ap, ap₂, ◌∙◌}
use mathlib.Core.Logic.{◌⊎◌, inl, inr, ⊎_elim}
use mathlib.Core.List.{List, [], ◌∷◌}
use mathlib.Core.Bool.{Bool, true, false, cond}
use lib.ListN.{length, get_or, set, length-set}
use lib.Pow.{pow_mono, shl_lt}
use lib.Bits.{bit_and, bit_or, or_add_and, and_le_l, and_le_r, or_mod, or_block, or_zero_r}
use Rattle.logic.specs.Book.{All}
use Rattle.facts.specs.Facts.{is_given}
use Rattle.lanes.specs.Lanes.{word_of, shift_of, lane, State, Common, ready, fired, run}
use Rattle.lanes.proofs.Sets.{marked_length}
use Rattle.lanes.proofs.Fires.{outcome}

-- what the words lack of having all their 64 bits
unfoldable pub lack : List ℕ → ℕ
lack [] = 0
lack (w ∷ l) = (18446744073709551616 - w % 18446744073709551616) + lack l

lack_set : (ws : List ℕ) (i v : ℕ) → i < length ws → get_or ws i 0 % 18446744073709551616 < v % 18446744073709551616 → lack (set ws i v) < lack ws
unfolding lack
lack_set [] i v l a = absurd (omega arith)
lack_set (w ∷ ws) zero v l a = omega arith
lack_set (w ∷ ws) (suc i) v l a = omega (arith, lack_set ws i v (omega arith) a)

or_above : (a b : ℕ) → (bit_or a b ≡ a → ⊥) → a < bit_or a b
or_above a b n = elim (ℕ_discrete (bit_or a b) a) [ yes e ↦ absurd (n e) | no d ↦ omega (arith, or_add_and a b, and_le_r a b) ]

-- a bit more below 2 ^ 64
or_rises : (a b : ℕ) → b < 18446744073709551616 → (bit_or a b ≡ a → ⊥) → a % 18446744073709551616 < bit_or a b % 18446744073709551616
or_rises a b l n = rw (or_mod a b 64, mod-eq_of_lt l) (or_above (a % 18446744073709551616) b (λ e. n (whole e)))
  where
    whole : bit_or (a % 18446744073709551616) b ≡ a % 18446744073709551616 → bit_or a b ≡ a
    whole e =
        let z : 0 * 18446744073709551616 + b ≡ b = omega arith in
        ap₂ bit_or (sym (div-add-mod' a 18446744073709551616)) (sym z)
        ∙ or_block 64 (a / 18446744073709551616) 0 (a % 18446744073709551616) b (mod-lt a (omega arith)) l
        ∙ ap₂ (λ x y. x * 18446744073709551616 + y) (or_zero_r (a / 18446744073709551616)) e
        ∙ div-add-mod' a 18446744073709551616

raised_small : (who s : ℕ) → who < 256 → s ≤ 56 → who * 2 ^ s < 18446744073709551616
raised_small who s h k = lt_of_lt_of_le (shl_lt {a = who} 8 s h) (pow_mono {i = 8 + s} {j = 64} (omega arith))

-- an instance for a set of ranks that gives a fact about a formula that can be
pub record Bounded (c : Common) : Type 0 where
  pub may : c.may < 256
  pub gives : c.by.gives.formula < 256

pub ready_below : (ws : List ℕ) (c : Common) → c.may < 256 → ready ws c < 256
unfolding ready
ready_below ws c m = go (is_given c.by.kind)
  where
    go : (v : Bool) → cond v c.may (bit_and c.may (bit_and (lane ws c.by.first) (lane ws c.by.second))) < 256
    go true = m
    go false = lt_of_le_of_lt (and_le_l c.may (bit_and (lane ws c.by.first) (lane ws c.by.second))) m

module _ (u : List ℕ) (k : ℕ) (s : State) (c : Common) (wd : length s.words ≡ 1024) (z : Bounded c) where
  grown : ℕ
  grown = bit_or (get_or s.words (word_of c.by.gives) 0) (ready s.words c * 2 ^ shift_of c.by.gives)

  inside : word_of c.by.gives < length s.words
  inside = let l = z.gives in omega (arith, wd)

  few : ready s.words c < 256
  few = ready_below s.words c z.may

  pub fired_words : length (fired u k s c).words ≡ 1024
  unfolding fired
  fired_words =
      ⊎_elim (λ e. rw e.0 wd) (λ e. rw e.0 (simp length-set wd))
      (outcome u k (ready s.words c) c.by s few)

  pub fired_pending : length (fired u k s c).pending ≡ length s.pending
  unfolding fired
  fired_pending =
      ⊎_elim (λ e. rw e.0 refl) (λ e. rw e.0 (marked_length u s.pending c.by.gives.formula))
      (outcome u k (ready s.words c) c.by s few)

  pub fired_less : (fired u k s c ≡ s) ⊎ (lack (fired u k s c).words < lack s.words)
  unfolding fired grown
  fired_less =
      ⊎_elim (λ e. inl e.0)
      (λ e. inr (rw e.0 (lack_set s.words (word_of c.by.gives) grown inside
      (or_rises (get_or s.words (word_of c.by.gives) 0) (ready s.words c * 2 ^ shift_of c.by.gives) (raised_small (ready s.words c) (shift_of c.by.gives) few (omega arith)) e.1))))
      (outcome u k (ready s.words c) c.by s few)

pub run_words : (u : List ℕ) (k : ℕ) (l : List Common) → All Bounded l → (s : State) → length s.words ≡ 1024 → length (run u k s l).words ≡ 1024
unfolding run
run_words u k [] z s w = w
run_words u k (c ∷ l) z s w = run_words u k l z.1 (fired u k s c) (fired_words u k s c w z.0)

pub run_pending : (u : List ℕ) (k : ℕ) (l : List Common) → All Bounded l → (s : State) → length s.words ≡ 1024 → length (run u k s l).pending ≡ length s.pending
unfolding run
run_pending u k [] z s w = refl
run_pending u k (c ∷ l) z s w = run_pending u k l z.1 (fired u k s c) (fired_words u k s c w z.0) ∙ fired_pending u k s c w z.0

-- a list that changes anything leaves less to come
pub run_less : (u : List ℕ) (k : ℕ) (l : List Common) → All Bounded l → (s : State) → length s.words ≡ 1024
    → (run u k s l ≡ s) ⊎ (lack (run u k s l).words < lack s.words)
unfolding run
run_less u k [] z s w = inl refl
run_less u k (c ∷ l) z s w =
    go (fired_less u k s c w z.0) (run_less u k l z.1 (fired u k s c) (fired_words u k s c w z.0))
  where
    go : (fired u k s c ≡ s) ⊎ (lack (fired u k s c).words < lack s.words)
        → (run u k (fired u k s c) l ≡ fired u k s c) ⊎ (lack (run u k (fired u k s c) l).words < lack (fired u k s c).words)
        → (run u k (fired u k s c) l ≡ s) ⊎ (lack (run u k (fired u k s c) l).words < lack s.words)
    go (inl a) (inl b) = inl (b ∙ a)
    go (inl a) (inr b) = let e = ap (λ t. lack t.words) a in inr (omega arith)
    go (inr a) (inl b) = let e = ap (λ t. lack t.words) b in inr (omega arith)
    go (inr a) (inr b) = inr (omega arith)
