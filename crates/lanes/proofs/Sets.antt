-- Sets of ranks and lanes of words: what a lane is after a set is put into one. Assumes nothing.
use Prim.Native.Nat.{ℕ, zero, suc, ◌+◌, ◌-◌, ◌*◌, ◌/◌, ◌%◌, ◌^◌, ◌<◌, ◌≤◌}
use native.Mathlib.Nat.{mod-lt, div-eq_of_lt, mod-eq_of_lt, mul-mod_left, lt_of_lt_of_le, mul_assoc}
use native.Mathlib.Omega.{arith}
use native.Mathlib.Decide.{dec_lt, ℕ_discrete}
use mathlib.Core.Path.{◌≡◌, refl, sym, ap, ◌∙◌, subst}
use mathlib.Core.Logic.{◌⊎◌, inl, inr}
use mathlib.Core.List.{List, [], ◌∷◌}
use mathlib.Core.Bool.{Bool, true, false, ◌&&◌, ◌||◌}
use lib.ListN.{length, get_or, set, length-set}
use lib.Seq.{get_or-set_same, get_or-set_other}
use lib.Pow.{pow_mono, pow-add, shl_lt, shl-shr}
use lib.Bits.{bit_and, bit_or, or_shr, or_mod, and_shr, and_mod, or_zero_r}
use lib.Dec.{eqb}
use Rattle.facts.specs.declared.Cell.{Cell}
use Rattle.facts.specs.Facts.{bit_at}
use Rattle.lanes.specs.Lanes.{word_of, shift_of, lane, marked}

-- DIGITS
digit : ℕ → ℕ → ℕ
digit w b = w / 2 ^ b % 2

small : (w b : ℕ) → digit w b < 2
unfolding digit
small w b = mod-lt (w / 2 ^ b) (omega arith)

or_bit : (d e : ℕ) → d < 2 → e < 2 → eqb (bit_or d e) 1 ≡ (eqb d 1 || eqb e 1)
or_bit zero zero l k = refl
or_bit zero (suc zero) l k = refl
or_bit (suc zero) zero l k = refl
or_bit (suc zero) (suc zero) l k = refl
or_bit (suc (suc d)) e l k = absurd (omega arith)
or_bit zero (suc (suc e)) l k = absurd (omega arith)
or_bit (suc zero) (suc (suc e)) l k = absurd (omega arith)

and_bit : (d e : ℕ) → d < 2 → e < 2 → eqb (bit_and d e) 1 ≡ (eqb d 1 && eqb e 1)
and_bit zero zero l k = refl
and_bit zero (suc zero) l k = refl
and_bit (suc zero) zero l k = refl
and_bit (suc zero) (suc zero) l k = refl
and_bit (suc (suc d)) e l k = absurd (omega arith)
and_bit zero (suc (suc e)) l k = absurd (omega arith)
and_bit (suc zero) (suc (suc e)) l k = absurd (omega arith)

pub or_in : (a b k : ℕ) → bit_at (bit_or a b) k ≡ (bit_at a k || bit_at b k)
unfolding bit_at digit
or_in a b k = rw (or_shr a b k, or_mod (a / 2 ^ k) (b / 2 ^ k) 1) (or_bit (digit a k) (digit b k) (small a k) (small b k))

pub and_in : (a b k : ℕ) → bit_at (bit_and a b) k ≡ (bit_at a k && bit_at b k)
unfolding bit_at digit
and_in a b k = rw (and_shr a b k, and_mod (a / 2 ^ k) (b / 2 ^ k) 1) (and_bit (digit a k) (digit b k) (small a k) (small b k))

-- TESTS
pub apart : {A : Type 0} → true ≡ false → A
apart e = absurd (let z : ◌≡◌ {A = ℕ} 0 1 = cc in omega arith)

pub or_left : (a b : Bool) → true ≡ a → true ≡ (a || b)
or_left a b e = rw (← e)

pub or_right : (a b : Bool) → true ≡ b → true ≡ (a || b)
or_right true b e = refl
or_right false b e = e

pub or_either : (a b : Bool) → true ≡ (a || b) → (true ≡ a) ⊎ (true ≡ b)
or_either true b e = inl refl
or_either false b e = inr e

pub and_both : (a b : Bool) → true ≡ (a && b) → (true ≡ a) × (true ≡ b)
and_both true b e = (refl, e)
and_both false b e = apart e

pub both_and : (a b : Bool) → true ≡ a → true ≡ b → true ≡ (a && b)
both_and a b e f = rw (← e) f

-- LANES
-- a lane with a set put into it
pub raised_lane : (w who s : ℕ) → who < 256 → bit_or w (who * 2 ^ s) / 2 ^ s % 256 ≡ bit_or (w / 2 ^ s % 256) who
raised_lane w who s l = rw (or_shr w (who * 2 ^ s) s, shl-shr who s, or_mod (w / 2 ^ s) who 8, mod-eq_of_lt l)

-- the others stay
lifted : (who k t : ℕ) → who * 2 ^ (k + 8 + t) / 2 ^ t % 256 ≡ 0
lifted who k t = rw (pow-add 2 (k + 8) t, ← mul_assoc who (2 ^ (k + 8)) (2 ^ t), shl-shr (who * 2 ^ (k + 8)) t, pow-add 2 k 8, ← mul_assoc who (2 ^ k) (2 ^ 8)) (mul-mod_left (who * 2 ^ k) 256)

none_there : (who s t : ℕ) → who < 256 → (s + 8 ≤ t) ⊎ (t + 8 ≤ s) → who * 2 ^ s / 2 ^ t % 256 ≡ 0
none_there who s t l (inl h) =
    let b : who * 2 ^ s < 2 ^ t = lt_of_lt_of_le (shl_lt {a = who} 8 s l) (pow_mono {i = 8 + s} {j = t} (omega arith)) in
    rw (div-eq_of_lt b)
none_there who s t l (inr h) = subst (λ z. who * 2 ^ z / 2 ^ t % 256 ≡ 0) (let e : s - 8 - t + 8 + t ≡ s = omega arith in e) (lifted who (s - 8 - t) t)

pub other_lane : (w who s t : ℕ) → who < 256 → (s + 8 ≤ t) ⊎ (t + 8 ≤ s) → bit_or w (who * 2 ^ s) / 2 ^ t % 256 ≡ w / 2 ^ t % 256
other_lane w who s t l h =
    rw (or_shr w (who * 2 ^ s) t, or_mod (w / 2 ^ t) (who * 2 ^ s / 2 ^ t) 8, none_there who s t l h) (or_zero_r (w / 2 ^ t % 256))

-- a cell of a word that is there
abbrev pub Proper : Cell → Type 0
Proper q = (q.formula < 256) × (q.bit < 19)

pub word_below : (q : Cell) → Proper q → word_of q < 1024
word_below q h = let l = h.0 in omega arith

-- places are told apart by formula and bit
same_word : (x y a b : ℕ) → x < 256 → y < 256 → a < 19 → b < 19 → x + 256 * ((a + 5) / 8 % 4) ≡ y + 256 * ((b + 5) / 8 % 4) → (x ≡ y) × ((a + 5) / 8 ≡ (b + 5) / 8)
same_word x y a b lx ly la lb e = (omega arith, omega arith)

far : (a b : ℕ) → (a + 5) / 8 ≡ (b + 5) / 8 → (a ≡ b → ⊥) → (8 * ((a + 5) % 8) + 8 ≤ 8 * ((b + 5) % 8)) ⊎ (8 * ((b + 5) % 8) + 8 ≤ 8 * ((a + 5) % 8))
far a b e n = elim (dec_lt ((a + 5) % 8) ((b + 5) % 8)) [
  | yes l ↦ inl (omega arith)
  | no h ↦ inr (elim (ℕ_discrete ((a + 5) % 8) ((b + 5) % 8)) [ yes z ↦ absurd (n (omega arith)) | no d ↦ omega arith ])
]

-- the words with a set put into the lane of a cell
abbrev pub put : List ℕ → Cell → ℕ → List ℕ
put ws q who = set ws (word_of q) (bit_or (get_or ws (word_of q) 0) (who * 2 ^ shift_of q))

module _ (ws : List ℕ) (q : Cell) (who : ℕ) (wide : length ws ≡ 1024) (pq : Proper q) (l : who < 256) where
  here : get_or (put ws q who) (word_of q) 0 ≡ bit_or (get_or ws (word_of q) 0) (who * 2 ^ shift_of q)
  here = get_or-set_same ws (word_of q) (bit_or (get_or ws (word_of q) 0) (who * 2 ^ shift_of q)) 0 (omega (arith, word_below q pq, wide))

  pub put_lane : lane (put ws q who) q ≡ bit_or (lane ws q) who
  unfolding lane
  put_lane = rw here (raised_lane (get_or ws (word_of q) 0) who (shift_of q) l)

  pub put_other : (r : Cell) → Proper r → (q ≡ r → ⊥) → lane (put ws q who) r ≡ lane ws r
  unfolding lane
  put_other r pr n = elim (ℕ_discrete (word_of r) (word_of q)) [
    | yes e ↦
        let z = same_word r.formula q.formula r.bit q.bit pr.0 pq.0 pr.1 pq.1 e in
        let d : q.bit ≡ r.bit → ⊥ = λ f. n (λ i. record { formula = sym z.0 i; bit = f i }) in
        ap (λ w. w / 2 ^ shift_of r % 256) (ap (λ k. get_or (put ws q who) k 0) e ∙ here)
        ∙ other_lane (get_or ws (word_of q) 0) who (shift_of q) (shift_of r) l (far q.bit r.bit (sym z.1) d)
        ∙ ap (λ k. get_or ws k 0 / 2 ^ shift_of r % 256) (sym e)
    | no d ↦ ap (λ w. w / 2 ^ shift_of r % 256) (get_or-set_other ws (word_of q) (word_of r) (bit_or (get_or ws (word_of q) 0) (who * 2 ^ shift_of q)) 0 d)
  ]

-- SETS OF RECORDS
-- record r is among the users of formula x; it is pending
abbrev pub Uses : List ℕ → (x r : ℕ) → Type 0
Uses u x r = true ≡ bit_at (get_or u (x * 4 + r / 64) 0) (r % 64)

abbrev pub Pending : List ℕ → ℕ → Type 0
Pending d r = true ≡ bit_at (get_or d (r / 64) 0) (r % 64)

-- each of the four words takes over that of the row
pub marked_at : (u d : List ℕ) (x k : ℕ) → length d ≡ 4 → k < 4 → get_or (marked u d x) k 0 ≡ bit_or (get_or d k 0) (get_or u (x * 4 + k) 0)
unfolding marked
marked_at u (a ∷ b ∷ c ∷ e ∷ []) x zero l h = ap (λ j. bit_or a (get_or u j 0)) (let z : x * 4 ≡ x * 4 + 0 = omega arith in z)
marked_at u (a ∷ b ∷ c ∷ e ∷ []) x (suc zero) l h = refl
marked_at u (a ∷ b ∷ c ∷ e ∷ []) x (suc (suc zero)) l h = refl
marked_at u (a ∷ b ∷ c ∷ e ∷ []) x (suc (suc (suc zero))) l h = refl
marked_at u (a ∷ b ∷ c ∷ e ∷ []) x (suc (suc (suc (suc k)))) l h = absurd (omega arith)
marked_at u [] x k l h = absurd (omega arith)
marked_at u (a ∷ []) x k l h = absurd (omega arith)
marked_at u (a ∷ b ∷ []) x k l h = absurd (omega arith)
marked_at u (a ∷ b ∷ c ∷ []) x k l h = absurd (omega arith)
marked_at u (a ∷ b ∷ c ∷ e ∷ f ∷ d) x k l h = absurd (omega arith)

pub marked_length : (u d : List ℕ) (x : ℕ) → length (marked u d x) ≡ length d
unfolding marked
marked_length u d x = simp length-set refl

module _ (u d : List ℕ) (x r : ℕ) (l : length d ≡ 4) (h : r < 256) where
  pub marked_stays : Pending d r → Pending (marked u d x) r
  marked_stays p = rw (marked_at u d x (r / 64) l (omega arith), or_in (get_or d (r / 64) 0) (get_or u (x * 4 + r / 64) 0) (r % 64)) (or_left _ _ p)

  pub marked_all : Uses u x r → Pending (marked u d x) r
  marked_all p = rw (marked_at u d x (r / 64) l (omega arith), or_in (get_or d (r / 64) 0) (get_or u (x * 4 + r / 64) 0) (r % 64)) (or_right (bit_at (get_or d (r / 64) 0) (r % 64)) _ p)
