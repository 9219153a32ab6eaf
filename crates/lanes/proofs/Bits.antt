-- A word with more bits: they are there, the others stay, and no other comes. Rows of four words with a bit for each record. Assumes nothing.
use Prim.Native.Nat.{ℕ, suc, ◌+◌, ◌-◌, ◌*◌, ◌/◌, ◌%◌, ◌^◌, ◌<◌}
use native.Mathlib.Nat.{div_self, div-eq_of_lt, mul-mod_left, lt_of_lt_of_le}
use native.Mathlib.Omega.{arith}
use native.Mathlib.Decide.{dec_lt, ℕ_discrete}
use mathlib.Core.Path.{◌≡◌, refl, ◌∙◌, subst}
use mathlib.Core.Logic.{◌⊎◌, inl, inr, ⊎_elim}
use mathlib.Core.List.{List}
use mathlib.Core.Bool.{true, false}
use lib.ListN.{length, get_or, length-set}
use lib.Seq.{get_or-set_same, get_or-set_other, set_out}
use lib.Bits.{bit_or}
use lib.Pow.{pow_pos, pow-add, pow_mono, shl-shr}
use Rattle.facts.specs.Facts.{bit_at}
use Rattle.lanes.specs.Lanes.{or_at}
use Rattle.lanes.proofs.Sets.{Uses, apart, or_in, or_left, or_right, or_either}

-- A POWER OF TWO has just one bit
pub own_bit : (c : ℕ) → true ≡ bit_at (2 ^ c) c
unfolding bit_at
own_bit c = rw (div_self (pow_pos c))

above : (c e : ℕ) → c < e → bit_at (2 ^ c) e ≡ false
unfolding bit_at
above c e l =
    let h : 2 ^ c < 2 ^ e = lt_of_lt_of_le (less c) (pow_mono {i = suc c} {j = e} (omega arith)) in
    rw (div-eq_of_lt h)
  where
    less : (c : ℕ) → 2 ^ c < 2 ^ suc c
    less c = let p = pow_pos c in let q = pow-add 2 c 1 in omega arith

below : (c e : ℕ) → e < c → bit_at (2 ^ c) e ≡ false
unfolding bit_at
below c e l =
    subst (λ z. bit_at (2 ^ z) e ≡ false) (let h : (c - e - 1) + 1 + e ≡ c = omega arith in h)
    (rw (pow-add 2 ((c - e - 1) + 1) e, shl-shr (2 ^ ((c - e - 1) + 1)) e, pow-add 2 (c - e - 1) 1, mul-mod_left (2 ^ (c - e - 1)) 2))

one_bit : (c e : ℕ) → true ≡ bit_at (2 ^ c) e → c ≡ e
one_bit c e h = elim (ℕ_discrete c e) [
  | yes d ↦ d
  | no d ↦ elim (dec_lt c e) [
    | yes l ↦ apart (h ∙ above c e l)
    | no l ↦ apart (h ∙ below c e (omega arith))
  ]
]

-- A WORD with more bits
module _ (u : List ℕ) (i w : ℕ) where
  pub put_in : (c : ℕ) → i < length u → true ≡ bit_at w c → true ≡ bit_at (get_or (or_at u i w) i 0) c
  put_in c l h = rw (get_or-set_same u i (bit_or (get_or u i 0) w) 0 l, or_in (get_or u i 0) w c) (or_right (bit_at (get_or u i 0) c) (bit_at w c) h)

  pub stays : (j c : ℕ) → true ≡ bit_at (get_or u j 0) c → true ≡ bit_at (get_or (or_at u i w) j 0) c
  stays j c h = elim (ℕ_discrete j i) [
    | yes e ↦ elim (dec_lt i (length u)) [
      | yes l ↦
          let g : true ≡ bit_at (get_or u i 0) c = subst (λ k. true ≡ bit_at (get_or u k 0) c) e h in
          rw (e, get_or-set_same u i (bit_or (get_or u i 0) w) 0 l, or_in (get_or u i 0) w c) (or_left (bit_at (get_or u i 0) c) (bit_at w c) g)
      | no n ↦ rw (set_out u i (bit_or (get_or u i 0) w) (omega arith)) h
    ]
    | no d ↦ rw (get_or-set_other u i j (bit_or (get_or u i 0) w) 0 d) h
  ]

  pub only : (j c : ℕ) → i < length u → true ≡ bit_at (get_or (or_at u i w) j 0) c → (true ≡ bit_at (get_or u j 0) c) ⊎ ((j ≡ i) × (true ≡ bit_at w c))
  only j c l h = elim (ℕ_discrete j i) [
    | yes e ↦
        let g : true ≡ bit_at (get_or (or_at u i w) i 0) c = subst (λ k. true ≡ bit_at (get_or (or_at u i w) k 0) c) e h in
        let b = rw (get_or-set_same u i (bit_or (get_or u i 0) w) 0 l, or_in (get_or u i 0) w c) at g in
        ⊎_elim (λ p. inl (rw e p)) (λ q. inr (e, q)) (or_either (bit_at (get_or u i 0) c) (bit_at w c) b)
    | no d ↦ inl (rw (get_or-set_other u i j (bit_or (get_or u i 0) w) 0 d) at h)
  ]

-- ROWS. v is as long as u and has its bits
pub record Grows (u v : List ℕ) : Type 0 where
  pub long : length v ≡ length u
  pub stay : (y x : ℕ) → Uses u y x → Uses v y x

pub grows_same : (u : List ℕ) → Grows u u
grows_same u = record { long = refl; stay = λ y x h. h }

pub grows_then : (u v w : List ℕ) → Grows u v → Grows v w → Grows u w
grows_then u v w g h = record { long = h.long ∙ g.long; stay = λ y x a. h.stay y x (g.stay y x a) }

-- more bits in one word
pub or_grows : (u : List ℕ) (i w : ℕ) → Grows u (or_at u i w)
or_grows u i w = record { long = length-set u i (bit_or (get_or u i 0) w); stay = λ y x h. stays u i w (y * 4 + x / 64) (x % 64) h }

-- one bit more: x in row y
module _ (u : List ℕ) (y x : ℕ) (inside : y * 4 + x / 64 < length u) where
  abbrev more : List ℕ
  more = or_at u (y * 4 + x / 64) (2 ^ (x % 64))

  pub bit_in_lem : Uses more y x
  bit_in_lem = put_in u (y * 4 + x / 64) (2 ^ (x % 64)) (x % 64) inside (own_bit (x % 64))

  pub bit_alone : x < 256 → (a b : ℕ) → b < 256 → Uses more a b → Uses u a b ⊎ ((a ≡ y) × (b ≡ x))
  bit_alone l a b k h =
      ⊎_elim inl (λ q. let e = q.0 in let c = one_bit (x % 64) (b % 64) q.1 in inr (omega arith, omega arith))
      (only u (y * 4 + x / 64) (2 ^ (x % 64)) (a * 4 + b / 64) (b % 64) inside h)
