-- The block of one principal's facts: its places are told apart by their numbers. Assumes nothing.
use Prim.Native.Nat.{ℕ, suc, ◌+◌, ◌*◌, ◌-◌, ◌/◌, ◌%◌, ◌<◌, ◌≤◌}
use native.Mathlib.Nat.{mod-lt, div-add-mod', mul-le-mul_right, suc-mul, mul-add-div_right, mul-add-mod_self_right, div-eq_of_lt, mod-eq_of_lt, div-lt_iff_lt-mul, add-zero}
use native.Mathlib.Omega.{arith}
use native.Mathlib.Decide.{dec_lt}
use mathlib.Core.Path.{◌≡◌, ap, ◌∙◌}
use mathlib.Core.Logic.{◌⊎◌, inl, inr}
use borrow.Author.Tests.{lt-ltb, le-ltb}
use Rattle.facts.specs.declared.Cell.{Cell}
use Rattle.facts.specs.Block.{mode_of, bit_of, place_in, cell_at}

-- a bit of a word, with p principals
abbrev pub IsBit : ℕ → ℕ → Type 0
IsBit p b = (b < 3 + p) ⊎ ((11 ≤ b) × (b < 11 + p))

-- a place of the block of n formulas and p principals
abbrev pub Fit : ℕ → ℕ → Cell → Type 0
Fit n p q = (q.formula < n) × IsBit p q.bit

module _ (p : ℕ) (few : p ≤ 8) where
  -- bits and the numbers of modes
  mode_below : (b : ℕ) → IsBit p b → mode_of p b < 3 + 2 * p
  unfolding mode_of
  mode_below b (inl l) = rw (lt-ltb b 11 (omega arith)) (omega arith)
  mode_below b (inr l) = let a = l.0 in let h = l.1 in rw (le-ltb b 11 a) (omega arith)

  bit_mode : (b : ℕ) → IsBit p b → bit_of p (mode_of p b) ≡ b
  unfolding mode_of bit_of
  bit_mode b (inl l) = rw (lt-ltb b 11 (omega arith), lt-ltb b (3 + p) l)
  bit_mode b (inr l) = let a = l.0 in rw (le-ltb b 11 a, le-ltb (b - 11 + (3 + p)) (3 + p) (omega arith)) (omega arith)

  mode_bit : (m : ℕ) → mode_of p (bit_of p m) ≡ m
  unfolding mode_of bit_of
  mode_bit m = elim (dec_lt m (3 + p)) [
    | yes l ↦ rw (lt-ltb m (3 + p) l, lt-ltb m 11 (omega arith))
    | no h ↦ rw (le-ltb m (3 + p) (omega arith), le-ltb (m - (3 + p) + 11) 11 (omega arith)) (omega arith)
  ]

  pub is_bit : (m : ℕ) → m < 3 + 2 * p → IsBit p (bit_of p m)
  unfolding bit_of
  is_bit m l = elim (dec_lt m (3 + p)) [
    | yes h ↦ rw (lt-ltb m (3 + p) h) (inl h)
    | no h ↦ rw (le-ltb m (3 + p) (omega arith)) (inr (omega arith, omega arith))
  ]

  -- places and their numbers
  pub fact_place : (q : Cell) → IsBit p q.bit → cell_at p (place_in p q) ≡ q
  unfolding place_in cell_at
  fact_place q b =
      let w : 0 < 3 + 2 * p = omega arith in
      let l = mode_below q.bit b in
      let x : (q.formula * (3 + 2 * p) + mode_of p q.bit) / (3 + 2 * p) ≡ q.formula =
      mul-add-div_right w q.formula (mode_of p q.bit) ∙ ap (λ k. q.formula + k) (div-eq_of_lt l) ∙ add-zero q.formula in
      let y : bit_of p ((q.formula * (3 + 2 * p) + mode_of p q.bit) % (3 + 2 * p)) ≡ q.bit =
      ap (bit_of p) (mul-add-mod_self_right q.formula (3 + 2 * p) (mode_of p q.bit) ∙ mod-eq_of_lt l) ∙ bit_mode q.bit b in
      λ i. record { formula = x i; bit = y i }

  pub place_fact : (k : ℕ) → place_in p (cell_at p k) ≡ k
  unfolding place_in cell_at
  place_fact k = rw (mode_bit (k % (3 + 2 * p))) (div-add-mod' k (3 + 2 * p))

  module _ (n : ℕ) where
    pub place_below : (q : Cell) → Fit n p q → place_in p q < n * (3 + 2 * p)
    unfolding place_in
    place_below q f =
        let l = f.0 in
        omega (arith, mode_below q.bit f.1, mul-le-mul_right {m = suc q.formula} {n = n} (3 + 2 * p) l, suc-mul q.formula (3 + 2 * p))

    pub fact_fits : (k : ℕ) → k < n * (3 + 2 * p) → Fit n p (cell_at p k)
    unfolding cell_at
    fact_fits k l =
        let w : 0 < 3 + 2 * p = omega arith in
        ((div-lt_iff_lt-mul w).1 l, is_bit (k % (3 + 2 * p)) (mod-lt k w))
