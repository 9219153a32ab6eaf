-- The lowest bit of a word, and the word without it. Assumes nothing.
use Prim.Native.Nat.{ℕ, zero, suc, ◌+◌, ◌-◌, ◌/◌, ◌%◌, ◌^◌, ◌<◌}
use native.Mathlib.Omega.{arith}
use native.Mathlib.Decide.{dec_lt}
use mathlib.Core.Path.{◌≡◌, refl, sym, ap, ◌∙◌}
use mathlib.Core.Bool.{Bool, true, false, ◌&&◌}
use lib.Pow.{shr-shr}
use lib.Bits.{bit_and}
use lib.Count.{count_trailing_zeros}
use borrow.Author.Tests.{eqb-true, eqb-false}
use Rattle.facts.specs.Facts.{bit_at}
use Rattle.lanes.proofs.Sets.{and_in}
use Rattle.lanes.proofs.Zeros.{zeros_below, zeros_fit, zeros_set}
use Rattle.stamps.specs.Stamps.{IsLowest}
use Rattle.stamps.proofs.Bits.{shifted_in}

-- by the zeros below it
pub low_law : (w : ℕ) → 0 < w → w < 18446744073709551616 → (count_trailing_zeros 64 w < 64) × IsLowest w (count_trailing_zeros 64 w)
unfolding bit_at
low_law w h l = (zeros_fit 64 64 w h l, (rw (zeros_set 64 w h l), λ j m. rw (zeros_below 64 w j m)))

-- a number less 1, from a bit on below which there is none
less_one : (b w : ℕ) → ((j : ℕ) → j < b → bit_at w j ≡ false) → (w - 1) / 2 ^ b ≡ w / 2 ^ b - 1
unfolding bit_at
less_one zero w none = let h : (w - 1) / 1 ≡ w / 1 - 1 = omega arith in h
less_one (suc b) w none =
    let d : 1 + b ≡ suc b = omega arith in
    let e : w / 1 % 2 ≡ 1 → ⊥ = eqb-false (w / 1 % 2) 1 (none 0 (omega arith)) in
    let f : (w - 1) / 2 ≡ w / 2 - 1 = omega arith in
    let g = less_one b (w / 2) (λ j l. shifted_in w 1 j ∙ none (1 + j) (omega arith)) in
    rw (← d, ← (shr-shr (w - 1) 1 b), ← (shr-shr w 1 b), f) g

and_same : (x : Bool) → (x && x) ≡ x
and_same true = refl
and_same false = refl

-- `w & (w - 1)` has all bits of w but the lowest
module _ (w b : ℕ) (lowest : IsLowest w b) where
  abbrev without : ℕ
  without = bit_and w (w - 1)

  odd : w / 2 ^ b % 2 ≡ 1
  unfolding bit_at
  odd = eqb-true (w / 2 ^ b % 2) 1 lowest.0

  at : bit_at (w - 1) b ≡ false
  unfolding bit_at
  at =
      let o = odd in
      let z : (w / 2 ^ b - 1) % 2 ≡ 0 = omega arith in
      rw (less_one b w lowest.1, z)

  above : (j : ℕ) → b < j → bit_at (w - 1) j ≡ bit_at w j
  above j l =
      let i = j - b - 1 in
      let d : b + (1 + i) ≡ j = omega arith in
      let from : (v : ℕ) → bit_at (v / 2 ^ b / 2 ^ 1) i ≡ bit_at v j = λ v.
      shifted_in (v / 2 ^ b) 1 i ∙ shifted_in v b (1 + i) ∙ ap (bit_at v) d in
      let o = odd in
      let h : (w / 2 ^ b - 1) / 2 ≡ w / 2 ^ b / 2 = omega arith in
      sym (from (w - 1)) ∙ ap (λ x. bit_at x i) (ap (λ x. x / 2) (less_one b w lowest.1) ∙ h) ∙ from w

  pub lowest_gone : bit_at without b ≡ false
  lowest_gone = and_in w (w - 1) b ∙ ap (λ x. x && bit_at (w - 1) b) lowest.0 ∙ at

  pub others_stay : (j : ℕ) → (j ≡ b → ⊥) → bit_at without j ≡ bit_at w j
  others_stay j n = and_in w (w - 1) j ∙ elim (dec_lt j b) [
    | yes l ↦ rw (lowest.1 j l)
    | no l ↦ ap (λ x. bit_at w j && x) (above j (omega arith)) ∙ and_same (bit_at w j)
  ]
