-- A pending record is taken: the others that are pending stay so. Assumes nothing.
use Prim.Native.Nat.{ℕ, zero, suc, ◌+◌, ◌-◌, ◌*◌, ◌/◌, ◌%◌, ◌^◌, ◌<◌, ◌≤◌}
use native.Mathlib.Nat.{div-eq_of_lt, pow-suc}
use native.Mathlib.Omega.{arith}
use native.Mathlib.Decide.{dec_lt, ℕ_discrete}
use mathlib.Core.Path.{◌≡◌, refl, sym, ap, ◌∙◌}
use mathlib.Core.List.{List}
use lib.ListN.{length, get_or, length-set}
use lib.Seq.{get_or-set_same, get_or-set_other}
use lib.Pow.{shr-shr}
use borrow.Author.Tests.{eqb-true}
use Rattle.facts.specs.Facts.{bit_at}
use Rattle.lanes.specs.Lanes.{State}
use Rattle.lanes.proofs.Fires.{Wide}
use Rattle.rules.specs.Close.{Pending, taken, without}

-- a word with a bit is no less than that bit
bit_le : (w i : ℕ) → w / 2 ^ i % 2 ≡ 1 → 2 ^ i ≤ w
bit_le w i e = elim (dec_lt w (2 ^ i)) [
  | yes l ↦ absurd (let z : w / 2 ^ i ≡ 0 = div-eq_of_lt l in let y : (w / 2 ^ i) % 2 ≡ 0 = ap (λ x. x % 2) z in omega arith)
  | no h ↦ omega arith
]

-- bit j + 1 of a word is bit j of its half
half : (w j : ℕ) → w / 2 ^ suc j ≡ w / 2 / 2 ^ j
half w j = ap (λ x. w / 2 ^ x) (let e : suc j ≡ 1 + j = omega arith in e) ∙ sym (shr-shr w 1 j)

whole : (w : ℕ) → w / 2 ^ 0 ≡ w
whole w = let e : w / 1 ≡ w = omega arith in e

twice : (w m : ℕ) → m ≤ w / 2 → ((w - m * 2) / 2 ≡ w / 2 - m) × ((w - m * 2) % 2 ≡ w % 2)
twice w m l = (omega arith, omega arith)

next_bit : (w i : ℕ) → w / 2 ^ suc i % 2 ≡ 1 → w / 2 / 2 ^ i % 2 ≡ 1
next_bit w i e = ap (λ x. x % 2) (sym (half w i)) ∙ e

-- a word less one of its bits has the other bits
other_bits : (w i j : ℕ) → (i ≡ j → ⊥) → w / 2 ^ i % 2 ≡ 1 → (w - 2 ^ i) / 2 ^ j % 2 ≡ w / 2 ^ j % 2
other_bits w zero zero n e = absurd (n refl)
other_bits w zero (suc j) n e =
    let d : (w - 1) / 2 ≡ w / 2 = omega arith in
    rw (half (w - 1) j, half w j, d)
other_bits w (suc i) zero n e = rw (whole (w - 2 ^ suc i), whole w, pow-suc 2 i) (twice w (2 ^ i) (bit_le (w / 2) i (next_bit w i e))).1
other_bits w (suc i) (suc j) n e =
    rw (half (w - 2 ^ suc i) j, half w j, pow-suc 2 i, (twice w (2 ^ i) (bit_le (w / 2) i (next_bit w i e))).0)
    (other_bits (w / 2) i j (λ e. n (ap suc e)) (next_bit w i e))

module _ (d : List ℕ) (r : ℕ) (wide : length d ≡ 4) (l : r < 256) (p : Pending d r) where
  digit_one : get_or d (r / 64) 0 / 2 ^ (r % 64) % 2 ≡ 1
  unfolding bit_at
  digit_one = eqb-true (get_or d (r / 64) 0 / 2 ^ (r % 64) % 2) 1 (sym p)

  -- what is taken away is there
  pub taken_fits : 2 ^ (r % 64) ≤ get_or d (r / 64) 0
  taken_fits = bit_le (get_or d (r / 64) 0) (r % 64) digit_one

  pub taken_stays : (j : ℕ) → j < 256 → (j ≡ r → ⊥) → Pending d j → Pending (taken d r) j
  unfolding bit_at
  taken_stays j m n h = elim (ℕ_discrete (j / 64) (r / 64)) [
    | yes e ↦
        let w = get_or d (r / 64) 0 in
        let f : w / 2 ^ (j % 64) % 2 ≡ 1 = ap (λ x. get_or d x 0 / 2 ^ (j % 64) % 2) (sym e) ∙ eqb-true (get_or d (j / 64) 0 / 2 ^ (j % 64) % 2) 1 (sym h) in
        rw (e, get_or-set_same d (r / 64) (w - 2 ^ (r % 64)) 0 (omega arith), other_bits w (r % 64) (j % 64) (λ z. n (omega arith)) digit_one, f)
    | no z ↦ rw (get_or-set_other d (r / 64) (j / 64) (get_or d (r / 64) 0 - 2 ^ (r % 64)) 0 z) h
  ]

pub without_wide : (r : ℕ) (s : State) → Wide s → Wide (without r s)
without_wide r s w = record { words = w.words; pending = simp length-set w.pending }
