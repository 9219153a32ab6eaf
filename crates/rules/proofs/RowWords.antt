-- A row word by word: what its functions answer, by the tests that they make. Assumes nothing.
use Prim.Native.Nat.{ℕ, ◌+◌, ◌-◌, ◌*◌, ◌/◌, ◌%◌, ◌^◌, ◌<◌}
use native.Mathlib.Nat.{div-eq_of_lt, lt_of_lt_of_le}
use native.Mathlib.Omega.{arith}
use native.Mathlib.Decide.{dec_lt}
use mathlib.Core.Path.{◌≡◌, refl, sym, ap, ◌∙◌, subst}
use mathlib.Core.List.{List}
use mathlib.Core.Bool.{true, false}
use mathlib.Core.Logic.{⊎_elim, inl, inr}
use lib.Dec.{eqb}
use lib.Pow.{shr-shr, shr_lt, pow_mono}
use lib.Count.{count_trailing_zeros}
use Rattle.facts.specs.Facts.{bit_at}
use Rattle.lanes.proofs.Zeros.{zeros_below, zeros_fit, zeros_set}
use Rattle.rules.specs.Rules.{word_in, row_has, IsNext}

-- a word that has no bit above i has none at j
no_bit : (w i j : ℕ) → i < j → w / 2 ^ i < 2 → bit_at w j ≡ false
unfolding bit_at
no_bit w i j l h =
    let d : i + (j - i) ≡ j = omega arith in
    let z : w / 2 ^ i / 2 ^ (j - i) ≡ 0 = div-eq_of_lt (lt_of_lt_of_le h (pow_mono {i = 1} {j = j - i} (omega arith))) in
    rw (← d, ← (shr-shr w i (j - i)), z)

module _ (rows : List ℕ) (y x : ℕ) where
  pub row_bit : {w : ℕ} → w ≡ word_in rows y x → eqb (w / 2 ^ (x % 64) % 2) 1 ≡ row_has rows y x
  unfolding row_has bit_at
  row_bit e = rw e

  module _ {w : ℕ} (e : w ≡ word_in rows y x) (l : x < 256) where
    abbrev rest : ℕ
    rest = w / 2 ^ (x % 64) / 2

    -- the rest of the word has no bit
    pub next_word : rest ≡ 0 → IsNext rows y x (x / 64 * 64 + 64)
    unfolding row_has
    next_word h = (
      omega arith,
      omega arith,
      λ j a b.
          let s : j / 64 ≡ x / 64 = omega arith in
          rw (s, ← e) (no_bit w (x % 64) (j % 64) (omega arith) (omega arith)),
      inr refl,
    )

    -- its lowest bit
    module _ (f : w < 2 ^ 64) (h : rest ≡ 0 → ⊥) where
      joined : w / 2 ^ (x % 64 + 1) ≡ rest
      joined = sym (shr-shr w (x % 64) 1)

      small : rest < 2 ^ (63 - x % 64)
      small =
          let s = x % 64 in
          let u : w < 2 ^ ((63 - s) + (s + 1)) = subst (λ z. w < 2 ^ z) (let d : 64 ≡ (63 - s) + (s + 1) = omega arith in d) f in
          subst (λ z. z < 2 ^ (63 - s)) joined (shr_lt (63 - s) (s + 1) u)

      pub next_near : count_trailing_zeros 64 rest < 63 - x % 64
      next_near = zeros_fit 64 (63 - x % 64) rest (omega arith) small

      -- bit i of the rest is that of the record i + 1 behind x
      same_bit : (j i : ℕ) → j ≡ x + 1 + i → i < 63 - x % 64 → row_has rows y j ≡ eqb (rest / 2 ^ i % 2) 1
      unfolding row_has bit_at
      same_bit j i k l =
          let d : j / 64 ≡ x / 64 = omega arith in
          let g : j % 64 ≡ x % 64 + 1 + i = omega arith in
          rw (d, ← e, g, ← (shr-shr w (x % 64 + 1) i), joined)

      pub next_bit : IsNext rows y x (x + 1 + count_trailing_zeros 64 rest)
      next_bit =
          let t = next_near in
          let v = small in (
            omega arith,
            omega arith,
            λ j a b. same_bit j (j - x - 1) (omega arith) (omega arith) ∙ ap (λ d. eqb d 1) (zeros_below 64 rest (j - x - 1) (omega arith)),
            inl (same_bit _ (count_trailing_zeros 64 rest) refl t ∙ ap (λ d. eqb d 1) (zeros_set 64 rest (omega arith) (lt_of_lt_of_le v (pow_mono {i = 63 - x % 64} {j = 64} (omega arith))))),
          )

-- THERE IS ONE PLACE to look next
pub next_once : (rows : List ℕ) (y x a b : ℕ) → IsNext rows y x a → IsNext rows y x b → a ≡ b
next_once rows y x a b p q =
    elim (dec_lt a b) [
      | yes l ↦ absurd (apart a b p q l)
      | no l ↦ elim (dec_lt b a) [
        | yes m ↦ absurd (apart b a q p m)
        | no m ↦ omega arith
      ]
    ]
  where
    apart : (a b : ℕ) → IsNext rows y x a → IsNext rows y x b → a < b → ⊥
    apart a b p q l =
        ⊎_elim (λ e. (let z : true ≡ false = sym e ∙ q.2 a p.0 l in let o : ◌≡◌ {A = ℕ} 0 1 = cc in omega arith)) (λ e. let m = q.1 in omega arith) p.3
