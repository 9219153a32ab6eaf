-- Texts put into a list one behind the other, and numbers in decimal. Assumes nothing.
use Prim.Native.Nat.{ℕ, zero, suc, ◌+◌, ◌-◌, ◌*◌, ◌/◌, ◌%◌, ◌<◌, ◌≤◌, min}
use native.Mathlib.Nat.{not-suc-le-zero}
use native.Mathlib.Decide.{dec_lt}
use native.Mathlib.Numerals.{add-one}
use native.Mathlib.Omega.{arith}
use mathlib.Core.Path.{◌≡◌, refl, sym, ap, ◌∙◌}
use mathlib.Core.List.{List, [], ◌∷◌, ◌++◌}
use lib.ListN.{length, get_or, set, drop, drop_of_length-le, length-append, length-set}
use lib.Seq.{sets, set_out, drop-cons}
use borrow.Author.Tests.{lt-ltb, le-ltb}
use Rattle.logic.specs.Text.{digits, decimal}

-- a text behind another
pub sets_append : (a b l : List ℕ) (i : ℕ) → sets l i (a ++ b) ≡ sets (sets l i a) (i + length a) b
sets_append [] b l i = let e : i + 0 ≡ i = omega arith in rw e
sets_append (x ∷ a) b l i =
    let e : suc i + length a ≡ i + suc (length a) = omega arith in
    sets_append a b (set l i x) (suc i) ∙ ap (λ (k : ℕ). sets (sets (set l i x) (suc i) a) k b) e

-- past the end nothing is put
pub sets_out : (t l : List ℕ) (i : ℕ) → length l ≤ i → sets l i t ≡ l
sets_out [] l i h = refl
sets_out (x ∷ t) l i h = sets_out t (set l i x) (suc i) (omega (arith, length-set l i x)) ∙ set_out l i x h

-- A text, byte by byte: what is still to be put leads to the same list. It ends with the text or with the list.
module _ (o z text : List ℕ) (at i : ℕ) where
  pub put_more : i < length text → sets o (at + i) (drop i text) ≡ z → sets (set o (at + i) (get_or text i 0)) (at + (i + 1)) (drop (i + 1) text) ≡ z
  put_more l h =
      let e : at + (i + 1) ≡ suc (at + i) = omega arith in
      rw (e, add-one i) (rw (drop-cons text i 0 l) at h)

  pub put_end : {n : ℕ} → n ≡ min (length text) (length o - at) → n ≤ i → sets o (at + i) (drop i text) ≡ z → o ≡ z
  put_end {n} e l h =
      elim (dec_lt i (length text)) [
        | yes b ↦ rw (sets_out (drop i text) o (at + i) (omega arith)) at h
        | no b ↦ rw (drop_of_length-le text {i = i} (omega arith)) at h
      ]

-- Decimal: any bound on the digits that is large enough gives the same.
enough : (d e n : ℕ) → n < d → n < e → digits d n ≡ digits e n
unfolding digits
enough zero e n l m = absurd (not-suc-le-zero l)
enough (suc d) zero n l m = absurd (not-suc-le-zero m)
enough (suc d) (suc e) n l m =
    elim (dec_lt n 10) [
      | yes b ↦ rw (lt-ltb n 10 b)
      | no b ↦ rw (le-ltb n 10 (omega arith), enough d e (n / 10) (omega arith) (omega arith))
    ]

pub decimal_one : (n : ℕ) → n < 10 → decimal n ≡ (48 + n) ∷ []
unfolding decimal digits
decimal_one n l = rw (lt-ltb n 10 l)

pub decimal_more : (n : ℕ) → 10 ≤ n → decimal n ≡ decimal (n / 10) ++ ((48 + n % 10) ∷ [])
unfolding decimal digits
decimal_more n l = rw (le-ltb n 10 l, enough n (suc (n / 10)) (n / 10) (omega arith) (omega arith))

-- numbers with at most d + 1 digits
abbrev pub limit : ℕ → ℕ
limit zero = 10
limit (suc d) = limit d * 10

pub within : (d n : ℕ) → n < limit d → (1 ≤ length (decimal n)) × (length (decimal n) ≤ suc d)
within zero n l = rw (decimal_one n l) (omega arith, omega arith)
within (suc d) n l =
    elim (dec_lt n 10) [
      | yes b ↦ rw (decimal_one n b) (omega arith, omega arith)
      | no b ↦
          let h = within d (n / 10) (omega arith) in
          rw (decimal_more n (omega arith), length-append) (omega arith, omega arith)
    ]

-- a name has one digit to five, a number of 64 bits at most twenty
pub five_digits : (n : ℕ) → n < 65536 → (1 ≤ length (decimal n)) × (length (decimal n) ≤ 5)
five_digits n l = within 4 n (omega arith)

pub twenty_digits : (n : ℕ) {k : ℕ} → n < 18446744073709551616 → k ≡ length (decimal n) → k ≤ 20
twenty_digits n l e = omega (arith, (within 19 n (omega arith)).1)

-- the last digit stands behind those of the tenth
module _ (o : List ℕ) (at n : ℕ) where
  pub put_digit : {q : List ℕ} → n < 10 → q ≡ set o (at + 0) (48 + n) → q ≡ sets o at (decimal n)
  put_digit l h = let e : at + 0 ≡ at = omega arith in h ∙ rw (e, decimal_one n l)

  module _ {p : List ℕ} {k : ℕ} (l : 10 ≤ n) (h : p ≡ sets o at (decimal (n / 10))) (g : k ≡ length (decimal (n / 10))) where
    pub put_last : {q : List ℕ} → q ≡ set p (at + k) (48 + n % 10) → q ≡ sets o at (decimal n)
    put_last e = e ∙ rw (h, g, decimal_more n l) (sym (sets_append (decimal (n / 10)) ((48 + n % 10) ∷ []) o at))

    pub one_more_lem : k + 1 ≡ length (decimal n)
    one_more_lem = rw (decimal_more n l, length-append, g)
