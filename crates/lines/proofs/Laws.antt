-- A line is what was put from the front of the buffer on, part by part. Assumes nothing.
use Prim.Native.Nat.{ℕ, ◌-◌, ◌≤◌}
use native.Mathlib.Omega.{arith}
use mathlib.Core.Path.{◌≡◌, refl, sym, ap, ◌∙◌}
use mathlib.Core.Bool.{Bool, false}
use lib.Dec.{eqb}
use mathlib.Core.List.{List, [], ◌∷◌, ◌++◌, append_assoc}
use lib.ListN.{length, get_or, take}
use borrow.Author.Tests.{ne_eqb}
use Rattle.logic.specs.Text.{ascii, decimal}
use Rattle.logic.specs.Reason.{placed}
use Rattle.logic.specs.Record.{word}
use Rattle.logic.specs.Step.{numbers_in, step_at}
use Rattle.logic.specs.Explained.{premises_text, why}
use Rattle.digits.proofs.Puts.{Writes, writes_then, writes_as}

-- the letter before a principal's name is put with the words before it
pub writes_name : {o p q r s n : List ℕ} {at a b c : ℕ} → Writes o at s p a → Writes p a (ascii ": P") q b → Writes q b n r c
    → Writes o at (s ++ ascii ": " ++ (ascii "P" ++ n)) r c
writes_name {s = s} {n = n} x y z =
    writes_as (append_assoc s (ascii ": P") n ∙ sym (append_assoc s (ascii ": ") (ascii "P" ++ n))) (writes_then (writes_then x y) z)

-- PREMISES
module _ (n i j : ℕ) where
  pub no_premise : n ≡ 0 → [] ≡ premises_text (take n (i ∷ j ∷ []))
  unfolding premises_text
  no_premise e = rw e refl

  pub one_premise : n ≡ 1 → decimal i ≡ premises_text (take n (i ∷ j ∷ []))
  unfolding premises_text
  one_premise e = rw e refl

  pub two_premises : (n ≡ 0 → ⊥) → (n ≡ 1 → ⊥) → n ≤ 2 → decimal i ++ ascii " and " ++ decimal j ≡ premises_text (take n (i ∷ j ∷ []))
  unfolding premises_text
  two_premises a b l = rw (let e : n ≡ 2 = omega arith in e) refl

-- THE PLACE OF A REFUSAL
pub some_place : (c : List ℕ) (i : ℕ) {s : List ℕ} {b : Bool} → s ≡ c → b ≡ eqb (length s) 0 → b ≡ false → c ++ ascii " " ++ decimal i ++ ascii ": " ≡ placed c i
some_place c i e g h = rw (← e, ← g, h) refl

-- WHY A STEP HOLDS
module _ (s : List ℕ) {k : ℕ} (e : k ≡ get_or s 0 0) where
  pub why_assumption : k ≡ 64 → ascii "assumption " ++ decimal (word s 8) ≡ why (step_at s)
  unfolding why step_at numbers_in
  why_assumption g = rw (← e, g) refl

  pub why_message : k ≡ 65 → ascii "message " ++ decimal (word s 8) ≡ why (step_at s)
  unfolding why step_at numbers_in
  why_message g = rw (← e, g) refl

  pub why_rule : (k ≡ 64 → ⊥) → (k ≡ 65 → ⊥) → ascii "rule " ++ decimal (k - 65) ++ ascii " from " ++ premises_text (step_at s).numbers ≡ why (step_at s)
  unfolding why step_at
  why_rule g h = rw (← e, ne_eqb k 64 g, ne_eqb k 65 h) refl

  pub numbers_are : {n : ℕ} → n ≡ numbers_in k → take n (word s 8 ∷ word s 10 ∷ []) ≡ (step_at s).numbers
  unfolding step_at
  numbers_are h = ap (λ (m : ℕ). take m (word s 8 ∷ word s 10 ∷ [])) (h ∙ ap numbers_in e)
