-- The table of clear formulas says of each formula of a book whether its tree is clear. Assumes nothing.
use Prim.Native.Nat.{ℕ, zero, suc, ◌<◌, ◌≤◌}
use native.Mathlib.Decide.{ℕ_discrete}
use native.Mathlib.Omega.{arith}
use mathlib.Core.Path.{◌≡◌, refl, ap, ◌∙◌}
use mathlib.Core.List.{List}
use mathlib.Core.Bool.{Bool, true, false, cond}
use lib.ListN.{length, length-set}
use lib.Seq.{get_or-set_same, get_or-set_other}
use lib.Dec.{eqb}
use Rattle.logic.specs.declared.Record.{Record}
use Rattle.logic.specs.Formula.{clear, record_of, tree_of}
use Rattle.logic.proofs.Clear.{clear_by, clear_from}
use Rattle.logic.proofs.Formulas.{Formulas}
use Rattle.claims.specs.Follow.{is_clear_in, clears_up_to}

clears_length : (look : ℕ → Record) (t : List ℕ) (n : ℕ) → length (clears_up_to look t n) ≡ length t
unfolding clears_up_to
clears_length look t zero = refl
clears_length look t (suc n) = simp length-set (clears_length look t n)

bit_back : (b : Bool) → eqb (cond b 1 0) 1 ≡ b
bit_back true = refl
bit_back false = refl

module _ (fs : List Record) (ok : Formulas fs) where
  pub clears_law : (look : ℕ → Record) → ((x : ℕ) → x < length fs → look x ≡ record_of fs x) → (t : List ℕ) (n : ℕ)
      → n ≤ length fs → n ≤ length t → (x : ℕ) → x < n → is_clear_in (clears_up_to look t n) x ≡ clear (tree_of fs x)
  unfolding clears_up_to
  clears_law look e t zero l m x h = absurd (omega arith)
  clears_law look e t (suc n) l m x h =
      let past = clears_up_to look t n in
      let r = record_of fs n in
      let b : n < length fs = omega arith in
      let g = ok.earlier n b in
      let near : (y : ℕ) → y < n → is_clear_in past y ≡ clear (tree_of fs y) = clears_law look e t n (omega arith) (omega arith) in
      let here : clear_by (is_clear_in past) (look n) ≡ clear (tree_of fs n) =
      ap (clear_by (is_clear_in past)) (e n b)
      ∙ clear_from fs ok n b (is_clear_in past)
      ((λ u. near r.first (g.0 u)), (λ u. near r.second (g.1 u)), (λ u. near r.third (g.2 u))) in
      elim (ℕ_discrete x n) [
        | yes d ↦ rw (d, get_or-set_same past n (cond (clear_by (is_clear_in past) (look n)) 1 0) 0 (rw (clears_length look t n) (omega arith)))
            (bit_back (clear_by (is_clear_in past) (look n)) ∙ here)
        | no d ↦ rw (get_or-set_other past n x (cond (clear_by (is_clear_in past) (look n)) 1 0) 0 d) (near x (omega arith))
      ]
