-- The tests on kinds, in the words of the plain predicate.
use Prim.Native.Nat.{ℕ, ◌≤◌}
use mathlib.Core.Path.{◌≡◌}
use mathlib.Core.Logic.{◌⊎◌, inl, inr}
use mathlib.Core.Bool.{Bool, true, false, ◌||◌}
use lib.Dec.{T, leb, eqb, leb→le, le→leb, eqb→eq}
use Rattle.logic.specs.Kind.{is_formula}
use Rattle.logic.proofs.Tests.{T_and, and_T, eq_T}

-- one of two tests passes
pub or_T : (p q : Bool) {A B : Type 0} → (T p → A) → (T q → B) → T (p || q) → A ⊎ B
or_T true q f g t = inl (f tt)
or_T false q f g t = inr (g t)

pub T_or : (p q : Bool) → T p ⊎ T q → T (p || q)
T_or true q h = tt
T_or false q (inl t) = absurd t
T_or false q (inr t) = t

pub formula_T : (k : ℕ) → T (is_formula k) → ((3 ≤ k) × (k ≤ 15)) ⊎ (k ≡ 17)
formula_T k t =
    let h = T_and (leb 3 k) (leb k 15 || eqb k 17) t in
    or_T (leb k 15) (eqb k 17) (λ u. (leb→le 3 k h.0, leb→le k 15 u)) (λ u. eqb→eq k 17 u) h.1

pub T_formula : (k : ℕ) → ((3 ≤ k) × (k ≤ 15)) ⊎ (k ≡ 17) → T (is_formula k)
T_formula k (inl b) = and_T (leb 3 k) (leb k 15 || eqb k 17) (le→leb 3 k b.0) (T_or (leb k 15) (eqb k 17) (inl (le→leb k 15 b.1)))
T_formula k (inr e) = rw e tt

pub either_T : (k a b : ℕ) → T (eqb k a || eqb k b) → (k ≡ a) ⊎ (k ≡ b)
either_T k a b t = or_T (eqb k a) (eqb k b) (eqb→eq k a) (eqb→eq k b) t

pub T_either : (k a b : ℕ) → (k ≡ a) ⊎ (k ≡ b) → T (eqb k a || eqb k b)
T_either k a b (inl e) = T_or (eqb k a) (eqb k b) (inl (eq_T k a e))
T_either k a b (inr e) = T_or (eqb k a) (eqb k b) (inr (eq_T k b e))
