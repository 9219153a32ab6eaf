-- Tests joined by "and", "or", "not": what it means that they pass or fail.
use Prim.Native.Nat.{ℕ}
use mathlib.Core.Path.{◌≡◌, refl, sym, subst}
use mathlib.Core.Bool.{Bool, true, false, not, ◌&&◌, ◌||◌}
use mathlib.Core.Logic.{◌⊎◌, inl, inr}
use lib.Dec.{T, eqb, eqb_refl}

pub T_and : (a b : Bool) → T (a && b) → T a × T b
T_and true b t = (tt, t)
T_and false b t = absurd t

pub and_T : (a b : Bool) → T a → T b → T (a && b)
and_T true b s t = t
and_T false b s t = absurd s

pub T_nor : (a b : Bool) → T (not (a || b)) → T (not a) × T (not b)
T_nor true b t = absurd t
T_nor false b t = (tt, t)

pub nor_T : (a b : Bool) → T (not a) → T (not b) → T (not (a || b))
nor_T true b s t = absurd s
nor_T false b s t = t

-- "not both": the second fails where the first passes
pub T_nand : (a b : Bool) → T (not (a && b)) → T a → T (not b)
T_nand true b t s = t
T_nand false b t s = absurd s

pub nand_T : (a b : Bool) → (T a → T (not b)) → T (not (a && b))
nand_T true b f = f tt
nand_T false b f = tt

-- "if the first, then the second"
pub T_if : (a b : Bool) → T (not a || b) → T a → T b
T_if true b t s = t
T_if false b t s = absurd s

pub if_T : (a b : Bool) → (T a → T b) → T (not a || b)
if_T true b f = f tt
if_T false b f = tt

pub T_not_not : (a : Bool) → T (not (not a)) → T a
T_not_not true t = tt
T_not_not false t = t

pub not_not_T : (a : Bool) → T a → T (not (not a))
not_not_T true t = tt
not_not_T false t = t

pub T_true : (a : Bool) → T a → a ≡ true
T_true true t = refl
T_true false t = absurd t

pub T_false : (a : Bool) → T (not a) → a ≡ false
T_false true t = absurd t
T_false false t = refl

pub true_T : (a : Bool) → a ≡ true → T a
true_T a e = subst T (sym e) tt

pub eq_T : (a b : ℕ) → a ≡ b → T (eqb a b)
eq_T a b e = subst (λ (x : ℕ). T (eqb a x)) e (eqb_refl a)

pub eqb_same : (n : ℕ) → eqb n n ≡ true
eqb_same n = T_true (eqb n n) (eqb_refl n)

-- a test passes or fails
pub T_either_way : (a : Bool) → T a ⊎ T (not a)
T_either_way true = inl tt
T_either_way false = inr tt
