-- What stands in a list that is made number by number. Assumes nothing.
use Prim.Native.Nat.{ℕ, zero, suc, ◌<◌}
use native.Mathlib.Nat.{eq-or-lt_of_le, le_of_suc-le-suc}
use native.Mathlib.Omega.{arith}
use mathlib.Core.Path.{◌≡◌, refl, subst}
use mathlib.Core.Logic.{⊎_elim}
use mathlib.Core.List.{List, []}
use Rattle.logic.specs.Book.{All}
use Rattle.logic.specs.Derivation.{Among}
use Rattle.logic.proofs.Member.{all_append, among_left, among_right}
use Rattle.facts.specs.declared.Instance.{Instance}
use Rattle.facts.specs.Lists.{upto}

-- where no number gives anything
pub none_upto : (f : ℕ → List Instance) (n : ℕ) → ((x : ℕ) → x < n → f x ≡ []) → upto f n ≡ []
unfolding upto
none_upto f zero h = refl
none_upto f (suc n) h = rw (h n (omega arith), none_upto f n (λ x l. h x (omega arith)))

pub all_upto : (P : Instance → Type 0) (f : ℕ → List Instance) (n : ℕ) → ((x : ℕ) → x < n → All P (f x)) → All P (upto f n)
unfolding upto
all_upto P f zero h = tt
all_upto P f (suc n) h = all_append P (upto f n) (f n) (all_upto P f n (λ x l. h x (omega arith))) (h n (omega arith))

pub among_upto : (i : Instance) (f : ℕ → List Instance) (n x : ℕ) → x < n → Among i (f x) → Among i (upto f n)
unfolding upto
among_upto i f zero x l m = elim l [ ]
among_upto i f (suc n) x l m =
    ⊎_elim (λ e. among_right i (upto f n) (f n) (subst (λ y. Among i (f y)) e m)) (λ h. among_left i (upto f n) (f n) (among_upto i f n x h m))
    (eq-or-lt_of_le (le_of_suc-le-suc l))
