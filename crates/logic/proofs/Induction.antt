-- Induction over derivations: what holds of the given facts and is kept by each rule holds of every fact of a derivation.
use Prim.Native.Nat.{ℕ}
use mathlib.Core.Path.{subst}
use mathlib.Core.Logic.{inl, inr}
use mathlib.Core.List.{List, [], ◌∷◌, ◌++◌}
use Rattle.logic.specs.Book.{All}
use Rattle.logic.specs.Formula.{Tree}
use Rattle.logic.specs.Fact.{Fact, IsFact}
use Rattle.logic.specs.Rule.{Rule}
use Rattle.logic.specs.Derivation.{Among, Justified, DerivationBehind, EndsIn}
use Rattle.logic.proofs.Member.{all_at, all_imp, all_append}

-- what holds of each fact of a list holds of the one that it ends in
pub at_end : (M : Fact Tree → Type 0) (f : Fact Tree) (l : List (Fact Tree)) → All M l → EndsIn f l → M f
at_end M f (g ∷ []) h e = subst M e h.0
at_end M f [] h e = elim e [ ]
at_end M f (g ∷ k ∷ l) h e = at_end M f (k ∷ l) h.1 e

module _ (Leaf : Tree → Type 0) (given : List (Fact Tree)) (M : Fact Tree → Type 0)
    (start : (f : Fact Tree) → IsFact Leaf f → Among f given → M f)
    (step : (n : ℕ) (ps : List (Fact Tree)) (f : Fact Tree) → Rule n ps f → IsFact Leaf f → All M ps → M f) where
  justified : (past : List (Fact Tree)) (f : Fact Tree) → All M past → IsFact Leaf f → Justified given past f → M f
  justified past f h p (inl m) = start f p m
  justified past f h p (inr (n, ps, r, k)) = step n ps f r p (all_imp (λ g. Among g past) M (λ g m. all_at M g past h m) ps k)

  pub kept : (past l : List (Fact Tree)) → All M past → DerivationBehind Leaf given past l → All M l
  kept past [] h d = tt
  kept past (f ∷ l) h d =
      let m = justified past f h d.0 d.1 in
      (m, kept (past ++ (f ∷ [])) l (all_append M past (f ∷ []) h (m, tt)) d.2)
