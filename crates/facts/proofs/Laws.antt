-- Eight bytes put one by one. Assumes nothing.
use Prim.Native.Nat.{ℕ, ◌+◌}
use native.Mathlib.Numerals.{unary_clauses}
use mathlib.Core.Path.{◌≡◌, refl}
use mathlib.Core.List.{List, [], ◌∷◌}
use lib.ListN.{set}
use lib.Seq.{sets}

-- eight bytes one by one
pub eight : (l : List ℕ) (k a b c d e f g h : ℕ)
    → set (set (set (set (set (set (set (set l k a) (k + 1) b) (k + 2) c) (k + 3) d) (k + 4) e) (k + 5) f) (k + 6) g) (k + 7) h
    ≡ sets l k (a ∷ b ∷ c ∷ d ∷ e ∷ f ∷ g ∷ h ∷ [])
eight l k a b c d e f g h = simp unary_clauses refl
