-- How many members of a list pass a test. Assumes nothing.
use Prim.Native.Nat.{ℕ, zero, suc}
use mathlib.Core.Path.{◌≡◌, refl}
use mathlib.Core.Bool.{Bool, false}
use lib.ListN.{replicate}
use Rattle.logic.specs.Survey.{count}

module _ (p : ℕ → Bool) where
  pub count_none : (n v : ℕ) → p v ≡ false → count p (replicate n v) ≡ 0
  unfolding count
  count_none zero v f = refl
  count_none (suc n) v f = rw (f, count_none n v f)
