-- What per_cent answers, case by case. x and g are the numbers of goals reached and of goals, R and G, as numbers of 64 bits.
use Prim.Native.Nat.{ℕ, ◌+◌, ◌*◌, ◌/◌, ◌%◌, ◌<◌, ◌≤◌}
use native.Mathlib.Nat.{mod-lt}
use native.Mathlib.Omega.{arith}
use mathlib.Core.Path.{◌≡◌}
use mir.Val.{Fits}
use mir.Syntax.{w64}
use borrow.Author.Tests.{lt-ltb, le-ltb, ne_eqb}
use Rattle.logic.specs.PerCent.{per_cent}

-- twice a remainder by a number of 32 bits has 64 bits
pub twice_fits : (a g : ℕ) → 0 < g → g < 4294967296 → Fits w64 (2 * (a % g))
twice_fits a g k l = omega (arith, mod-lt a {m = g} k)

module _ {R G x g : ℕ} (p : x ≡ R) (s : g ≡ G) (n : G ≡ 0 → ⊥) where
  pub below_half : 2 * (100 * x % g) < g → 100 * x / g ≡ per_cent R G
  unfolding per_cent
  below_half l = rw (p, s) (rw (ne_eqb G 0 n, lt-ltb (2 * (100 * R % G)) G (rw (p, s) at l)))

  pub above_half : g ≤ 2 * (100 * x % g) → g < 2 * (100 * x % g) → 100 * x / g + 1 ≡ per_cent R G
  unfolding per_cent
  above_half k l =
      rw (p, s) (rw (ne_eqb G 0 n, le-ltb (2 * (100 * R % G)) G (rw (p, s) at k), lt-ltb G (2 * (100 * R % G)) (rw (p, s) at l)))

  pub at_half_lem : g ≤ 2 * (100 * x % g) → 2 * (100 * x % g) ≤ g → 100 * x / g + 100 * x / g % 2 ≡ per_cent R G
  unfolding per_cent
  at_half_lem k l =
      rw (p, s) (rw (ne_eqb G 0 n, le-ltb (2 * (100 * R % G)) G (rw (p, s) at k), le-ltb G (2 * (100 * R % G)) (rw (p, s) at l)))
