-- The per cent of goals reached: C of the line `goals R of G, C per cent`. Document 01, "The listing program", with the rounding of
-- document 02, wish 2: "rounding halves to the even neighbour", "exact at the half", "No goals still prints 0".
use Rattle.std.specs.Prelude.{ℕ, ◌+◌, ◌-◌, ◌*◌, ◌/◌, ◌%◌, ◌≤◌, ◌≡◌, cond, ltb, eqb}

-- of q and q + 1 the even one
abbrev pub even_neighbour : ℕ → ℕ
even_neighbour q = q + q % 2

-- a quotient q with the remainder r of a division by G, to the nearest whole number: below the half q, above it q + 1, and at the half,
-- where twice r is G, the even neighbour
abbrev pub nearest : (q r G : ℕ) → ℕ
nearest q r G = cond (ltb (2 * r) G) q (cond (ltb G (2 * r)) (q + 1) (even_neighbour q))

-- "C is 100 × R / G", and 0 where there are no goals
unfoldable pub per_cent : (R G : ℕ) → ℕ
per_cent R G = cond (eqb G 0) 0 (nearest (100 * R / G) (100 * R % G) G)

-- THE SAME WITHOUT A DIVISION, where G is above 0: twice the distance of C × G from 100 × R is at most G, and where it is G, C is even.
-- `per_cent R G` is such a C, and there is no other (proofs/PerCent).

-- how far a is from b; a − b is 0 where b is above a
abbrev pub distance : (a b : ℕ) → ℕ
distance a b = (a - b) + (b - a)

pub record Rounded (R G C : ℕ) : Type 0 where
  pub near : 2 * distance (C * G) (100 * R) ≤ G
  pub at_half : 2 * distance (C * G) (100 * R) ≡ G → C % 2 ≡ 0
