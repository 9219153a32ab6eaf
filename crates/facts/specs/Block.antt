-- The places of one principal's block, with p principals: formula by formula, 3 + 2 × p to each.
-- Document 01, "Survey and prover": the place of a fact, less what the principal's rank adds.
use Rattle.std.specs.Prelude.{ℕ, ◌+◌, ◌-◌, ◌*◌, ◌/◌, ◌%◌, cond, ltb}
use Rattle.facts.specs.declared.Cell.{Cell}

-- the number m of a bit: 0, 1, 2 for modes 1, 2, 3, then 3 + b, then 3 + p + b
unfoldable pub mode_of : ℕ → ℕ → ℕ
mode_of p b = cond (ltb b 11) b (b - 11 + (3 + p))

unfoldable pub bit_of : ℕ → ℕ → ℕ
bit_of p m = cond (ltb m (3 + p)) m (m - (3 + p) + 11)

-- the place of a fact in the block, and the fact at a place
unfoldable pub place_in : ℕ → Cell → ℕ
place_in p q = q.formula * (3 + 2 * p) + mode_of p q.bit

unfoldable pub cell_at : ℕ → ℕ → Cell
cell_at p k = record { formula = k / (3 + 2 * p); bit = bit_of p (k % (3 + 2 * p)) }
