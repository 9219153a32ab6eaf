-- The places of a survey, block by block: place k of the block of the principal of rank a is the fact that the block has there.
-- Assumes nothing.
use Prim.Native.Nat.{ℕ, ◌+◌, ◌-◌, ◌*◌, ◌/◌, ◌%◌, ◌<◌}
use native.Mathlib.Nat.{div-add-mod', mul_assoc, mod-lt, add-mul, div-lt_iff_lt-mul}
use native.Mathlib.Omega.{arith}
use native.Mathlib.Decide.{dec_lt}
use mathlib.Core.Path.{◌≡◌, ap, ◌∙◌}
use mathlib.Core.List.{List}
use lib.ListN.{length}
use borrow.Author.Tests.{ne_eqb, lt-ltb, le-ltb}
use Rattle.logic.specs.declared.Record.{Record}
use Rattle.logic.specs.Count.{formulas}
use Rattle.logic.specs.Book.{Book}
use Rattle.logic.specs.Place as place
use Rattle.logic.proofs.Places.{quotient, remainder}
use Rattle.facts.specs.Block as block
use Rattle.flat.proofs.Cells.{ranked_fact}
use Rattle.search.proofs.FlatRepresents.{ranking}

module _ (rs : List Record) (book : Book rs) where
  abbrev fs : List Record
  fs = formulas rs

  abbrev p : ℕ
  p = place.principal_count (formulas rs)

  -- one formula's places
  column : (P x m : ℕ) → m < 3 + 2 * p → place.fact_of (formulas rs) P x m ≡ ranked_fact (ranking rs book) P (record { formula = x; bit = block.bit_of p m })
  unfolding place.fact_of ranked_fact block.bit_of ranking
  column P x m l =
      elim (dec_lt m (3 + p)) [
        | yes h ↦
            let few = (ranking rs book).few in
            rw (lt-ltb m (3 + p) h, lt-ltb m 11 (omega arith))
        | no h ↦
            let e : m - (3 + p) + 11 - 11 ≡ m - (3 + p) = omega arith in
            rw (
              le-ltb m (3 + p) (omega arith),
              ne_eqb m 0 (λ z. omega arith),
              ne_eqb m 1 (λ z. omega arith),
              ne_eqb m 2 (λ z. omega arith),
              ne_eqb (m - (3 + p) + 11) 0 (λ z. omega arith),
              ne_eqb (m - (3 + p) + 11) 1 (λ z. omega arith),
              ne_eqb (m - (3 + p) + 11) 2 (λ z. omega arith),
              le-ltb (m - (3 + p) + 11) 11 (omega arith),
              e,
            )
      ]

  pub at_block : (a k : ℕ) → k < length (formulas rs) * (3 + 2 * p)
      → place.fact_at (formulas rs) (a * (length (formulas rs) * (3 + 2 * p)) + k)
      ≡ ranked_fact (ranking rs book) (place.ranked (formulas rs) a) (block.cell_at p k)
  unfolding place.fact_at block.cell_at
  at_block a k l =
      rw (row, line, col) (column (place.ranked (formulas rs) a) (k / (3 + 2 * p)) (k % (3 + 2 * p)) below)
    where
      n : ℕ
      n = length (formulas rs)

      few : k / (3 + 2 * p) < length (formulas rs)
      few = (div-lt_iff_lt-mul {k = 3 + 2 * p} {x = k} {y = length (formulas rs)} (omega arith)).1 l

      below : k % (3 + 2 * p) < 3 + 2 * p
      below = mod-lt k (omega arith)

      -- the place, row by row
      shape : a * (length (formulas rs) * (3 + 2 * p)) + k ≡ (a * length (formulas rs) + k / (3 + 2 * p)) * (3 + 2 * p) + k % (3 + 2 * p)
      shape =
          let d = div-add-mod' k (3 + 2 * p) in
          let e = add-mul (a * length (formulas rs)) (k / (3 + 2 * p)) (3 + 2 * p) in
          let f = mul_assoc a (length (formulas rs)) (3 + 2 * p) in
          omega arith

      row : (a * (length (formulas rs) * (3 + 2 * p)) + k) / (3 + 2 * p) / length (formulas rs) ≡ a
      row =
          ap (λ (z : ℕ). z / (3 + 2 * p) / length (formulas rs)) shape
          ∙ ap (λ (z : ℕ). z / length (formulas rs)) (quotient (a * length (formulas rs) + k / (3 + 2 * p)) (3 + 2 * p) (k % (3 + 2 * p)) below)
          ∙ quotient a (length (formulas rs)) (k / (3 + 2 * p)) few

      line : (a * (length (formulas rs) * (3 + 2 * p)) + k) / (3 + 2 * p) % length (formulas rs) ≡ k / (3 + 2 * p)
      line =
          ap (λ (z : ℕ). z / (3 + 2 * p) % length (formulas rs)) shape
          ∙ ap (λ (z : ℕ). z % length (formulas rs)) (quotient (a * length (formulas rs) + k / (3 + 2 * p)) (3 + 2 * p) (k % (3 + 2 * p)) below)
          ∙ remainder a (length (formulas rs)) (k / (3 + 2 * p)) few

      col : (a * (length (formulas rs) * (3 + 2 * p)) + k) % (3 + 2 * p) ≡ k % (3 + 2 * p)
      col =
          ap (λ (z : ℕ). z % (3 + 2 * p)) shape
          ∙ remainder (a * length (formulas rs) + k / (3 + 2 * p)) (3 + 2 * p) (k % (3 + 2 * p)) below
