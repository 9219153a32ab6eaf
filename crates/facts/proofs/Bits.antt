-- Whether two cells are the same. Assumes nothing.
use native.Mathlib.Decide.{ℕ_discrete}
use mathlib.Core.Path.{◌≡◌, ap}
use Rattle.facts.specs.declared.Cell.{Cell}

-- places are told apart by formula and bit
pub same_place : (p q : Cell) → Dec (p ≡ q)
same_place p q = elim (ℕ_discrete p.formula q.formula) [
  | yes e ↦ elim (ℕ_discrete p.bit q.bit) [
    | yes f ↦ yes (λ i. record { formula = e i; bit = f i })
    | no n ↦ no (λ g. n (ap (λ x. x.bit) g))
  ]
  | no n ↦ no (λ g. n (ap (λ x. x.formula) g))
]
