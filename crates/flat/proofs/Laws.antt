-- Where the fact that a formula states is kept, by the tests that the code makes. Assumes nothing.
use Prim.Native.Nat.{ℕ}
use mathlib.Core.Path.{◌≡◌}
use mathlib.Core.List.{List}
use borrow.Author.Tests.{eq-eqb, ne_eqb}
use Rattle.facts.specs.declared.Cell.{Cell}
use Rattle.flat.specs.Layout.{at, kind_at, second_at, opened_at, stated_at}

module _ (b : List ℕ) where
  pub stated_belief : (f : ℕ) {k x : ℕ} {c : Cell} → x ≡ second_at b f → k ≡ kind_at b f → k ≡ 12 → c ≡ opened_at b x → c ≡ stated_at b f
  unfolding stated_at
  stated_belief f ex ek q e = rw (← ek, eq-eqb _ 12 q, ← ex) e

  pub stated_sight : (f : ℕ) {k x : ℕ} → x ≡ second_at b f → k ≡ kind_at b f → (k ≡ 12 → ⊥) → at x 0 ≡ stated_at b f
  unfolding stated_at
  stated_sight f ex ek n = rw (← ek, ne_eqb _ 12 n, ← ex)
