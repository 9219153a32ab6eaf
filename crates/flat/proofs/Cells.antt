-- Written facts of one principal and the places of his block: each is the other's, by the ranks of principals.
use Prim.Native.Nat.{ℕ, zero, suc, ◌+◌, ◌-◌, ◌<◌, ◌≤◌}
use native.Mathlib.Omega.{arith}
use mathlib.Core.Path.{◌≡◌, refl, sym, ap, ◌∙◌}
use mathlib.Core.Logic.{inl, inr}
use mathlib.Core.List.{List}
use mathlib.Core.Bool.{Bool, true, false, cond}
use lib.ListN.{length}
use lib.Dec.{eqb, ltb}
use borrow.Author.Tests.{lt-ltb, le-ltb, ne_eqb}
use Rattle.logic.specs.declared.Record.{Record}
use Rattle.logic.specs.Formula.{record_of, tree_of, clear, is_closed}
use Rattle.logic.specs.Fact.{Fact}
use Rattle.logic.specs.Fact.Fact.{Sees, Believes, BelievesFresh, BelievesSaid, BelievesBelieves}
use Rattle.logic.specs.Written.{opened}
use Rattle.logic.proofs.Meaning.{IsPrincipal, IsFormula, Valid, formula_in_lem}
use Rattle.logic.proofs.Holder.{holder}
use Rattle.facts.specs.declared.Cell.{Cell}
use Rattle.facts.proofs.Block.{IsBit, Fit}
use Rattle.flat.specs.Layout.{at, kind_at, first_at, second_at, third_at, clear_at, rank_at, opened_at}

-- The principals of a book by rank: `rank` of a principal, and `who` has a rank.
pub record Ranking (fs : List Record) : Type 0 where
  pub principals : ℕ
  pub few : principals ≤ 8
  pub rank : ℕ → ℕ
  pub who : ℕ → ℕ
  pub ranked : (x : ℕ) → IsPrincipal fs x → (rank x < principals) × (who (rank x) ≡ x)
  pub named : (j : ℕ) → j < principals → IsPrincipal fs (who j) × (rank (who j) ≡ j)

module _ {fs : List Record} (ρ : Ranking fs) where
  -- the place of a fact in its principal's block
  abbrev pub cell_of : Fact ℕ → Cell
  cell_of (Sees a x) = at x 0
  cell_of (Believes a x) = at x 1
  cell_of (BelievesFresh a x) = at x 2
  cell_of (BelievesSaid a q x) = at x (3 + ρ.rank q)
  cell_of (BelievesBelieves a q x) = at x (11 + ρ.rank q)

  -- the fact of principal a at a place
  unfoldable pub ranked_fact : ℕ → Cell → Fact ℕ
  ranked_fact a q =
      cond (eqb q.bit 0) (Sees a q.formula)
      (cond (eqb q.bit 1) (Believes a q.formula)
      (cond (eqb q.bit 2) (BelievesFresh a q.formula)
      (cond (ltb q.bit 11) (BelievesSaid a (ρ.who (q.bit - 3)) q.formula)
      (BelievesBelieves a (ρ.who (q.bit - 11)) q.formula))))

  pub fact_sees : (a x : ℕ) → ranked_fact a (at x 0) ≡ Sees a x
  unfolding ranked_fact
  fact_sees a x = refl

  pub fact_believes : (a x : ℕ) → ranked_fact a (at x 1) ≡ Believes a x
  unfolding ranked_fact
  fact_believes a x = refl

  pub fact_fresh : (a x : ℕ) → ranked_fact a (at x 2) ≡ BelievesFresh a x
  unfolding ranked_fact
  fact_fresh a x = refl

  pub fact_said : (a x j : ℕ) → j < 8 → ranked_fact a (at x (3 + j)) ≡ BelievesSaid a (ρ.who j) x
  unfolding ranked_fact
  fact_said a x j l =
      let e : 3 + j - 3 ≡ j = omega arith in
      rw (ne_eqb (3 + j) 0 (λ z. omega arith), ne_eqb (3 + j) 1 (λ z. omega arith), ne_eqb (3 + j) 2 (λ z. omega arith), lt-ltb (3 + j) 11 (omega arith), e)

  pub fact_believed : (a x j : ℕ) → ranked_fact a (at x (11 + j)) ≡ BelievesBelieves a (ρ.who j) x
  unfolding ranked_fact
  fact_believed a x j =
      let e : 11 + j - 11 ≡ j = omega arith in
      rw (ne_eqb (11 + j) 0 (λ z. omega arith), ne_eqb (11 + j) 1 (λ z. omega arith), ne_eqb (11 + j) 2 (λ z. omega arith), le-ltb (11 + j) 11 (omega arith), e)

  -- a written fact is the one at its place
  pub fact_of_cell : (g : Fact ℕ) → Valid fs g → ranked_fact (holder g) (cell_of g) ≡ g
  fact_of_cell (Sees a x) v = fact_sees a x
  fact_of_cell (Believes a x) v = fact_believes a x
  fact_of_cell (BelievesFresh a x) v = fact_fresh a x
  fact_of_cell (BelievesSaid a q x) v =
      let r = ρ.ranked q v.1 in
      let few = ρ.few in
      fact_said a x (ρ.rank q) (omega (arith, r.0)) ∙ ap (λ z. BelievesSaid a z x) r.1
  fact_of_cell (BelievesBelieves a q x) v = fact_believed a x (ρ.rank q) ∙ ap (λ z. BelievesBelieves a z x) (ρ.ranked q v.1).1

  -- a place of the block is that of its fact
  pub place_of_fact : (a x b : ℕ) → IsBit ρ.principals b → cell_of (ranked_fact a (at x b)) ≡ at x b
  place_of_fact a x zero f = ap cell_of (fact_sees a x)
  place_of_fact a x (suc zero) f = ap cell_of (fact_believes a x)
  place_of_fact a x (suc (suc zero)) f = ap cell_of (fact_fresh a x)
  place_of_fact a x (suc (suc (suc b))) (inl l) =
      let few = ρ.few in
      let e : suc (suc (suc b)) ≡ 3 + b = omega arith in
      ap (λ z. cell_of (ranked_fact a (at x z))) e ∙ ap cell_of (fact_said a x b (omega arith))
      ∙ ap (λ z. at x (3 + z)) (ρ.named b (omega arith)).1 ∙ ap (at x) (sym e)
  place_of_fact a x (suc (suc (suc b))) (inr l) =
      let h = l.0 in
      let m = l.1 in
      let e : suc (suc (suc b)) ≡ 11 + (b - 8) = omega arith in
      ap (λ z. cell_of (ranked_fact a (at x z))) e ∙ ap cell_of (fact_believed a x (b - 8))
      ∙ ap (λ z. at x (11 + z)) (ρ.named (b - 8) (omega arith)).1 ∙ ap (at x) (sym e)

  -- the place of a written fact is in the block
  pub cell_fits : (g : Fact ℕ) → Valid fs g → Fit (length fs) ρ.principals (cell_of g)
  cell_fits (Sees a x) v = (formula_in_lem fs x v.1.0, inl (omega arith))
  cell_fits (Believes a x) v = (formula_in_lem fs x v.1.0, inl (omega arith))
  cell_fits (BelievesFresh a x) v = (formula_in_lem fs x v.1.0, inl (omega arith))
  cell_fits (BelievesSaid a q x) v = (formula_in_lem fs x v.2.0, inl (omega (arith, (ρ.ranked q v.1).0)))
  cell_fits (BelievesBelieves a q x) v = (formula_in_lem fs x v.2.0, inr (omega arith, omega (arith, (ρ.ranked q v.1).0)))

  pub holder_fact : (a : ℕ) (q : Cell) → holder (ranked_fact a q) ≡ a
  unfolding ranked_fact
  holder_fact a q = go (eqb q.bit 0) (eqb q.bit 1) (eqb q.bit 2) (ltb q.bit 11)
    where
      go : (s b f d : Bool)
          → holder (cond s (Sees a q.formula)
          (cond b (Believes a q.formula)
          (cond f (BelievesFresh a q.formula)
          (cond d (BelievesSaid a (ρ.who (q.bit - 3)) q.formula) (BelievesBelieves a (ρ.who (q.bit - 11)) q.formula)))))
          ≡ a
      go true b f d = refl
      go false true f d = refl
      go false false true d = refl
      go false false false true = refl
      go false false false false = refl

  -- The array b has the formula records fs, with their ranks and openings.
  pub record Represents (b : List ℕ) : Type 0 where
    -- a formula with a loose variable, and a variable, has kind 0 in the array: no rule is about it, and no fact
    pub kinds : (x : ℕ) → x < length fs → kind_at b x ≡ cond (is_closed (tree_of fs x)) (record_of fs x).kind 0
    -- a name stays out of the array
    pub fields : (x : ℕ) → 4 ≤ (record_of fs x).kind → ((record_of fs x).kind ≡ 16 → ⊥)
        → (first_at b x ≡ (record_of fs x).first) × (second_at b x ≡ (record_of fs x).second) × (third_at b x ≡ (record_of fs x).third)
    pub clears : (x : ℕ) → x < length fs → clear_at b x ≡ clear (tree_of fs x)
    pub ranks : (x : ℕ) → IsPrincipal fs x → rank_at b x ≡ ρ.rank x
    pub opens : (a x : ℕ) → IsFormula fs x → opened_at b x ≡ cell_of (opened fs a x)
