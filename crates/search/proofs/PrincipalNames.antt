-- The formula numbers of the principals, by rank. Assumes nothing.
use Prim.Native.Nat.{ℕ, suc, ◌<◌, ◌≤◌}
use native.Mathlib.Nat.{le_refl}
use native.Mathlib.Omega.{arith}
use native.Mathlib.Decide.{ℕ_discrete}
use mathlib.Core.Path.{◌≡◌, refl, sym, ap, ◌∙◌}
use mathlib.Core.List.{List}
use mathlib.Core.Bool.{Bool, true, false, cond}
use lib.ListN.{length, length-replicate, get_or, set, replicate}
use lib.Seq.{get_or-set_same, get_or-set_other}
use lib.Dec.{eqb}
use borrow.Author.Tests.{eqb-true, eqb-false}
use Rattle.logic.specs.declared.Record.{Record}
use Rattle.logic.specs.Count.{formulas}
use Rattle.logic.specs.Book.{Book}
use Rattle.logic.specs.Formula.{record_of}
use Rattle.logic.specs.Place as place
use Rattle.logic.proofs.Meaning.{IsPrincipal, principal_in}
use Rattle.logic.proofs.Places.{rank_below, ranked_rank, ranked_principal, rank_ranked}
use Rattle.flat.specs.Layout.{rank_at}
use Rattle.derive.proofs.Cells.{Names}
use Rattle.layout.proofs.FlatBook.{Laid}
use Rattle.search.specs.Answers.{names_upto, names_of}
use Rattle.search.proofs.Laws.{names_length}
use Rattle.search.proofs.FlatRepresents.{ranking, represented, principal_test}

module _ (rs : List Record) (book : Book rs) (b : List ℕ) (laid : Laid rs b) where
  abbrev fs : List Record
  fs = formulas rs

  few : place.principal_count fs ≤ 8
  unfolding ranking
  few = (ranking rs book).few

  -- two principals have two ranks
  apart : (x y : ℕ) → IsPrincipal fs x → IsPrincipal fs y → (y ≡ x → ⊥) → place.rank fs y ≡ place.rank fs x → ⊥
  apart x y ix iy d e = d (sym (ranked_rank fs y iy) ∙ ap (place.ranked fs) e ∙ ranked_rank fs x ix)

  -- the principals among the first x records stand at their ranks
  upto : (x : ℕ) → x ≤ length fs → (y : ℕ) → y < x → IsPrincipal fs y → get_or (names_upto b x (replicate 8 0)) (place.rank fs y) 0 ≡ y
  unfolding names_upto ranking
  upto Prim.Native.Nat.zero l y h iy = elim h [ ]
  upto (suc x) l y h iy = rw (principal_test rs book b laid x l) (go (upto x (omega arith) y) (eqb (record_of fs x).kind 1) refl)
    where
      names : List ℕ
      names = names_upto b x (replicate 8 0)

      wide : length names ≡ 8
      wide = names_length b x (replicate 8 0) ∙ length-replicate {A = ℕ} 8 0

      go : (y < x → IsPrincipal fs y → get_or names (place.rank fs y) 0 ≡ y) → (z : Bool) → eqb (record_of fs x).kind 1 ≡ z
          → get_or (cond z (set names (rank_at b x) x) names) (place.rank fs y) 0 ≡ y
      go before true e =
          let ix = eqb-true (record_of fs x).kind 1 e in
          let r = (represented rs book b laid).ranks x ix in
          let m = rank_below fs x ix in
          rw r (elim (ℕ_discrete y x) [
            | yes q ↦ rw q (get_or-set_same names (place.rank fs x) x 0 (omega (arith, wide)))
            | no d ↦ get_or-set_other names (place.rank fs x) (place.rank fs y) x 0 (apart x y ix iy d) ∙ before (omega arith) iy
          ])
      go before false e = before (let d : y ≡ x → ⊥ = (λ q. eqb-false (record_of fs x).kind 1 e (ap (λ (k : ℕ). (record_of fs k).kind) (sym q) ∙ iy)) in omega arith) iy

  -- ALL PRINCIPALS BY RANK
  pub named : Names fs (names_of b (length fs))
  named j l =
      let y = place.ranked fs j in
      let iy = ranked_principal fs j l in
      ap (λ (k : ℕ). get_or (names_of b (length fs)) k 0) (sym (rank_ranked fs j l)) ∙ upto (length fs) (le_refl (length fs)) y (principal_in fs y iy) iy
