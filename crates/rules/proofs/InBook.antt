-- What the book's array says of its records: fields, who is in a set of principals, and where an opened belief is kept.
use Prim.Native.Nat.{ℕ, ◌-◌, ◌^◌, ◌<◌}
use native.Mathlib.Nat.{mod-lt}
use native.Mathlib.Omega.{arith}
use mathlib.Core.Path.{◌≡◌, refl, sym, ap, ◌∙◌, subst}
use mathlib.Core.Logic.{inl, inr, ◌≢◌}
use mathlib.Core.List.{List}
use mathlib.Core.Bool.{Bool, true, false, cond, not, ◌&&◌}
use lib.ListN.{length}
use lib.Dec.{T, eqb, leb, leb→le}
use borrow.Author.Tests.{eqb-true}
use Rattle.logic.specs.declared.Record.{Record}
use Rattle.logic.specs.Kind.{body_of, bodies}
use Rattle.logic.specs.Book.{Closed}
use Rattle.logic.specs.Formula.{record_of, tree_of, loose, is_empty, is_closed}
use Rattle.logic.specs.Fact.Fact.{Believes, BelievesFresh, BelievesSaid, BelievesBelieves}
use Rattle.logic.specs.Written.{opened}
use Rattle.logic.proofs.Tests.{T_and, true_T}
use Rattle.logic.proofs.Loose.{empty_T}
use Rattle.logic.proofs.Formulas.{Formulas, is_record}
use Rattle.logic.proofs.Meaning.{IsPrincipal, IsFormula, formula_in_lem, form_of}
use Rattle.logic.proofs.ByKind.{fields}
use Rattle.facts.specs.Facts.{bit_at}
use Rattle.facts.proofs.Block.{Fit}
use Rattle.flat.specs.Layout.{kind_at, first_at, second_at, third_at, rank_at, field_at}
use Rattle.flat.proofs.Cells.{Ranking, cell_of, Represents}
use Rattle.rules.specs.Rules.{everyone, only_one, all_but}
use Rattle.rules.proofs.Ranks.{one_in, in_one, but_out, in_but, in_all}

-- a rank, whatever the array has
pub rank_at_lem : (b : List ℕ) (q : ℕ) → rank_at b q < 8
rank_at_lem b q = mod-lt (field_at b q 5) (omega arith)

-- the kinds whose fields stand in the array: a name does not
abbrev pub has_fields : ℕ → Bool
has_fields k = leb 4 k && not (eqb k 16)

-- record x in the array
pub record Placed (fs : List Record) (b : List ℕ) (x : ℕ) : Type 0 where
  pub inside : x < length fs
  pub first : first_at b x ≡ (record_of fs x).first
  pub second : second_at b x ≡ (record_of fs x).second
  pub third : third_at b x ≡ (record_of fs x).third

module _ (fs : List Record) (ρ : Ranking fs) (b : List ℕ) (rep : Represents ρ b) where
  -- what has such a kind in the array is of that kind, and has no loose variable
  told : (x k : ℕ) → x < length fs → kind_at b x ≡ k → T (has_fields k) → ((record_of fs x).kind ≡ k) × Closed fs x
  told x k l e t = go (is_closed (tree_of fs x)) refl (sym (rep.kinds x l) ∙ e)
    where
      go : (v : Bool) → is_closed (tree_of fs x) ≡ v → cond v (record_of fs x).kind 0 ≡ k → ((record_of fs x).kind ≡ k) × Closed fs x
      go true c d = (d, empty_T (loose (tree_of fs x)) (true_T (is_closed (tree_of fs x)) c))
      go false c d = absurd (subst (λ j. T (has_fields j)) (sym d) t)

  pub kind_read : (x k : ℕ) → x < length fs → kind_at b x ≡ k → T (has_fields k) → (record_of fs x).kind ≡ k
  kind_read x k l e t = (told x k l e t).0

  pub closed_read : (x k : ℕ) → x < length fs → kind_at b x ≡ k → T (has_fields k) → Closed fs x
  closed_read x k l e t = (told x k l e t).1

  pub placed : (x k : ℕ) → (record_of fs x).kind ≡ k → T (has_fields k) → Placed fs b x
  placed x k e t =
      let u = subst (λ j. T (has_fields j)) (sym e) t in
      let l = leb→le 4 (record_of fs x).kind (T_and (leb 4 (record_of fs x).kind) (not (eqb (record_of fs x).kind 16)) u).0 in
      let f = rep.fields x l (λ z. subst (λ j. T (has_fields j)) z u) in
      record { inside = is_record fs x (λ z. omega arith); first = f.0; second = f.1; third = f.2 }

  -- the kind of what has no loose variable is in the array
  pub kind_there : (x k : ℕ) → (record_of fs x).kind ≡ k → T (has_fields k) → Closed fs x → kind_at b x ≡ k
  kind_there x k e t c = rep.kinds x (placed x k e t).inside ∙ ap (λ l. cond (is_empty l) (record_of fs x).kind 0) c ∙ e

  -- SETS OF PRINCIPALS
  pub rank_small : (q : ℕ) → IsPrincipal fs q → ρ.rank q < 8
  rank_small q i = let few = ρ.few in omega (arith, (ρ.ranked q i).0)

  -- principals of one rank are one
  one_rank : (q a : ℕ) → IsPrincipal fs q → IsPrincipal fs a → rank_at b q ≡ ρ.rank a → q ≡ a
  one_rank q a iq ia h = sym (ρ.ranked q iq).1 ∙ ap ρ.who (sym (rep.ranks q iq) ∙ h) ∙ (ρ.ranked a ia).1

  pub only_in : (q a : ℕ) → IsPrincipal fs q → IsPrincipal fs a → true ≡ bit_at (only_one b q) (ρ.rank a) → q ≡ a
  only_in q a iq ia e = one_rank q a iq ia (one_in (rank_at b q) (ρ.rank a) (rank_at_lem b q) (rank_small a ia) e)

  pub in_only : (q : ℕ) → IsPrincipal fs q → true ≡ bit_at (only_one b q) (ρ.rank q)
  in_only q iq = rw (rep.ranks q iq) (in_one (ρ.rank q) (rank_small q iq))

  pub but_in : (q a : ℕ) → IsPrincipal fs a → true ≡ bit_at (all_but b q) (ρ.rank a) → q ≢ a
  but_in q a ia e z = but_out (ρ.rank a) (rank_small a ia) (subst (λ x. true ≡ bit_at (255 - 2 ^ x) (ρ.rank a)) (ap (rank_at b) z ∙ rep.ranks a ia) e)

  pub in_others : (q a : ℕ) → IsPrincipal fs q → IsPrincipal fs a → q ≢ a → true ≡ bit_at (all_but b q) (ρ.rank a)
  in_others q a iq ia n = in_but (rank_at b q) (ρ.rank a) (rank_at_lem b q) (rank_small a ia) (λ h. n (one_rank q a iq ia h))

  pub in_everyone : (a : ℕ) → IsPrincipal fs a → true ≡ bit_at everyone (ρ.rank a)
  in_everyone a ia = in_all (ρ.rank a) (rank_small a ia)

-- THE SORTS OF THE FIELDS
module _ (fs : List Record) (ok : Formulas fs) where
  pub sorts4 : (x : ℕ) → (record_of fs x).kind ≡ 4 → IsFormula fs (record_of fs x).first × IsFormula fs (record_of fs x).second
  unfolding body_of bodies
  sorts4 x k = let h = fields fs ok x 4 k (λ z. omega arith) in (form_of fs (record_of fs x).first h.0, form_of fs (record_of fs x).second h.1)

  pub sorts5 : (x : ℕ) → (record_of fs x).kind ≡ 5 → IsFormula fs (record_of fs x).first × IsPrincipal fs (record_of fs x).third
  unfolding body_of bodies
  sorts5 x k = let h = fields fs ok x 5 k (λ z. omega arith) in (form_of fs (record_of fs x).first h.0, h.2)

  pub sorts6 : (x : ℕ) → (record_of fs x).kind ≡ 6 → IsFormula fs (record_of fs x).first × IsPrincipal fs (record_of fs x).third
  unfolding body_of bodies
  sorts6 x k = let h = fields fs ok x 6 k (λ z. omega arith) in (form_of fs (record_of fs x).first h.0, h.2)

  pub sorts7 : (x : ℕ) → (record_of fs x).kind ≡ 7 → IsFormula fs (record_of fs x).first
  unfolding body_of bodies
  sorts7 x k = form_of fs (record_of fs x).first (fields fs ok x 7 k (λ z. omega arith)).0

  pub sorts8 : (x : ℕ) → (record_of fs x).kind ≡ 8 → IsPrincipal fs (record_of fs x).first × IsPrincipal fs (record_of fs x).third
  unfolding body_of bodies
  sorts8 x k = let h = fields fs ok x 8 k (λ z. omega arith) in (h.0, h.2)

  pub sorts9 : (x : ℕ) → (record_of fs x).kind ≡ 9 → IsPrincipal fs (record_of fs x).second
  unfolding body_of bodies
  sorts9 x k = (fields fs ok x 9 k (λ z. omega arith)).1

  pub sorts10 : (x : ℕ) → (record_of fs x).kind ≡ 10 → IsPrincipal fs (record_of fs x).first × IsPrincipal fs (record_of fs x).third
  unfolding body_of bodies
  sorts10 x k = let h = fields fs ok x 10 k (λ z. omega arith) in (h.0, h.2)

  sorts11 : (x : ℕ) → (record_of fs x).kind ≡ 11 → IsFormula fs (record_of fs x).first
  unfolding body_of bodies
  sorts11 x k = form_of fs (record_of fs x).first (fields fs ok x 11 k (λ z. omega arith)).0

  sorts12 : (x : ℕ) → (record_of fs x).kind ≡ 12 → IsPrincipal fs (record_of fs x).first × IsFormula fs (record_of fs x).second
  unfolding body_of bodies
  sorts12 x k = let h = fields fs ok x 12 k (λ z. omega arith) in (h.0, form_of fs (record_of fs x).second h.1)

  sorts14 : (x : ℕ) → (record_of fs x).kind ≡ 14 → IsPrincipal fs (record_of fs x).first × IsFormula fs (record_of fs x).second
  unfolding body_of bodies
  sorts14 x k = let h = fields fs ok x 14 k (λ z. omega arith) in (h.0, form_of fs (record_of fs x).second h.1)

  pub sorts15 : (x : ℕ) → (record_of fs x).kind ≡ 15 → IsPrincipal fs (record_of fs x).first × IsFormula fs (record_of fs x).second
  unfolding body_of bodies
  sorts15 x k = let h = fields fs ok x 15 k (λ z. omega arith) in (h.0, form_of fs (record_of fs x).second h.1)

  -- the belief in a formula, opened, has its place in the block
  pub opened_fits : (ρ : Ranking fs) (a x : ℕ) → IsFormula fs x → Fit (length fs) ρ.principals (cell_of ρ (opened fs a x))
  unfolding opened
  opened_fits ρ a x f = go (eqb k 11) (eqb k 14) (eqb k 12) refl refl refl
    where
      k : ℕ
      k = (record_of fs x).kind

      go : (u v w : Bool) → eqb k 11 ≡ u → eqb k 14 ≡ v → eqb k 12 ≡ w
          → Fit (length fs) ρ.principals
          (cell_of ρ (cond u (BelievesFresh a (record_of fs x).first)
          (cond v (BelievesSaid a (record_of fs x).first (record_of fs x).second)
          (cond w (BelievesBelieves a (record_of fs x).first (record_of fs x).second) (Believes a x)))))
      go true v w e g h = (formula_in_lem fs (record_of fs x).first (sorts11 x (eqb-true k 11 e)), inl (omega arith))
      go false true w e g h =
          let s = sorts14 x (eqb-true k 14 g) in
          (formula_in_lem fs (record_of fs x).second s.1, inl (omega (arith, (ρ.ranked (record_of fs x).first s.0).0)))
      go false false true e g h =
          let s = sorts12 x (eqb-true k 12 h) in
          (formula_in_lem fs (record_of fs x).second s.1, inr (omega arith, omega (arith, (ρ.ranked (record_of fs x).first s.0).0)))
      go false false false e g h = (formula_in_lem fs x f, inl (omega arith))
