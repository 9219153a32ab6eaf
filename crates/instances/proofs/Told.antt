-- What has to be known of a book and its index: the formulas are those of an accepted book, each stands in the index, and the index says of each
-- whether it has no variable outside kind 17, or just one.
use Prim.Native.Nat.{ℕ, ◌+◌, ◌%◌, ◌<◌, ◌≤◌}
use native.Mathlib.Omega.{arith}
use native.Mathlib.Decide.{dec_lt}
use mathlib.Core.Path.{◌≡◌, refl, sym, ap, ◌∙◌, subst}
use mathlib.Core.Bool.{Bool, true, false, not, ◌||◌}
use mathlib.Core.List.{List, []}
use lib.ListN.{length, get_or}
use lib.Dec.{T, eqb, leb}
use borrow.Author.Tests.{eqb-true, eq-eqb, ne_eqb, le-leb}
use Rattle.logic.specs.declared.Record.{Record}
use Rattle.logic.specs.Count.{formulas}
use Rattle.logic.specs.Book.{Book}
use Rattle.logic.specs.Formula.{loose, is_empty, delegates, may_delegate, record_of, name_of, tree_of}
use Rattle.logic.proofs.Tests.{T_true, T_false}
use Rattle.logic.proofs.Table.{formula_bounds}
use Rattle.logic.proofs.Loose.{empty_T}
use Rattle.logic.proofs.Formulas.{Formulas, is_record}
use Rattle.logic.proofs.Follows.{formula_limit_lem}
use Rattle.logic.proofs.Contents.{contents}
use Rattle.format.specs.Index.{index_size, packed, unpacked, filled, record_in}
use Rattle.format.specs.Variables.{variables_in, allows_by}
use Rattle.format.proofs.Packing.{whole_fields, unpacked_packed}
use Rattle.format.proofs.Indexing.{filled_length, book_indexed, formula_placed}
use Rattle.format.proofs.Variables.{says_loose, variables_shown, delegates_shown, allowed_shown, just_shown}

-- fs are the formula records, t is the index. Of formula x it says 0 where x has no variable outside kind 17 and holds no kind 17, and 1 + v
-- where it has just the variable v outside kind 17, and holds no kind 17.
pub record Told (fs : List Record) (t : List ℕ) : Type 0 where
  pub ok : Formulas fs
  pub few : length fs ≤ 256
  pub long : index_size ≤ length t
  pub placed : (x : ℕ) → x < length fs → get_or t x 0 ≡ packed (record_of fs x)
  pub none : (x : ℕ) → x < length fs → T (not (delegates (tree_of fs x))) → loose (tree_of fs x) ≡ [] → variables_in t x ≡ 0
  pub none_told : (x : ℕ) → x < length fs → variables_in t x ≡ 0 → loose (tree_of fs x) ≡ []
  pub just : (x v : ℕ) → x < length fs → (record_of fs v).kind ≡ 16 → T (may_delegate (name_of fs v) (tree_of fs x)) → (loose (tree_of fs x) ≡ [] → ⊥)
      → variables_in t x ≡ 1 + v
  pub just_told : (x v : ℕ) → x < length fs → (record_of fs v).kind ≡ 16 → variables_in t x ≡ 1 + v
      → T (may_delegate (name_of fs v) (tree_of fs x)) × (loose (tree_of fs x) ≡ [] → ⊥)

-- the index gives each formula record back
pub told_record : (fs : List Record) (t : List ℕ) → Told fs t → (x : ℕ) → x < length fs → record_in t x ≡ record_of fs x
told_record fs t told x l =
    ap unpacked (told.placed x l)
    ∙ unpacked_packed (record_of fs x) (whole_fields (record_of fs x) (told.ok.whole x l))
    (let h = formula_bounds (record_of fs x).kind (told.ok.kinds x l) in omega arith)

-- ALL THIS HOLDS OF AN ACCEPTED BOOK and its index, whatever stood in the table before
module _ (t₀ : List ℕ) (rs : List Record) (room : index_size ≤ length t₀) (b : Book rs) where
  abbrev fs : List Record
  fs = formulas rs

  abbrev t : List ℕ
  t = filled t₀ [] rs

  -- the number of formula x, 0 or not at its low end
  low_none : (x : ℕ) → x < length fs → not (eqb (variables_in t x % 512) 0) ≡ not (is_empty (loose (tree_of fs x)))
  low_none x l = says_loose fs (loose (tree_of fs x)) (variables_in t x % 512) (variables_shown t₀ rs room b x l)

  is_none : (x : ℕ) → x < length fs → T (not (delegates (tree_of fs x))) → loose (tree_of fs x) ≡ [] → variables_in t x ≡ 0
  is_none x l d e = go (variables_in t x) (eqb (variables_in t x % 512) 0) refl (low_none x l ∙ ap (λ k. not (is_empty k)) e) (delegates_shown t₀ rs room b x l ∙ T_false _ d)
    where
      go : (s : ℕ) (v : Bool) → eqb (s % 512) 0 ≡ v → not v ≡ false → leb 512 s ≡ false → s ≡ 0
      go s true e h g =
          let z = eqb-true (s % 512) 0 e in
          elim (dec_lt s 512) [ yes m ↦ omega arith | no m ↦ absurd (let o : ◌≡◌ {A = Bool} true false = sym (le-leb 512 s (omega arith)) ∙ g in let q : ◌≡◌ {A = ℕ} 0 1 = cc in omega arith) ]
      go s false e h g = absurd (let q : ◌≡◌ {A = ℕ} 0 1 = cc in omega arith)

  none_is : (x : ℕ) → x < length fs → variables_in t x ≡ 0 → loose (tree_of fs x) ≡ []
  none_is x l e = empty_T (loose (tree_of fs x)) (go (is_empty (loose (tree_of fs x))) (ap (λ s. not (eqb (s % 512) 0)) (sym e) ∙ low_none x l))
    where
      go : (v : Bool) → false ≡ not v → T v
      go true h = tt
      go false h = absurd (let q : ◌≡◌ {A = ℕ} 0 1 = cc in omega arith)

  is_just : (x v : ℕ) → x < length fs → (record_of fs v).kind ≡ 16 → T (may_delegate (name_of fs v) (tree_of fs x)) → (loose (tree_of fs x) ≡ [] → ⊥) → variables_in t x ≡ 1 + v
  unfolding allows_by
  is_just x v l k a n =
      go (eqb (variables_in t x) 0) (eqb (variables_in t x) (1 + v)) refl refl (allowed_shown t₀ rs room b v x k l ∙ T_true (may_delegate (name_of fs v) (tree_of fs x)) a)
    where
      go : (p q : Bool) → eqb (variables_in t x) 0 ≡ p → eqb (variables_in t x) (1 + v) ≡ q → (p || q) ≡ true → variables_in t x ≡ 1 + v
      go true q e d h = absurd (n (none_is x l (eqb-true (variables_in t x) 0 e)))
      go false true e d h = eqb-true (variables_in t x) (1 + v) d
      go false false e d h = absurd (let q : ◌≡◌ {A = ℕ} 0 1 = cc in omega arith)

  just_is : (x v : ℕ) → x < length fs → (record_of fs v).kind ≡ 16 → variables_in t x ≡ 1 + v → T (may_delegate (name_of fs v) (tree_of fs x)) × (loose (tree_of fs x) ≡ [] → ⊥)
  unfolding allows_by
  just_is x v l k e =
      let few = formula_limit_lem rs b in
      let m = is_record fs v (λ z. omega arith) in
      let s : variables_in t x % 512 ≡ 1 + v = omega arith in
      let g : allows_by t v x ≡ true = rw (e, ne_eqb (1 + v) 0 (λ z. omega arith), eq-eqb (1 + v) (1 + v) refl) in
      (subst T (sym g ∙ allowed_shown t₀ rs room b v x k l) tt, (just_shown t₀ rs room b v x k l s).0)

  pub book_told : Told (formulas rs) (filled t₀ [] rs)
  book_told =
      record {
        ok = (contents rs b).formulas_ok;
        few = formula_limit_lem rs b;
        long = rw (filled_length t₀ [] rs) room;
        placed = formula_placed t₀ t rs (book_indexed t₀ rs room b);
        none = is_none;
        none_told = none_is;
        just = is_just;
        just_told = just_is;
      }
