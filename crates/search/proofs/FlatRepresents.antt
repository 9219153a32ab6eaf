-- The flat array of a book represents it: the rules look at the book's own kinds, references, ranks and opened beliefs.
-- Assumes nothing.
use Prim.Native.Nat.{ℕ, ◌+◌, ◌%◌, ◌<◌, ◌≤◌}
use native.Mathlib.Nat.{mod-eq_of_lt}
use native.Mathlib.Omega.{arith}
use mathlib.Core.Path.{◌≡◌, refl, sym, ap, ap₂, ◌∙◌}
use mathlib.Core.List.{List}
use mathlib.Core.Bool.{Bool, true, false, cond}
use lib.ListN.{length}
use lib.Dec.{T, eqb}
use borrow.Author.Tests.{ne_eqb}
use Rattle.logic.specs.declared.Record.{Record}
use Rattle.logic.specs.Count.{formulas}
use Rattle.logic.specs.Book.{Book, EachField, Whole}
use Rattle.logic.specs.Kind.{body_of, bodies, refers}
use Rattle.logic.specs.Fact.Fact.{Believes, BelievesFresh, BelievesSaid, BelievesBelieves}
use Rattle.logic.proofs.Cases.{FormulaKind}
use Rattle.logic.proofs.Cases.FormulaKind.{kind1, kind2, kind3, kind4, kind5, kind6, kind7, kind8, kind9, kind10, kind11, kind12, kind13, kind14, kind15, kind16, kind17}
use Rattle.logic.specs.Formula.{clear, is_closed, record_of, tree_of}
use Rattle.logic.specs.Place.{rank, ranked, principal_count}
use Rattle.logic.specs.Written.{opened}
use Rattle.logic.proofs.Contents.{contents}
use Rattle.logic.proofs.Follows.{formula_limit_lem, principal_limit_lem}
use Rattle.logic.proofs.Formulas.{is_record, kind_of_lem, principal_is}
use Rattle.logic.proofs.Limits.{principals_of}
use Rattle.logic.proofs.Meaning.{formula_in_lem}
use Rattle.logic.proofs.Places.{rank_below, ranked_rank, ranked_principal, rank_ranked}
use Rattle.layout.specs.Flat.{opened_in}
use Rattle.layout.proofs.FlatBook.{Laid, bit_for}
use Rattle.lanes.proofs.Sets.{apart}
use Rattle.flat.specs.Layout.{field_at, at, kind_at}
use Rattle.flat.proofs.Cells.{Ranking, Represents, cell_of}

-- principals by rank
unfoldable pub ranking : (rs : List Record) → Book rs → Ranking (formulas rs)
ranking rs b =
    record {
      principals = principal_count (formulas rs);
      few = rw (principals_of rs) (principal_limit_lem rs b);
      rank = rank (formulas rs);
      who = ranked (formulas rs);
      ranked = λ x i. (rank_below (formulas rs) x i, ranked_rank (formulas rs) x i);
      named = λ j l. (ranked_principal (formulas rs) j l, rank_ranked (formulas rs) j l);
    }

small_mod : (a b : ℕ) → a < b → a % b ≡ a
small_mod a b l = mod-eq_of_lt l

as_one : (c : Bool) → eqb (cond c 1 0) 1 ≡ c
as_one true = refl
as_one false = refl

-- the fields of a formula that is no leaf are references to earlier records, or absent
field_small : (x k a b c : ℕ) → x ≤ 256 → FormulaKind k → 4 ≤ k → (k ≡ 16 → ⊥)
    → EachField (λ s y. T (refers s) → y < x) (record { kind = k; first = a; second = b; third = c })
    → EachField Whole (record { kind = k; first = a; second = b; third = c }) → (a < 256) × (b < 256) × (c < 256)
unfolding body_of bodies
field_small x k a b c n kind1 l v e w = absurd (omega arith)
field_small x k a b c n kind2 l v e w = absurd (omega arith)
field_small x k a b c n kind3 l v e w = absurd (omega arith)
field_small x k a b c n kind4 l v e w = (omega (arith, e.0 tt), omega (arith, e.1 tt), omega (arith, w.2))
field_small x k a b c n kind5 l v e w = (omega (arith, e.0 tt), omega (arith, e.1 tt), omega (arith, e.2 tt))
field_small x k a b c n kind6 l v e w = (omega (arith, e.0 tt), omega (arith, e.1 tt), omega (arith, e.2 tt))
field_small x k a b c n kind7 l v e w = (omega (arith, e.0 tt), omega (arith, e.1 tt), omega (arith, w.2))
field_small x k a b c n kind8 l v e w = (omega (arith, e.0 tt), omega (arith, e.1 tt), omega (arith, e.2 tt))
field_small x k a b c n kind9 l v e w = (omega (arith, e.0 tt), omega (arith, e.1 tt), omega (arith, w.2))
field_small x k a b c n kind10 l v e w = (omega (arith, e.0 tt), omega (arith, e.1 tt), omega (arith, e.2 tt))
field_small x k a b c n kind11 l v e w = (omega (arith, e.0 tt), omega (arith, w.1), omega (arith, w.2))
field_small x k a b c n kind12 l v e w = (omega (arith, e.0 tt), omega (arith, e.1 tt), omega (arith, w.2))
field_small x k a b c n kind13 l v e w = (omega (arith, e.0 tt), omega (arith, e.1 tt), omega (arith, w.2))
field_small x k a b c n kind14 l v e w = (omega (arith, e.0 tt), omega (arith, e.1 tt), omega (arith, w.2))
field_small x k a b c n kind15 l v e w = (omega (arith, e.0 tt), omega (arith, e.1 tt), omega (arith, w.2))
field_small x k a b c n kind16 l v e w = absurd (v refl)
field_small x k a b c n kind17 l v e w = (omega (arith, e.0 tt), omega (arith, e.1 tt), omega (arith, w.2))

-- where a belief is kept is the place of the opened belief
module _ (rs : List Record) (book : Book rs) where
  place_opened : (y x k a b c : ℕ) → x < 256 → FormulaKind k
      → EachField (λ s z. T (refers s) → z < x) (record { kind = k; first = a; second = b; third = c })
      → at (opened_in (record { kind = k; first = a; second = b; third = c }) x) (bit_for (formulas rs) (record { kind = k; first = a; second = b; third = c }))
      ≡ cell_of (ranking rs book)
      (cond (eqb k 11) (BelievesFresh y a) (cond (eqb k 14) (BelievesSaid y a b) (cond (eqb k 12) (BelievesBelieves y a b) (Believes y x))))
  unfolding opened_in body_of bodies ranking
  place_opened y x k a b c n kind1 e = ap (λ (z : ℕ). at z 1) (small_mod x 256 n)
  place_opened y x k a b c n kind2 e = ap (λ (z : ℕ). at z 1) (small_mod x 256 n)
  place_opened y x k a b c n kind3 e = ap (λ (z : ℕ). at z 1) (small_mod x 256 n)
  place_opened y x k a b c n kind4 e = ap (λ (z : ℕ). at z 1) (small_mod x 256 n)
  place_opened y x k a b c n kind5 e = ap (λ (z : ℕ). at z 1) (small_mod x 256 n)
  place_opened y x k a b c n kind6 e = ap (λ (z : ℕ). at z 1) (small_mod x 256 n)
  place_opened y x k a b c n kind7 e = ap (λ (z : ℕ). at z 1) (small_mod x 256 n)
  place_opened y x k a b c n kind8 e = ap (λ (z : ℕ). at z 1) (small_mod x 256 n)
  place_opened y x k a b c n kind9 e = ap (λ (z : ℕ). at z 1) (small_mod x 256 n)
  place_opened y x k a b c n kind10 e = ap (λ (z : ℕ). at z 1) (small_mod x 256 n)
  place_opened y x k a b c n kind11 e = ap (λ (z : ℕ). at z 2) (small_mod a 256 (let h = e.0 tt in omega arith))
  place_opened y x k a b c n kind12 e = ap (λ (z : ℕ). at z (11 + rank (formulas rs) a)) (small_mod b 256 (let h = e.1 tt in omega arith))
  place_opened y x k a b c n kind13 e = ap (λ (z : ℕ). at z 1) (small_mod x 256 n)
  place_opened y x k a b c n kind14 e = ap (λ (z : ℕ). at z (3 + rank (formulas rs) a)) (small_mod b 256 (let h = e.1 tt in omega arith))
  place_opened y x k a b c n kind15 e = ap (λ (z : ℕ). at z 1) (small_mod x 256 n)
  place_opened y x k a b c n kind16 e = ap (λ (z : ℕ). at z 1) (small_mod x 256 n)
  place_opened y x k a b c n kind17 e = ap (λ (z : ℕ). at z 1) (small_mod x 256 n)

  pub represented : (b : List ℕ) → Laid rs b → Represents (ranking rs book) b
  unfolding field_at ranking opened
  represented b h =
      let ok = (contents rs book).formulas_ok in
      let few = formula_limit_lem rs book in
      record {
        kinds = λ x l. h.form x l 0 (omega arith);
        fields = λ x k v.
            let l = is_record (formulas rs) x (λ e. omega arith) in
            let r = record_of (formulas rs) x in
            let s = field_small x r.kind r.first r.second r.third (omega arith) (kind_of_lem (formulas rs) ok x l) k v (ok.earlier x l) (ok.whole x l) in (
              h.form x l 1 (omega arith) ∙ small_mod r.first 256 s.0,
              h.form x l 2 (omega arith) ∙ small_mod r.second 256 s.1,
              h.form x l 3 (omega arith) ∙ small_mod r.third 256 s.2,
            );
        clears = λ x l. rw (h.form x l 4 (omega arith)) (as_one (clear (tree_of (formulas rs) x)));
        ranks = λ x i.
            let l = is_record (formulas rs) x (λ e. omega arith) in
            let m = rank_below (formulas rs) x i in
            let q : principal_count (formulas rs) ≤ 8 = rw (principals_of rs) (principal_limit_lem rs book) in
            rw (h.form x l 5 (omega arith)) (small_mod (rank (formulas rs) x) 8 (omega arith));
        opens = λ a x i.
            let l = formula_in_lem (formulas rs) x i in
            let r = record_of (formulas rs) x in
            ap₂ at (h.form x l 6 (omega arith)) (h.form x l 7 (omega arith))
            ∙ place_opened a x r.kind r.first r.second r.third (omega arith) (kind_of_lem (formulas rs) ok x l) (ok.earlier x l);
      }

  -- a principal has his kind in the array, and nothing else has it
  pub principal_test : (b : List ℕ) → Laid rs b → (x : ℕ) → x < length (formulas rs) → eqb (kind_at b x) 1 ≡ eqb (record_of (formulas rs) x).kind 1
  principal_test b h x l = ap (λ (k : ℕ). eqb k 1) ((represented b h).kinds x l) ∙ go (is_closed (tree_of (formulas rs) x)) refl
    where
      go : (z : Bool) → is_closed (tree_of (formulas rs) x) ≡ z → eqb (cond z (record_of (formulas rs) x).kind 0) 1 ≡ eqb (record_of (formulas rs) x).kind 1
      go true e = refl
      go false e =
          sym (ne_eqb (record_of (formulas rs) x).kind 1
          (λ k. apart (sym (ap is_closed (principal_is (formulas rs) (contents rs book).formulas_ok x k)) ∙ e)))
