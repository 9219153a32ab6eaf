-- The tree of a formula is the same in a longer list.
use Prim.Native.Nat.{ℕ, zero, suc, ◌<◌}
use mathlib.Core.Path.{◌≡◌, refl, sym, ◌∙◌, ap, subst}
use mathlib.Core.List.{List, ◌++◌}
use native.Mathlib.Omega.{arith}
use lib.ListN.{length, length-append, get_or-append}
use lib.Dec.{T}
use Rattle.logic.specs.declared.Record.{Record}
use Rattle.logic.specs.Kind.{body_of, bodies, refers, is_formula_record}
use Rattle.logic.specs.Record.{no_record}
use Rattle.logic.specs.Book.{EachField}
use Rattle.logic.specs.Formula.{Tree, record_of, built, tree_of}
use Rattle.logic.proofs.Cases.{FormulaKind, formula_kind}
use Rattle.logic.proofs.Cases.FormulaKind.{kind1, kind2, kind3, kind4, kind5, kind6, kind7, kind8, kind9, kind10, kind11, kind12, kind13, kind14, kind15, kind16, kind17}
use Rattle.logic.proofs.Formulas.{tree_built}

-- what a record's tree is built from: the trees and the records of the fields that refer
built_same : (tree tree' : ℕ → Tree) (look look' : ℕ → Record) (k a b c : ℕ) → FormulaKind k
    → EachField (λ s y. T (refers s) → (tree y ≡ tree' y) × (look y ≡ look' y)) (record { kind = k; first = a; second = b; third = c })
    → built tree look (record { kind = k; first = a; second = b; third = c }) ≡ built tree' look' (record { kind = k; first = a; second = b; third = c })
unfolding built body_of bodies
built_same tree tree' look look' k a b c kind1 h = refl
built_same tree tree' look look' k a b c kind2 h = refl
built_same tree tree' look look' k a b c kind3 h = refl
built_same tree tree' look look' k a b c kind4 h = rw ((h.0 tt).0, (h.1 tt).0)
built_same tree tree' look look' k a b c kind5 h = rw ((h.0 tt).0, (h.1 tt).1, (h.2 tt).1)
built_same tree tree' look look' k a b c kind6 h = rw ((h.0 tt).0, (h.1 tt).1, (h.2 tt).1)
built_same tree tree' look look' k a b c kind7 h = rw ((h.0 tt).0, (h.1 tt).0)
built_same tree tree' look look' k a b c kind8 h = rw ((h.0 tt).1, (h.1 tt).1, (h.2 tt).1)
built_same tree tree' look look' k a b c kind9 h = rw ((h.0 tt).1, (h.1 tt).1)
built_same tree tree' look look' k a b c kind10 h = rw ((h.0 tt).1, (h.1 tt).0, (h.2 tt).1)
built_same tree tree' look look' k a b c kind11 h = rw (h.0 tt).0
built_same tree tree' look look' k a b c kind12 h = rw ((h.0 tt).1, (h.1 tt).0)
built_same tree tree' look look' k a b c kind13 h = rw ((h.0 tt).1, (h.1 tt).0)
built_same tree tree' look look' k a b c kind14 h = rw ((h.0 tt).1, (h.1 tt).0)
built_same tree tree' look look' k a b c kind15 h = rw ((h.0 tt).1, (h.1 tt).0)
built_same tree tree' look look' k a b c kind16 h = refl
built_same tree tree' look look' k a b c kind17 h = rw ((h.0 tt).1, (h.1 tt).0)

-- each record is of a formula's kind and refers to earlier ones
abbrev Kinds : List Record → Type 0
Kinds fs = (x : ℕ) → x < length fs → T (is_formula_record (record_of fs x).kind)

abbrev Earlier : List Record → Type 0
Earlier fs = (x : ℕ) → x < length fs → EachField (λ s y. T (refers s) → y < x) (record_of fs x)

module _ (fs gs : List Record) (kinds : Kinds (fs ++ gs)) (earlier : Earlier (fs ++ gs)) where
  longer : (x : ℕ) → x < length fs → x < length (fs ++ gs)
  longer x l = simp length-append (omega arith)

  same : (x : ℕ) → x < length fs → record_of (fs ++ gs) x ≡ record_of fs x
  same x l = get_or-append fs gs no_record x l

  kinds_front : Kinds fs
  kinds_front x l = subst (λ r. T (is_formula_record r.kind)) (same x l) (kinds x (longer x l))

  earlier_front : Earlier fs
  earlier_front x l = subst (EachField (λ s y. T (refers s) → y < x)) (same x l) (earlier x (longer x l))

  stays_below : (n x : ℕ) → x < n → x < length fs → tree_of (fs ++ gs) x ≡ tree_of fs x
  stays_below zero x b l = absurd (omega arith)
  stays_below (suc n) x b l =
      let r = record_of fs x in
      let g = earlier_front x l in
      let near : (y : ℕ) → y < x → (tree_of (fs ++ gs) y ≡ tree_of fs y) × (record_of (fs ++ gs) y ≡ record_of fs y) =
      λ y h. (stays_below n y (omega arith) (omega arith), same y (omega arith)) in
      tree_built (fs ++ gs) kinds earlier x (longer x l)
      ∙ (ap (built (tree_of (fs ++ gs)) (record_of (fs ++ gs))) (same x l)
      ∙ (built_same (tree_of (fs ++ gs)) (tree_of fs) (record_of (fs ++ gs)) (record_of fs) r.kind r.first r.second r.third
      (formula_kind r.kind (kinds_front x l))
      ((λ t. near r.first (g.0 t)), (λ t. near r.second (g.1 t)), (λ t. near r.third (g.2 t)))
      ∙ sym (tree_built fs kinds_front earlier_front x l)))

  -- THE SAME TREE in a longer list
  pub tree_stays : (x : ℕ) → x < length fs → tree_of (fs ++ gs) x ≡ tree_of fs x
  tree_stays x l = stays_below (suc x) x (omega arith) l
