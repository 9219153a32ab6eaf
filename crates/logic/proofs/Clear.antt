-- Whether a formula is clear, worked out record by record.
use Prim.Native.Nat.{ℕ, ◌<◌}
use mathlib.Core.Path.{◌≡◌, refl, sym, ◌∙◌, ap, ap₂}
use mathlib.Core.List.{List}
use mathlib.Core.Bool.{Bool, true, false, cond, not, ◌&&◌, ◌||◌}
use lib.ListN.{length}
use lib.Dec.{T, eqb, leb}
use Rattle.logic.specs.declared.Record.{Record}
use Rattle.logic.specs.Kind.{body_of, bodies, refers}
use Rattle.logic.specs.Book.{EachField}
use Rattle.logic.specs.Formula.{Tree, clear, record_of, built, tree_of}
use Rattle.logic.proofs.Cases.{FormulaKind}
use Rattle.logic.proofs.Cases.FormulaKind.{kind1, kind2, kind3, kind4, kind5, kind6, kind7, kind8, kind9, kind10, kind11, kind12, kind13, kind14, kind15, kind16, kind17}
use Rattle.logic.proofs.Formulas.{Formulas, kind_of_lem, tree_is}

-- whether the formula of record r is clear, where `is_clear y` says it of formula y
unfoldable pub clear_by : (ℕ → Bool) → Record → Bool
clear_by is_clear r =
    cond (eqb r.kind 5 || eqb r.kind 6) false
    (cond (eqb r.kind 4 || eqb r.kind 7) (is_clear r.first && is_clear r.second)
    (cond (eqb r.kind 11) (is_clear r.first)
    (cond (leb 10 r.kind && not (eqb r.kind 16)) (is_clear r.second) true)))

-- a record is clear as its tree is, if `is_clear` says this of its parts
by_kind : (tree : ℕ → Tree) (look : ℕ → Record) (is_clear : ℕ → Bool) (k a b c : ℕ) → FormulaKind k
    → EachField (λ s y. T (refers s) → is_clear y ≡ clear (tree y)) (record { kind = k; first = a; second = b; third = c })
    → clear_by is_clear (record { kind = k; first = a; second = b; third = c })
    ≡ clear (built tree look (record { kind = k; first = a; second = b; third = c }))
unfolding clear_by built body_of bodies
by_kind tree look is_clear k a b c kind1 h = refl
by_kind tree look is_clear k a b c kind2 h = refl
by_kind tree look is_clear k a b c kind3 h = refl
by_kind tree look is_clear k a b c kind4 h = ap₂ (λ s t. s && t) (h.0 tt) (h.1 tt)
by_kind tree look is_clear k a b c kind5 h = refl
by_kind tree look is_clear k a b c kind6 h = refl
by_kind tree look is_clear k a b c kind7 h = ap₂ (λ s t. s && t) (h.0 tt) (h.1 tt)
by_kind tree look is_clear k a b c kind8 h = refl
by_kind tree look is_clear k a b c kind9 h = refl
by_kind tree look is_clear k a b c kind10 h = h.1 tt
by_kind tree look is_clear k a b c kind11 h = h.0 tt
by_kind tree look is_clear k a b c kind12 h = h.1 tt
by_kind tree look is_clear k a b c kind13 h = h.1 tt
by_kind tree look is_clear k a b c kind14 h = h.1 tt
by_kind tree look is_clear k a b c kind15 h = h.1 tt
by_kind tree look is_clear k a b c kind16 h = refl
by_kind tree look is_clear k a b c kind17 h = h.1 tt

-- RECORD BY RECORD: the fields of a record refer to earlier ones, so one pass upwards finds all
pub clear_from : (fs : List Record) → Formulas fs → (x : ℕ) → x < length fs → (is_clear : ℕ → Bool)
    → EachField (λ s y. T (refers s) → is_clear y ≡ clear (tree_of fs y)) (record_of fs x)
    → clear_by is_clear (record_of fs x) ≡ clear (tree_of fs x)
clear_from fs ok x l is_clear h =
    let r = record_of fs x in
    by_kind (tree_of fs) (record_of fs) is_clear r.kind r.first r.second r.third (kind_of_lem fs ok x l) h
    ∙ ap clear (sym (tree_is fs ok x l))

pub clear_is : (fs : List Record) → Formulas fs → (x : ℕ) → x < length fs
    → clear (tree_of fs x) ≡ clear_by (λ y. clear (tree_of fs y)) (record_of fs x)
clear_is fs ok x l = sym (clear_from fs ok x l (λ y. clear (tree_of fs y)) ((λ u. refl), (λ u. refl), (λ u. refl)))
