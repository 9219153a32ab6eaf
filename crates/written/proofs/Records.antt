-- The index of a book gives its formula records back.
use Prim.Native.Nat.{ℕ, ◌≤◌}
use native.Mathlib.Omega.{arith}
use mathlib.Core.Path.{◌≡◌, refl, ap, ◌∙◌}
use mathlib.Core.List.{List, [], ◌∷◌, map}
use lib.ListN.{length}
use lib.Dec.{T}
use Rattle.logic.specs.declared.Record.{Record}
use Rattle.logic.specs.Kind.{is_formula_record}
use Rattle.logic.specs.Count.{formulas}
use Rattle.logic.specs.Book.{All, EachField, Whole, Book}
use Rattle.format.specs.Index.{index_size, packed, unpacked, filled}
use Rattle.logic.proofs.Table.{formula_bounds}
use Rattle.format.proofs.Packing.{whole_fields, unpacked_packed}
use Rattle.logic.proofs.Follows.{of_kind_all, all_of_kind, book_whole}
use Rattle.format.proofs.Indexing.{book_indexed, formulas_table}
use Rattle.written.specs.Stated.{records_in}

unpacked_all : (fs : List Record) → All (EachField Whole) fs → All (λ r. T (is_formula_record r.kind)) fs
    → map unpacked (map packed fs) ≡ fs
unpacked_all [] w k = refl
unpacked_all (r ∷ fs) w k =
    let b = formula_bounds r.kind k.0 in
    rw (unpacked_packed r (whole_fields r w.0) (omega arith), unpacked_all fs w.1 k.1)

pub records_is : (t : List ℕ) (rs : List Record) → index_size ≤ length t → Book rs → records_in (length (formulas rs)) (filled t [] rs) ≡ formulas rs
unfolding records_in
records_is t rs l b =
    ap (map unpacked) (formulas_table t (filled t [] rs) rs (book_indexed t rs l b))
    ∙ unpacked_all (formulas rs) (all_of_kind (EachField Whole) is_formula_record rs (book_whole rs b)) (of_kind_all is_formula_record rs)
