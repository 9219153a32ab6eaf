-- The limits of an accepted book, and of its survey: F is at most 38,912.
use Prim.Native.Nat.{◌+◌, ◌*◌, ◌≤◌}
use mathlib.Core.Path.{◌≡◌}
use mathlib.Core.List.{List}
use native.Mathlib.Omega.{arith}
use native.Mathlib.Nat.{mul-le-mul}
use lib.Dec.{eqb, eqb→eq}
use Rattle.logic.specs.declared.Record.{Record}
use Rattle.logic.specs.Kind.{is_formula_record}
use Rattle.logic.specs.Count.{formulas, principals}
use Rattle.logic.specs.Book.{Book}
use Rattle.logic.specs.Place.{principal_count, formula_count, F}
use Rattle.logic.proofs.Follows.{of_kind_within, formula_limit_lem, principal_limit_lem}

-- the principals of a book are those of its formula records
pub principals_of : (rs : List Record) → principals (formulas rs) ≡ principals rs
principals_of rs = of_kind_within (λ k. eqb k 1) is_formula_record (λ k t. rw (eqb→eq k 1 t) tt) rs

-- F IS AT MOST 38,912
pub size_limit : (rs : List Record) → Book rs → F (formulas rs) ≤ 38912
unfolding F
size_limit rs b =
    let few : principal_count (formulas rs) ≤ 8 = rw (principals_of rs) (principal_limit_lem rs b) in
    let rows : principal_count (formulas rs) * formula_count (formulas rs) ≤ 8 * 256 = mul-le-mul few (formula_limit_lem rs b) in
    let columns : 3 + 2 * principal_count (formulas rs) ≤ 19 = omega arith in
    mul-le-mul rows columns
