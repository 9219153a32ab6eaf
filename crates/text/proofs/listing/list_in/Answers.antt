use native.Mathlib.Omega.{arith}
use Prim.Native.Nat.{ℕ, ◌+◌}
use mathlib.Core.Path.{refl, ap}
use Rattle.written.specs.Stated.{records_in}
use Rattle.places.specs.Places.{goals_in}
use Rattle.text.proofs.Lines.{size_is, short_table, is_over, nothing_fits, a_piece}
use Rattle.text.proofs.listing.list_in.Goals as goal

-- A table that is too short, a listing that is over, a buffer that is too short, and a piece.
pub returns-then-table-size : goal.returns-then-table-size
returns-then-table-size c =
    let a = c.args in
    let t = a.numbers.now in
    let fs = records_in a.n.formulas t in
    let gs = goals_in a.n.goals t in
    let e = size_is a.n.formulas t a.n c.requires a.table.now _ c.count_places-size.ensures.0 in
    short_table a.audience fs gs a.table.now a.from a.buffer.now (omega (arith, c.if-table-size.true)) (rw c.at.ensures refl)

pub returns-then-size-from : goal.returns-then-size-from
returns-then-size-from c =
    let a = c.args in
    let t = a.numbers.now in
    let fs = records_in a.n.formulas t in
    let gs = goals_in a.n.goals t in
    let e = size_is a.n.formulas t a.n c.requires a.table.now _ c.count_places-size.ensures.0 in
    is_over a.audience fs gs a.table.now a.from a.buffer.now (omega (arith, c.if-table-size.false)) (omega (arith, c.if-size-from.true))

pub returns-then-done-eq0 : goal.returns-then-done-eq0
returns-then-done-eq0 c =
    let a = c.args in
    let u = c.new-printer.ensures.same in
    let t = a.numbers.now in
    let fs = records_in a.n.formulas t in
    let gs = goals_in a.n.goals t in
    let e = size_is a.n.formulas t a.n c.requires a.table.now _ c.count_places-size.ensures.0 in
    nothing_fits a.audience fs gs a.table.now a.from a.buffer.now (omega (arith, c.if-table-size.false)) (omega (arith, c.if-size-from.false)) (ap (λ (z : ℕ). z + 2) e)
    (rw (u.0, u.1, u.2, u.3) at c.put_lines-done.ensures) c.if-done-eq0.true (rw c.at-then-done-eq0.ensures refl)

pub returns : goal.returns
returns c =
    let a = c.args in
    let u = c.new-printer.ensures.same in
    let t = a.numbers.now in
    let fs = records_in a.n.formulas t in
    let gs = goals_in a.n.goals t in
    let e = size_is a.n.formulas t a.n c.requires a.table.now _ c.count_places-size.ensures.0 in
    a_piece a.audience fs gs a.table.now a.from a.buffer.now (omega (arith, c.if-table-size.false)) (omega (arith, c.if-size-from.false)) (ap (λ (z : ℕ). z + 2) e)
    (rw (u.0, u.1, u.2, u.3) at c.put_lines-done.ensures) c.if-done-eq0.false
