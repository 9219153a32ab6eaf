use Rattle.format.specs.Index.{goals_from}
use Prim.Native.Nat.{◌+◌, ◌<◌}
use native.Mathlib.Omega.{arith}
use mathlib.Core.Path.{refl, ap, ◌∙◌}
use lib.ListN.{length}
use Rattle.logic.specs.Listing.{count_true, marks_by}
use Rattle.written.specs.Stated.{records_in}
use Rattle.places.specs.Places.{goals_in}
use Rattle.places.proofs.Laws.{reached_step, goals_all}
use borrow.Author.Rules.{rules}
use Rattle.places.proofs.count_reached.Goals as goal

pub loop-g-init : goal.loop-g-init
unfolding goals_in marks_by count_true
loop-g-init c = (search rules, refl)

pub loop-g-preserved : goal.loop-g-preserved
loop-g-preserved c =
    let a = c.args in
    let l = c.loop-g in
    let h : goals_from + l.g < length a.numbers.now = omega arith in
    let k = rw c.from.ensures at c.is_reached.ensures in
    (search rules, reached_step (records_in a.formulas a.numbers.now) a.numbers.now a.table.now l.g h l.invariant.1 k c.from-reached.ensures)

pub returns : goal.returns
returns c =
    let a = c.args in
    c.loop-g.invariant.1 ∙ ap (λ gs. count_true (marks_by (records_in a.formulas a.numbers.now) gs a.table.now)) (goals_all a.numbers.now a.goals (omega arith))
