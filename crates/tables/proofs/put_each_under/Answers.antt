use Rattle.tables.proofs.Laws.{under_more}
use Rattle.tables.specs.Delegations.{under_upto}
use native.Mathlib.Omega.{arith}
use mathlib.Core.Path.{refl}
use borrow.Author.Rules.{rules}
use Rattle.tables.proofs.put_each_under.Goals as goal

pub loop-x-init : goal.loop-x-init
unfolding under_upto
loop-x-init c = (search rules, refl)

pub loop-x-preserved : goal.loop-x-preserved
loop-x-preserved c =
    let e = c.next_in-x.ensures in
    let t = c.loop-x-test.true in
    (omega (arith, e.1), under_more _ _ _ _ _ c.loop-x.invariant.1 c.put_under.ensures e.0 (rw c.from.ensures at e.2))
