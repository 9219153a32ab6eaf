use Rattle.chains.specs.Chain.{place_told}
use Rattle.chains.proofs.Chain.{along_end, along_outside, along_met, along_past, told_pred}
use mathlib.Core.Path.{ap, ◌∙◌}
use Rattle.chains.proofs.Chains.find.Goals as goal

pub loop-c-init : goal.loop-c-init
loop-c-init c = rw c.from.ensures

pub returns-then-table-i : goal.returns-then-table-i
returns-then-table-i c =
    let e = c.from-i.ensures in
    ap place_told (along_outside _ _ _ _ _ c.loop-c.invariant c.loop-c-test.true (rw e at c.if-table-i.true))

pub returns-then-table-i-2 : goal.returns-then-table-i-2
returns-then-table-i-2 c =
    let e = c.from-i.ensures in
    told_pred _ c.loop-c-test.true
    ∙ ap place_told (along_met _ _ _ _ _ c.loop-c.invariant c.loop-c-test.true (rw e at c.if-table-i.false) (rw e at c.if-table-i-2.true))

pub loop-c-preserved : goal.loop-c-preserved
loop-c-preserved c =
    let e = c.from-i.ensures in
    along_past _ _ _ _ _ c.loop-c.invariant _ c.loop-c-test.true (rw e at c.if-table-i.false) (rw e at c.if-table-i-2.false) c.link_behind-c.ensures.0

pub returns : goal.returns
returns c = ap place_told (along_end _ _ _ _ _ c.loop-c.invariant c.loop-c-test.false)
