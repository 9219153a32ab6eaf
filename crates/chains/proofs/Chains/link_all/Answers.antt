use Rattle.chains.proofs.Chain.{linked_turn, linked_end}
use Rattle.chains.specs.Chain.{hash_of, heads_upto, next_upto}
use Rattle.std.proofs.Common.{get_or-take, length-take-le}
use native.Mathlib.Omega.{arith}
use mathlib.Core.Path.{refl, ap, ◌∙◌}
use Rattle.chains.proofs.Chains.link_all.Goals as goal

pub loop-i-init : goal.loop-i-init
unfolding heads_upto next_upto
loop-i-init c = (refl, refl)

pub loop-i-preserved : goal.loop-i-preserved
loop-i-preserved c =
    let a = c.args in
    let e = length-take-le a.n a.table.now c.requires.1 in
    linked_turn _ _ _ _ c.loop-i.invariant (c.hash.ensures ∙ ap hash_of (get_or-take a.n a.table.now c.loop-i.i 0 (omega (arith, e, c.loop-i-test.true)))) c.link.ensures

pub returns : goal.returns
returns c =
    let a = c.args in
    let e = length-take-le a.n a.table.now c.requires.1 in
    linked_end _ _ _ _ a.n c.loop-i.invariant (omega (arith, e))
