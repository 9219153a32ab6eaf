use Rattle.checker.proofs.Stage.{start, judged_inside, next_fits, refuse_step, turn_step, finish}
use lib.ListN.{length, take, drop}
use Prim.Native.Nat.{◌<◌, ◌-◌}
use native.Mathlib.Omega.{arith}
use borrow.Author.Rules.{rules}
use Rattle.std.specs.Prelude.{Ok}
use Rattle.checker.specs.Judge.{fault_in, JudgedIs}
use Rattle.checker.proofs.check_steps.Goals as goal
use Rattle.checker.proofs.check_steps.Goals.{After-put_claim}

pub loop-at-init : goal.loop-at-init
loop-at-init c = record { within = search rules; room = search rules; reached = λ rs g h. start h _ _ }

pub returns-in_err-step : goal.returns-in_err-step
returns-in_err-step c = λ rs g h. refuse_step h _ _ _ _ (c.loop-at.invariant.reached rs g h) c.loop-at-test.true _ (search rules)

judged : (c : After-put_claim)
    → let b = c.args.basis.now in
    let rest = take (length c.args.derivation.now - c.loop-at.at) (drop c.loop-at.at c.args.derivation.now) in
    JudgedIs (Ok c.in_ok-step.step) (fault_in b.numbers.now b.counts b.clears.now b.message c.loop-at.claims c.loop-at.count rest) rest
judged c = search rules

pub overflow_add-at : goal.overflow_add-at
overflow_add-at c = let z = judged_inside _ _ _ _ _ _ c.args.derivation.now c.loop-at.at c.loop-at-test.true _ (judged (goal.at.overflow_add-at c).After-put_claim) in omega arith

pub loop-at-smaller : goal.loop-at-smaller
loop-at-smaller c = let z = judged_inside _ _ _ _ _ _ c.args.derivation.now c.loop-at.at c.loop-at-test.true _ (judged (goal.at.loop-at-smaller c).After-put_claim) in omega arith

pub loop-at-preserved : goal.loop-at-preserved
loop-at-preserved c =
    let z = judged_inside _ _ _ _ _ _ c.args.derivation.now c.loop-at.at c.loop-at-test.true _ (judged (goal.at.loop-at-preserved c).After-put_claim) in
    let k = c.loop-at.invariant in
    let fits : c.loop-at.count < length c.loop-at.claims =
    omega (arith, next_fits (length c.args.derivation.now) (length c.args.claims.now) c.loop-at.at c.loop-at.count c.requires k.room c.loop-at-test.true z.0) in
    record {
      within = omega arith;
      room = omega arith;
      reached = λ rs g h. turn_step h _ _ _ _ (k.reached rs g h) c.loop-at-test.true _ (judged (goal.at.loop-at-preserved c).After-put_claim) fits c.pack.ensures c.put_claim.ensures;
    }

pub returns : goal.returns
returns c = λ rs g h. finish h _ _ _ _ (c.loop-at.invariant.reached rs g h) c.loop-at-test.false _ c.at_end.ensures
