use Rattle.engine.proofs.Laws.{run_none, since}
use Rattle.engine.proofs.Applied.{grants_more}
use Rattle.facts.specs.Lists.{upto}
use native.Mathlib.Omega.{arith}
use borrow.Author.Rules.{rules}
use Rattle.engine.proofs.grant_all.Goals as goal

pub loop-c-init : goal.loop-c-init
unfolding upto
loop-c-init c = record { within = search rules; log = search rules; state = run_none _ _ _ }

pub loop-c-preserved : goal.loop-c-preserved
loop-c-preserved c =
    let e = c.next_in-c.ensures in
    let t = c.loop-c-test.true in
    let v = c.loop-c.invariant in
    record { within = omega (arith, e.1); log = search rules; state = grants_more _ _ _ _ _ _ _ _ e.0 c.second_at-y.ensures (rw c.from.ensures at e.2) v.state (since _ _ _ v.log.2 c.grant.ensures.state) }
