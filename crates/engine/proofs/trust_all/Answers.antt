use Rattle.engine.proofs.Laws.{run_none, since}
use Rattle.engine.proofs.Applied.{trusts_more}
use Rattle.facts.specs.Lists.{upto}
use native.Mathlib.Omega.{arith}
use borrow.Author.Rules.{rules}
use Rattle.engine.proofs.trust_all.Goals as goal

pub loop-x-init : goal.loop-x-init
unfolding upto
loop-x-init c = record { within = search rules; log = search rules; state = run_none _ _ _ }

pub loop-x-preserved : goal.loop-x-preserved
loop-x-preserved c =
    let e = c.next_in-x.ensures in
    let t = c.loop-x-test.true in
    let v = c.loop-x.invariant in
    record { within = omega (arith, e.1); log = search rules; state = trusts_more _ _ _ _ _ _ _ _ e.0 c.second_at.ensures c.second_at-y.ensures (rw c.from.ensures at e.2) v.state (since _ _ _ v.log.2 c.trust_instance.ensures.state) }
