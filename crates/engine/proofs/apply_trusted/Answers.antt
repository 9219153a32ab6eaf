use Rattle.engine.proofs.Laws.{run_none, up_end, since}
use Rattle.engine.proofs.Applied.{trusted_empty, trusted_all, trusted_more}
use Rattle.facts.specs.Lists.{upto}
use native.Mathlib.Omega.{arith}
use borrow.Author.Rules.{rules}
use Rattle.engine.proofs.apply_trusted.Goals as goal

pub returns-then-book-eq0-clause-state : goal.returns-then-book-eq0-clause-state
returns-then-book-eq0-clause-state c = trusted_empty _ _ _ _ _ _ c.if-book-eq0.true

pub loop-r-init : goal.loop-r-init
unfolding upto
loop-r-init c = record { within = search rules; log = search rules; state = run_none _ _ _ }

pub loop-r-preserved : goal.loop-r-preserved
loop-r-preserved c =
    let e = c.next_in-r.ensures in
    let t = c.loop-r-test.true in
    let v = c.loop-r.invariant in
    record { within = omega (arith, e.1); log = search rules; state = trusted_more _ _ _ _ _ _ _ _ e.0 (rw c.from.ensures at e.2) v.state (since _ _ _ v.log.2 c.trust_by.ensures.state) }

pub returns-clause-state : goal.returns-clause-state
returns-clause-state c = let v = c.loop-r.invariant in trusted_all _ _ _ _ _ _ c.if-book-eq0.false (up_end _ _ _ _ _ 256 v.within c.loop-r-test.false v.state)
