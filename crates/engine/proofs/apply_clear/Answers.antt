use mathlib.Core.Path.{ap}
use mathlib.Core.Bool.{not}
use Rattle.engine.proofs.Laws.{run_none, up_more, up_end, since}
use Rattle.engine.proofs.Applied.{vouched_none, vouched_idle, vouched_all}
use Rattle.facts.specs.Lists.{upto}
use borrow.Author.Rules.{rules}
use Rattle.engine.proofs.apply_clear.Goals as goal

pub returns-then-not-is_clear-clause-state : goal.returns-then-not-is_clear-clause-state
returns-then-not-is_clear-clause-state c = vouched_none _ _ _ _ _ c.is_clear.ensures (ap not c.if-not-is_clear.true)

pub returns-then-lane-eq0-clause-state : goal.returns-then-lane-eq0-clause-state
returns-then-lane-eq0-clause-state c = vouched_idle _ _ _ _ _ _ _ _ c.is_clear.ensures (ap not c.if-not-is_clear.false) c.fresh.ensures c.lane.ensures c.if-lane-eq0.true

pub loop-j-init : goal.loop-j-init
unfolding upto
loop-j-init c = record { log = search rules; state = run_none _ _ _ }

pub loop-j-preserved : goal.loop-j-preserved
loop-j-preserved c = let v = c.loop-j.invariant in record { log = search rules; state = up_more _ _ _ _ _ v.state (since _ _ _ v.log.2 c.vouch.ensures.state) }

pub returns-clause-state : goal.returns-clause-state
returns-clause-state c = let v = c.loop-j.invariant in vouched_all _ _ _ _ _ c.is_clear.ensures (ap not c.if-not-is_clear.false) (up_end _ _ _ _ _ 8 c.loop-j.auto.j-end c.loop-j-test.false v.state)
