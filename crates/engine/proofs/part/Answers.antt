use Rattle.engine.proofs.Laws.{run_none, up_more, up_end, since, spread_already}
use Rattle.engine.proofs.Applied.{parted_all}
use Rattle.facts.specs.Lists.{upto}
use borrow.Author.Rules.{rules}
use Rattle.engine.proofs.part.Goals as goal

pub returns-then-is_spread-clause-state : goal.returns-then-is_spread-clause-state
returns-then-is_spread-clause-state c = parted_all _ _ _ _ _ _ c.lead-seen.ensures c.sees.ensures c.sees-2.ensures c.fire.ensures.state (spread_already _ _ _ _ _ _ _ _ _ c.is_spread.ensures c.if-is_spread.true)

pub loop-j-init : goal.loop-j-init
unfolding upto
loop-j-init c = record { log = search rules; state = run_none _ _ _ }

pub loop-j-preserved : goal.loop-j-preserved
loop-j-preserved c = let v = c.loop-j.invariant in record { log = search rules; state = up_more _ _ _ _ _ v.state (since _ _ _ v.log.2 c.spread_rank.ensures.state) }

pub returns-clause-state : goal.returns-clause-state
returns-clause-state c = let v = c.loop-j.invariant in parted_all _ _ _ _ _ _ c.lead-seen.ensures c.sees.ensures c.sees-2.ensures c.fire.ensures.state (since _ _ _ c.fire.ensures.log.2 (up_end _ _ _ _ _ 8 c.loop-j.auto.j-end c.loop-j-test.false v.state))
