use Rattle.rules.proofs.Tables.{before_below}
use Rattle.engine.proofs.Laws.{since}
use Rattle.engine.proofs.Applied.{opened_none, along_more, along_end}
use Rattle.rules.specs.Rules.{opened}
use mathlib.Core.Path.{refl}
use borrow.Author.Rules.{rules}
use Rattle.engine.proofs.open_by_all.Goals as goal

pub returns-then-lane-eq0-clause-state : goal.returns-then-lane-eq0-clause-state
returns-then-lane-eq0-clause-state c = opened_none _ _ _ _ _ _ _ _ _ _ c.sees.ensures c.lane.ensures c.if-lane-eq0.true

pub loop-y-init : goal.loop-y-init
unfolding opened
loop-y-init c = record { below = search rules; log = search rules; state = rw (c.last_about-y.ensures, c.second_at.ensures) refl }

pub loop-y-smaller : goal.loop-y-smaller
loop-y-smaller c = rw c.before-y.ensures (before_below _ _ c.loop-y-test.true)

pub loop-y-preserved : goal.loop-y-preserved
loop-y-preserved c = let v = c.loop-y.invariant in record { below = search rules; log = search rules; state = along_more _ _ _ _ _ _ _ c.loop-y-test.true v.below (since _ _ _ v.log.2 c.unseal.ensures.state) c.before-y.ensures v.state }

pub returns-clause-state : goal.returns-clause-state
returns-clause-state c = let v = c.loop-y.invariant in along_end _ _ _ _ _ _ c.loop-y-test.false v.state
