use Rattle.stages.proofs.Laws.{assumed_none, assumed_more, assumed_since}
use borrow.Author.Rules.{rules}
use Rattle.stages.proofs.Bounded.assume_all.Goals as goal

pub loop-a-init : goal.loop-a-init
loop-a-init c = record { log = search rules; state = assumed_none _ _ _ _ _ }

pub loop-a-preserved : goal.loop-a-preserved
loop-a-preserved c = let v = c.loop-a.invariant in record { log = search rules; state = assumed_more _ _ _ _ _ _ v.state (assumed_since _ _ _ _ _ v.log.2 c.assume_in_force.ensures.state) }
