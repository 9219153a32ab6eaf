use Rattle.stages.proofs.Laws.{stamped_few}
use Rattle.stages.proofs.stamp.Goals as goal

pub returns-clause-few : goal.returns-clause-few
returns-clause-few c = stamped_few _ _ _ _ _ _ c.stamp_new.ensures.state
