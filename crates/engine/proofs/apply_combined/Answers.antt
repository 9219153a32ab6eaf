use Rattle.engine.proofs.Laws.{since}
use Rattle.engine.proofs.Applied.{combined_all}
use Rattle.engine.proofs.apply_combined.Goals as goal

pub returns-clause-state : goal.returns-clause-state
returns-clause-state c = combined_all _ _ _ _ _ _ c.sees.ensures c.first_at.ensures c.sees-2.ensures c.lead-open.ensures c.fire.ensures.state (since _ _ _ c.fire.ensures.log.2 c.open_by_all.ensures.state)
