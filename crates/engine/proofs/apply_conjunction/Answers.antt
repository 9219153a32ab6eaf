use mathlib.Core.Path.{◌∙◌}
use Rattle.engine.proofs.Laws.{since}
use Rattle.engine.proofs.Applied.{conjoined_all}
use Rattle.engine.proofs.apply_conjunction.Goals as goal

pub returns-clause-state : goal.returns-clause-state
returns-clause-state c = conjoined_all _ _ _ _ _ _ _ c.part.ensures.state (since _ _ _ c.part.ensures.log.2 c.part-2.ensures.state) (since _ _ _ (c.part-2.ensures.log.2 ∙ c.part.ensures.log.2) c.join_parts.ensures.state)
