use mathlib.Core.Path.{◌∙◌}
use Rattle.engine.proofs.Laws.{since}
use Rattle.engine.proofs.Applied.{rules_all}
use Rattle.engine.proofs.apply.Goals as goal

pub returns-clause-state : goal.returns-clause-state
returns-clause-state c = rules_all _ _ _ _ _ _ _ c.apply_clear.ensures.state (since _ _ _ c.apply_clear.ensures.log.2 c.apply_kind.ensures.state) (since _ _ _ (c.apply_kind.ensures.log.2 ∙ c.apply_clear.ensures.log.2) c.apply_trusted.ensures.state)
