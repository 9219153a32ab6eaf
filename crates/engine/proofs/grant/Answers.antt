use mathlib.Core.Path.{ap}
use mathlib.Core.Bool.{not}
use Rattle.engine.proofs.Applied.{grants_none, grants_one}
use Rattle.engine.proofs.grant.Goals as goal

pub returns-then-row_has-clause-state : goal.returns-then-row_has-clause-state
returns-then-row_has-clause-state c = grants_one _ _ _ _ _ _ _ c.second_at-y.ensures (rw c.from.ensures at c.row_has.ensures) (ap not c.if-row_has.true) c.believes.ensures c.believes-then-row_has.ensures c.lead-i.ensures c.fire.ensures.state

pub returns-else-row_has-clause-state : goal.returns-else-row_has-clause-state
returns-else-row_has-clause-state c = grants_none _ _ _ _ _ _ _ c.second_at-y.ensures (rw c.from.ensures at c.row_has.ensures) (ap not c.if-row_has.false)
