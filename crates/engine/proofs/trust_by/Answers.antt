use mathlib.Core.Path.{ap}
use mathlib.Core.Bool.{not}
use Rattle.engine.proofs.Applied.{trusted_none, trusted_one}
use Rattle.engine.proofs.trust_by.Goals as goal

pub returns-then-row_has-clause-state : goal.returns-then-row_has-clause-state
returns-then-row_has-clause-state c = trusted_one _ _ _ _ _ _ _ (rw c.from.ensures at c.row_has.ensures) (ap not c.if-row_has.true) c.trust.ensures.state

pub returns-else-row_has-clause-state : goal.returns-else-row_has-clause-state
returns-else-row_has-clause-state c = trusted_none _ _ _ _ _ _ _ (rw c.from.ensures at c.row_has.ensures) (ap not c.if-row_has.false)
