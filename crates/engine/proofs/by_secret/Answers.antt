use mathlib.Core.Path.{ap}
use mathlib.Core.Bool.{not}
use Rattle.engine.proofs.Applied.{secret_none, secret_all}
use Rattle.engine.proofs.by_secret.Goals as goal

pub returns-then-is_about-clause-state : goal.returns-then-is_about-clause-state
returns-then-is_about-clause-state c = secret_all _ _ _ _ _ _ _ c.is_about.ensures (ap not c.if-is_about.true) c.hear_ends.ensures.state

pub returns-else-is_about-clause-state : goal.returns-else-is_about-clause-state
returns-else-is_about-clause-state c = secret_none _ _ _ _ _ _ _ c.is_about.ensures (ap not c.if-is_about.false)
