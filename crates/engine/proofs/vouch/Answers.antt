use mathlib.Core.Path.{refl}
use Rattle.engine.proofs.Laws.{run_one}
use Rattle.engine.proofs.Applied.{join_is}
use Rattle.engine.proofs.vouch.Goals as goal

pub returns-clause-state : goal.returns-clause-state
returns-clause-state c = run_one _ _ _ _ _ refl refl (join_is c.join-i.ensures c.fresh.ensures c.said.ensures c.believed.ensures) c.fire.ensures.state
