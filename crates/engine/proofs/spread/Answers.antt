use borrow.Author.Tests.{le-ltb}
use mathlib.Core.Path.{refl}
use Rattle.engine.proofs.Laws.{run_one}
use Rattle.engine.proofs.Applied.{spread_none}
use Rattle.engine.proofs.spread.Goals as goal

pub returns-then-lane-eq0-clause-state : goal.returns-then-lane-eq0-clause-state
returns-then-lane-eq0-clause-state c = spread_none _ _ _ _ _ _ _ _ _ c.requires c.lane.ensures c.if-lane-eq0.true

pub returns-clause-state : goal.returns-clause-state
returns-clause-state c = run_one _ _ _ _ _ (le-ltb c.args.kind 66 c.requires) refl c.lead.ensures c.fire.ensures.state
