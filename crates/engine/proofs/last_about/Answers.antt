use Rattle.rules.specs.Rules.{last_about}
use Rattle.engine.proofs.last_about.Goals as goal

pub returns : goal.returns
unfolding last_about
returns c = rw c.from.ensures
