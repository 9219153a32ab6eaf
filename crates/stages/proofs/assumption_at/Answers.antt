use Rattle.flat.specs.Layout.{assumption_at}
use Rattle.stages.proofs.assumption_at.Goals as goal

pub returns : goal.returns
unfolding assumption_at
returns c = rw c.from.ensures
