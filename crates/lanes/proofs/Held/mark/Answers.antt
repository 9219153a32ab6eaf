use Rattle.lanes.specs.Lanes.{marked}
use Rattle.lanes.proofs.Held.mark.Goals as goal

pub returns : goal.returns
unfolding marked
returns c = rw c.from-at.ensures
