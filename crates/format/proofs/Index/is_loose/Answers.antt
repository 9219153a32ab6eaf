use Rattle.format.specs.Variables.{loose_in}
use Rattle.format.proofs.Index.is_loose.Goals as goal

pub returns : goal.returns
unfolding loose_in
returns c = rw c.variables_at.ensures
