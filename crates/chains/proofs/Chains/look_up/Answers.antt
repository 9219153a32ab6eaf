use mathlib.Core.Path.{◌∙◌}
use Rattle.chains.proofs.Chains.look_up.Goals as goal

pub returns : goal.returns
returns c = c.find.ensures ∙ rw c.hash.ensures
