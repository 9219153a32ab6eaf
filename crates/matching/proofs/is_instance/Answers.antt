use Rattle.matching.specs.Instance.{is_instance_in}
use mathlib.Core.Path.{◌∙◌}
use Rattle.matching.proofs.is_instance.Goals as goal

pub returns : goal.returns
unfolding is_instance_in
returns c = c.match_down.ensures.0 ∙ rw c.put_image.ensures
