use Rattle.facts.specs.Facts.{bit_at}
use mathlib.Core.Path.{refl}
use Rattle.stages.proofs.is_in_force.Goals as goal

pub returns : goal.returns
unfolding bit_at
returns c = refl
