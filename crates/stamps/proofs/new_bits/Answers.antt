use mathlib.Core.Path.{refl}
use Rattle.stamps.specs.Stamps.{fresh}
use Rattle.stamps.proofs.new_bits.Goals as goal

pub returns : goal.returns
unfolding fresh
returns c = refl
