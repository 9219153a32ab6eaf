use Rattle.format.specs.Index.{unpacked}
use mathlib.Core.Path.{refl}
use Rattle.format.proofs.unpack.Goals as goal

pub returns : goal.returns
unfolding unpacked
returns c = refl
