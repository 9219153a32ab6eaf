use Rattle.flat.specs.Layout.{receiver_at}
use mathlib.Core.Path.{refl}
use Rattle.tables.proofs.receiver_at.Goals as goal

pub returns : goal.returns
unfolding receiver_at
returns c = refl
