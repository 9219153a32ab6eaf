use Rattle.flat.specs.Layout.{message_at}
use mathlib.Core.Path.{refl}
use Rattle.tables.proofs.message_at.Goals as goal

pub returns : goal.returns
unfolding message_at
returns c = refl
