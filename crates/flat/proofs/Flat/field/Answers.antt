use Rattle.flat.specs.Layout.{field_at}
use Rattle.flat.proofs.Flat.field.Goals as goal

pub returns : goal.returns
unfolding field_at
returns c = rw c.from.ensures
