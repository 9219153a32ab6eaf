use mathlib.Core.Path.{ap}
use lib.Dec.{eqb}
use Rattle.flat.proofs.Flat.is_clear.Goals as goal

pub returns : goal.returns
returns c = ap (λ v. eqb v 1) c.field.ensures
