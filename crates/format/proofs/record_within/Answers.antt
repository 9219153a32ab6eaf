use Rattle.format.proofs.Laws.{within_is}
use Rattle.format.proofs.record_within.Goals as goal

pub returns : goal.returns
returns c = within_is _ _ c.byte.ensures c.field_within.ensures c.field_within-2.ensures c.field_within-3.ensures
