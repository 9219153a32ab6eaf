use Rattle.format.proofs.Laws.{within_is}
use Rattle.format.proofs.record_at.Goals as goal

pub returns-then-s-ge7 : goal.returns-then-s-ge7
returns-then-s-ge7 c = c.record_within.ensures

pub returns : goal.returns
returns c = within_is _ _ c.byte.ensures c.field_at.ensures c.field_at-2.ensures c.field_at-3.ensures
