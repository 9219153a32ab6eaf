use Rattle.stamps.proofs.Laws.{stamp_put, stamp_none}
use Rattle.stamps.proofs.put_stamp.Goals as goal

pub returns-then-place-table : goal.returns-then-place-table
returns-then-place-table c = stamp_put _ _ _ _ c.if-place-table.true

pub returns : goal.returns
returns c = stamp_none _ _ _ _ c.if-place-table.false
