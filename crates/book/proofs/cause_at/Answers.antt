use Rattle.book.proofs.Laws.{cause_told}
use Rattle.book.proofs.cause_at.Goals as goal

pub returns : goal.returns
returns c = cause_told c.fault_of.result c.fault_of.ensures c.unwrap_or.ensures
