use Rattle.tables.proofs.Laws.{shared_none, shared_row}
use Rattle.tables.proofs.share_one.Goals as goal

pub returns-then-is_statement : goal.returns-then-is_statement
returns-then-is_statement c = shared_row _ _ _ c.is_statement.ensures c.if-is_statement.true c.about.ensures c.share.ensures

pub returns-else-is_statement : goal.returns-else-is_statement
returns-else-is_statement c = shared_none _ _ _ c.is_statement.ensures c.if-is_statement.false
