use Rattle.tables.proofs.Laws.{not_linked, linked_one_lem}
use Rattle.tables.proofs.link_one.Goals as goal

pub returns-then-not-is_statement : goal.returns-then-not-is_statement
returns-then-not-is_statement c = not_linked _ _ _ c.is_statement.ensures c.if-not-is_statement.true

pub returns : goal.returns
returns c = rw (c.from.ensures, c.from-k.ensures) (linked_one_lem _ _ _ c.is_statement.ensures c.if-not-is_statement.false c.about.ensures)
