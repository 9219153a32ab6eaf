use Rattle.tables.proofs.Laws.{under_none, under_one_lem}
use Rattle.tables.specs.Users.{used}
use Rattle.tables.proofs.put_under.Goals as goal

pub returns-then-row_has : goal.returns-then-row_has
unfolding used
returns-then-row_has c = under_one_lem _ _ _ _ (rw c.from.ensures at c.row_has.ensures) c.if-row_has.true (rw c.from-then-row_has.ensures at c.add_to_row.ensures)

pub returns-else-row_has : goal.returns-else-row_has
returns-else-row_has c = under_none _ _ _ _ (rw c.from.ensures at c.row_has.ensures) c.if-row_has.false
