use Rattle.tables.specs.Users.{used}
use Rattle.tables.proofs.add_user.Goals as goal

pub returns : goal.returns
unfolding used
returns c = rw c.from.ensures at c.add_to_row.ensures
