use Rattle.tables.specs.Users.{taken_over}
use Rattle.tables.proofs.share_word.Goals as goal

pub returns : goal.returns
unfolding taken_over
returns c = rw (c.from.ensures, c.from-2.ensures)
