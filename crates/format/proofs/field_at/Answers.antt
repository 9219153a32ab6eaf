use borrow.Author.Tests.{lt-ltb, le-ltb}
use Rattle.format.proofs.field_at.Goals as goal

pub returns-then-i-size : goal.returns-then-i-size
returns-then-i-size c = rw (lt-ltb _ _ c.if-i-size.true) c.word.ensures

pub returns-else-i-size : goal.returns-else-i-size
returns-else-i-size c = rw (le-ltb _ _ c.if-i-size.false)
