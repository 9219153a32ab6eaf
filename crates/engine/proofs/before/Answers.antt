use borrow.Author.Tests.{lt-ltb, le-ltb}
use Rattle.rules.specs.Rules.{before}
use Rattle.engine.proofs.before.Goals as goal

pub returns-then-z-y : goal.returns-then-z-y
unfolding before
returns-then-z-y c = rw c.from.ensures (rw (lt-ltb _ _ (rw c.from.ensures at c.if-z-y.true)))

pub returns-else-z-y : goal.returns-else-z-y
unfolding before
returns-else-z-y c = rw (le-ltb _ _ (rw c.from.ensures at c.if-z-y.false))
