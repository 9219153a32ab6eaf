use Rattle.format.specs.Index.{packed}
use borrow.Author.Rules.{rules}
use Rattle.format.proofs.pack.Goals as goal

pub returns : goal.returns
unfolding packed
returns c = search rules
