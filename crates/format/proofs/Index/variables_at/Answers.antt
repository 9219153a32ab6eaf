use Rattle.format.specs.Variables.{variables_in}
use borrow.Author.Rules.{rules}
use Rattle.format.proofs.Index.variables_at.Goals as goal

pub returns-in_default : goal.returns-in_default
unfolding variables_in
returns-in_default c = rw (← c.from.ensures) (search rules)

pub returns : goal.returns
unfolding variables_in
returns c = rw (← c.from.ensures) (search rules)
