use Rattle.matching.specs.Instance.{may_stand}
use borrow.Author.Rules.{rules}
use Rattle.matching.proofs.match_field.Goals as goal

pub returns : goal.returns
unfolding may_stand
returns c = search rules
