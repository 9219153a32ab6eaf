use Rattle.steps.proofs.Laws.{behind_none, behind_cut, behind_one}
use Rattle.steps.proofs.next.Goals as goal

pub returns-then-size-at : goal.returns-then-size-at
returns-then-size-at c = let a = c.args in behind_none a.derivation.now a.at c.if-size-at.true

pub returns-then-size-at-2 : goal.returns-then-size-at-2
returns-then-size-at-2 c = let a = c.args in behind_cut a.derivation.now a.at c.size_of-k.ensures.0 c.if-size-at-2.true

pub returns : goal.returns
returns c = let a = c.args in behind_one a.derivation.now a.at c.size_of-k.ensures.0 c.if-size-at.false c.if-size-at-2.false
