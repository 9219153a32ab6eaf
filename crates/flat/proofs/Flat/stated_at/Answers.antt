use Rattle.flat.proofs.Laws.{stated_belief, stated_sight}
use Rattle.flat.proofs.Flat.stated_at.Goals as goal

pub returns-then-kind_at-eq-BELIEF : goal.returns-then-kind_at-eq-BELIEF
returns-then-kind_at-eq-BELIEF c = stated_belief _ _ c.second_at-x.ensures c.kind_at.ensures c.if-kind_at-eq-BELIEF.true c.opened_at.ensures

pub returns : goal.returns
returns c = stated_sight _ _ c.second_at-x.ensures c.kind_at.ensures c.if-kind_at-eq-BELIEF.false
