use Rattle.walks.proofs.WalkLaws.{down_more, down_end}
use Rattle.walks.proofs.Walker.go_down.Goals as goal

pub loop-i-preserved : goal.loop-i-preserved
loop-i-preserved c = down_more _ _ _ _ c.loop-i-test.true c.go_on_from.ensures c.loop-i.invariant

pub returns : goal.returns
returns c = down_end _ _ _ _ c.loop-i-test.false c.loop-i.invariant
