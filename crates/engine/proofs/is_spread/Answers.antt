use Rattle.engine.proofs.Laws.{spread_no, spread_yes}
use Rattle.engine.proofs.is_spread.Goals as goal

pub returns-then-has_all : goal.returns-then-has_all
returns-then-has_all c = spread_yes _ _ _ c.from-from.ensures c.from-to.ensures c.has_all.ensures c.if-has_all.true c.has_all-then-has_all.ensures

pub returns-else-has_all : goal.returns-else-has_all
returns-else-has_all c = spread_no _ _ _ c.from-from.ensures c.from-to.ensures c.has_all.ensures c.if-has_all.false
