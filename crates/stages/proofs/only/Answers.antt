use Rattle.stages.proofs.Turns.{only_one_lem, only_none}
use Rattle.stages.proofs.only.Goals as goal

pub returns-then-rank-lt8 : goal.returns-then-rank-lt8
returns-then-rank-lt8 c = only_one_lem _ c.if-rank-lt8.true

pub returns-else-rank-lt8 : goal.returns-else-rank-lt8
returns-else-rank-lt8 c = only_none _ c.if-rank-lt8.false
