use Rattle.lanes.proofs.Laws.{no_rank}
use Rattle.facts.specs.Facts.{bit_at}
use borrow.Author.Rules.{rules}
use borrow.Author.Tests.{le-ltb}
use Rattle.lanes.proofs.is_in.Goals as goal

pub returns-then-rank-lt8 : goal.returns-then-rank-lt8
unfolding bit_at
returns-then-rank-lt8 c = search rules

pub returns-else-rank-lt8 : goal.returns-else-rank-lt8
returns-else-rank-lt8 c = rw (le-ltb c.args.rank 8 c.if-rank-lt8.false) (no_rank c.args.set c.args.rank c.ranges.set.fits c.if-rank-lt8.false)
