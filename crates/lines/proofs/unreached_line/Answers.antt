use lib.Dec.{lit≤}
use borrow.Author.Rules.{rules}
use Rattle.logic.specs.Explained.{unreached_line}
use Rattle.digits.proofs.Puts.{writes, front_written}
use Rattle.lines.proofs.unreached_line.Goals as goal

pub returns : goal.returns
unfolding unreached_line
returns c = front_written c.new-w.ensures.unwritten (writes c.text.ensures.put) (search rules) (lit≤ tt) (lit≤ tt)
