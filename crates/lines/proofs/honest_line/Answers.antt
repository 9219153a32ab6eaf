use lib.Dec.{lit≤}
use borrow.Author.Rules.{rules}
use Rattle.logic.specs.Honesty.{honest_line}
use Rattle.digits.proofs.Puts.{writes, front_written}
use Rattle.lines.proofs.honest_line.Goals as goal

pub returns : goal.returns
unfolding honest_line
returns c = front_written c.new-w.ensures.unwritten (writes c.text.ensures.put) (search rules) (lit≤ tt) (lit≤ tt)
