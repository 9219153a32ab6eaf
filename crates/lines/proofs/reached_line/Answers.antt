use lib.Dec.{lit≤}
use borrow.Author.Rules.{rules}
use native.Mathlib.Omega.{arith}
use lib.ListN.{length-append}
use Rattle.logic.specs.Text.{ascii}
use Rattle.logic.specs.Listing.{line_feed}
use Rattle.logic.specs.Explained.{reached_line}
use Rattle.digits.proofs.Puts.{writes, writes_then, writes_end, front_written}
use Rattle.lines.proofs.reached_line.Goals as goal

pub returns : goal.returns
unfolding reached_line
returns c = front_written c.new-w.ensures.unwritten (writes_end (ascii " steps") line_feed (writes_then (writes c.text.ensures.put) (writes c.number.ensures.put)) (writes c.text-2.ensures.put)) (search rules) (simp length-append (omega (arith, c.number.ensures.few))) (lit≤ tt)
