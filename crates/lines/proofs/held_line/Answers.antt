use lib.Dec.{lit≤}
use borrow.Author.Rules.{rules}
use native.Mathlib.Omega.{arith}
use lib.ListN.{length-append}
use Rattle.digits.proofs.Puts.{writes, writes_then, front_written}
use Rattle.lines.proofs.held_line.Goals as goal
use Rattle.logic.specs.Listing.{held_line}

pub returns : goal.returns
unfolding held_line
returns c = front_written c.new-w.ensures.unwritten (writes_then (writes_then (writes c.text.ensures.put) (writes c.number.ensures.put)) (writes c.text-2.ensures.put)) (search rules) (simp length-append (omega (arith, c.number.ensures.few))) (lit≤ tt)
