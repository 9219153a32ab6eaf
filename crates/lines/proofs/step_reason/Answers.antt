use native.Mathlib.Omega.{arith}
use lib.ListN.{length-append}
use Rattle.logic.specs.Text.{ascii}
use Rattle.logic.specs.Listing.{line_feed}
use Rattle.logic.specs.Explained.{why_in_brackets}
use Rattle.digits.proofs.Puts.{writes, writes_then, writes_end, appends_of}
use Rattle.lines.proofs.step_reason.Goals as goal

pub returns-clause-put : goal.returns-clause-put
unfolding why_in_brackets
returns-clause-put c = appends_of (writes_end (ascii "]") line_feed (writes_then (writes c.text.ensures.put) (writes c.put_why.ensures.put)) (writes c.text-2.ensures.put)) (omega arith)

pub returns-clause-few : goal.returns-clause-few
unfolding why_in_brackets
returns-clause-few c = simp length-append (omega (arith, c.put_why.ensures.few))
