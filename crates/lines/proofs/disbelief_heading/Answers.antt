use native.Mathlib.Omega.{arith}
use lib.ListN.{length-append}
use Rattle.logic.specs.Honesty.{disbelief_heading}
use Rattle.lines.proofs.Laws.{writes_name}
use Rattle.digits.proofs.Puts.{writes, writes_then, appends_of}
use Rattle.lines.proofs.disbelief_heading.Goals as goal

pub returns-clause-put : goal.returns-clause-put
unfolding disbelief_heading
returns-clause-put c = appends_of (writes_then (writes_name (writes_then (writes c.text.ensures.put) (writes c.short.ensures.put)) (writes c.text-2.ensures.put) (writes c.short-2.ensures.put)) (writes c.text-3.ensures.put)) (omega arith)

pub returns-clause-few : goal.returns-clause-few
unfolding disbelief_heading
returns-clause-few c = simp length-append (omega (arith, c.short.ensures.few, c.short-2.ensures.few))
