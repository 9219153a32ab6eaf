use native.Mathlib.Omega.{arith}
use lib.ListN.{length, length-append}
use mathlib.Core.Path.{ap}
use Prim.Native.Nat.{ℕ}
use Rattle.logic.specs.Text.{decimal}
use Rattle.logic.specs.Explained.{goal_heading}
use Rattle.digits.proofs.Puts.{writes, writes_then, writes_as, appends_of}
use Rattle.lines.proofs.goal_heading.Goals as goal

pub returns-clause-put : goal.returns-clause-put
unfolding goal_heading
returns-clause-put c = appends_of (writes_then (writes_then (writes_then (writes_then (writes c.text.ensures.put) (writes_as (ap decimal c.from.ensures) (writes c.number.ensures.put))) (writes c.text-2.ensures.put)) (writes c.short.ensures.put)) (writes c.text-3.ensures.put)) (omega arith)

pub returns-clause-few : goal.returns-clause-few
unfolding goal_heading
returns-clause-few c = simp length-append (omega (arith, c.number.ensures.few, c.short.ensures.few, ap (λ (k : ℕ). length (decimal k)) c.from.ensures))
