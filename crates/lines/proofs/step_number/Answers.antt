use native.Mathlib.Omega.{arith}
use lib.ListN.{length-append}
use mathlib.Core.Path.{ap, ◌∙◌}
use Prim.Native.Nat.{ℕ}
use Rattle.logic.specs.Explained.{aligned}
use Prim.Native.Nat.{◌-◌}
use lib.ListN.{replicate, length-replicate}
use Rattle.digits.proofs.Puts.{writes, writes_then, writes_as, appends_of}
use Rattle.lines.proofs.step_number.Goals as goal

pub returns-clause-put : goal.returns-clause-put
unfolding aligned
returns-clause-put c =
    let e = c.spaces.ensures ∙ ap (λ (k : ℕ). replicate (4 - k) 32) c.digits_of.ensures.0 in
    appends_of (writes_then (writes_as e (writes c.text.ensures.put)) (writes c.number.ensures.put)) (omega arith)

pub returns-clause-few : goal.returns-clause-few
unfolding aligned
returns-clause-few c =
    let e = c.spaces.ensures ∙ ap (λ (k : ℕ). replicate (4 - k) 32) c.digits_of.ensures.0 in
    simp (length-append, length-replicate) (omega (arith, c.number.ensures.few))
