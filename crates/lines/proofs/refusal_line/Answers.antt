use lib.Dec.{lit≤}
use borrow.Author.Rules.{rules}
use native.Mathlib.Omega.{arith}
use lib.ListN.{length, length-append}
use mathlib.Core.Path.{ap, ◌∙◌}
use Prim.Native.Nat.{ℕ}
use Rattle.logic.specs.Text.{decimal}
use Rattle.digits.proofs.Puts.{writes, writes_then, writes_as, front_written}
use Rattle.lines.proofs.refusal_line.Goals as goal
use Rattle.logic.specs.Listing.{refused_line}

pub returns : goal.returns
unfolding refused_line
returns c =
    let e = c.from.ensures ∙ c.number.ensures in
    front_written c.new-w.ensures.unwritten (writes_then (writes_then (writes_then (writes_then (writes c.text.ensures.put) (writes_as (ap decimal e) (writes c.number-2.ensures.put))) (writes c.text-2.ensures.put)) (writes c.number-3.ensures.put)) (writes c.text-3.ensures.put)) (search rules) (simp length-append (omega (arith, c.number-2.ensures.few, c.number-3.ensures.few, ap (λ (k : ℕ). length (decimal k)) e))) (lit≤ tt)
