use native.Mathlib.Omega.{arith}
use Prim.Native.Nat.{ℕ}
use mathlib.Core.Path.{ap}
use lib.ListN.{length, length-append}
use borrow.Author.Rules.{rules}
use Rattle.logic.specs.Text.{decimal}
use Rattle.digits.proofs.Puts.{writes, writes_then, writes_as}
use Rattle.text.proofs.Lines.{line_written}
use Rattle.text.proofs.Printer.put_held.Goals as goal

-- The line of a fact, put part by part.
pub returns : goal.returns
returns c =
    let e = c.from.ensures in
    line_written c.new-w.ensures.unwritten
    (writes_then (writes_then (writes_then (writes_as (ap decimal e) (writes c.number.ensures.put)) (writes c.text.ensures.put)) (writes c.put_printed.ensures.put)) (writes c.text-2.ensures.put)) (search rules)
    (simp length-append (omega (arith, c.number.ensures.few, ap (λ (k : ℕ). length (decimal k)) e, c.put_printed.ensures.few)))
