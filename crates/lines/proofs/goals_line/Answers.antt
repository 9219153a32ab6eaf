use lib.Dec.{lit≤}
use borrow.Author.Rules.{rules}
use native.Mathlib.Omega.{arith}
use lib.ListN.{length, length-append}
use mathlib.Core.Path.{ap}
use Prim.Native.Nat.{ℕ}
use Rattle.logic.specs.Text.{ascii, decimal}
use Rattle.digits.proofs.Puts.{writes, writes_then, writes_end, writes_as, front_written}
use Rattle.lines.proofs.goals_line.Goals as goal
use Rattle.logic.specs.Listing.{line_feed, goals_line}

pub returns : goal.returns
unfolding goals_line
returns c = front_written c.new-w.ensures.unwritten (writes_end (ascii " per cent") line_feed (writes_then (writes_then (writes_then (writes_then (writes_then (writes c.text.ensures.put) (writes_as (ap decimal c.from.ensures) (writes c.number.ensures.put))) (writes c.text-2.ensures.put)) (writes_as (ap decimal c.from-2.ensures) (writes c.number-2.ensures.put))) (writes c.text-3.ensures.put)) (writes_as (ap decimal c.per_cent.ensures) (writes c.number-3.ensures.put))) (writes c.text-4.ensures.put)) (search rules) (simp length-append (omega (arith, c.number.ensures.few, c.number-2.ensures.few, c.number-3.ensures.few, ap (λ (k : ℕ). length (decimal k)) c.from.ensures, ap (λ (k : ℕ). length (decimal k)) c.from-2.ensures, ap (λ (k : ℕ). length (decimal k)) c.per_cent.ensures))) (lit≤ tt)
