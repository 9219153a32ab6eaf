use lib.Dec.{lit≤}
use borrow.Author.Rules.{rules}
use native.Mathlib.Omega.{arith}
use lib.ListN.{length, length-append}
use mathlib.Core.Path.{ap, ◌∙◌}
use Prim.Native.Nat.{ℕ}
use Rattle.logic.specs.Reason.{reason_line}
use Rattle.logic.specs.Reason.{reason_of, placed}
use Rattle.digits.proofs.Puts.{writes, writes_then, writes_as, front_written}
use Rattle.lines.proofs.reason_line.Goals as goal

pub returns : goal.returns
unfolding reason_line
returns c =
    let e = c.from-number.ensures ∙ c.number.ensures in
    let P = λ (k : ℕ). placed (reason_of k).unit c.args.refusal.place in
    let S = λ (k : ℕ). (reason_of k).sentence in
    front_written c.new-w.ensures.unwritten (writes_then (writes_then (writes_as (ap P e) (writes c.put_place.ensures.put)) (writes_as (c.sentence.ensures.0 ∙ ap S e) (writes c.text.ensures.put))) (writes c.text-2.ensures.put)) (search rules) (simp length-append (omega (arith, c.put_place.ensures.few, c.sentence.ensures.1, ap (λ (k : ℕ). length (P k)) e, ap length (c.sentence.ensures.0 ∙ ap S e)))) (lit≤ tt)
