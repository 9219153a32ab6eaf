use borrow.Author.Rules.{rules}
use native.Mathlib.Numerals.{add-one}
use native.Mathlib.Omega.{arith}
use lib.Seq.{paste-suc}
use Rattle.book.proofs.append.Goals as goal

pub loop-i-preserved : goal.loop-i-preserved
loop-i-preserved c =
    let a = c.args in
    let v = c.loop-i.invariant in
    (search rules, rw (v.1, add-one) (paste-suc a.buffer.now a.used a.bytes.now c.loop-i.i 0 (omega arith) c.loop-i-test.true))
