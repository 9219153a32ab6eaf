use native.Mathlib.Omega.{arith}
use Prim.Native.Nat.{ℕ, ◌≤◌}
use mathlib.Core.Path.{refl, ap, ◌∙◌}
use lib.ListN.{length, replicate}
use lib.Seq.{sets}
use Rattle.logic.specs.Honesty.{disbelief_line}
use Rattle.written.specs.Stated.{records_in}
use Rattle.text.specs.Lines.{messages_in}
use Rattle.text.proofs.Index.{messages_counted}
use Rattle.text.proofs.PairLines.{no_pair, pair_short, pair_whole}
use Rattle.digits.proofs.Puts.{front_is}
use Rattle.text.proofs.disbelief.disbelief_line_in.Goals as goal

-- A pair that is not there, a buffer that is too short, and the line.
pub returns-then-is_no_pair : goal.returns-then-is_no_pair
returns-then-is_no_pair c =
    let a = c.args in
    let t = a.numbers.now in
    let fs = records_in a.n.formulas t in
    let ms = messages_in a.n.messages t in
    let z = messages_counted a.n.formulas t a.n c.requires.index c.requires.messages in
    no_pair fs ms a.message a.formula a.buffer.now z c.requires.index.formulas c.is_no_pair.ensures c.if-is_no_pair.true (rw c.at.ensures refl)

pub returns-then-buffer-k : goal.returns-then-buffer-k
returns-then-buffer-k c =
    let a = c.args in
    let u = c.new-printer.ensures.same in
    let t = a.numbers.now in
    let fs = records_in a.n.formulas t in
    let ms = messages_in a.n.messages t in
    let z = messages_counted a.n.formulas t a.n c.requires.index c.requires.messages in
    pair_short fs ms a.message a.formula a.buffer.now z c.requires.index.formulas c.is_no_pair.ensures c.if-is_no_pair.false (rw (u.1, u.2, u.3) at c.put_disbelief-k.ensures).size c.if-buffer-k.true (rw c.at-then-buffer-k.ensures refl)

pub returns : goal.returns
returns c =
    let a = c.args in
    let v = c.new-printer.ensures.same in
    let t = a.numbers.now in
    let fs = records_in a.n.formulas t in
    let ms = messages_in a.n.messages t in
    let z = messages_counted a.n.formulas t a.n c.requires.index c.requires.messages in
    let u = (rw (v.1, v.2, v.3) at c.put_disbelief-k.ensures) in
    let w = disbelief_line fs ms a.message a.formula in
    let k : c.put_disbelief-k.result ≤ length {A = ℕ} (replicate 4160 0) = omega (arith, u.room) in
    pair_whole fs ms a.message a.formula a.buffer.now z c.requires.index.formulas c.is_no_pair.ensures c.if-is_no_pair.false u.size c.if-buffer-k.false
    (c.put_front.ensures ∙ ap (sets a.buffer.now 0) (front_is w (replicate 4160 0) u.list u.size k))
