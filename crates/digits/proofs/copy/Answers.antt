use borrow.Author.Rules.{rules}
use mathlib.Core.Path.{refl}
use Prim.Native.Nat.{◌<◌}
use native.Mathlib.Nat.{add-zero}
use native.Mathlib.Omega.{arith}
use lib.ListN.{length}
use Rattle.digits.proofs.Put.{put_more, put_end}
use Rattle.digits.proofs.copy.Goals as goal

pub loop-i-init : goal.loop-i-init
loop-i-init c = (refl, rw add-zero)

pub loop-i-preserved : goal.loop-i-preserved
loop-i-preserved c =
    let inv = c.loop-i.invariant in
    let text = c.args.text.now in
    let i = c.loop-i.i in
    let l : i < length text = omega arith in
    (search rules, put_more _ _ text _ i l inv.1)

pub returns : goal.returns
returns c =
    let inv = c.loop-i.invariant in
    put_end c.loop-i.out _ c.args.text.now c.args.at _ {n = c.args.n} (rw inv.0 c.requires) (omega arith) inv.1
