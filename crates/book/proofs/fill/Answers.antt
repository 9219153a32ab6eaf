use Rattle.chains.proofs.Chain.{unchained}
use Rattle.book.proofs.Stage.{start, small, finish, refuse_read, turn_read, room_read, chain_read, bare_read, bound_read}
use Rattle.logic.proofs.Bytes.{Bytes}
use borrow.Author.Rules.{rules}
use lib.ListN.{length}
use native.Mathlib.Omega.{arith}
use native.Mathlib.Nat.{not-suc-le-zero}
use Prim.Native.Nat.{◌<◌}
use mathlib.Core.Path.{refl}
use Rattle.book.proofs.fill.Goals as goal

pub loop-at-init : goal.loop-at-init
loop-at-init c =
    let e = c.new-c.ensures in
    let n = c.new-n.ensures in
    let k = c.new-chains.ensures in
    (refl, rw e (search rules), refl, start _ _ _ _ n e, rw (n, k.0, k.1) (unchained _), (search rules, rw n (λ b x l. absurd (not-suc-le-zero l))))

pub read_record-read-requires : goal.read_record-read-requires
read_record-read-requires c =
    let v = c.loop-at.invariant in
    let p = c.requires in
    (search rules, search rules, omega arith, v.4.headed, v.4.linked)

pub returns-in_default : goal.returns-in_default
returns-in_default c =
    let s = c.args.book.now in
    let g = c.loop-at in
    let v = g.invariant in
    let l : g.c.at < length s = omega (arith, c.loop-at-test.true, v.0) in
    let b : Bytes s = λ i. (c.shared_slice_known-1.given i).fits in
    refuse_read s _ _ _ g.c c.requires v.3 l b _ v.0 _ c.read_record-read.ensures c.in_default.is (search rules)

pub link_record-requires : goal.link_record-requires
link_record-requires c =
    let s = c.args.book.now in
    let g = c.loop-at in
    let v = g.invariant in
    let l : g.c.at < length s = omega (arith, c.loop-at-test.true, v.0) in
    let b : Bytes s = λ i. (c.shared_slice_known-1.given i).fits in
    room_read s _ _ _ g.c c.requires v.3 l b _ v.0 _ c.read_record-read.ensures c.in-Ok.is

pub store-bare-requires : goal.store-bare-requires
store-bare-requires c =
    let s = c.args.book.now in
    let g = c.loop-at in
    let v = g.invariant in
    let l : g.c.at < length s = omega (arith, c.loop-at-test.true, v.0) in
    let b : Bytes s = λ i. (c.shared_slice_known-1.given i).fits in
    bare_read s _ _ _ g.c c.requires v.3 l b _ v.0 _ c.read_record-read.ensures c.in-Ok.is v.5

pub one_more-n-requires : goal.one_more-n-requires
one_more-n-requires c =
    let s = c.args.book.now in
    let g = c.loop-at in
    let v = g.invariant in
    let l : g.c.at < length s = omega (arith, c.loop-at-test.true, v.0) in
    let b : Bytes s = λ i. (c.shared_slice_known-1.given i).fits in
    small (turn_read s _ _ _ g.c c.requires v.3 l b _ v.0 _ c.read_record-read.ensures c.in-Ok.is c.store-bare.ensures.1 refl).reached

pub loop-at-smaller : goal.loop-at-smaller
loop-at-smaller c =
    let s = c.args.book.now in
    let g = c.loop-at in
    let v = g.invariant in
    let l : g.c.at < length s = omega (arith, c.loop-at-test.true, v.0) in
    let b : Bytes s = λ i. (c.shared_slice_known-1.given i).fits in
    let z = turn_read s _ _ _ g.c c.requires v.3 l b _ v.0 _ c.read_record-read.ensures c.in-Ok.is c.store-bare.ensures.1 c.one_more-n.ensures in
    omega arith

pub loop-at-preserved : goal.loop-at-preserved
loop-at-preserved c =
    let s = c.args.book.now in
    let g = c.loop-at in
    let v = g.invariant in
    let l : g.c.at < length s = omega (arith, c.loop-at-test.true, v.0) in
    let b : Bytes s = λ i. (c.shared_slice_known-1.given i).fits in
    let e = c.read_record-read.ensures in
    let r = c.in-Ok.is in
    let u = c.store-bare.ensures in
    let m = c.one_more-n.ensures in
    let z = turn_read s _ _ _ g.c c.requires v.3 l b _ v.0 _ e r u.1 m in
    let k = chain_read s _ _ _ g.c c.requires v.3 l b _ v.0 _ e r v.4 c.link_record.ensures u.1 m in
    (refl, z.inside, search rules, z.reached, k, bound_read s _ _ _ g.c c.requires v.3 l b _ v.0 _ e r v.5 u.1 m u.0)

pub returns : goal.returns
returns c = let v = c.loop-at.invariant in finish _ _ _ _ c.loop-at.c c.requires v.3 (omega arith)
