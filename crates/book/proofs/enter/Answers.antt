use Rattle.book.proofs.OpenBook.{read_refused, open_filled, opened_small, false_length, enter_refused, enter_opened}
use Rattle.book.proofs.Entering.{added_room}
use Rattle.logic.specs.Refusal.{told_entered}
use Rattle.logic.proofs.Bytes.{Bytes, bytes_take}
use Rattle.format.specs.Index.{index_size}
use lib.Dec.{lit≤}
use lib.Seq.{length-take-le}
use lib.ListN.{length, take, replicate}
use Rattle.std.specs.Prelude.{Ok, Err}
use Rattle.book.specs.Read.{Small}
use Rattle.book.proofs.OpenBook.{stays_written}
use borrow.Author.Rules.{rules}
use native.Mathlib.Omega.{arith}
use Prim.Native.Nat.{ℕ, ◌≤◌}
use mathlib.Core.Path.{◌≡◌, refl, sym, ap, ◌∙◌}
use Rattle.book.proofs.enter.Goals as goal

pub returns-then-buffer-used : goal.returns-then-buffer-used
returns-then-buffer-used c = let e = false_length _ _ c.args.bytes.now c.if-buffer-used.true in (rw c.at.ensures e, refl)

pub slice_bounds-fill-end-2 : goal.slice_bounds-fill-end-2
slice_bounds-fill-end-2 c = sym (length-take-le _ _ c.if-buffer-used.false)

pub returns-in_err-counts : goal.returns-in_err-counts
returns-in_err-counts c =
    let a = c.args in
    let l = c.if-buffer-used.false in
    let x = take a.used a.buffer.now in
    let room : index_size ≤ length {A = ℕ} (replicate index_size 0) = lit≤ tt in
    let k = c.fill.ensures in
    let g : c.from_residual.result ≡ Err c.in_err-counts.field-0.0 = search rules in
    rw g (enter_refused a.buffer.now a.used _ l _ _ (read_refused x _ k.0 c.in_err-counts.was), refl)

pub invariant_of-judge : goal.invariant_of-judge
invariant_of-judge c =
    let a = c.args in
    let x = take a.used a.buffer.now in
    let room : index_size ≤ length {A = ℕ} (replicate index_size 0) = lit≤ tt in
    let k = c.fill.ensures in
    let bb : Bytes a.buffer.now = λ i. (c.slice_known-1.given i).fits in
    let h = open_filled x (replicate index_size 0) _ _ k.0 k.1 (bytes_take a.used a.buffer.now bb) c.in_ok-counts.was in
    record { small = opened_small room h }

pub judge-requires : goal.judge-requires
judge-requires c =
    let a = c.args in
    let x = take a.used a.buffer.now in
    let room : index_size ≤ length {A = ℕ} (replicate index_size 0) = lit≤ tt in
    let k = c.fill.ensures in
    let bb : Bytes a.buffer.now = λ i. (c.slice_known-1.given i).fits in
    let h = open_filled x (replicate index_size 0) _ _ k.0 k.1 (bytes_take a.used a.buffer.now bb) c.in_ok-counts.was in
    let p : Small c.in_ok-counts.counts = opened_small room h in
    omega arith

pub returns-in_err-entered : goal.returns-in_err-entered
returns-in_err-entered c =
    let a = c.args in
    let l = c.if-buffer-used.false in
    let x = take a.used a.buffer.now in
    let room : index_size ≤ length {A = ℕ} (replicate index_size 0) = lit≤ tt in
    let k = c.fill.ensures in
    let bb : Bytes a.buffer.now = λ i. (c.slice_known-1.given i).fits in
    let sb : Bytes a.bytes.now = λ i. (c.shared_slice_known-1.given i).fits in
    let h = open_filled x (replicate index_size 0) _ _ k.0 k.1 (bytes_take a.used a.buffer.now bb) c.in_ok-counts.was in
    let g : c.from_residual-in_err-entered.result ≡ Err c.in_err-entered.field-0.0 = search rules in
    rw g (sym (ap told_entered c.in_err-entered.was) ∙ enter_opened a.buffer.now a.used a.bytes.now l room h sb c.judge.ensures, refl)

pub append-requires : goal.append-requires
append-requires c =
    let a = c.args in
    let l = c.if-buffer-used.false in
    let x = take a.used a.buffer.now in
    let room : index_size ≤ length {A = ℕ} (replicate index_size 0) = lit≤ tt in
    let k = c.fill.ensures in
    let bb : Bytes a.buffer.now = λ i. (c.slice_known-1.given i).fits in
    let sb : Bytes a.bytes.now = λ i. (c.shared_slice_known-1.given i).fits in
    let h = open_filled x (replicate index_size 0) _ _ k.0 k.1 (bytes_take a.used a.buffer.now bb) c.in_ok-counts.was in
    let w = c.in_ok-entered.was in
    added_room a.buffer.now a.used a.bytes.now _ (sym (enter_opened a.buffer.now a.used a.bytes.now l room h sb c.judge.ensures) ∙ ap told_entered (w ∙ ap Ok c.in-Added.is))

pub returns-in-Added : goal.returns-in-Added
returns-in-Added c =
    let a = c.args in
    let l = c.if-buffer-used.false in
    let x = take a.used a.buffer.now in
    let room : index_size ≤ length {A = ℕ} (replicate index_size 0) = lit≤ tt in
    let k = c.fill.ensures in
    let bb : Bytes a.buffer.now = λ i. (c.slice_known-1.given i).fits in
    let sb : Bytes a.bytes.now = λ i. (c.shared_slice_known-1.given i).fits in
    let h = open_filled x (replicate index_size 0) _ _ k.0 k.1 (bytes_take a.used a.buffer.now bb) c.in_ok-counts.was in
    let w = c.in_ok-entered.was in
    let e = sym (ap told_entered w) ∙ enter_opened a.buffer.now a.used a.bytes.now l room h sb c.judge.ensures in
    (e, rw c.in-Added.is c.append.ensures)

pub returns-in_default : goal.returns-in_default
returns-in_default c =
    let a = c.args in
    let l = c.if-buffer-used.false in
    let x = take a.used a.buffer.now in
    let room : index_size ≤ length {A = ℕ} (replicate index_size 0) = lit≤ tt in
    let k = c.fill.ensures in
    let bb : Bytes a.buffer.now = λ i. (c.slice_known-1.given i).fits in
    let sb : Bytes a.bytes.now = λ i. (c.shared_slice_known-1.given i).fits in
    let h = open_filled x (replicate index_size 0) _ _ k.0 k.1 (bytes_take a.used a.buffer.now bb) c.in_ok-counts.was in
    let w = c.in_ok-entered.was in
    let e = sym (ap told_entered w) ∙ enter_opened a.buffer.now a.used a.bytes.now l room h sb c.judge.ensures in
    (e, stays_written a.buffer.now a.bytes.now a.used _ c.in_default.not-Added)
