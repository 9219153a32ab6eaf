use Prim.Native.Nat.{ℕ, ◌≤◌}
use mathlib.Core.Path.{◌≡◌, refl}
use lib.ListN.{length, replicate}
use lib.Dec.{lit≤}
use borrow.Author.Rules.{rules}
use Rattle.std.specs.Prelude.{Err}
use Rattle.format.specs.Index.{index_size}
use Rattle.logic.proofs.Bytes.{Bytes}
use Rattle.book.proofs.OpenBook.{refused_book, open_book}
use Rattle.text.proofs.Index.{is_index, steps_told_lem, steps_refused}
use Rattle.text.proofs.explaining.explain.Goals as goal

-- By the index of the book that was read.
pub returns-in_err-counts : goal.returns-in_err-counts
returns-in_err-counts c =
    let a = c.args in
    let x = a.book.now in
    let room : index_size ≤ length {A = ℕ} (replicate index_size 0) = lit≤ tt in
    let k = c.index.ensures in
    let g : c.from_residual.result ≡ Err c.in_err-counts.field-0.0 = search rules in
    rw g (steps_refused x a.derivation.now a.from a.buffer.now _ _ (refused_book x (replicate index_size 0) room _ k.0 _ c.in_err-counts.was))

pub explain_in-requires : goal.explain_in-requires
explain_in-requires c =
    let a = c.args in
    let x = a.book.now in
    let room : index_size ≤ length {A = ℕ} (replicate index_size 0) = lit≤ tt in
    let k = c.index.ensures in
    let bb : Bytes x = λ i. (c.shared_slice_known-1.given i).fits in
    let h = open_book x (replicate index_size 0) room _ k.0 _ _ bb k.1 c.in_ok-counts.was in
    is_index x (replicate index_size 0) _ _ refl h

pub returns : goal.returns
returns c =
    let a = c.args in
    let x = a.book.now in
    let room : index_size ≤ length {A = ℕ} (replicate index_size 0) = lit≤ tt in
    let k = c.index.ensures in
    let bb : Bytes x = λ i. (c.shared_slice_known-1.given i).fits in
    let h = open_book x (replicate index_size 0) room _ k.0 _ _ bb k.1 c.in_ok-counts.was in
    steps_told_lem x (replicate index_size 0) _ _ room h a.derivation.now a.from a.buffer.now c.explain_in.ensures
