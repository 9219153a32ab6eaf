use Prim.Native.Nat.{ℕ, ◌≤◌}
use mathlib.Core.Path.{◌≡◌, refl}
use lib.ListN.{length, replicate}
use lib.Dec.{lit≤}
use borrow.Author.Rules.{rules}
use Rattle.std.specs.Prelude.{Err}
use Rattle.format.specs.Index.{index_size}
use Rattle.logic.proofs.Bytes.{Bytes}
use Rattle.book.proofs.OpenBook.{refused_book, open_book}
use Rattle.text.proofs.Index.{is_index, listed, listed_refused}
use Rattle.text.proofs.listing.list.Goals as goal

-- By the index of the book that was read.
pub returns-in_err-counts : goal.returns-in_err-counts
returns-in_err-counts c =
    let a = c.args in
    let x = a.book.now in
    let room : index_size ≤ length {A = ℕ} (replicate index_size 0) = lit≤ tt in
    let k = c.index.ensures in
    let g : c.from_residual.result ≡ Err c.in_err-counts.field-0.0 = search rules in
    rw g (listed_refused a.audience x a.table.now a.from a.buffer.now _ _ (refused_book x (replicate index_size 0) room _ k.0 _ c.in_err-counts.was))

pub list_in-requires : goal.list_in-requires
list_in-requires c =
    let a = c.args in
    let x = a.book.now in
    let room : index_size ≤ length {A = ℕ} (replicate index_size 0) = lit≤ tt in
    let k = c.index.ensures in
    let bb : Bytes x = λ i. (c.shared_slice_known-1.given i).fits in
    let h = open_book x (replicate index_size 0) room _ k.0 _ _ bb k.1 c.in_ok-counts.was in
    is_index x (replicate index_size 0) _ _ refl h

pub returns : goal.returns
returns c =
    let a = c.args in
    let x = a.book.now in
    let room : index_size ≤ length {A = ℕ} (replicate index_size 0) = lit≤ tt in
    let k = c.index.ensures in
    let bb : Bytes x = λ i. (c.shared_slice_known-1.given i).fits in
    let h = open_book x (replicate index_size 0) room _ k.0 _ _ bb k.1 c.in_ok-counts.was in
    listed x (replicate index_size 0) _ _ room h a.audience a.table.now a.from a.buffer.now c.list_in.ensures
