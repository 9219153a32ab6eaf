use Prim.Native.Nat.{ℕ, ◌≤◌}
use mathlib.Core.Path.{◌≡◌, refl}
use lib.ListN.{length, replicate}
use lib.Dec.{lit≤}
use borrow.Author.Rules.{rules}
use Rattle.std.specs.Prelude.{Err}
use Rattle.format.specs.Index.{index_size}
use Rattle.logic.proofs.Bytes.{Bytes}
use Rattle.book.proofs.OpenBook.{refused_book, open_book}
use Rattle.text.proofs.Book.{answered, answered_refused}
use Rattle.text.proofs.Index.{is_index}
use Rattle.text.proofs.fact_text.Goals as goal

pub returns-in_err-counts : goal.returns-in_err-counts
returns-in_err-counts c =
    let a = c.args in
    let x = a.book.now in
    let room : index_size ≤ length {A = ℕ} (replicate index_size 0) = lit≤ tt in
    let k = c.index.ensures in
    let g : c.from_residual.result ≡ Err c.in_err-counts.field-0.0 = search rules in
    rw g (answered_refused a.audience x a.fact.now a.buffer.now _ _ (refused_book x (replicate index_size 0) room _ k.0 _ c.in_err-counts.was))

pub fact_text_by-requires : goal.fact_text_by-requires
fact_text_by-requires c =
    let a = c.args in
    let x = a.book.now in
    let room : index_size ≤ length {A = ℕ} (replicate index_size 0) = lit≤ tt in
    let k = c.index.ensures in
    let bb : Bytes x = λ i. (c.shared_slice_known-1.given i).fits in
    let h = open_book x (replicate index_size 0) room _ k.0 _ _ bb k.1 c.in_ok-counts.was in
    is_index x (replicate index_size 0) _ _ refl h

pub returns : goal.returns
returns c =
    let a = c.args in
    let x = a.book.now in
    let room : index_size ≤ length {A = ℕ} (replicate index_size 0) = lit≤ tt in
    let k = c.index.ensures in
    let bb : Bytes x = λ i. (c.shared_slice_known-1.given i).fits in
    let h = open_book x (replicate index_size 0) room _ k.0 _ _ bb k.1 c.in_ok-counts.was in
    answered x (replicate index_size 0) _ _ room h a.audience a.fact.now a.buffer.now c.fact_text_by.ensures
