use Prim.Native.Nat.{ℕ, ◌≤◌}
use mathlib.Core.Path.{◌≡◌, refl}
use lib.ListN.{length, replicate}
use lib.Dec.{lit≤}
use borrow.Author.Rules.{rules}
use Rattle.std.specs.Prelude.{Err}
use Rattle.format.specs.Index.{index_size}
use Rattle.logic.proofs.Bytes.{Bytes}
use Rattle.book.proofs.OpenBook.{refused_book, open_book}
use Rattle.text.proofs.Index.{is_index, goals_stated, goal_told_lem, goal_refused}
use Rattle.text.proofs.explaining.goal_line.Goals as goal

-- By the index of the book that was read.
pub returns-in_err-counts : goal.returns-in_err-counts
returns-in_err-counts c =
    let a = c.args in
    let x = a.book.now in
    let room : index_size ≤ length {A = ℕ} (replicate index_size 0) = lit≤ tt in
    let k = c.index.ensures in
    let g : c.from_residual.result ≡ Err c.in_err-counts.field-0.0 = search rules in
    rw g (goal_refused x a.goal a.buffer.now _ _ (refused_book x (replicate index_size 0) room _ k.0 _ c.in_err-counts.was))

pub goal_line_in-requires : goal.goal_line_in-requires
goal_line_in-requires c =
    let a = c.args in
    let x = a.book.now in
    let room : index_size ≤ length {A = ℕ} (replicate index_size 0) = lit≤ tt in
    let k = c.index.ensures in
    let bb : Bytes x = λ i. (c.shared_slice_known-1.given i).fits in
    let h = open_book x (replicate index_size 0) room _ k.0 _ _ bb k.1 c.in_ok-counts.was in
    record { index = is_index x (replicate index_size 0) _ _ refl h; stated = goals_stated x (replicate index_size 0) _ _ refl h }

pub returns : goal.returns
returns c =
    let a = c.args in
    let x = a.book.now in
    let room : index_size ≤ length {A = ℕ} (replicate index_size 0) = lit≤ tt in
    let k = c.index.ensures in
    let bb : Bytes x = λ i. (c.shared_slice_known-1.given i).fits in
    let h = open_book x (replicate index_size 0) room _ k.0 _ _ bb k.1 c.in_ok-counts.was in
    goal_told_lem x (replicate index_size 0) _ _ room h a.goal a.buffer.now c.goal_line_in.ensures
