use Rattle.book.proofs.OpenBook.{too_short, was_refused, was_accepted, index_stays, index_goes}
use Rattle.logic.specs.Refusal.{told}
use Rattle.logic.proofs.Bytes.{Bytes}
use Rattle.format.specs.Index.{index_size}
use lib.ListN.{drop, replicate}
use mathlib.Core.Path.{sym, ap, ◌∙◌}
use Rattle.book.proofs.index.Goals as goal

pub returns-then-table-lt-INDEX_SIZE : goal.returns-then-table-lt-INDEX_SIZE
returns-then-table-lt-INDEX_SIZE c = rw c.at.ensures (too_short _ _ c.if-table-lt-INDEX_SIZE.true)

pub returns-then-is_err : goal.returns-then-is_err
returns-then-is_err c =
    let a = c.args in
    let k = c.fill-reading.ensures in
    let b : Bytes a.book.now = λ i. (c.shared_slice_known-1.given i).fits in
    let w = was_refused c.fill-reading.result (sym c.is_err.ensures.value ∙ c.if-is_err.true) in
    let z = index_goes _ _ c.if-table-lt-INDEX_SIZE.false _ k.0 _ k.1 (drop index_size (replicate index_size 0)) b w.1 c.copy.ensures c.copy-then-is_err.ensures in
    (ap told w.1 ∙ z.0, z.1)

pub returns-else-is_err : goal.returns-else-is_err
returns-else-is_err c =
    let k = c.fill-reading.ensures in
    let w = was_accepted c.fill-reading.result (sym c.is_err.ensures.value ∙ c.if-is_err.false) in
    let z = index_stays _ _ c.if-table-lt-INDEX_SIZE.false _ k.0 _ k.1 w.1 in
    (ap told w.1 ∙ z.0, z.1)
