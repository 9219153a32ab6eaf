use Rattle.std.specs.Prelude.{Err}
use Rattle.format.specs.Index.{index_size}
use Rattle.book.proofs.OpenBook.{Opened, refused_book, open_book}
use Rattle.honesty.proofs.Reporting.{reported_refused, few, fewer, pairs_fit, reported_here}
use borrow.Author.Rules.{rules}
use native.Mathlib.Omega.{arith}
use lib.Dec.{lit≤}
use lib.ListN.{length, replicate}
use lib.Seq.{length-take-le}
use mathlib.Core.Path.{◌≡◌, sym}
use Prim.Native.Nat.{ℕ, ◌≤◌}
use Rattle.honesty.proofs.honesty.Goals.{In_ok-n, After-report-k}
use Rattle.honesty.proofs.honesty.Goals as goal

-- The book is read; its survey is in the table, and the pairs by that table are its report.
room : index_size ≤ length {A = ℕ} (replicate index_size 0)
room = lit≤ tt

opened : (c : In_ok-n) → Opened c.args.book.now (replicate index_size 0) c.index.new.table c.in_ok-n.n
opened c = open_book c.args.book.now (replicate index_size 0) room _ c.index.ensures.0 _ _ (λ i. (c.type_inv.book i).fits) c.index.ensures.1 c.in_ok-n.was

fits : (c : After-report-k) → Opened c.args.book.now (replicate index_size 0) c.index.new.table c.in_ok-n.n → c.report-k.result ≤ length c.report-k.new.out
fits c h = pairs_fit c.args.book.now (replicate index_size 0) _ _ room h _ c.report-k.new.out _ c.report-k.auto.out c.report-k.ensures.1

pub returns-in_err-n : goal.returns-in_err-n
returns-in_err-n c =
    let e : c.from_residual.result ≡ Err c.in_err-n.field-0.0 = search rules in
    rw e (reported_refused c.args.book.now c.args.report.now _ _ (refused_book c.args.book.now (replicate index_size 0) room _ c.index.ensures.0 _ c.in_err-n.was))

pub overflow_cast-n : goal.overflow_cast-n
overflow_cast-n c = omega (arith, few c.args.book.now (replicate index_size 0) _ _ room (opened (goal.at.overflow_cast-n c).In_ok-n))

pub overflow_cast-n-2 : goal.overflow_cast-n-2
overflow_cast-n-2 c = omega (arith, fewer c.args.book.now (replicate index_size 0) _ _ room (opened (goal.at.overflow_cast-n-2 c).In_ok-n))

pub slice_bounds-pairs-end : goal.slice_bounds-pairs-end
slice_bounds-pairs-end c = let p = goal.at.slice_bounds-pairs-end c in fits p.After-report-k (opened p.In_ok-n)

pub slice_bounds-hand_over-end : goal.slice_bounds-hand_over-end
slice_bounds-hand_over-end c = let p = goal.at.slice_bounds-hand_over-end c in sym (length-take-le _ _ (fits p.After-report-k (opened p.In_ok-n)))

pub returns : goal.returns
returns c =
    let a = c.args in
    let r = c.report-k.ensures in
    reported_here a.book.now (replicate index_size 0) _ _ room (opened (goal.at.returns c).In_ok-n) _ _ a.report.now _ _ _ _ c.survey.ensures r.0 r.1 c.hand_over.ensures
