use Rattle.checker.proofs.FromBook.{check_refused, check_no_goal, check_verdict}
use Rattle.logic.specs.Refusal.{number_of, told}
use Rattle.logic.specs.Refusal.Outcome.{refused}
use Rattle.format.specs.Index.{index_size}
use Rattle.book.proofs.OpenBook.{Opened, refused_book, open_book}
use mathlib.Core.Path.{◌≡◌}
use lib.ListN.{length, replicate}
use lib.Dec.{lit≤}
use borrow.Author.Rules.{rules}
use Prim.Native.Nat.{ℕ, ◌≤◌}
use Rattle.checker.proofs.check.Goals as goal
use Rattle.checker.proofs.check.Goals.{In_ok-counts}

room : index_size ≤ length {A = ℕ} (replicate index_size 0)
room = lit≤ tt

opened : (c : In_ok-counts) → Opened c.args.book.now (replicate index_size 0) c.index.new.table c.in_ok-counts.counts
opened c = open_book c.args.book.now (replicate index_size 0) room _ c.index.ensures.0 _ _ (λ i. (c.type_inv.book i).fits) c.index.ensures.1 c.in_ok-counts.was

pub returns-in_err-counts : goal.returns-in_err-counts
returns-in_err-counts c =
    let a = c.args in
    let f = c.in_err-counts.field-0.0 in
    let e : told c.from_residual.result ≡ refused (number_of f.cause) f.place = search rules in
    rw e (check_refused a.book.now a.goal a.derivation.now _ _ (refused_book a.book.now (replicate index_size 0) room _ c.index.ensures.0 f c.in_err-counts.was))

pub returns-then-counts-place : goal.returns-then-counts-place
returns-then-counts-place c = rw c.at.ensures (check_no_goal room (opened (goal.at.returns-then-counts-place c).In_ok-counts) c.args.goal c.args.derivation.now c.if-counts-place.true)

pub returns : goal.returns
returns c =
    let a = c.args in
    check_verdict room (opened (goal.at.returns c).In_ok-counts) a.goal a.derivation.now c.if-counts-place.false (replicate 256 0) _ _ _ _ _ (lit≤ tt) c.fill_clears.ensures c.goal_at-asked.ensures c.look.ensures c.stated-wanted.ensures c.check_sized.ensures
