use Rattle.std.specs.Prelude.{Err}
use Rattle.format.specs.Index.{index_size}
use Rattle.book.proofs.OpenBook.{Opened, open_book, refused_book}
use Rattle.search.proofs.Answer.{answer_refused, answer_short, answer_held, limits, size_small}
use borrow.Author.Rules.{rules}
use native.Mathlib.Omega.{arith}
use lib.Dec.{lit≤}
use lib.ListN.{length, replicate}
use mathlib.Core.Path.{◌≡◌, ap}
use Prim.Native.Nat.{ℕ, ◌*◌, ◌≤◌}
use Rattle.search.proofs.survey.Goals.{In_ok-n}
use Rattle.search.proofs.survey.Goals as goal

room : index_size ≤ length {A = ℕ} (replicate index_size 0)
room = lit≤ tt

-- the book was read
opened : (c : In_ok-n) → Opened c.args.book.now (replicate index_size 0) c.index.new.table c.in_ok-n.n
opened c = open_book c.args.book.now (replicate index_size 0) room _ c.index.ensures.0 _ _ (λ i. (c.type_inv.book i).fits) c.index.ensures.1 c.in_ok-n.was

few : (c : In_ok-n) → let n = c.in_ok-n.n in (n.formulas ≤ 256) × (n.principals ≤ 8) × (n.assumptions ≤ 64) × (n.messages ≤ 16)
few c = let h = opened c in limits c.args.book.now (replicate index_size 0) _ room _ h.records h.read h.proper h.counts h.table

pub returns-in_err-n : goal.returns-in_err-n
returns-in_err-n c =
    let e : c.from_residual.result ≡ Err c.in_err-n.field-0.0 = search rules in
    rw e (answer_refused _ _ _ _ (refused_book c.args.book.now (replicate index_size 0) room _ c.index.ensures.0 _ c.in_err-n.was))

pub block_size-requires : goal.block_size-requires
block_size-requires c = let l = few c in (l.0, l.1)

pub overflow_mul-size : goal.overflow_mul-size
overflow_mul-size c = let l = few (goal.at.overflow_mul-size c).In_ok-n in omega (arith, size_small _ _ l.1 c.block_size.ensures.1)

pub returns-then-table-size : goal.returns-then-table-size
returns-then-table-size c =
    let h = opened (goal.at.returns-then-table-size c).In_ok-n in
    rw c.at.ensures
    (answer_short c.args.book.now (replicate index_size 0) _ room _ h.records h.read h.proper h.counts h.table c.args.table.now _
    (ap (λ z. c.in_ok-n.n.principals * z) c.block_size.ensures.0) c.if-table-size.true)

pub survey_indexed-requires-clause-limits : goal.survey_indexed-requires-clause-limits
survey_indexed-requires-clause-limits c = few (goal.at.survey_indexed-requires-clause-limits c).In_ok-n

pub returns : goal.returns
returns c =
    let h = opened (goal.at.returns c).In_ok-n in
    answer_held c.args.book.now (replicate index_size 0) _ room _ h.records h.read h.proper h.counts h.table c.args.table.now _ _ _
    (ap (λ z. c.in_ok-n.n.principals * z) c.block_size.ensures.0) c.if-table-size.false c.survey_indexed.ensures
