use Rattle.std.specs.Prelude.{Err}
use Rattle.format.specs.Index.{index_size}
use Rattle.book.proofs.OpenBook.{Opened, open_book, refused_book}
use Rattle.search.proofs.Answer.{limits, size_small}
use Rattle.search.proofs.ProveAnswer.{prove_refused, no_goal, too_short, goal_limits}
use Rattle.search.proofs.ProvedFound.{proved_found}
use borrow.Author.Rules.{rules}
use native.Mathlib.Omega.{arith}
use lib.Dec.{lit≤}
use lib.ListN.{length, replicate}
use mathlib.Core.Path.{◌≡◌, refl, ap}
use Prim.Native.Nat.{ℕ, ◌*◌, ◌<◌, ◌≤◌}
use mathlib.Core.Logic.{◌⊎◌, inl, inr}
use Rattle.search.proofs.prove.Goals.{In_ok-n, then-work-size-via-then-work-size, then-work-size-via-else-work-size+then-derivation-size}
use Rattle.search.proofs.prove.Goals as goal

room : index_size ≤ length {A = ℕ} (replicate index_size 0)
room = lit≤ tt

-- the book was read
opened : (c : In_ok-n) → Opened c.args.book.now (replicate index_size 0) c.index.new.table c.in_ok-n.n
opened c = open_book c.args.book.now (replicate index_size 0) room _ c.index.ensures.0 _ _ (λ i. (c.type_inv.book i).fits) c.index.ensures.1 c.in_ok-n.was

few : (c : In_ok-n) → let n = c.in_ok-n.n in (n.formulas ≤ 256) × (n.principals ≤ 8) × (n.assumptions ≤ 64) × (n.messages ≤ 16)
few c = let h = opened c in limits c.args.book.now (replicate index_size 0) _ room _ h.records h.read h.proper h.counts h.table

pub returns-in_err-n : goal.returns-in_err-n
returns-in_err-n c =
    let a = c.args in
    let e : c.from_residual.result ≡ Err c.in_err-n.field-0.0 = search rules in
    rw e (prove_refused a.book.now a.goal a.work.now a.derivation.now _ _ (refused_book a.book.now (replicate index_size 0) room _ c.index.ensures.0 _ c.in_err-n.was))

pub returns-then-n-place : goal.returns-then-n-place
returns-then-n-place c =
    let a = c.args in
    let h = opened (goal.at.returns-then-n-place c).In_ok-n in
    rw c.at.ensures (no_goal a.book.now (replicate index_size 0) _ room _ h.records h.read h.proper h.counts h.table a.goal a.work.now a.derivation.now c.if-n-place.true)

pub block_size-requires : goal.block_size-requires
block_size-requires c = let l = few (goal.at.block_size-requires c).In_ok-n in (l.0, l.1)

pub overflow_mul-size : goal.overflow_mul-size
overflow_mul-size c = let l = few (goal.at.overflow_mul-size c).In_ok-n in omega (arith, size_small _ _ l.1 c.block_size.ensures.1)

pub overflow_mul-size-2 : goal.overflow_mul-size-2
overflow_mul-size-2 c = let l = few (goal.at.overflow_mul-size-2 c).In_ok-n in omega (arith, size_small _ _ l.1 c.block_size.ensures.1)

pub overflow_mul-size-3 : goal.overflow_mul-size-3
overflow_mul-size-3 c = let l = few (goal.at.overflow_mul-size-3 c).In_ok-n in omega (arith, size_small _ _ l.1 c.block_size.ensures.1)

pub returns-then-work-size : goal.returns-then-work-size
returns-then-work-size c =
    let a = c.args in
    let h = opened (goal.at.returns-then-work-size c).In_ok-n in
    let size = c.in_ok-n.n.principals * c.block_size.result in
    let short : (length a.work.now < size * 8) ⊎ (length a.derivation.now < size * 12) =
    elim c.then-work-size.branch [
      | then-work-size-via-then-work-size w ↦ inl w.if-work-size.true
      | then-work-size-via-else-work-size+then-derivation-size w ↦ inr w.if-derivation-size.true
    ] in
    rw c.at-then-work-size.ensures
    (too_short a.book.now (replicate index_size 0) _ room _ h.records h.read h.proper h.counts h.table a.goal c.if-n-place.false _
    (ap (λ z. c.in_ok-n.n.principals * z) c.block_size.ensures.0) a.work.now a.derivation.now _ short refl)

pub prove_goal-requires-clause-limits : goal.prove_goal-requires-clause-limits
prove_goal-requires-clause-limits c =
    let h = opened (goal.at.prove_goal-requires-clause-limits c).In_ok-n in
    goal_limits c.args.book.now (replicate index_size 0) _ room _ h.records h.read h.proper h.counts h.table c.args.goal c.if-n-place.false _
    (ap (λ z. c.in_ok-n.n.principals * z) c.block_size.ensures.0) _ c.goal_at-asked.ensures

pub returns : goal.returns
returns c =
    let a = c.args in
    let h = opened (goal.at.returns c).In_ok-n in
    proved_found a.book.now (replicate index_size 0) _ room _ h.records h.read h.proper h.counts h.table a.goal c.if-n-place.false _
    (ap (λ z. c.in_ok-n.n.principals * z) c.block_size.ensures.0) _ c.goal_at-asked.ensures a.work.now a.derivation.now c.prove_goal.new.log _ _
    c.if-work-size.false c.if-derivation-size.false c.prove_goal.auto.log c.prove_goal.ensures
