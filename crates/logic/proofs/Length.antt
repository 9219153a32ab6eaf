-- No accepted book is longer than 2,256 bytes, and what comes of reading depends only on the first 2,263 bytes.
use Prim.Native.Nat.{ℕ, zero, suc, ◌+◌, ◌*◌, ◌-◌, ◌≤◌, ◌<◌, zero-le}
use native.Mathlib.Decide.{dec_le}
use native.Mathlib.Omega.{arith}
use mathlib.Core.Path.{◌≡◌, refl, sym, ap, ◌∙◌}
use mathlib.Core.Bool.{Bool, true, false, cond}
use mathlib.Core.List.{List, [], ◌∷◌, ◌++◌}
use lib.ListN.{length, get_or, take, length-append, length-take}
use lib.Seq.{take_all, take-append-add, get_or-take}
use lib.Dec.{T, eqb}
use borrow.Author.Tests.{le-ltb}
use Rattle.logic.specs.declared.Record.{Record}
use Rattle.logic.specs.Kind.{body_of, is_field, size_of, is_formula_record}
use Rattle.logic.specs.Record.{record_at, field, word, bytes}
use Rattle.logic.specs.Count.{of_kind, formulas, assumptions, messages, goals}
use Rattle.logic.specs.Refusal.Outcome.{accepted}
use Rattle.logic.specs.Reading.{fault_at, scan, reading}
use Rattle.logic.specs.Book.{All, Book}
use Rattle.logic.proofs.Tests.{eq_T, T_true}
use Rattle.logic.proofs.Table.{size_most, assumption_size, goal_size, kinds}
use Rattle.logic.proofs.Table.Kinds.{formula, assumption, message, goal}
use Rattle.logic.proofs.Bytes.{Bytes, bytes_of_length}
use Rattle.logic.proofs.Follows.{book_known, formula_limit_lem, assumption_limit_lem, message_limit_lem, goal_limit_lem}
use Rattle.logic.proofs.BookRead.{Ran, accepted_is_book, scan_ran, fault_is_refused}

-- one record in front
no_fewer : (p : ℕ → Bool) (r : Record) (rs : List Record) → length (of_kind p rs) ≤ length (of_kind p (r ∷ rs))
unfolding of_kind
no_fewer p r rs = go (p r.kind)
  where
    go : (b : Bool) → length (of_kind p rs) ≤ length (cond b (r ∷ of_kind p rs) (of_kind p rs))
    go true = omega arith
    go false = omega arith

one_more_lem : (p : ℕ → Bool) (r : Record) (rs : List Record) → T (p r.kind) → length (of_kind p rs) < length (of_kind p (r ∷ rs))
unfolding of_kind
one_more_lem p r rs t = rw (T_true (p r.kind) t) (omega arith)

-- seven bytes for a formula record or a message, three for an assumption, five for a goal
pub bytes_most : (rs : List Record) → All (λ r. T (is_field (body_of r.kind).first)) rs
    → length (bytes rs) ≤ 7 * length (formulas rs) + 3 * length (assumptions rs) + 7 * length (messages rs) + 5 * length (goals rs)
unfolding bytes
bytes_most [] a = zero-le
bytes_most (r ∷ rs) a =
    let h = bytes_most rs a.1 in
    let l = bytes_of_length r in
    let m = size_most r.kind in
    let f = no_fewer is_formula_record r rs in
    let g = no_fewer (λ k. eqb k 32) r rs in
    let i = no_fewer (λ k. eqb k 33) r rs in
    let j = no_fewer (λ k. eqb k 34) r rs in
    rw length-append (elim (kinds r.kind a.0) [
      | formula t ↦ let n = one_more_lem is_formula_record r rs t in omega arith
      | assumption e ↦ let n = one_more_lem (λ k. eqb k 32) r rs (eq_T r.kind 32 e) in let z = assumption_size r.kind e in omega arith
      | message e ↦ let n = one_more_lem (λ k. eqb k 33) r rs (eq_T r.kind 33 e) in omega arith
      | goal e ↦ let n = one_more_lem (λ k. eqb k 34) r rs (eq_T r.kind 34 e) in let z = goal_size r.kind e in omega arith
    ])

pub book_length : (rs : List Record) → Book rs → length (bytes rs) ≤ 2256
book_length rs b =
    omega (arith, bytes_most rs (book_known rs b), formula_limit_lem rs b, assumption_limit_lem rs b, message_limit_lem rs b, goal_limit_lem rs b)

-- "No accepted book is longer than 2,256 bytes."
pub accepted_length : (s : List ℕ) (rs : List Record) → Bytes s → reading s ≡ accepted rs → length s ≤ 2256
accepted_length s rs b e = let h = accepted_is_book s rs b e in rw h.0 at (book_length rs h.1)

-- the fault of a record depends on seven bytes
pub record_at_take : (n : ℕ) (s : List ℕ) → 7 ≤ n → record_at (take n s) ≡ record_at s
unfolding record_at field word
record_at_take n s l =
    rw (
      get_or-take n s 0 0 (omega arith),
      get_or-take n s 1 0 (omega arith),
      get_or-take n s 2 0 (omega arith),
      get_or-take n s 3 0 (omega arith),
      get_or-take n s 4 0 (omega arith),
      get_or-take n s 5 0 (omega arith),
      get_or-take n s 6 0 (omega arith),
    )

pub fault_at_take : (past : List Record) (n : ℕ) (s : List ℕ) → 7 ≤ n → 7 ≤ length s → fault_at past (take n s) ≡ fault_at past s
unfolding fault_at
fault_at_take past n s l h =
    let m = size_most (get_or s 0 0) in
    rw (
      get_or-take n s 0 0 (omega arith),
      record_at_take n s l,
      le-ltb (length (take n s)) (size_of (body_of (get_or s 0 0))) (rw length-take (omega arith)),
      le-ltb (length s) (size_of (body_of (get_or s 0 0))) (omega arith),
    )

-- a book and bytes behind it that begin with a fault, both cut far enough behind the book
refused_take : (rs : List Record) (rest : List ℕ) (n : ℕ) → Book rs → 7 ≤ n → 7 ≤ length rest → (f : ℕ) → fault_at rs rest ≡ suc f
    → reading (take (length (bytes rs) + n) (bytes rs ++ rest)) ≡ reading (bytes rs ++ rest)
refused_take rs rest n b l h f e =
    ap reading (take-append-add (bytes rs) rest n)
    ∙ fault_is_refused rs (take n rest) f b (rw length-take (omega arith)) (fault_at_take rs n rest l h ∙ e)
    ∙ sym (fault_is_refused rs rest f b (omega arith) e)

-- reading goes no further than 2,263 bytes
pub reading_take : (m : ℕ) (s : List ℕ) → Bytes s → 2263 ≤ m → reading (take m s) ≡ reading s
reading_take m s b l =
    elim (dec_le (length s) m) [
      | yes h ↦ ap reading (take_all m s h)
      | no d ↦ long (omega arith)
    ]
  where
    z : Ran [] s (scan s)
    z = scan_ran s b

    short : length (bytes z.found) ≤ 2256
    short = book_length z.found z.follows

    whole : s ≡ bytes z.found ++ z.rest
    whole = z.whole

    count : length s ≡ length (bytes z.found) + length z.rest
    count = ap length whole ∙ length-append (bytes z.found) z.rest

    go : (f : ℕ) → fault_at z.found z.rest ≡ f → m < length s → reading (take m s) ≡ reading s
    go zero e h =
        let r = z.number (z.fault (omega (arith, short, count)) ∙ e) in
        absurd (omega (arith, short, count, ap length r))
    go (suc f) e h =
        let n : m ≡ length (bytes z.found) + (m - length (bytes z.found)) = omega (arith, short) in
        rw (whole, n) (refused_take z.found z.rest (m - length (bytes z.found)) z.follows (omega (arith, short)) (omega (arith, short, count)) f e)

    long : m < length s → reading (take m s) ≡ reading s
    long h = go (fault_at z.found z.rest) refl h
