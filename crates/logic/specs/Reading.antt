-- Reading a book: the first faulty record with the first number that fits, in the order 1, 2, 3, 9, 4, 5, 6, 23, 7, 10, 22, 11, 8.
-- Document 01, "The book"; document 02, wishes 1 and 4. What an accepted book is, without an order of tests, says Book.antt.
use Rattle.std.specs.Prelude.{ℕ, zero, suc, ◌+◌, List, [], ◌∷◌, ◌++◌, Bool, cond, not, ◌&&◌, ◌||◌, length, get_or, drop, ltb, leb, eqb}
use Rattle.logic.specs.declared.Record.{Record}
use Rattle.logic.specs.declared.Counts.{Counts}
use Rattle.logic.specs.Kind.{body_of, size_of, is_field, is_formula_record, refers, fits, states, keeps_to}
use Rattle.logic.specs.Record.{record_at, each_field}
use Rattle.logic.specs.Count.{formulas, counts_of, formula_at, position_of}
use Rattle.logic.specs.Formula.{is_closed, may_delegate, name_of, tree_of}
use Rattle.logic.specs.Refusal.{Outcome}
use Rattle.logic.specs.Refusal.Outcome.{accepted, refused}

-- The tests on a record r. n counts the records before it, `look x` is formula x among them. Of these `allows v z` says whether "for
-- every v, z" is allowed, and `is_open x` whether formula x has a variable outside kind 17.

-- 1: an unknown kind byte
abbrev pub is_unknown : ℕ → Bool
is_unknown k = not (is_field (body_of k).first)

-- 3: "assumptions, messages and goals keep their order among themselves"; formula records "may stand anywhere" (document 02, wish 1)
unfoldable pub out_of_order : Counts → ℕ → Bool
out_of_order n k = (eqb k 32 && ltb 0 (n.messages + n.goals)) || (eqb k 33 && ltb 0 n.goals)

-- 9: "At most 256 formula records, of them 8 principals, 64 assumptions, 16 messages, 32 goals."
unfoldable pub over_limit : Counts → ℕ → Bool
over_limit n k =
    (is_formula_record k && leb 256 n.formulas)
    || ((eqb k 1 && leb 8 n.principals)
    || ((eqb k 32 && leb 64 n.assumptions)
    || ((eqb k 33 && leb 16 n.messages)
    || (eqb k 34 && leb 32 n.goals))))

-- 4: a reference not to an earlier formula: one that stands before the record in the book
unfoldable pub is_dangling : Counts → Record → Bool
is_dangling n r = not (each_field (λ s x. not (refers s) || ltb x n.formulas) r)

-- 5: a reference of the wrong sort
unfoldable pub is_misfit : (ℕ → Record) → Record → Bool
is_misfit look r = not (each_field (λ s x. fits s (look x).kind) r)

-- 6: "In kinds 8 and 10 the first principal has the smaller name number"
unfoldable pub is_not_rising : (ℕ → Record) → Record → Bool
is_not_rising look r = (eqb r.kind 8 || eqb r.kind 10) && leb (look r.third).first (look r.first).first

-- 23: "a kind 17 whose Z holds another kind 17 or a variable other than V"
unfoldable pub is_wrong_delegation : (ℕ → ℕ → Bool) → Record → Bool
is_wrong_delegation allows r = eqb r.kind 17 && not (allows r.first r.second)

-- 7: the sender is the receiver
unfoldable pub is_to_sender : Record → Bool
is_to_sender r = eqb r.kind 33 && eqb r.first r.second

-- 10: an assumption's or goal's formula not of kind 12 or 13
unfoldable pub is_no_statement : (ℕ → Record) → Record → Bool
is_no_statement look r = not (each_field (λ s x. states s (look x).kind) r)

-- 22: "an assumption, message or goal with a variable outside kind 17"
unfoldable pub has_loose : (ℕ → Bool) → Record → Bool
has_loose is_open r = leb 32 r.kind && not (each_field (λ s x. not (refers s) || not (is_open x)) r)

-- 11: a goal's message number above the count
unfoldable pub is_after_last : Counts → Record → Bool
is_after_last n r = not (each_field (keeps_to n.messages) r)

-- the first number from 3 on that fits, or 0; `again` says whether the record is a formula that is there already
unfoldable pub fault_of : Counts → (look : ℕ → Record) (allows : ℕ → ℕ → Bool) (is_open : ℕ → Bool) (again : Bool) → Record → ℕ
fault_of n look allows is_open again r =
    cond (out_of_order n r.kind) 3
    (cond (over_limit n r.kind) 9
    (cond (is_dangling n r) 4
    (cond (is_misfit look r) 5
    (cond (is_not_rising look r) 6
    (cond (is_wrong_delegation allows r) 23
    (cond (is_to_sender r) 7
    (cond (is_no_statement look r) 10
    (cond (has_loose is_open r) 22
    (cond (is_after_last n r) 11
    (cond again 8 0))))))))))

-- whether r is a formula record equal to an earlier one
unfoldable pub is_repeated : List Record → Record → Bool
is_repeated past r = is_formula_record r.kind && ltb (position_of r (formulas past)) (length (formulas past))

-- the two tests by the formula records fs before the record
abbrev pub allows_in : List Record → ℕ → ℕ → Bool
allows_in fs v z = may_delegate (name_of fs v) (tree_of fs z)

abbrev pub is_open_in : List Record → ℕ → Bool
is_open_in fs x = not (is_closed (tree_of fs x))

-- the fault of a record r behind the records `past`, or 0
unfoldable pub fault : List Record → Record → ℕ
fault past r = fault_of (counts_of past) (formula_at past) (allows_in (formulas past)) (is_open_in (formulas past)) (is_repeated past r) r

-- the fault of the record at the front of the bytes s, behind the records `past`, or 0
unfoldable pub fault_at : List Record → List ℕ → ℕ
fault_at past s =
    cond (is_unknown (get_or s 0 0)) 1
    (cond (ltb (length s) (size_of (body_of (get_or s 0 0)))) 2
    (fault past (record_at s)))

-- What a scan of a book finds: the records before the first fault, and that fault's number, or 0.
pub record Scan : Type 0 where
  pub records : List Record
  pub number : ℕ

-- what a fault, or 0, at the record behind `past` does: with 0 the scan goes on
abbrev pub on_fault : ℕ → List Record → Scan → Scan
on_fault zero past on = on
on_fault (suc f) past on = record { records = past; number = suc f }

-- the scan of the bytes that are left behind the records `past`; the first argument bounds the records that are left
unfoldable pub scan_from : ℕ → List Record → List ℕ → Scan
scan_from zero past s = record { records = past; number = 0 }
scan_from (suc n) past [] = record { records = past; number = 0 }
scan_from (suc n) past (k ∷ s) =
    on_fault (fault_at past (k ∷ s)) past
    (scan_from n (past ++ (record_at (k ∷ s) ∷ [])) (drop (size_of (body_of k)) (k ∷ s)))

-- a record has at least one byte
unfoldable pub scan : List ℕ → Scan
scan s = scan_from (length s) [] s

-- "accepted .. otherwise the first faulty record with the first number that fits"; record numbers count all records from 0
abbrev pub judged : ℕ → List Record → Outcome (List Record)
judged zero rs = accepted rs
judged (suc f) rs = refused (suc f) (length rs)

unfoldable pub reading : List ℕ → Outcome (List Record)
reading s = judged (scan s).number (scan s).records

-- the same with the counts of the records in their place
abbrev pub counted : Outcome (List Record) → Outcome Counts
counted (accepted rs) = accepted (counts_of rs)
counted (refused f i) = refused f i
