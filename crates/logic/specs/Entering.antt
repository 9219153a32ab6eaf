-- Entering a record. Document 01, "Entering a record takes a buffer, the length used and one record".
use Rattle.std.specs.Prelude.{ℕ, zero, suc, ◌+◌, ◌-◌, List, ◌++◌, Bool, cond, not, length, get_or, take, drop, ltb, eqb}
use Rattle.logic.specs.declared.Record.{Record}
use Rattle.logic.specs.declared.Counts.{Counts}
use Rattle.logic.specs.Kind.{body_of, size_of}
use Rattle.logic.specs.Record.{record_at}
use Rattle.logic.specs.Count.{formulas, counts_of, position_of}
use Rattle.logic.specs.Refusal.{Outcome, Entry}
use Rattle.logic.specs.Refusal.Outcome.{accepted, refused}
use Rattle.logic.specs.Refusal.Entry.{present, added, turned_away}
use Rattle.logic.specs.Reading.{is_unknown, is_repeated, fault, reading}

-- the number that a record of kind k gets in its own count: messages count from 1, the others from 0
unfoldable pub number_in : Counts → ℕ → ℕ
number_in n k =
    cond (eqb k 32) n.assumptions
    (cond (eqb k 33) (n.messages + 1)
    (cond (eqb k 34) n.goals
    n.formulas))

-- a fault of the record r behind the records rs, or 0: then it is appended if the room is enough
abbrev pub appended : ℕ → Bool → List Record → Record → Entry
appended (suc f) short rs r = turned_away (suc f) (length rs)
appended zero short rs r = cond short (turned_away 12 (length rs)) (added (number_in (counts_of rs) r.kind))

-- entering the bytes s behind the records rs, where `short` says that there is too little space:
-- 2 for an empty record, 1, 2, then a formula equal to one present, then the other refusals, then 12
unfoldable pub enter_behind : List Record → Bool → List ℕ → Entry
enter_behind rs short s =
    cond (eqb (length s) 0) (turned_away 2 (length rs))
    (cond (is_unknown (get_or s 0 0)) (turned_away 1 (length rs))
    (cond (not (eqb (length s) (size_of (body_of (get_or s 0 0))))) (turned_away 2 (length rs))
    (cond (is_repeated rs (record_at s)) (present (position_of (record_at s) (formulas rs)))
    (appended (fault rs (record_at s)) short rs (record_at s)))))

-- the book's refusals come before the record's
abbrev pub enter_after : Outcome (List Record) → Bool → List ℕ → Entry
enter_after (refused f i) short s = turned_away f i
enter_after (accepted rs) short s = enter_behind rs short s

-- what comes of entering the record with the bytes s into the buffer b, of which `used` bytes are the book
unfoldable pub entering : List ℕ → ℕ → List ℕ → Entry
entering b used s =
    cond (ltb (length b) used) (turned_away 12 0) (enter_after (reading (take used b)) (ltb (length b - used) (length s)) s)

-- the buffer afterwards: only a record that is appended is written
abbrev pub written : Entry → List ℕ → ℕ → List ℕ → List ℕ
written (present i) b used s = b
written (added i) b used s = take used b ++ (s ++ drop (used + length s) b)
written (turned_away f i) b used s = b
