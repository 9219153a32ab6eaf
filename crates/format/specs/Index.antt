-- The index of a book: each record as one number, by class and number in its class, and behind them for each formula which variables it
-- has outside kind 17, in a table of 624. For our own functions; no promise to a caller mentions it.
use Rattle.std.specs.Prelude.{ℕ, suc, ◌+◌, ◌-◌, ◌*◌, ◌/◌, ◌%◌, List, [], ◌∷◌, ◌++◌, cond, length, get_or, set, eqb, ltb}
use Rattle.logic.specs.declared.Record.{Record}
use Rattle.logic.specs.declared.Counts.{Counts}
use Rattle.logic.specs.Kind.{is_formula_record}
use Rattle.logic.specs.Record.{no_record, word}
use Rattle.logic.specs.Count.{counts_of}
use Rattle.logic.specs.Refusal.{Outcome}
use Rattle.logic.specs.Refusal.Outcome.{accepted, refused}
use Rattle.logic.specs.Reading.{reading, counted}
use Rattle.format.specs.Variables.{variables_from, variables_in, variables_of}

-- where the records of a class begin, those of formulas at 0; and how many places there are
abbrev pub assumptions_from : ℕ
assumptions_from = 256

abbrev pub messages_from : ℕ
messages_from = 320

abbrev pub goals_from : ℕ
goals_from = 336

abbrev pub index_size : ℕ
index_size = 624

-- the record in the first `size` of some bytes: a field that begins behind them is 0. Where `size` is that of the kind this is `record_at`
unfoldable pub record_within : (size : ℕ) → List ℕ → Record
record_within size s =
    record {
      kind = get_or s 0 0;
      first = cond (ltb 1 size) (word s 1) 0;
      second = cond (ltb 3 size) (word s 3) 0;
      third = cond (ltb 5 size) (word s 5) 0;
    }

-- the kind and the three fields as one number, in base 65,536
unfoldable pub packed : Record → ℕ
packed r = ((r.kind * 65536 + r.first) * 65536 + r.second) * 65536 + r.third

unfoldable pub unpacked : ℕ → Record
unpacked x =
    record {
      kind = x / 281474976710656 % 256;
      first = x / 4294967296 % 65536;
      second = x / 65536 % 65536;
      third = x % 65536;
    }

-- the place of the next record of kind k, where n counts the records before it
unfoldable pub slot_of : Counts → ℕ → ℕ
slot_of n k =
    cond (eqb k 32) (assumptions_from + n.assumptions)
    (cond (eqb k 33) (messages_from + n.messages)
    (cond (eqb k 34) (goals_from + n.goals)
    n.formulas))

-- the table t with what variables record r has, if it is a formula; n counts the records before it
unfoldable pub noted : List ℕ → Counts → Record → List ℕ
noted t n r = cond (is_formula_record r.kind) (set t (variables_from + n.formulas) (variables_of (variables_in t) n.formulas r)) t

-- the table t with record r
abbrev pub entered : List ℕ → Counts → Record → List ℕ
entered t n r = set (noted t n r) (slot_of n r.kind) (packed r)

-- the table t with the records rs put in, which stand behind the records `past`
unfoldable pub filled : List ℕ → List Record → List Record → List ℕ
filled t past [] = t
filled t past (r ∷ rs) = filled (entered t (counts_of past) r) (past ++ (r ∷ [])) rs

-- the answer to indexing the book s into the table t: 14 where the table is short, else the reader's
unfoldable pub indexing : List ℕ → List ℕ → Outcome Counts
indexing t s = cond (ltb (length t) index_size) (refused 14 0) (counted (reading s))

-- the table afterwards, for a book that was read: a refusal leaves it as it was; the records of an accepted book stand each in
-- its place
abbrev pub indexed_after : Outcome (List Record) → List ℕ → List ℕ
indexed_after (refused f i) t = t
indexed_after (accepted rs) t = filled t [] rs

-- the same for the bytes of a book: a short table is refused, and left as it was too
unfoldable pub indexed : List ℕ → List ℕ → List ℕ
indexed t s = cond (ltb (length t) index_size) t (indexed_after (reading s) t)

-- the record at a place
abbrev pub record_in : List ℕ → ℕ → Record
record_in t i = unpacked (get_or t i 0)

-- formula x of a table with f formulas, or no record
unfoldable pub look_in : ℕ → List ℕ → ℕ → Record
look_in f t x = cond (ltb x f) (record_in t x) no_record

-- assumption a, message m, goal g; messages count from 1
abbrev pub assumption_in : List ℕ → ℕ → Record
assumption_in t a = record_in t (assumptions_from + a)

abbrev pub message_in : List ℕ → ℕ → Record
message_in t m = record_in t (messages_from - 1 + m)

abbrev pub goal_in : List ℕ → ℕ → Record
goal_in t g = record_in t (goals_from + g)

-- the place of the first number of a list that is x, or the length where there is none
unfoldable pub position_in : ℕ → List ℕ → ℕ
position_in x [] = 0
position_in x (y ∷ l) = cond (eqb x y) 0 (suc (position_in x l))
