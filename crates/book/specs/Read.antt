-- What the functions between the tests of one record and the reader say, in terms of the counts n and the index t of the
-- records before. That these stand for the records themselves is proved in proofs/.
use Prim.Native.Nat.{ℕ, suc, ◌+◌, ◌<◌, ◌≤◌}
use Rattle.std.specs.Prelude.{◌≡◌, Result, Ok, Err, List, Bool, true, false, cond, not, ◌&&◌, length, get_or, set, take, ltb, eqb}
use Rattle.logic.specs.declared.Record.{Record}
use Rattle.logic.specs.declared.Counts.{Counts}
use Rattle.logic.specs.declared.Refusal.{Refusal}
use Rattle.logic.specs.Kind.{body_of, size_of, is_formula_record}
use Rattle.logic.specs.Record.{record_at}
use Rattle.logic.specs.Refusal.{number_of, Entry}
use Rattle.logic.specs.Refusal.Entry.{present, added, turned_away}
use Rattle.logic.specs.Reading.{is_unknown, fault_of}
use Rattle.logic.specs.Entering.{number_in}
use Rattle.format.specs.Index.{packed, unpacked, slot_of, look_in, position_in}
use Rattle.format.specs.Variables.{variables_from, variables_in, loose_in, allows_by, variables_of}
use Rattle.chains.specs.Chain.{hash_of}
use Rattle.book.specs.declared.Cursor.{Cursor}
use Rattle.book.specs.declared.Got.{Got}

-- the counts keep to the limits
pub record Small (n : Counts) : Type 0 where
  pub formulas : n.formulas ≤ 256
  pub principals : n.principals ≤ 8
  pub assumptions : n.assumptions ≤ 64
  pub messages : n.messages ≤ 16
  pub goals : n.goals ≤ 32

-- one record of kind k more
unfoldable pub one_more : Counts → ℕ → Counts
one_more n k =
    record {
      formulas = cond (is_formula_record k) (n.formulas + 1) n.formulas;
      principals = cond (eqb k 1) (n.principals + 1) n.principals;
      assumptions = cond (eqb k 32) (n.assumptions + 1) n.assumptions;
      messages = cond (eqb k 33) (n.messages + 1) n.messages;
      goals = cond (eqb k 34) (n.goals + 1) n.goals;
    }

-- the place of r among the formulas of the index, or their number
unfoldable pub place_among : Counts → List ℕ → Record → ℕ
place_among n t r = position_in (packed r) (take n.formulas t)

-- r is a formula record that is in the index
unfoldable pub is_among : Counts → List ℕ → Record → Bool
is_among n t r = is_formula_record r.kind && ltb (place_among n t r) n.formulas

-- the fault of a record r, from refusal 3 on, or 0
unfoldable pub fault_in : Counts → List ℕ → Record → ℕ
fault_in n t r = fault_of n (look_in n.formulas t) (allows_by t) (loose_in t) (is_among n t r) r

-- the fault of the record at the front of the bytes s, or 0
unfoldable pub fault_at_in : Counts → List ℕ → List ℕ → ℕ
fault_at_in n t s =
    cond (is_unknown (get_or s 0 0)) 1
    (cond (ltb (length s) (size_of (body_of (get_or s 0 0)))) 2
    (fault_in n t (record_at s)))

-- how many records n counts
abbrev pub records_in : Counts → ℕ
records_in n = n.formulas + (n.assumptions + (n.messages + n.goals))

-- which variables the record with the number x has as the next formula
abbrev pub variables_next : Counts → ℕ → List ℕ → ℕ
variables_next n x t = variables_of (variables_in t) n.formulas (unpacked x)

-- the table t with v, the number of the variables of a record of kind k, which is a formula or leaves the table as it is
unfoldable pub note_in : Counts → ℕ → ℕ → List ℕ → List ℕ
note_in n k v t = cond (is_formula_record k) (set t (variables_from + n.formulas) v) t

-- and with x, the number of the record itself
abbrev pub stored : Counts → (k x : ℕ) → List ℕ → List ℕ
stored n k x t = set (note_in n k (variables_next n x t) t) (slot_of n k) x

-- none of the first f formulas has a variable, or is of kind 17 or holds one
abbrev pub Unseen : List ℕ → ℕ → Type 0
Unseen t f = (x : ℕ) → x < f → variables_in t x ≡ 0

-- behind f formulas no record of a kind below b has one, is of kind 17 or holds one
abbrev pub Bare : List ℕ → (f b : ℕ) → Type 0
Bare t f b = (b ≤ 16) × (0 < b → Unseen t f)

-- the bound behind a record of kind k: 0, once a formula was read that is not below the bound
unfoldable pub bare_with : (k b : ℕ) → ℕ
bare_with k b = cond (is_formula_record k && not (ltb k b)) 0 b

-- the bound, from whether no formula yet has a variable, is of kind 17 or holds one
abbrev pub bound : Bool → ℕ
bound true = 16
bound false = 0

-- the cursor behind the record at the front of the bytes s
abbrev pub behind : List ℕ → Cursor → Cursor
behind s c = record { at = c.at + size_of (body_of (get_or s 0 0)) }

-- a record that was read at the cursor c has no fault; one that was not has the fault that is told, at the number i of the records before it
abbrev pub ReadIs : Result Got Refusal → (f i : ℕ) → List ℕ → Cursor → Type 0
ReadIs (Ok g) f i s c = (f ≡ 0) × (g.kind ≡ (record_at s).kind) × (g.number ≡ packed (record_at s)) × (g.hash ≡ hash_of g.number) × (g.behind ≡ behind s c)
ReadIs (Err e) f i s c = (number_of e.cause ≡ f) × (e.place ≡ i)

-- entering the bytes s, where `short` says that there is too little space and i counts the records present
abbrev pub appended_in : ℕ → Bool → ℕ → Counts → Record → Entry
appended_in (suc f) short i n r = turned_away (suc f) i
appended_in Prim.Native.Nat.zero short i n r = cond short (turned_away 12 i) (added (number_in n r.kind))

unfoldable pub enter_in : Counts → List ℕ → ℕ → Bool → List ℕ → Entry
enter_in n t i short s =
    cond (eqb (length s) 0) (turned_away 2 i)
    (cond (is_unknown (get_or s 0 0)) (turned_away 1 i)
    (cond (not (eqb (length s) (size_of (body_of (get_or s 0 0))))) (turned_away 2 i)
    (cond (is_among n t (record_at s)) (present (place_among n t (record_at s)))
    (appended_in (fault_in n t (record_at s)) short i n (record_at s)))))
