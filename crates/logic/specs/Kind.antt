-- The kinds of record: which fields each has, and of what sort, as one table.
-- Document 01, "The book", the table and the sentences under it; document 02, wish 4, for kinds 16 and 17.
use Rattle.std.specs.Prelude.{ℕ, ◌+◌, List, [], ◌∷◌, ◌++◌, Bool, true, false, ◌&&◌, ◌||◌, get_or, replicate, leb, eqb}
use Rattle.logic.specs.declared.Sort.{Sort}
use Rattle.logic.specs.declared.Sort.TheVariants.{Absent, Name, Principal, Key, Formula, Variable, Control, Statement, Message}
use Rattle.logic.specs.declared.Body.{Body}

abbrev pub none : Body
none = record { first = Absent; second = Absent; third = Absent }

abbrev pub one : Sort → Body
one x = record { first = x; second = Absent; third = Absent }

abbrev pub two : Sort → Sort → Body
two x y = record { first = x; second = y; third = Absent }

abbrev pub three : Sort → Sort → Sort → Body
three x y z = record { first = x; second = y; third = z }

-- the bodies of the kinds, from kind 0 on; a byte past the end is no kind
unfoldable pub bodies : List Body
bodies =
    none  -- 0 is no kind
    ∷ one Name  -- 1 principal
    ∷ one Name  -- 2 key
    ∷ one Name  -- 3 datum
    ∷ two Formula Formula  -- 4 conjunction (X, Y)
    ∷ three Formula Key Principal  -- 5 X encrypted under K, from a principal
    ∷ three Formula Key Principal  -- 6 X signed under the inverse of K, from a principal
    ∷ two Formula Formula  -- 7 X combined with secret Y
    ∷ three Principal Key Principal  -- 8 shared key
    ∷ two Key Principal  -- 9 public key
    ∷ three Principal Formula Principal  -- 10 shared secret
    ∷ one Formula  -- 11 fresh
    ∷ two Principal Formula  -- 12 believes
    ∷ two Principal Formula  -- 13 sees
    ∷ two Principal Formula  -- 14 said
    ∷ two Principal Formula  -- 15 controls
    ∷ one Name  -- 16 key variable
    ∷ two Variable Control  -- 17 for every V, Z
    ∷ replicate 14 none  -- 18 to 31 are no kinds
    ++ (one Statement  -- 32 assumption
    ∷ three Principal Principal Formula  -- 33 message: sender, receiver, formula
    ∷ two Message Statement  -- 34 goal: message number, formula
    ∷ [])

unfoldable pub body_of : ℕ → Body
body_of k = get_or bodies k none

-- whether a field is there; a kind with no field is unknown
abbrev pub is_field : Sort → Bool
is_field Absent = false
is_field Name = true
is_field Principal = true
is_field Key = true
is_field Formula = true
is_field Variable = true
is_field Control = true
is_field Statement = true
is_field Message = true

-- fields are two bytes
abbrev pub width : Sort → ℕ
width Absent = 0
width Name = 2
width Principal = 2
width Key = 2
width Formula = 2
width Variable = 2
width Control = 2
width Statement = 2
width Message = 2

-- the bytes of a record: one of kind, then the body
abbrev pub size_of : Body → ℕ
size_of b = 1 + width b.first + width b.second + width b.third

-- a record of kind 1 to 17 is a formula record
abbrev pub is_formula_record : ℕ → Bool
is_formula_record k = leb 1 k && leb k 17

-- X, Y and a message's formula are of kinds 3 to 15 or 17
abbrev pub is_formula : ℕ → Bool
is_formula k = leb 3 k && (leb k 15 || eqb k 17)

-- a variable "may stand wherever a key may"
abbrev pub is_key : ℕ → Bool
is_key k = eqb k 2 || eqb k 16

-- "an assumption's or goal's formula of kind 12 or 13"
abbrev pub is_statement : ℕ → Bool
is_statement k = eqb k 12 || eqb k 13

-- whether a field of this sort refers to a formula record
abbrev pub refers : Sort → Bool
refers Absent = false
refers Name = false
refers Principal = true
refers Key = true
refers Formula = true
refers Variable = true
refers Control = true
refers Statement = true
refers Message = false

-- whether a field of this sort may refer to a record of this kind, as far as refusal 5 goes
abbrev pub fits : Sort → ℕ → Bool
fits Absent k = true
fits Name k = true
fits Principal k = eqb k 1
fits Key k = is_key k
fits Formula k = is_formula k
fits Variable k = eqb k 16
fits Control k = eqb k 15
fits Statement k = true
fits Message k = true

-- the same as far as refusal 10 goes
abbrev pub states : Sort → ℕ → Bool
states Absent k = true
states Name k = true
states Principal k = true
states Key k = true
states Formula k = true
states Variable k = true
states Control k = true
states Statement k = is_statement k
states Message k = true

-- whether a field of this sort with value x keeps to the m messages that there are
abbrev pub keeps_to : ℕ → Sort → ℕ → Bool
keeps_to m Absent x = true
keeps_to m Name x = true
keeps_to m Principal x = true
keeps_to m Key x = true
keeps_to m Formula x = true
keeps_to m Variable x = true
keeps_to m Control x = true
keeps_to m Statement x = true
keeps_to m Message x = leb x m
