-- What stands around the formulas in a text, by the shape of the text: what stands before its inner formula, behind it, and last.
use Rattle.std.specs.Prelude.{ℕ, List, [], ◌∷◌, ◌++◌, Bool, false, cond, not, ◌&&◌, ◌||◌, leb, eqb}
use Rattle.logic.specs.declared.Record.{Record}
use Rattle.logic.specs.declared.Audience.{Audience}
use Rattle.logic.specs.declared.Audience.TheVariants.{Owner, Guest}
use Rattle.logic.specs.Formula.{key_field}
use Rattle.logic.specs.Text.{ascii, decimal, principal_text, variable_text, field_text, guest_datum_text}

-- Everywhere `look x` is formula x.

-- the kinds 1, 2, 3 and 16, whose text is a name: no formula stands inside
abbrev pub is_leaf : ℕ → Bool
is_leaf k = leb k 3 || eqb k 16

-- the kinds whose inner formula is the second field: their text begins with the principal in the first field, or in kind 17 with the variable
abbrev pub is_named : ℕ → Bool
is_named k = eqb k 8 || (eqb k 10 || leb 12 k)

-- the formula that stands inside
unfoldable pub inner_of : Record → ℕ
inner_of r = cond (is_named r.kind) r.second r.first

-- the letter of a name: P, K, V or N
abbrev pub letter_of : ℕ → ℕ
letter_of k = cond (eqb k 1) 80 (cond (eqb k 2) 75 (cond (eqb k 16) 86 78))

-- whether the name of a leaf is not for this audience: a datum's is not for a guest
abbrev pub is_hidden : Audience → (kind : ℕ) → Bool
is_hidden Owner k = false
is_hidden Guest k = eqb k 3

-- the text of leaf x, whose record is r: its name, or in its place the formula number
unfoldable pub leaf_text : Audience → (x : ℕ) → Record → List ℕ
leaf_text a x r = cond (is_hidden a r.kind) (guest_datum_text x) (letter_of r.kind ∷ decimal r.first)

-- the fixed word before the inner formula
unfoldable pub opening : ℕ → List ℕ
opening k =
    cond (eqb k 4) (ascii "(")
    (cond (eqb k 5) (ascii "{")
    (cond (eqb k 6) (ascii "{")
    (cond (eqb k 7) (ascii "<")
    (cond (eqb k 8) (ascii " -")
    (cond (eqb k 10) (ascii " =")
    (cond (eqb k 11) (ascii "fresh ")
    (cond (eqb k 12) (ascii " believes ")
    (cond (eqb k 13) (ascii " sees ")
    (cond (eqb k 14) (ascii " said ")
    (cond (eqb k 15) (ascii " controls ")
    []))))))))))

-- what stands before what holds for every key: `all V1: `
abbrev pub every_text : ℕ → List ℕ
every_text v = ascii "all " ++ variable_text v ++ ascii ": "

-- all that stands before it
unfoldable pub before : (ℕ → Record) → Record → List ℕ
before look r =
    cond (eqb r.kind 17) (every_text (look r.first).first)
    (cond (is_named r.kind) (principal_text (look r.first).first) [] ++ opening r.kind)

-- the bracket and the key or variable of an encrypted or signed formula
unfoldable pub sealing : (ℕ → Record) → Record → List ℕ
sealing look r = cond (leb 5 r.kind && leb r.kind 6) (ascii "}" ++ field_text (key_field (look r.second))) []

-- the fixed word behind the inner formula
unfoldable pub closing : ℕ → List ℕ
closing k =
    cond (eqb k 4) (ascii ", ")
    (cond (eqb k 5) (ascii " from ")
    (cond (eqb k 6) (ascii "' from ")
    (cond (eqb k 7) (ascii ">")
    (cond (eqb k 8) (ascii "- ")
    (cond (eqb k 9) (ascii " of ")
    (cond (eqb k 10) (ascii "= ")
    []))))))

-- the kinds 5, 6, 8, 9 and 10, whose text ends with a principal
abbrev pub has_owner : ℕ → Bool
has_owner k = leb 5 k && (leb k 10 && not (eqb k 7))

-- that principal: of a public key the second field, else the third
unfoldable pub owner : (ℕ → Record) → Record → List ℕ
owner look r =
    cond (eqb r.kind 9) (principal_text (look r.second).first)
    (cond (has_owner r.kind) (principal_text (look r.third).first) [])

-- all that stands behind it
unfoldable pub behind : (ℕ → Record) → Record → List ℕ
behind look r = sealing look r ++ (closing r.kind ++ owner look r)

-- the kinds 4 and 7, whose text goes on with the formula in the second field
abbrev pub is_pair : ℕ → Bool
is_pair k = eqb k 4 || eqb k 7

-- whether a conjunction's right part is one too: the list goes on with the members of that
unfoldable pub goes_on : (ℕ → Record) → Record → Bool
goes_on look r = eqb r.kind 4 && eqb (look r.second).kind 4

-- the bracket behind the last member of a list
unfoldable pub ending : ℕ → List ℕ
ending k = cond (eqb k 4) (ascii ")") []

-- A fact in a mode about formula numbers p, q and x. What stands before X in its formula prints as what stands before the inner formula of one record or two, which
-- need not be in the book: P sees or P believes,
unfoldable pub outer : (mode p : ℕ) → Record
outer mode p = record { kind = cond (eqb mode 1) 13 12; first = p; second = 0; third = 0 }

-- and then fresh, Q said or Q believes
unfoldable pub nested : (mode q : ℕ) → Record
nested mode q =
    record {
      kind = cond (eqb mode 3) 11 (cond (eqb mode 4) 14 (cond (eqb mode 5) 12 0));
      first = q;
      second = 0;
      third = 0;
    }

-- all that stands before X
unfoldable pub ahead : (ℕ → Record) → (mode p q : ℕ) → List ℕ
ahead look mode p q = before look (outer mode p) ++ before look (nested mode q)
