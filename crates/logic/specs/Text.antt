-- The text of a fact. Document 01, "The listing program"; document 02, wish 5, for the guest's. A text is a list of bytes; what stands in
-- quotation marks is ASCII.
use Rattle.std.specs.Prelude.{ℕ, zero, suc, ◌+◌, ◌/◌, ◌%◌, min, List, [], ◌∷◌, ◌++◌, cond, length, drop, ltb}
use Prim.Native.Char.{code}
use Prim.Native.String.{String}
use Rattle.logic.specs.declared.Record.{Record}
use Rattle.logic.specs.declared.Audience.{Audience}
use Rattle.logic.specs.declared.Audience.TheVariants.{Owner, Guest}
use Rattle.logic.specs.Count.{formulas, position_of}
use Rattle.logic.specs.Refusal.{Outcome}
use Rattle.logic.specs.Refusal.Outcome.{accepted, refused}
use Rattle.logic.specs.Reading.{reading}
use Rattle.logic.specs.Formula.{KeyField, Tree}
use Rattle.logic.specs.Formula.KeyField.{by_name, by_variable}
use Rattle.logic.specs.Formula.Tree.{principal, key, datum, conjunction, encrypted, signed, combined, shared_key, public_key, shared_secret, fresh, believes, sees, said, controls, variable, for_every}
use Rattle.logic.specs.Fact.{Fact}
use Rattle.logic.specs.Fact.Fact.{Sees, Believes, BelievesFresh, BelievesSaid, BelievesBelieves}
use Rattle.logic.specs.Written.{meaning, fact_in, is_malformed}

-- the bytes of what is quoted
abbrev pub ascii : String → List ℕ
ascii String.[] = []
ascii (String.◌∷◌ c s) = code c ∷ ascii s

-- the last d digits of n, fewer where n has fewer: the last one stands behind those of a tenth of n
unfoldable pub digits : ℕ → ℕ → List ℕ
digits zero n = []
digits (suc d) n = cond (ltb n 10) ((48 + n) ∷ []) (digits d (n / 10) ++ ((48 + n % 10) ∷ []))

-- n in decimal; it has fewer digits than n + 1
unfoldable pub decimal : ℕ → List ℕ
decimal n = digits (suc n) n

-- "Names print as P, K or N and the number."; "A variable prints as V and its number" (document 02, wish 4).
abbrev pub principal_text : ℕ → List ℕ
principal_text n = ascii "P" ++ decimal n

abbrev pub key_text : ℕ → List ℕ
key_text n = ascii "K" ++ decimal n

abbrev pub datum_text : ℕ → List ℕ
datum_text n = ascii "N" ++ decimal n

abbrev pub variable_text : ℕ → List ℕ
variable_text v = ascii "V" ++ decimal v

-- a key or a variable in the field of a key
abbrev pub field_text : KeyField → List ℕ
field_text (by_name n) = key_text n
field_text (by_variable v) = variable_text v

-- "The guest's listing prints each datum as `N#` and its formula number, never its name number." (document 02, wish 5)
abbrev pub guest_datum_text : ℕ → List ℕ
guest_datum_text x = ascii "N#" ++ decimal x

-- the formula number of the datum with the name n: no record is repeated, so just one of the formula records fs is this datum's
abbrev pub datum_number : List Record → ℕ → ℕ
datum_number fs n = position_of (record { kind = 3; first = n; second = 0; third = 0 }) fs

-- how the datum with the name n prints
abbrev pub datum_for : Audience → List Record → ℕ → List ℕ
datum_for Owner fs n = datum_text n
datum_for Guest fs n = guest_datum_text (datum_number fs n)

-- How a formula prints by itself, and how it prints as the members at the end of a bracketed list: a conjunction goes on
-- there with its own members, any other formula is one member.
pub record Shown : Type 0 where
  pub text : List ℕ
  pub members : List ℕ

abbrev pub listed : List ℕ → Shown
listed m = record { text = ascii "(" ++ m ++ ascii ")"; members = m }

abbrev pub plain : List ℕ → Shown
plain t = record { text = t; members = t }

-- "A conjunction prints as one bracketed list along its right parts, its members as formulas: `(X, Y, Z)` is (X, (Y, Z))."
-- `naming` says how a datum prints by its name.
unfoldable pub shown : (naming : ℕ → List ℕ) → Tree → Shown
shown naming (principal n) = plain (principal_text n)
shown naming (key n) = plain (key_text n)
shown naming (datum n) = plain (naming n)
shown naming (conjunction X Y) = listed ((shown naming X).text ++ ascii ", " ++ (shown naming Y).members)
shown naming (encrypted X K R) = plain (ascii "{" ++ (shown naming X).text ++ ascii "}" ++ field_text K ++ ascii " from " ++ principal_text R)
shown naming (signed X K R) = plain (ascii "{" ++ (shown naming X).text ++ ascii "}" ++ field_text K ++ ascii "' from " ++ principal_text R)
shown naming (combined X Y) = plain (ascii "<" ++ (shown naming X).text ++ ascii ">" ++ (shown naming Y).text)
shown naming (shared_key P K Q) = plain (principal_text P ++ ascii " -" ++ field_text K ++ ascii "- " ++ principal_text Q)
shown naming (public_key K Q) = plain (field_text K ++ ascii " of " ++ principal_text Q)
shown naming (shared_secret P X Q) = plain (principal_text P ++ ascii " =" ++ (shown naming X).text ++ ascii "= " ++ principal_text Q)
shown naming (fresh X) = plain (ascii "fresh " ++ (shown naming X).text)
shown naming (believes P X) = plain (principal_text P ++ ascii " believes " ++ (shown naming X).text)
shown naming (sees P X) = plain (principal_text P ++ ascii " sees " ++ (shown naming X).text)
shown naming (said P X) = plain (principal_text P ++ ascii " said " ++ (shown naming X).text)
shown naming (controls P X) = plain (principal_text P ++ ascii " controls " ++ (shown naming X).text)
shown naming (variable v) = plain (variable_text v)
shown naming (for_every v Z) = plain (ascii "all " ++ variable_text v ++ ascii ": " ++ (shown naming Z).text)

-- the text of a formula
abbrev pub text : (naming : ℕ → List ℕ) → Tree → List ℕ
text naming t = (shown naming t).text

-- the formula that a fact states
abbrev pub statement : Fact Tree → Tree
statement (Sees P X) = sees P X
statement (Believes P X) = believes P X
statement (BelievesFresh P X) = believes P (fresh X)
statement (BelievesSaid P Q X) = believes P (said Q X)
statement (BelievesBelieves P Q X) = believes P (believes Q X)

-- the text of a fact
abbrev pub fact_text : (naming : ℕ → List ℕ) → Fact Tree → List ℕ
fact_text naming f = text naming (statement f)

-- "Text above 4,096 bytes prints as `too long`."
abbrev pub text_limit : ℕ
text_limit = 4096

-- The text of one fact as an operation for an audience on a book, a written fact s and a buffer with room for n bytes: the text that is
-- written, or the refusal, in the order "the book, 17 at 0, 15".

abbrev pub text_fitting : ℕ → List ℕ → Outcome (List ℕ)
text_fitting n t = cond (ltb (min text_limit n) (length t)) (refused 15 0) (accepted t)

-- by the formula records fs of an accepted book
abbrev pub text_among : Audience → List Record → List ℕ → ℕ → Outcome (List ℕ)
text_among a fs s n = cond (is_malformed fs s) (refused 17 0) (text_fitting n (fact_text (datum_for a fs) (meaning fs (fact_in s))))

abbrev pub text_after : Audience → Outcome (List Record) → List ℕ → ℕ → Outcome (List ℕ)
text_after a (refused f i) s n = refused f i
text_after a (accepted rs) s n = text_among a (formulas rs) s n

unfoldable pub text_for : Audience → List ℕ → List ℕ → ℕ → Outcome (List ℕ)
text_for a book s n = text_after a (reading book) s n

-- "it writes the text at the front, keeps the rest and returns the length"
abbrev pub length_told : Outcome (List ℕ) → Outcome ℕ
length_told (accepted t) = accepted (length t)
length_told (refused f i) = refused f i

abbrev pub at_front : Outcome (List ℕ) → List ℕ → List ℕ
at_front (accepted t) b = t ++ drop (length t) b
at_front (refused f i) b = b

-- what the operation answers, and the buffer b afterwards
unfoldable pub texting : Audience → List ℕ → List ℕ → List ℕ → Outcome ℕ
texting a book s b = length_told (text_for a book s (length b))

unfoldable pub texted : Audience → List ℕ → List ℕ → List ℕ → List ℕ
texted a book s b = at_front (text_for a book s (length b)) b
