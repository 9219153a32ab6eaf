-- Rows of document 01's listing, and of its list of forms, and the forms of document 02, wishes 4 and 5, as theorems about the definition of a text.
use Prim.Native.Nat.{ℕ}
use mathlib.Core.Path.{◌≡◌, refl}
use mathlib.Core.List.{List, [], ◌∷◌}
use Rattle.logic.specs.declared.Record.{Record}
use Rattle.logic.specs.declared.Audience.TheVariants.{Guest}
use Rattle.logic.specs.Count.{position_of}
use Rattle.logic.specs.Formula.KeyField.{by_name, by_variable}
use Rattle.logic.specs.Formula.Tree.{datum, conjunction, encrypted, signed, combined, shared_key, public_key, shared_secret, controls, variable, for_every}
use Rattle.logic.specs.Fact.Fact.{Sees, Believes, BelievesFresh}
use Rattle.logic.specs.Text.{ascii, digits, decimal, datum_text, datum_for, shown, text, fact_text}

fresh_row : fact_text datum_text (BelievesFresh 1 (conjunction (public_key (by_name 1) 2) (datum 1))) ≡ ascii "P1 believes fresh (K1 of P2, N1)"
unfolding shown decimal digits
fresh_row = refl

signed_row : fact_text datum_text (Sees 1 (signed (conjunction (public_key (by_name 1) 2) (datum 1)) (by_name 2) 1)) ≡ ascii "P1 sees {(K1 of P2, N1)}K2' from P1"
unfolding shown decimal digits
signed_row = refl

controls_row : fact_text datum_text (Believes 1 (controls 3 (public_key (by_name 1) 2))) ≡ ascii "P1 believes P3 controls K1 of P2"
unfolding shown decimal digits
controls_row = refl

-- a right part that is a conjunction goes on with the list, a left part keeps its brackets
right_row : text datum_text (conjunction (datum 1) (conjunction (datum 2) (datum 3))) ≡ ascii "(N1, N2, N3)"
unfolding shown decimal digits
right_row = refl

left_row : text datum_text (conjunction (conjunction (datum 1) (datum 2)) (datum 3)) ≡ ascii "((N1, N2), N3)"
unfolding shown decimal digits
left_row = refl

name_row : text datum_text (encrypted (combined (datum 0) (shared_secret 10 (datum 65535) 12)) (by_name 305) 4000) ≡ ascii "{<N0>P10 =N65535= P12}K305 from P4000"
unfolding shown decimal digits
name_row = refl

-- document 02, wish 4: a variable prints as V and its number, wherever it stands, and kind 17 as `all V1: Z`
every_row : fact_text datum_text (Believes 1 (for_every 1 (controls 3 (public_key (by_variable 1) 2)))) ≡ ascii "P1 believes all V1: P3 controls V1 of P2"
unfolding shown decimal digits
every_row = refl

variable_row : text datum_text (conjunction (variable 7) (encrypted (shared_key 1 (by_variable 7) 2) (by_variable 7) 3)) ≡ ascii "(V7, {P1 -V7- P2}V7 from P3)"
unfolding shown decimal digits
variable_row = refl

-- document 02, wish 5: to a guest a datum is its number among the formula records, whatever its name and whatever other data there are;
-- keys and principals keep their names
guest_rows : List Record
guest_rows = named 1 1 ∷ named 3 9 ∷ named 3 777 ∷ named 2 7 ∷ []
  where
    named : (kind name : ℕ) → Record
    named k n = record { kind = k; first = n; second = 0; third = 0 }

guest_row : fact_text (datum_for Guest guest_rows) (Believes 1 (conjunction (conjunction (datum 777) (datum 9)) (public_key (by_name 7) 1))) ≡ ascii "P1 believes ((N#2, N#1), K7 of P1)"
unfolding shown decimal digits position_of guest_rows
guest_row = refl
