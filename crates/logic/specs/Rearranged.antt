-- Books that have the same records and differ in where their formula records stand. Document 02, wish 1.
-- That such books have equal surveys is proved in proofs/Rearrangement.antt, and that formula records may stand anywhere in
-- proofs/Anywhere.antt.
use Rattle.std.specs.Prelude.{ℕ, ◌≡◌, List, [], ◌∷◌, ◌++◌, length, drop}
use Rattle.logic.specs.declared.Record.{Record}
use Rattle.logic.specs.Count.{formulas, others, assumptions, messages}
use Rattle.logic.specs.Book.{RefersWithin}

-- "the same formula records in the same order, and the same other records in the same order"
abbrev pub Rearranged : List Record → List Record → Type 0
Rearranged rs qs = (formulas rs ≡ formulas qs) × (others rs ≡ others qs)

-- the same formula records, the same assumptions and the same messages, each in the same order; the goals may differ
abbrev pub SameButGoals : List Record → List Record → Type 0
SameButGoals rs qs = (formulas rs ≡ formulas qs) × (assumptions rs ≡ assumptions qs) × (messages rs ≡ messages qs)

-- two tables t and u are afterwards t' and u': the same bytes were written to the front of each, and the rest of each stays
abbrev pub SameWritten : (t t' u u' : List ℕ) → Type 0
SameWritten t t' u u' = (w : List ℕ) × (t' ≡ w ++ drop (length w) t) × (u' ≡ w ++ drop (length w) u)

-- each record of the list, which stands behind `past`, refers to formulas that stand before it
abbrev pub Earlier : (past rs : List Record) → Type 0
Earlier past [] = Unit
Earlier past (r ∷ rs) = RefersWithin (formulas past) r × Earlier (past ++ (r ∷ [])) rs

-- the same records with the formula records in front: document 01's order
abbrev pub in_front : List Record → List Record
in_front rs = formulas rs ++ others rs
