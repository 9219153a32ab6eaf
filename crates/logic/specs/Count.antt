-- How many records of each class there are, and the formula records by number.
use Rattle.std.specs.Prelude.{ℕ, suc, List, [], ◌∷◌, Bool, cond, not, length, get_or, eqb}
use Rattle.logic.specs.declared.Record.{Record}
use Rattle.logic.specs.declared.Counts.{Counts}
use Rattle.logic.specs.Kind.{is_formula_record}
use Rattle.logic.specs.Record.{no_record, same}

-- the records whose kind passes a test, in their order
unfoldable pub of_kind : (ℕ → Bool) → List Record → List Record
of_kind p [] = []
of_kind p (r ∷ rs) = cond (p r.kind) (r ∷ of_kind p rs) (of_kind p rs)

abbrev pub formulas : List Record → List Record
formulas rs = of_kind is_formula_record rs

-- the records that are no formula records: assumptions, messages and goals
abbrev pub others : List Record → List Record
others rs = of_kind (λ k. not (is_formula_record k)) rs

abbrev pub principals : List Record → List Record
principals rs = of_kind (λ k. eqb k 1) rs

abbrev pub assumptions : List Record → List Record
assumptions rs = of_kind (λ k. eqb k 32) rs

abbrev pub messages : List Record → List Record
messages rs = of_kind (λ k. eqb k 33) rs

abbrev pub goals : List Record → List Record
goals rs = of_kind (λ k. eqb k 34) rs

abbrev pub counts_of : List Record → Counts
counts_of rs =
    record {
      formulas = length (formulas rs);
      principals = length (principals rs);
      assumptions = length (assumptions rs);
      messages = length (messages rs);
      goals = length (goals rs);
    }

-- formula records "are numbered from 0": formula x, or no record
unfoldable pub formula_at : List Record → ℕ → Record
formula_at rs x = get_or (formulas rs) x no_record

-- the place of the first record that is the same as r, or the length where there is none
unfoldable pub position_of : Record → List Record → ℕ
position_of r [] = 0
position_of r (q ∷ qs) = cond (same r q) 0 (suc (position_of r qs))
