-- The chains of formulas (`chains`), which the reader keeps beside the index.
use Rattle.std.specs.Prelude.{ℕ, ◌+◌, List, cond, get_or, set}
use Rattle.logic.specs.declared.Counts.{Counts}
use Rattle.logic.specs.Kind.{is_formula_record}

-- the chains with one number more, that of a record of kind k, which is a formula with the hash h or leaves them as they are
unfoldable pub heads_with : Counts → ℕ → ℕ → List ℕ → List ℕ
heads_with n k h heads = cond (is_formula_record k) (set heads h (n.formulas + 1)) heads

unfoldable pub next_with : Counts → ℕ → ℕ → List ℕ → List ℕ → List ℕ
next_with n k h heads next = cond (is_formula_record k) (set next n.formulas (get_or heads h 0)) next
