-- The places of facts in a survey. Document 01, "Survey and prover". fs are the formula records of the book.
use Rattle.std.specs.Prelude.{ℕ, zero, suc, ◌+◌, ◌-◌, ◌*◌, ◌/◌, ◌%◌, List, [], ◌∷◌, cond, length, take, eqb, ltb}
use Rattle.logic.specs.declared.Record.{Record}
use Rattle.logic.specs.Count.{principals}
use Rattle.logic.specs.Fact.{Fact}
use Rattle.logic.specs.Fact.Fact.{Sees, Believes, BelievesFresh, BelievesSaid, BelievesBelieves}

-- p and n of document 01: how many principals and how many formula records there are
abbrev pub principal_count : List Record → ℕ
principal_count fs = length (principals fs)

abbrev pub formula_count : List Record → ℕ
formula_count fs = length fs

-- F = p × n × (3 + 2 × p)
unfoldable pub F : List Record → ℕ
F fs = principal_count fs * formula_count fs * (3 + 2 * principal_count fs)

-- "principals ranked from 0 in book order": the rank of principal x is the number of principals before it
unfoldable pub rank : List Record → ℕ → ℕ
rank fs x = length (principals (take x fs))

-- (a × n + x) × (3 + 2 × p) + m
abbrev pub place_with : List Record → (a x m : ℕ) → ℕ
place_with fs a x m = (a * formula_count fs + x) * (3 + 2 * principal_count fs) + m

-- the place of a fact: m is 0, 1, 2 for modes 1, 2, 3, then 3 + b, then 3 + p + b, with b the rank of Q
unfoldable pub place : List Record → Fact ℕ → ℕ
place fs (Sees P x) = place_with fs (rank fs P) x 0
place fs (Believes P x) = place_with fs (rank fs P) x 1
place fs (BelievesFresh P x) = place_with fs (rank fs P) x 2
place fs (BelievesSaid P Q x) = place_with fs (rank fs P) x (3 + rank fs Q)
place fs (BelievesBelieves P Q x) = place_with fs (rank fs P) x (3 + principal_count fs + rank fs Q)

-- the principal of rank a
unfoldable pub ranked : List Record → ℕ → ℕ
ranked [] a = 0
ranked (r ∷ fs) zero = cond (eqb r.kind 1) 0 (suc (ranked fs zero))
ranked (r ∷ fs) (suc a) = suc (ranked fs (cond (eqb r.kind 1) a (suc a)))

-- the fact about principal P and formula x with the number m
unfoldable pub fact_of : List Record → (P x m : ℕ) → Fact ℕ
fact_of fs P x m =
    cond (eqb m 0) (Sees P x)
    (cond (eqb m 1) (Believes P x)
    (cond (eqb m 2) (BelievesFresh P x)
    (cond (ltb m (3 + principal_count fs)) (BelievesSaid P (ranked fs (m - 3)) x)
    (BelievesBelieves P (ranked fs (m - (3 + principal_count fs))) x))))

-- the fact of a place below F
unfoldable pub fact_at : List Record → ℕ → Fact ℕ
fact_at fs i = fact_of fs (ranked fs (i / (3 + 2 * principal_count fs) / formula_count fs)) (i / (3 + 2 * principal_count fs) % formula_count fs) (i % (3 + 2 * principal_count fs))
