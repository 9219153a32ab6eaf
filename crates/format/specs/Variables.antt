-- Which variables a formula has outside kind 17, as one number for each formula, worked out record by record. For our own functions; that
-- these numbers say what `loose` and `may_delegate` say is proved in proofs/Variables.antt.
-- Of a number s, s % 512 is 0 for no variable, 1 + v for just the variable with formula number v, and 257 for several; s is 512 or more for
-- a kind 17 and for what holds one.
use Rattle.std.specs.Prelude.{ℕ, ◌+◌, ◌%◌, List, Bool, cond, not, ◌&&◌, ◌||◌, get_or, eqb, ltb}
use Rattle.logic.specs.declared.Sort.{Sort}
use Rattle.logic.specs.declared.Record.{Record}
use Rattle.logic.specs.Kind.{body_of, refers}

-- where these numbers begin in an index
abbrev pub variables_from : ℕ
variables_from = 368

-- the number of formula x
unfoldable pub variables_in : List ℕ → ℕ → ℕ
variables_in t x = get_or t (variables_from + x) 0

-- whether formula x has a variable outside kind 17
unfoldable pub loose_in : List ℕ → ℕ → Bool
loose_in t x = not (eqb (variables_in t x % 512) 0)

-- whether "for every v, z" is allowed: z has no variable, or just v, and holds no kind 17
unfoldable pub allows_by : List ℕ → ℕ → ℕ → Bool
allows_by t v z = eqb (variables_in t z) 0 || eqb (variables_in t z) (1 + v)

-- what two parts have together
unfoldable pub joined_low : ℕ → ℕ → ℕ
joined_low a b = cond (eqb a 0) b (cond (eqb b 0) a (cond (eqb a b) a 257))

unfoldable pub joined : ℕ → ℕ → ℕ
joined a b = cond (ltb a 512 && ltb b 512) (joined_low (a % 512) (b % 512)) (512 + joined_low (a % 512) (b % 512))

-- what a field has, where `at x` is the number of formula x
abbrev pub field_variables : (ℕ → ℕ) → Sort → ℕ → ℕ
field_variables at s x = cond (refers s) (at x) 0

-- the number of record r as formula n: a variable has itself, a kind 17 has none, any other formula has those of its fields
unfoldable pub variables_of : (at : ℕ → ℕ) (n : ℕ) → Record → ℕ
variables_of at n r =
    cond (eqb r.kind 16) (1 + n)
    (cond (eqb r.kind 17) 512
    (joined (field_variables at (body_of r.kind).first r.first)
    (joined (field_variables at (body_of r.kind).second r.second) (field_variables at (body_of r.kind).third r.third))))
