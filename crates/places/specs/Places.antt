-- What the functions say of the places of a survey, in terms of the index of a book.
use Rattle.std.specs.Prelude.{ℕ, ◌+◌, ◌-◌, ◌*◌, ◌≤◌, ◌≡◌, List, map, Bool, cond, length, get_or, take, drop, eqb, ltb}
use Rattle.logic.specs.declared.Record.{Record}
use Rattle.format.specs.Index.{goals_from, unpacked}
use Rattle.logic.specs.Place.{principal_count}
use Rattle.logic.specs.Survey.{is_within}
use Rattle.logic.specs.Listing.{goal_byte}

-- f and p count the formula records fs and the principals among them, and fit 16 bits
pub record Sized (fs : List Record) (f p : ℕ) : Type 0 where
  pub formulas : f ≡ length fs
  pub principals : p ≡ principal_count fs
  pub few : f ≤ 65535
  pub fewer : p ≤ 65535

-- With f formulas and p principals, the place of the fact with the number m about the principal of rank a and formula x,
abbrev pub place_by : (f p a x m : ℕ) → ℕ
place_by f p a x m = (a * f + x) * (3 + 2 * p) + m

-- and that of his belief in formula x, opened: r is the record of x, and b the rank of its first field
unfoldable pub belief_place : (f p a x : ℕ) → Record → (b : ℕ) → ℕ
belief_place f p a x r b =
    cond (eqb r.kind 11) (place_by f p a r.first 2)
    (cond (eqb r.kind 14) (place_by f p a r.second (3 + b))
    (cond (eqb r.kind 12) (place_by f p a r.second (3 + p + b))
    (place_by f p a x 1)))

-- the goal records of the index
unfoldable pub goals_in : ℕ → List ℕ → List Record
goals_in g index = map unpacked (take g (drop goals_from index))

-- A place with the number m among those of its principal and formula, with k principals in all: the mode of its fact,
abbrev pub mode_of : (k m : ℕ) → ℕ
mode_of k m = cond (eqb m 0) 1 (cond (eqb m 1) 2 (cond (eqb m 2) 3 (cond (ltb m (3 + k)) 4 5)))

-- and Q, which is 0 in modes 1 to 3
unfoldable pub other_in : List ℕ → (k m : ℕ) → ℕ
other_in names k m = cond (ltb m 3) 0 (cond (ltb m (3 + k)) (get_or names (m - 3) 0) (get_or names (m - (3 + k)) 0))

-- whether the table t has the goal record r as reached
abbrev pub mark_of : List Record → List ℕ → Record → Bool
mark_of fs t r = is_within r.first (goal_byte fs t r)
