-- The users of each formula: the records whose rules ask for a fact about it, which are looked at again when there is a new one. Row x
-- of the table u has four words; bit r % 64 of word x * 4 + r / 64 is set where record r uses formula x.
use Rattle.std.specs.Prelude.{ℕ, zero, suc, ◌+◌, ◌*◌, ◌/◌, ◌%◌, ◌^◌, List, [], ◌∷◌, Bool, cond, ◌&&◌, ◌||◌, get_or, eqb, leb, ltb}
use Rattle.flat.specs.Layout.{field_at, kind_at, first_at, second_at}
use Rattle.lanes.specs.Lanes.{or_at}
use Rattle.tables.specs.Links.{is_statement, about_of}

-- r among the users of x, and of each formula of a list
unfoldable pub used : List ℕ → (x r : ℕ) → List ℕ
used u x r = or_at u (x * 4 + r / 64) (2 ^ (r % 64))

unfoldable pub used_in : List ℕ → ℕ → List ℕ → List ℕ
used_in u r [] = u
used_in u r (x ∷ xs) = used_in (used u x r) r xs

-- what the rules of a conjunction ask about: its parts, and where the beliefs in them are kept
unfoldable pub parts : List ℕ → ℕ → List ℕ
parts b r = first_at b r ∷ second_at b r ∷ field_at b (first_at b r) 6 ∷ field_at b (second_at b r) 6 ∷ []

-- what is encrypted, signed or combined, and "controls"
unfoldable pub asks_second : ℕ → Bool
asks_second k = eqb k 15 || (leb 5 k && ltb k 8)

-- what the rules of record r ask about, statements apart; rule 21 stands in the lists of both records that it asks about
unfoldable pub asked : List ℕ → ℕ → List ℕ
asked b r = r ∷ cond (eqb (kind_at b r) 4) (parts b r) (cond (asks_second (kind_at b r)) (second_at b r ∷ []) [])

-- the table with the first n records as users
unfoldable pub entered_upto : List ℕ → ℕ → List ℕ → List ℕ
entered_upto b zero u = u
entered_upto b (suc r) u = used_in (entered_upto b r u) r (asked b r)

-- the first m words of row t take over those of row k
unfoldable pub taken_over : List ℕ → (t k j : ℕ) → List ℕ
taken_over u t k j = or_at u (t * 4 + j) (get_or u (k * 4 + j) 0)

unfoldable pub row_upto : List ℕ → (t k m : ℕ) → List ℕ
row_upto u t k zero = u
row_upto u t k (suc j) = taken_over (row_upto u t k j) t k j

-- the users of a key or a secret use each statement about it
unfoldable pub shared_one : List ℕ → ℕ → List ℕ → List ℕ
shared_one b t u = cond (is_statement b t) (row_upto u t (about_of b t) 4) u

unfoldable pub shared_upto : List ℕ → ℕ → List ℕ → List ℕ
shared_upto b zero u = u
shared_upto b (suc t) u = shared_one b t (shared_upto b t u)

-- the table with all records; more than 256 leave it as it is
unfoldable pub users_of : List ℕ → ℕ → List ℕ → List ℕ
users_of b n u = cond (leb n 256) (shared_upto b n (entered_upto b n u)) u
