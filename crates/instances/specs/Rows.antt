-- The instances of each formula, as rows: row y of a table has four words, and bit x % 64 of word y * 4 + x / 64 is set where formula x is an
-- instance of formula y. That this is what "instance" means over trees is proved in proofs/Instances.antt.
use Rattle.std.specs.Prelude.{ℕ, zero, suc, ◌+◌, ◌*◌, ◌/◌, ◌%◌, ◌^◌, List, Bool, false, cond, ◌&&◌, ◌||◌, length, get_or, replicate, eqb, leb, ltb}
use Rattle.lanes.specs.Lanes.{or_at}
use Rattle.format.specs.Index.{index_size, record_in}
use Rattle.format.specs.Variables.{variables_in}
use Rattle.instances.specs.Images.{count_just, list_just, image_of, images_upto}

-- x in row y; what is no formula of a book is left out
unfoldable pub with_bit : List ℕ → (y x : ℕ) → List ℕ
with_bit rows y x = cond (ltb x 256) (or_at rows (y * 4 + x / 64) (2 ^ (x % 64))) rows

-- whether one of the first n formulas is of kind 17
unfoldable pub has_delegation : List ℕ → ℕ → Bool
has_delegation t zero = false
has_delegation t (suc x) = eqb (record_in t x).kind 17 || has_delegation t x

-- a formula that has no variable and no kind 17 in its own row: no key changes it; and so the first n
unfoldable pub own_one : List ℕ → ℕ → List ℕ → List ℕ
own_one t y rows = cond (eqb (variables_in t y) 0) (with_bit rows y y) rows

unfoldable pub own_upto : List ℕ → ℕ → List ℕ → List ℕ
own_upto t zero rows = rows
own_upto t (suc y) rows = own_one t y (own_upto t y rows)

-- the first i formulas of a, with the variable v, each with its image for the key k
unfoldable pub imaged_upto : List ℕ → (n v k : ℕ) → List ℕ → ℕ → List ℕ → List ℕ
imaged_upto t n v k a zero rows = rows
imaged_upto t n v k a (suc i) rows =
    with_bit (imaged_upto t n v k a i rows) (get_or a i 0) (image_of t n v k (images_upto t n v k a i) (get_or a i 0))

-- formula k put for v in the first m formulas of a, if it is a key; and so the first k
unfoldable pub key_one : List ℕ → (n v : ℕ) → List ℕ → (m k : ℕ) → List ℕ → List ℕ
key_one t n v a m k rows = cond (eqb (record_in t k).kind 2) (imaged_upto t n v k a m rows) rows

unfoldable pub keys_upto : List ℕ → (n v : ℕ) → List ℕ → (m k : ℕ) → List ℕ → List ℕ
keys_upto t n v a m zero rows = rows
keys_upto t n v a m (suc k) rows = key_one t n v a m k (keys_upto t n v a m k rows)

-- each key put for v, in all formulas that have just v
unfoldable pub put_for : List ℕ → (n v : ℕ) → List ℕ → List ℕ
put_for t n v rows = keys_upto t n v (list_just t v n (replicate 256 0)) (count_just t v n) n rows

-- if it is a variable; and so for the first v formulas
unfoldable pub variable_one : List ℕ → (n v : ℕ) → List ℕ → List ℕ
variable_one t n v rows = cond (eqb (record_in t v).kind 16) (put_for t n v rows) rows

unfoldable pub variables_upto : List ℕ → (n v : ℕ) → List ℕ → List ℕ
variables_upto t n zero rows = rows
variables_upto t n (suc v) rows = variable_one t n v (variables_upto t n v rows)

-- THE ROWS of a book with n formulas and the index t. They stay as they are for more formulas than a book can have, and for a table that is
-- too short for an index.
unfoldable pub instances_of : List ℕ → ℕ → List ℕ → List ℕ
instances_of t n rows =
    cond (leb n 256 && leb index_size (length t)) (variables_upto t n n (own_upto t n rows)) rows
