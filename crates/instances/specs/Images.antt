-- The image of a formula: the record that is the formula with one key put for its variable, worked out record by record from the index t of
-- a book with n formulas. No tree is walked: records are shared, and a tree may be far larger than its book.
use Rattle.std.specs.Prelude.{ℕ, zero, suc, ◌+◌, ◌-◌, List, Bool, cond, ◌&&◌, get_or, set, replicate, eqb, ltb}
use Rattle.logic.specs.declared.Record.{Record}
use Rattle.logic.specs.Kind.{body_of, size_of}
use Rattle.format.specs.Index.{packed, record_in}
use Rattle.format.specs.Variables.{variables_in}
use Rattle.chains.specs.Chain.{found_in}

-- whether formula y has just the variable v, and no kind 17
unfoldable pub has_just : List ℕ → (v y : ℕ) → Bool
has_just t v y = eqb (variables_in t y) (1 + v)

-- the formulas with just the variable v among the first n, upwards: how many they are, and the list a with them at its front
unfoldable pub count_just : List ℕ → (v n : ℕ) → ℕ
count_just t v zero = 0
count_just t v (suc y) = cond (has_just t v y) (count_just t v y + 1) (count_just t v y)

unfoldable pub list_just : List ℕ → (v n : ℕ) → List ℕ → List ℕ
list_just t v zero a = a
list_just t v (suc y) a = cond (has_just t v y) (set (list_just t v y a) (count_just t v y) y) (list_just t v y a)

-- where a formula has no image; a book has no formula of this number
abbrev pub no_image : ℕ
no_image = 256

-- a field that refers to formula x: where x has just v its image, else x
unfoldable pub field_image : List ℕ → ℕ → List ℕ → ℕ → ℕ
field_image t v images x = cond (has_just t v x && ltb x 256) (get_or images x 0) x

-- the record with its fields mapped; a field that the kind does not have stays
unfoldable pub mapped : List ℕ → ℕ → List ℕ → Record → Record
mapped t v images r =
    record {
      kind = r.kind;
      first = field_image t v images r.first;
      second = cond (ltb 3 (size_of (body_of r.kind))) (field_image t v images r.second) r.second;
      third = cond (ltb 5 (size_of (body_of r.kind))) (field_image t v images r.third) r.third;
    }

-- the formula that a search found, which counts from 1
abbrev pub place_found : ℕ → ℕ
place_found c = cond (eqb c 0) no_image (c - 1)

-- the image of y with the key k for v, where the formulas before y have theirs: that of v is k
unfoldable pub image_of : List ℕ → (n v k : ℕ) → List ℕ → ℕ → ℕ
image_of t n v k images y = cond (eqb y v) k (place_found (found_in t (packed (mapped t v images (record_in t y))) n))

-- the images of the first i formulas of a
unfoldable pub images_upto : List ℕ → (n v k : ℕ) → List ℕ → ℕ → List ℕ
images_upto t n v k a zero = replicate 256 no_image
images_upto t n v k a (suc i) = set (images_upto t n v k a i) (get_or a i 0) (image_of t n v k (images_upto t n v k a i) (get_or a i 0))
