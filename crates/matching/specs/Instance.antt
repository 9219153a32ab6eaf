-- Whether one formula is another with one key put for a variable throughout, as one pass down over the records: no tree is walked. For
-- our own functions; that this is `IsInstance` of the trees is proved in proofs/InstanceOverTrees.antt.
-- A table of images has for each formula the one that stands in its place, or none as long as none does.
use Rattle.std.specs.Prelude.{ℕ, zero, suc, ◌+◌, Option, Some, None, List, [], ◌∷◌, Bool, true, false, cond, ◌&&◌, ◌||◌, get_or, set, replicate, leb, ltb, eqb}
use Rattle.logic.specs.declared.Record.{Record}

abbrev pub Images : Type 0
Images = List (Option ℕ)

-- formula x as an image. No book has a formula 256: that number is none
abbrev pub as_image : ℕ → Option ℕ
as_image x = cond (eqb x 256) None (Some x)

abbrev pub image_in : Images → ℕ → Option ℕ
image_in t j = get_or t j None

-- x may be an image where there is this one: none, or x itself
abbrev pub is_free : Option ℕ → ℕ → Bool
is_free None x = true
is_free (Some y) x = eqb y x

-- whether x may be the image of j: none is yet, or x is
unfoldable pub may_stand : Images → (j x : ℕ) → Bool
may_stand t j x = is_free (image_in t j) x

-- whether the members of one list may be the images of those of another, one after the other
unfoldable pub may_all_stand : Images → (js xs : List ℕ) → Bool
may_all_stand t [] [] = true
may_all_stand t [] (x ∷ xs) = false
may_all_stand t (j ∷ js) [] = false
may_all_stand t (j ∷ js) (x ∷ xs) = may_stand t j x && may_all_stand (set t j (as_image x)) js xs

-- the table with these images
unfoldable pub with_images : Images → (js xs : List ℕ) → Images
with_images t [] xs = t
with_images t (j ∷ js) [] = t
with_images t (j ∷ js) (x ∷ xs) = with_images (set t j (as_image x)) js xs

-- the kinds with three fields
abbrev pub has_three : ℕ → Bool
has_three k = (leb 5 k && leb k 6) || (eqb k 8 || eqb k 10)

-- the fields of a record of kind k, from 4 to 15: all of them refer to formulas
unfoldable pub fields_of : ℕ → Record → List ℕ
fields_of k r = cond (eqb k 11) (r.first ∷ []) (cond (has_three k) (r.first ∷ r.second ∷ r.third ∷ []) (r.first ∷ r.second ∷ []))

-- principals, keys, data, variables and kind 17: where a key is put for a variable, all of these stay but the variable itself
abbrev pub is_fixed : ℕ → Bool
is_fixed k = ltb k 4 || ltb 15 k

-- Whether formula i may have this image, where a key is put for the variable v; `look x` is formula x. The image of v is a key. A formula of
-- the kinds above is its own image. Any other has an image of its kind, and the fields of this are the images of its own.
unfoldable pub is_kept : (look : ℕ → Record) (v : ℕ) (t : Images) (i : ℕ) → Option ℕ → Bool
is_kept look v t i None = true
is_kept look v t i (Some x) =
    cond (eqb i v) (eqb (look x).kind 2)
    (cond (is_fixed (look i).kind) (eqb x i)
    (cond (eqb (look i).kind (look x).kind) (may_all_stand t (fields_of (look i).kind (look i)) (fields_of (look i).kind (look x)))
    false))

-- the table afterwards
unfoldable pub onward : (look : ℕ → Record) (v : ℕ) (t : Images) (i : ℕ) → Option ℕ → Images
onward look v t i None = t
onward look v t i (Some x) =
    cond (eqb i v) t
    (cond (is_fixed (look i).kind) t
    (cond (eqb (look i).kind (look x).kind) (with_images t (fields_of (look i).kind (look i)) (fields_of (look i).kind (look x)))
    t))

-- the formulas below n, downwards: fields refer to earlier formulas, so a formula has its image when its turn comes, or never
unfoldable pub are_kept : (look : ℕ → Record) (v : ℕ) (t : Images) (n : ℕ) → Bool
are_kept look v t zero = true
are_kept look v t (suc i) = is_kept look v t i (image_in t i) && are_kept look v (onward look v t i (image_in t i)) i

-- the table where this ends
unfoldable pub left_by : (look : ℕ → Record) (v : ℕ) (t : Images) (n : ℕ) → Images
left_by look v t zero = t
left_by look v t (suc i) =
    cond (is_kept look v t i (image_in t i)) (left_by look v (onward look v t i (image_in t i)) i) (onward look v t i (image_in t i))

-- whether formula x is formula y with a key put for v
unfoldable pub is_instance_in : (look : ℕ → Record) (v y x : ℕ) → Bool
is_instance_in look v y x = are_kept look v (set (replicate 256 None) y (as_image x)) (1 + y)
