-- Records and their bytes: the record at the front of a record's bytes is that record, and the bytes at the front
-- of some bytes are those of the record that stands there.
use Prim.Native.Nat.{ℕ, zero, suc, ◌+◌, ◌*◌, ◌/◌, ◌%◌, ◌≤◌, ◌<◌}
use native.Mathlib.Nat.{add-zero}
use native.Mathlib.Numerals.{add-one, add-two}
use native.Mathlib.Omega.{arith}
use mathlib.Core.Path.{◌≡◌, refl, sym, ap, ◌∙◌}
use mathlib.Core.Bool.{Bool, true, false, cond}
use mathlib.Core.List.{List, [], ◌∷◌, ◌++◌, append_assoc}
use lib.ListN.{length, get_or, take, drop, length-append}
use lib.Seq.{get_or-append_seam, get_or-append-add, get_or-drop, drop-cons, take_at}
use lib.Dec.{T, lit<, eqb, eqb→eq}
use Rattle.logic.specs.declared.Sort.{Sort}
use Rattle.logic.specs.declared.Body.{Body}
use Rattle.logic.specs.declared.Record.{Record}
use Rattle.logic.specs.Kind.{bodies, body_of, is_field, width, size_of}
use Rattle.logic.specs.Record.{word, field, record_at, field_bytes, bytes_of, bytes}
use Rattle.logic.specs.Book.{EachField, Whole}
use Rattle.logic.proofs.Table.{at_each_kind_if, known, known_small, width_is, Held, whole_held, held_whole}

-- each element of a list is a byte
abbrev pub Bytes : List ℕ → Type 0
Bytes s = (i : ℕ) → get_or s i 0 < 256

pub record_path : (r q : Record) → r.kind ≡ q.kind → r.first ≡ q.first → r.second ≡ q.second → r.third ≡ q.third → r ≡ q
record_path r q k a b c = λ i. record { kind = k i; first = a i; second = b i; third = c i }

-- a field takes as many bytes as the table says
pub field_length : (x : Sort) (n : ℕ) → length (field_bytes x n) ≡ width x
field_length x n = rw width_is (go (is_field x))
  where
    go : (b : Bool) → length (cond b (n / 256 ∷ n % 256 ∷ []) []) ≡ cond b 2 0
    go true = refl
    go false = refl

pub bytes_of_length : (r : Record) → length (bytes_of r) ≡ size_of (body_of r.kind)
unfolding bytes_of
bytes_of_length r = simp (length-append, field_length) (omega arith)

-- the two bytes behind `pre`
pub word_there : (pre post : List ℕ) (a b : ℕ) → word (pre ++ a ∷ b ∷ post) (length pre) ≡ a * 256 + b
unfolding word
word_there pre post a b = rw (get_or-append_seam, get_or-append-add) refl

-- a field is read back where it stands
pub field_there : (x : Sort) (pre post : List ℕ) (n i : ℕ) → (T (is_field x) → length pre ≡ i) → Whole x n
    → field x (pre ++ (field_bytes x n ++ post)) i ≡ n
unfolding field
field_there x pre post n i e w = go (is_field x) e (whole_held x n w)
  where
    go : (b : Bool) → (T b → length pre ≡ i) → Held b n
        → cond b (word (pre ++ (cond b (n / 256 ∷ n % 256 ∷ []) [] ++ post)) i) 0 ≡ n
    go true e h = rw (← e tt, word_there pre post (n / 256) (n % 256)) (omega arith)
    go false e h = sym h

-- how far in the second and the third field stand, where they are there
pub second_at_lem : (k : ℕ) → T (is_field (body_of k).second) → 1 + width (body_of k).first ≡ 3
unfolding body_of bodies
second_at_lem k t =
    eqb→eq _ 3 (at_each_kind_if (λ k b. is_field b.second) (λ k b. eqb (1 + width b.first) 3) tt (λ k. tt) k t)

pub third_at_lem : (k : ℕ) → T (is_field (body_of k).third) → 1 + width (body_of k).first + width (body_of k).second ≡ 5
unfolding body_of bodies
third_at_lem k t =
    eqb→eq _ 5
    (at_each_kind_if (λ k b. is_field b.third) (λ k b. eqb (1 + width b.first + width b.second) 5) tt (λ k. tt) k t)

-- the record at the front of a record's bytes
pub record_at_bytes_of : (r : Record) (rest : List ℕ) → EachField Whole r → record_at (bytes_of r ++ rest) ≡ r
unfolding record_at bytes_of
record_at_bytes_of r rest w = record_path _ _ refl
    (ap (λ (s : List ℕ). field body.first s 1) (at_first r.kind a b c)
    ∙ field_there body.first (r.kind ∷ []) (b ++ (c ++ rest)) r.first 1 (λ t. refl) w.0)
    (ap (λ (s : List ℕ). field body.second s 3) (at_second r.kind a b c)
    ∙ field_there body.second (r.kind ∷ a) (c ++ rest) r.second 3
    (λ t. simp field_length (omega (arith, second_at_lem r.kind t))) w.1)
    (ap (λ (s : List ℕ). field body.third s 5) (at_third r.kind a b c)
    ∙ field_there body.third (r.kind ∷ a ++ b) rest r.third 5
    (λ t. simp (length-append, field_length) (omega (arith, third_at_lem r.kind t))) w.2)
  where
    body : Body
    body = body_of r.kind

    a : List ℕ
    a = field_bytes body.first r.first

    b : List ℕ
    b = field_bytes body.second r.second

    c : List ℕ
    c = field_bytes body.third r.third

    at_first : (k : ℕ) (a b c : List ℕ) → (k ∷ a ++ (b ++ c)) ++ rest ≡ (k ∷ []) ++ (a ++ (b ++ (c ++ rest)))
    at_first k a b c = simp append_assoc

    at_second : (k : ℕ) (a b c : List ℕ) → (k ∷ a ++ (b ++ c)) ++ rest ≡ (k ∷ a) ++ (b ++ (c ++ rest))
    at_second k a b c = simp append_assoc

    at_third : (k : ℕ) (a b c : List ℕ) → (k ∷ a ++ (b ++ c)) ++ rest ≡ (k ∷ a ++ b) ++ (c ++ rest)
    at_third k a b c = simp append_assoc

-- the two bytes at a place
pub two_at : (s : List ℕ) (i : ℕ) → i + 2 ≤ length s → drop i s ≡ get_or s i 0 ∷ get_or s (i + 1) 0 ∷ drop (i + 2) s
two_at s i l =
    drop-cons s i 0 (omega arith)
    ∙ rw (add-one, add-two) (ap (λ (t : List ℕ). get_or s i 0 ∷ t) (drop-cons s (suc i) 0 (omega arith)))

-- the two bytes of a number of two bytes
pub high_of : (a b : ℕ) → b < 256 → (a * 256 + b) / 256 ≡ a
high_of a b h = omega arith

pub low_of : (a b : ℕ) → b < 256 → (a * 256 + b) % 256 ≡ b
low_of a b h = omega arith

-- the bytes that a field was read from
pub field_back : (x : Sort) (s : List ℕ) (i j : ℕ) → (T (is_field x) → i ≡ j) → Bytes s → i + width x ≤ length s
    → drop i s ≡ field_bytes x (field x s j) ++ drop (i + width x) s
unfolding field word
field_back x s i j e h l = rw width_is (go (is_field x) e (rw width_is at l))
  where
    go : (b : Bool) → (T b → i ≡ j) → i + cond b 2 0 ≤ length s
        → drop i s
        ≡ cond b (cond b (word s j) 0 / 256 ∷ cond b (word s j) 0 % 256 ∷ []) [] ++ drop (i + cond b 2 0) s
    go true e l = rw (← e tt, high_of _ _ (h (i + 1)), low_of _ _ (h (i + 1))) (two_at s i l)
    go false e l = rw add-zero

-- what a field holds is two bytes, or 0 where the kind has no such field
pub field_whole : (x : Sort) (s : List ℕ) (i : ℕ) → Bytes s → Whole x (field x s i)
unfolding field word
field_whole x s i h = held_whole x _ (go (is_field x))
  where
    go : (b : Bool) → Held b (cond b (word s i) 0)
    go true = omega (arith, h i, h (i + 1))
    go false = refl

pub record_whole : (s : List ℕ) → Bytes s → EachField Whole (record_at s)
unfolding record_at
record_whole s h = (
  field_whole (body_of (get_or s 0 0)).first s 1 h,
  field_whole (body_of (get_or s 0 0)).second s 3 h,
  field_whole (body_of (get_or s 0 0)).third s 5 h,
)

-- the bytes at the front are those of the record that stands there, and the others stand behind it
pub front_bytes : (s : List ℕ) → Bytes s → size_of (body_of (get_or s 0 0)) ≤ length s
    → s ≡ bytes_of (record_at s) ++ drop (size_of (body_of (get_or s 0 0))) s
unfolding record_at bytes_of
front_bytes s h l =
    drop-cons s 0 0 (omega arith)
    ∙ rw (
      field_back body.first s 1 1 (λ t. refl) h (omega arith),
      field_back body.second s (1 + width body.first) 3 (second_at_lem (get_or s 0 0)) h (omega arith),
      field_back body.third s (1 + width body.first + width body.second) 5 (third_at_lem (get_or s 0 0)) h l,
    )
    (simp append_assoc)
  where
    body : Body
    body = body_of (get_or s 0 0)

pub kind_at : (s : List ℕ) → (record_at s).kind ≡ get_or s 0 0
unfolding record_at
kind_at s = refl

pub front_take : (s : List ℕ) → Bytes s → size_of (body_of (get_or s 0 0)) ≤ length s
    → take (size_of (body_of (get_or s 0 0))) s ≡ bytes_of (record_at s)
unfolding record_at
front_take s h l =
    ap (take (size_of (body_of (get_or s 0 0)))) (front_bytes s h l)
    ∙ take_at (bytes_of (record_at s)) _ (size_of (body_of (get_or s 0 0))) (bytes_of_length (record_at s))

-- what is left of bytes are bytes
pub bytes_drop : (n : ℕ) (s : List ℕ) → Bytes s → Bytes (drop n s)
bytes_drop n s h i = rw get_or-drop (h (n + i))

pub bytes_take : (n : ℕ) (s : List ℕ) → Bytes s → Bytes (take n s)
bytes_take zero s h i = lit< tt
bytes_take (suc n) [] h i = lit< tt
bytes_take (suc n) (a ∷ s) h zero = h 0
bytes_take (suc n) (a ∷ s) h (suc i) = bytes_take n s (λ j. h (suc j)) i

-- the bytes of two runs of records
pub bytes_append : (rs qs : List Record) → bytes (rs ++ qs) ≡ bytes rs ++ bytes qs
unfolding bytes
bytes_append [] qs = refl
bytes_append (r ∷ rs) qs = rw (bytes_append rs qs, append_assoc)

-- the bytes of whole records of known kinds are bytes
pub bytes_join : (s t : List ℕ) → Bytes s → Bytes t → Bytes (s ++ t)
bytes_join [] t b c i = c i
bytes_join (a ∷ s) t b c zero = b 0
bytes_join (a ∷ s) t b c (suc i) = bytes_join s t (λ j. b (suc j)) c i

pub byte_cons : (a : ℕ) (s : List ℕ) → a < 256 → Bytes s → Bytes (a ∷ s)
byte_cons a s l b zero = l
byte_cons a s l b (suc i) = b i

pub field_bytes_lem : (x : Sort) (n : ℕ) → Whole x n → Bytes (field_bytes x n)
field_bytes_lem x n w = go (is_field x) (whole_held x n w)
  where
    go : (b : Bool) → Held b n → Bytes (cond b (n / 256 ∷ n % 256 ∷ []) [])
    go true h = byte_cons (n / 256) (n % 256 ∷ []) (omega arith) (byte_cons (n % 256) [] (omega arith) (λ i. lit< tt))
    go false h = λ i. lit< tt

pub record_bytes : (r : Record) → T (known r.kind) → EachField Whole r → Bytes (bytes_of r)
unfolding bytes_of
record_bytes r k w =
    byte_cons r.kind (a ++ (b ++ c)) (omega (arith, known_small r.kind k))
    (bytes_join a (b ++ c) (field_bytes_lem body.first r.first w.0)
    (bytes_join b c (field_bytes_lem body.second r.second w.1) (field_bytes_lem body.third r.third w.2)))
  where
    body : Body
    body = body_of r.kind

    a : List ℕ
    a = field_bytes body.first r.first

    b : List ℕ
    b = field_bytes body.second r.second

    c : List ℕ
    c = field_bytes body.third r.third
