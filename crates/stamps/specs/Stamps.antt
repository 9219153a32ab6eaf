-- The stamps of a turn of the survey: each fact that is held now and was not held before gets one, in a table of bytes.
use Rattle.std.specs.Prelude.{ℕ, zero, suc, ◌+◌, ◌*◌, ◌/◌, ◌%◌, ◌^◌, ◌<◌, ◌≡◌, List, true, false, cond, length, get_or, set, ltb}
use Rattle.std.specs.Int.Bits.{bit_and, bit_xor}
use Rattle.facts.specs.Facts.{bit_at}

-- a table, and how many bytes were written into it
pub record Table : Type 0 where
  pub bytes : List ℕ
  pub count : ℕ

abbrev pub stamped : List ℕ → ℕ → Table
stamped t n = record { bytes = t; count = n }

-- a byte at a place; what has no place in the table is not written
unfoldable pub stamp_at : (place stamp : ℕ) → Table → Table
stamp_at i v t = cond (ltb i (length t.bytes)) (stamped (set t.bytes i v) (t.count + 1)) t

-- A word has eight lanes of eight bits, a bit for each rank. The place of a bit: each principal has a block of its own, and the facts
-- of the lanes stand one behind the other in it, from the place `at` on.
abbrev pub place_of : (stride at bit : ℕ) → ℕ
place_of d a b = b % 8 * d + (a + b / 8)

-- bit b of a word gets the stamp of its rank, if it is set
abbrev pub stamp_bit : (stamps : List ℕ) (stride at : ℕ) → (b word : ℕ) → Table → Table
stamp_bit v d a b w t = cond (bit_at w b) (stamp_at (place_of d a b) (get_or v (b % 8) 0) t) t

-- the bits of a word below bit k, from the lowest up
unfoldable pub stamp_bits : (stamps : List ℕ) (stride at : ℕ) → (k word : ℕ) → Table → Table
stamp_bits v d a zero w t = t
stamp_bits v d a (suc k) w t = stamp_bit v d a k w (stamp_bits v d a k w t)

-- b is the lowest bit of w that is set
abbrev pub IsLowest : (w b : ℕ) → Type 0
IsLowest w b = (bit_at w b ≡ true) × ((j : ℕ) → j < b → bit_at w j ≡ false)

-- the bits of a word that were not set before
unfoldable pub fresh : (new old : ℕ) → ℕ
fresh w b = bit_xor w (bit_and w b)

-- a part of the facts about a formula: the word that it stands in, its first bit there, and the place of the first fact in a block
pub record Part : Type 0 where
  pub word : ℕ
  pub low : ℕ
  pub at : ℕ

abbrev pub part : ℕ → ℕ → ℕ → Part
part i l a = record { word = i; low = l; at = a }

-- what was held when stamps were given last, and the table
pub record State : Type 0 where
  pub before : List ℕ
  pub stamps : Table

abbrev pub state : List ℕ → List ℕ → ℕ → State
state b t n = record { before = b; stamps = stamped t n }

module _ (words stamps : List ℕ) where
  -- what is new in a part is stamped, and its word is then as it is now
  unfoldable pub stamp_part : (stride : ℕ) → Part → State → State
  stamp_part d c s = record {
    before = set s.before c.word (get_or words c.word 0);
    stamps = stamp_bits stamps d c.at 64 (fresh (get_or words c.word 0) (get_or s.before c.word 0) / 2 ^ c.low) s.stamps;
  }

  -- formula x, with p principals: the last three lanes of its first word, and all lanes of the other two
  unfoldable pub stamp_record : (stride p x : ℕ) → State → State
  stamp_record d p x s =
      stamp_part d (part (512 + x) 0 (x * (3 + 2 * p) + (3 + p)))
      (stamp_part d (part (256 + x) 0 (x * (3 + 2 * p) + 3)) (stamp_part d (part x 40 (x * (3 + 2 * p))) s))

  -- the first n formulas
  unfoldable pub stamp_upto : (stride p n : ℕ) → State → State
  stamp_upto d p zero s = s
  stamp_upto d p (suc x) s = stamp_record d p x (stamp_upto d p x s)

  -- all n formulas; of more than 256 formulas or 8 principals, which no book has, nothing is stamped
  unfoldable pub stamp_new : (n p : ℕ) → State → State
  stamp_new n p s = cond (ltb 256 n) s (cond (ltb 8 p) s (stamp_upto (n * (3 + 2 * p)) p n s))
