-- A bit of a word, a record in a row of a table, step kinds that give a fact, and an entry of the log.
use Rattle.std.specs.Prelude.{ℕ, ◌+◌, ◌*◌, ◌/◌, ◌%◌, ◌^◌, List, [], ◌∷◌, Bool, get_or, set, eqb, ltb}
use Rattle.std.specs.Int.Bits.{bit_or}
use Rattle.facts.specs.declared.Instance.{Instance}

-- bit b of the word w
unfoldable pub bit_at : ℕ → ℕ → Bool
bit_at w b = eqb (w / 2 ^ b % 2) 1

-- Record x in row y of a table with four words to a row: bit x % 64 of word y * 4 + x / 64. What is not in the table is not set.
abbrev pub with_record : List ℕ → (y x : ℕ) → List ℕ
with_record t y x = set t (y * 4 + x / 64) (bit_or (get_or t (y * 4 + x / 64) 0) (2 ^ (x % 64)))

-- step kinds 64 and 65 give an assumption or a message
abbrev pub is_given : ℕ → Bool
is_given k = ltb k 66

-- an entry of the log: what was found, by which step kind, at which stage, and from what
abbrev pub entry_of : ℕ → Instance → List ℕ
entry_of stamp i =
    i.gives.formula ∷ i.gives.bit ∷ i.kind ∷ stamp ∷ i.first.formula ∷ i.first.bit ∷ i.second.formula ∷ i.second.bit ∷ []
