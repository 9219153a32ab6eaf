-- What all principals see and believe, how one of them came to it, and which records have to be looked at again.
use Rattle.std.specs.Prelude.{ℕ, ◌+◌, ◌*◌, ◌/◌, ◌%◌, ◌^◌, List, [], ◌∷◌, Bool, cond, not, ◌&&◌, get_or, set, eqb, ltb}
use Rattle.std.proofs.lemmas.List.Edits.{sets}
use Rattle.std.specs.Int.Bits.{bit_and, bit_or}
use Rattle.facts.specs.declared.Cell.{Cell}
use Rattle.facts.specs.declared.Instance.{Instance}
use Rattle.facts.specs.Facts.{bit_at, is_given, entry_of}

-- The lane of a cell is eight bits of a word: bit P is set where the principal of rank P holds the fact. The words of formula x are x,
-- 256 + x and 512 + x. The last three lanes of the first are "sees", "believes", "believes fresh"; the second has a lane for each
-- principal who said it, the third a lane for each who believes it.
abbrev pub word_of : Cell → ℕ
word_of q = q.formula + 256 * ((q.bit + 5) / 8 % 4)

abbrev pub shift_of : Cell → ℕ
shift_of q = 8 * ((q.bit + 5) % 8)

-- who holds the fact of a cell: a set of ranks
unfoldable pub lane : List ℕ → Cell → ℕ
lane ws q = get_or ws (word_of q) 0 / 2 ^ shift_of q % 256

-- the words, the records to be looked at again, the log of one principal, and the number of its entries
pub record State : Type 0 where
  pub words : List ℕ
  pub pending : List ℕ
  pub log : List ℕ
  pub count : ℕ

abbrev pub state : List ℕ → List ℕ → List ℕ → ℕ → State
state ws d l n = record { words = ws; pending = d; log = l; count = n }

-- the number k of a list with these bits too
abbrev pub or_at : List ℕ → ℕ → ℕ → List ℕ
or_at d k v = set d k (bit_or (get_or d k 0) v)

-- The users of formula x are a set of records, row x of a table u with four words to a row. They have to be looked at again.
unfoldable pub marked : List ℕ → List ℕ → ℕ → List ℕ
marked u d x =
    or_at (or_at (or_at (or_at d 0 (get_or u (x * 4) 0)) 1 (get_or u (x * 4 + 1) 0)) 2 (get_or u (x * 4 + 2) 0)) 3 (get_or u (x * 4 + 3) 0)

-- an instance for the principals of a set
pub record Common : Type 0 where
  pub may : ℕ
  pub by : Instance

abbrev pub common : ℕ → Instance → Common
common m i = record { may = m; by = i }

-- whether the principal of rank k is new in a set
unfoldable pub is_new : (k : ℕ) → (old new : ℕ) → Bool
is_new k old new = bit_at new k && not (bit_at old k)

-- The log with the entry of an instance, where there is something to note. Its place is its number, of 16 bits; 65,535 entries are never
-- reached (proofs/Numbers).
unfoldable pub noted : Bool → Instance → List ℕ → ℕ → List ℕ
noted news i l n = cond (news && ltb n 65535) (sets l (n * 8) (entry_of 0 i)) l

unfoldable pub counted : Bool → ℕ → ℕ
counted news n = cond (news && ltb n 65535) (n + 1) n

-- all of a set hold the fact of a cell
unfoldable pub is_held : List ℕ → ℕ → Cell → Bool
is_held ws who q = eqb (bit_or (get_or ws (word_of q) 0) (who * 2 ^ shift_of q)) (get_or ws (word_of q) 0)

-- The principals of a set hold what the instance gives. Where that is something new, the users of its formula have to be looked at
-- again; and where it is new for the principal of rank k, it is noted in the log.
unfoldable pub entered : (u : List ℕ) (k : ℕ) → ℕ → Instance → State → State
entered u k who i s =
    cond (is_held s.words who i.gives) s
    (state
    (set s.words (word_of i.gives) (bit_or (get_or s.words (word_of i.gives) 0) (who * 2 ^ shift_of i.gives)))
    (marked u s.pending i.gives.formula)
    (noted (is_new k (lane s.words i.gives) who) i s.log s.count)
    (counted (is_new k (lane s.words i.gives) who) s.count))

-- those who may use an instance and hold both its premises
abbrev pub holders : List ℕ → Common → ℕ
holders ws c = bit_and c.may (bit_and (lane ws c.by.first) (lane ws c.by.second))

-- an instance of a rule at work
unfoldable pub concluded : (u : List ℕ) (k : ℕ) → State → Common → State
concluded u k s c = entered u k (holders s.words c) c.by s

-- who can conclude what an instance gives; a given fact has no premises
unfoldable pub ready : List ℕ → Common → ℕ
ready ws c = cond (is_given c.by.kind) c.may (holders ws c)

-- the same for both: a rule, or what is given
unfoldable pub fired : (u : List ℕ) (k : ℕ) → State → Common → State
fired u k s c = entered u k (ready s.words c) c.by s

-- instances one after the other
unfoldable pub run : (u : List ℕ) (k : ℕ) → State → List Common → State
run u k s [] = s
run u k s (c ∷ l) = run u k (fired u k s c) l
