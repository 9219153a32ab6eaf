-- What the functions of the listing hold and say, in terms of the index of a book. That these are the lines of the listing is proved in
-- proofs/.
use Rattle.std.specs.Prelude.{ℕ, ◌+◌, ◌-◌, ◌*◌, ◌<◌, ◌≤◌, ◌≡◌, List, map, length, get_or, take, drop, T}
use Rattle.std.proofs.lemmas.List.Edits.{sets}
use Rattle.logic.specs.declared.Record.{Record}
use Rattle.logic.specs.declared.Counts.{Counts}
use Rattle.logic.specs.Kind.{is_statement}
use Rattle.logic.specs.Record.{no_record}
use Rattle.logic.specs.Formula.{record_of}
use Rattle.logic.specs.Place.{principal_count, ranked}
use Rattle.logic.specs.Listing.{fitting}
use Rattle.logic.proofs.Formulas.{Formulas}
use Rattle.format.specs.Index.{index_size, messages_from, unpacked}
use Rattle.written.specs.Stated.{records_in, Noted}
use Rattle.places.specs.Places.{goals_in}

-- the table `index` is that of a book with f formulas, whose other records n counts
pub record IsIndex (f : ℕ) (index : List ℕ) (n : Counts) : Type 0 where
  pub size : length index ≡ index_size
  pub proper : Formulas (records_in f index)
  pub formulas : f ≡ length (records_in f index)
  pub principals : n.principals ≡ principal_count (records_in f index)
  pub few : f ≤ 256
  pub fewer : n.principals ≤ 8
  pub goals : n.goals ≤ 32
  pub noted : Noted f index

-- F, of f formulas and p principals
abbrev pub places_of : (f p : ℕ) → ℕ
places_of f p = p * f * (3 + 2 * p)

-- the message records of the index
unfoldable pub messages_in : ℕ → List ℕ → List Record
messages_in m index = map unpacked (take m (drop messages_from index))

-- each goal asks for a formula of kind 12 or 13
abbrev pub Stated : (f : ℕ) → List ℕ → Counts → Type 0
Stated f index n =
    (g : ℕ) → g < n.goals → T (is_statement (record_of (records_in f index) (get_or (goals_in n.goals index) g no_record).second).kind)

-- the formula numbers of the principals, by rank
abbrev pub Named : List Record → List ℕ → Type 0
Named fs names = (a : ℕ) → a < principal_count fs → get_or names a 0 ≡ ranked fs a

-- the line s stands at the front of the buffer q, which was o before, and is r bytes long
pub record Prints (o s q : List ℕ) (r : ℕ) : Type 0 where
  pub list : q ≡ sets o 0 s
  pub size : r ≡ length s
  pub room : r ≤ 4160

-- as many of the lines from number `from` on, up to number `last`, as fit, stand at the front of the buffer: `bytes` bytes, and `next`
-- is the number of the first line that is left
pub record LinesIn (line : ℕ → List ℕ) (last from : ℕ) (buffer buffer' : List ℕ) (bytes next : ℕ) : Type 0 where
  pub written : bytes ≡ length (fitting line (last - from) from (length buffer)).bytes
  pub left : next ≡ (fitting line (last - from) from (length buffer)).next
  pub list : buffer' ≡ sets buffer 0 (fitting line (last - from) from (length buffer)).bytes
  pub fits : bytes ≤ length buffer
