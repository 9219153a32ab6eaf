-- Honest senders: the parts of a message that its sender does not believe. Document 02, wish 7.
use Rattle.std.specs.Prelude.{ℕ, ◌-◌, ◌/◌, ◌%◌, ◌≤◌, ◌<◌, ◌≡◌, ◌⊎◌, List, [], ◌∷◌, ◌++◌, Bool, true, false, cond, ◌&&◌, ◌||◌, length, get_or, T, leb, ltb, eqb}
use Rattle.logic.specs.declared.Record.{Record}
use Rattle.logic.specs.Record.{no_record}
use Rattle.logic.specs.Count.{formulas, messages}
use Rattle.logic.specs.Refusal.{Outcome}
use Rattle.logic.specs.Refusal.Outcome.{accepted, refused}
use Rattle.logic.specs.Reading.{reading}
use Rattle.logic.specs.Formula.{KeyField, Tree, record_of, name_of, tree_of}
use Rattle.logic.specs.Formula.Tree.{conjunction, encrypted, signed, combined}
use Rattle.logic.specs.Fact.{belief, initial}
use Rattle.logic.specs.Derivation.{Among, Derivable}
use Rattle.logic.specs.Written.{opened}
use Rattle.logic.specs.Place.{place}
use Rattle.logic.specs.Survey.{IsSurvey}
use Rattle.logic.specs.Text.{ascii, decimal, principal_text, datum_text, text, length_told, at_front}
use Rattle.logic.specs.Listing.{line_feed, printed, refused_line}
use Rattle.logic.specs.Reason.{whole}

-- THE WALK for the sender with the name A from the formula Z of his message: "Walk the formula through conjunctions, through the X of
-- combined formulas and into the bodies of encrypted and signed sections. Sections from somebody else are skipped whole." It meets X;
-- `inside` says whether a section from A was entered on the way.
pub data Meets (A : ℕ) (Z : Tree) : (inside : Bool) → Tree → Type 0 where
  begins : Meets A Z false Z
  left : (inside : Bool) (X Y : Tree) → Meets A Z inside (conjunction X Y) → Meets A Z inside X
  right : (inside : Bool) (X Y : Tree) → Meets A Z inside (conjunction X Y) → Meets A Z inside Y
  through : (inside : Bool) (X Y : Tree) → Meets A Z inside (combined X Y) → Meets A Z inside X
  into_encrypted : (inside : Bool) (X : Tree) (K : KeyField) → Meets A Z inside (encrypted X K A) → Meets A Z true X
  into_signed : (inside : Bool) (X : Tree) (K : KeyField) → Meets A Z inside (signed X K A) → Meets A Z true X

-- "A formula of kind 8 to 15 or 17 met inside a section from the sender must be a belief that he holds"; "Data count as believed."
abbrev pub is_to_be_believed : ℕ → Bool
is_to_be_believed k = (leb 8 k && leb k 15) || eqb k 17

-- "a belief that he holds before that message: for message m, its survey byte is 1 to m"
abbrev pub is_before : (m v : ℕ) → Bool
is_before m v = leb 1 v && leb v m

-- the byte of "principal p believes formula x", opened, in the survey t; fs are the formula records of the book
abbrev pub belief_byte : List Record → List ℕ → (p x : ℕ) → ℕ
belief_byte fs t p x = get_or t (place fs (opened fs p x)) 0

-- formula x fails this rule for message m, whose record is r
pub record Fails (fs : List Record) (t : List ℕ) (m : ℕ) (r : Record) (x : ℕ) : Type 0 where
  pub met : Meets (name_of fs r.first) (tree_of fs r.third) true (tree_of fs x)
  pub asked : T (is_to_be_believed (record_of fs x).kind)
  pub lacking : is_before m (belief_byte fs t r.first x) ≡ false

-- messages count from 1: message m, or no record
abbrev pub message_of : List Record → ℕ → Record
message_of ms m = get_or ms (m - 1) no_record

-- the name of its sender
abbrev pub sender_of : List Record → ℕ → ℕ
sender_of rs m = name_of (formulas rs) (message_of (messages rs) m).first

-- THE REPORT "is a run of message number and formula number"
pub record Pair : Type 0 where
  pub message : ℕ
  pub formula : ℕ

abbrev pub pair : (m x : ℕ) → Pair
pair m x = record { message = m; formula = x }

-- one pair stands before another: "in message order, then formula number"
abbrev pub Before : Pair → Pair → Type 0
Before a b = (a.message < b.message) ⊎ ((a.message ≡ b.message) × (a.formula < b.formula))

-- each pair stands before the next: so they are in this order, "without repeats"
abbrev pub Rising : List Pair → Type 0
Rising [] = Unit
Rising (a ∷ []) = Unit
Rising (a ∷ b ∷ l) = Before a b × Rising (b ∷ l)

-- the pair is a message of the book and a formula that fails the rule for it
abbrev pub Fault : List Record → List ℕ → Pair → Type 0
Fault rs t a =
    (1 ≤ a.message) × (a.message ≤ length (messages rs))
    × Fails (formulas rs) t a.message (message_of (messages rs) a.message) a.formula

-- ps is the report of a book with the records rs and the survey t: "It names each formula that fails this rule and no other"
pub record IsReport (rs : List Record) (t : List ℕ) (ps : List Pair) : Type 0 where
  pub rising : Rising ps
  pub each : (a : Pair) → Fault rs t a → Among a ps
  pub only : (a : Pair) → Among a ps → Fault rs t a

-- The same over trees, without a survey: formula x is met inside a section from the sender of message m, is of one of these kinds, and that
-- the sender believes it does not follow up to message m - 1. That the report names just these is proved in proofs/HonestSenders.antt.
pub record Unfounded (rs : List Record) (m x : ℕ) : Type 0 where
  pub there : (1 ≤ m) × (m ≤ length (messages rs))
  pub met : Meets (sender_of rs m) (tree_of (formulas rs) (message_of (messages rs) m).third) true (tree_of (formulas rs) x)
  pub asked : T (is_to_be_believed (record_of (formulas rs) x).kind)
  pub underivable : Derivable (formulas rs) (initial rs (m - 1)) (belief (sender_of rs m) (tree_of (formulas rs) x)) → ⊥

-- "two bytes each"
abbrev pub pair_bytes : Pair → List ℕ
pair_bytes a = a.message / 256 ∷ a.message % 256 ∷ a.formula / 256 ∷ a.formula % 256 ∷ []

unfoldable pub report_bytes : List Pair → List ℕ
report_bytes [] = []
report_bytes (a ∷ l) = pair_bytes a ++ report_bytes l

-- WHAT THE OPERATION ANSWERS, for the lent buffer b and what it is afterwards. The book's refusals come first; a buffer "shorter than the
-- report is 14", and then nothing is written. Otherwise the report stands at the front, "Its length is returned and the bytes past it stay."
abbrev pub ReportedAfter : Outcome (List Record) → (b b' : List ℕ) → Outcome ℕ → Type 0
ReportedAfter (refused f i) b b' o = (o ≡ refused f i) × (b' ≡ b)
ReportedAfter (accepted rs) b b' o =
    (t : List ℕ) × IsSurvey (formulas rs) (initial rs) t
    × ((ps : List Pair) × IsReport rs t ps
    × (o ≡ length_told (whole (length b) (report_bytes ps))) × (b' ≡ at_front (whole (length b) (report_bytes ps)) b))

abbrev pub Reported : (book b b' : List ℕ) → Outcome ℕ → Type 0
Reported book b b' o = ReportedAfter (reading book) b b' o

-- THE LINES that the program `honest` prints

-- `message M: P1 does not believe `, for the sender with the name A
unfoldable pub disbelief_heading : (m A : ℕ) → List ℕ
disbelief_heading m A = ascii "message " ++ decimal m ++ ascii ": " ++ principal_text A ++ ascii " does not believe "

-- `message M: P1 does not believe FACT`; a text above 4,096 bytes prints as `too long`. ms are the messages of the book
unfoldable pub disbelief_line : (fs ms : List Record) (m x : ℕ) → List ℕ
disbelief_line fs ms m x = disbelief_heading m (name_of fs (message_of ms m).first) ++ printed (text datum_text (tree_of fs x)) ++ line_feed

-- `all senders are honest`
unfoldable pub honest_line : List ℕ
honest_line = ascii "all senders are honest" ++ line_feed

-- a line for each pair
unfoldable pub disbelief_lines : (fs ms : List Record) → List Pair → List ℕ
disbelief_lines fs ms [] = []
disbelief_lines fs ms (a ∷ l) = disbelief_line fs ms a.message a.formula ++ disbelief_lines fs ms l

abbrev pub report_lines : (fs ms : List Record) → List Pair → List ℕ
report_lines fs ms [] = honest_line
report_lines fs ms (a ∷ l) = disbelief_lines fs ms (a ∷ l)

-- what is printed of a book that was read: a refused one prints `refused N at I`
abbrev pub HonestyAfter : Outcome (List Record) → List ℕ → Type 0
HonestyAfter (refused N I) out = out ≡ refused_line N I
HonestyAfter (accepted rs) out =
    (t : List ℕ) × IsSurvey (formulas rs) (initial rs) t
    × ((ps : List Pair) × IsReport rs t ps × (out ≡ report_lines (formulas rs) (messages rs) ps))

-- the bytes `out` are what the program `honest` prints of the bytes of a book
abbrev pub Honesty : (book out : List ℕ) → Type 0
Honesty book out = HonestyAfter (reading book) out

-- THE LINE OF A PAIR, as an operation on a book, a message number, a formula number and a buffer: the book's refusals, 17 at 0 where there
-- is no such message or formula, 14 at 0 where the line does not fit

abbrev pub is_no_pair : (fs ms : List Record) (m x : ℕ) → Bool
is_no_pair fs ms m x = ltb m 1 || (ltb (length ms) m || leb (length fs) x)

abbrev pub disbelief_among : (fs ms : List Record) (m x room : ℕ) → Outcome (List ℕ)
disbelief_among fs ms m x room = cond (is_no_pair fs ms m x) (refused 17 0) (whole room (disbelief_line fs ms m x))

abbrev pub disbelief_after : Outcome (List Record) → (m x room : ℕ) → Outcome (List ℕ)
disbelief_after (refused f i) m x room = refused f i
disbelief_after (accepted rs) m x room = disbelief_among (formulas rs) (messages rs) m x room

unfoldable pub disbelief_for : (book : List ℕ) (m x room : ℕ) → Outcome (List ℕ)
disbelief_for book m x room = disbelief_after (reading book) m x room

-- what the operation answers, the length of the line, and the buffer b afterwards
unfoldable pub disbelief_told : (book : List ℕ) (m x : ℕ) (b : List ℕ) → Outcome ℕ
disbelief_told book m x b = length_told (disbelief_for book m x (length b))

unfoldable pub disbelief_in : (book : List ℕ) (m x : ℕ) (b : List ℕ) → List ℕ
disbelief_in book m x b = at_front (disbelief_for book m x (length b)) b
