-- The listing of a book: a line for each fact held, by place, then how many are held and how many goals are reached.
-- Document 01, "The listing program"; document 02, wish 5, for the guest's: "In all else it is the listing".
use Rattle.std.specs.Prelude.{ℕ, zero, suc, ◌+◌, ◌-◌, ◌<◌, ◌≡◌, List, [], ◌∷◌, ◌++◌, map, Bool, false, cond, ◌&&◌, length, get_or, take, drop, leb, ltb, eqb}
use Rattle.logic.specs.declared.Record.{Record}
use Rattle.logic.specs.declared.Audience.{Audience}
use Rattle.logic.specs.declared.Audience.TheVariants.{Owner, Guest}
use Rattle.logic.specs.Fact.{initial}
use Rattle.logic.specs.Count.{formulas, goals}
use Rattle.logic.specs.Refusal.{Outcome}
use Rattle.logic.specs.Refusal.Outcome.{accepted, refused}
use Rattle.logic.specs.Reading.{reading}
use Rattle.logic.specs.Written.{meaning, goal_fact_on, is_written}
use Rattle.logic.specs.Place.{F, place, fact_at}
use Rattle.logic.specs.Survey.{IsSurvey, held, is_within}
use Rattle.logic.specs.Proof.{Reached}
use Rattle.logic.specs.Text.{ascii, decimal, datum_for, fact_text, text_limit}
use Rattle.logic.specs.PerCent.{per_cent}

-- "Lines end in a line feed."
abbrev pub line_feed : List ℕ
line_feed = 10 ∷ []

-- "Text above 4,096 bytes prints as `too long`."
abbrev pub printed : List ℕ → List ℕ
printed t = cond (ltb text_limit (length t)) (ascii "too long") t

-- "first message number, space, fact": v is 1 + the first message number, t the text of the fact
abbrev pub fact_line : ℕ → List ℕ → List ℕ
fact_line v t = decimal (v - 1) ++ ascii " " ++ printed t ++ line_feed

-- the line of place i, whose byte in the survey is v. A place that holds 0, a place from F on and a place whose fact may not be
-- written have none. fs are the formula records of the book
unfoldable pub place_line : Audience → List Record → (i v : ℕ) → List ℕ
place_line a fs i v =
    cond (ltb 0 v && (ltb i (F fs) && is_written fs (fact_at fs i))) (fact_line v (fact_text (datum_for a fs) (meaning fs (fact_at fs i)))) []

-- `held H`
unfoldable pub held_line : ℕ → List ℕ
held_line H = ascii "held " ++ decimal H ++ line_feed

-- `goals R of G, C per cent`
unfoldable pub goals_line : (R G : ℕ) → List ℕ
goals_line R G =
    ascii "goals " ++ decimal R ++ ascii " of " ++ decimal G ++ ascii ", " ++ decimal (per_cent R G) ++ ascii " per cent" ++ line_feed

-- `refused N at I`
unfoldable pub refused_line : (N I : ℕ) → List ℕ
refused_line N I = ascii "refused " ++ decimal N ++ ascii " at " ++ decimal I ++ line_feed

-- the lines of the places from i on, which hold the bytes t
unfoldable pub place_lines : Audience → List Record → ℕ → List ℕ → List ℕ
place_lines a fs i [] = []
place_lines a fs i (v ∷ t) = place_line a fs i v ++ place_lines a fs (suc i) t

-- a mark for each goal: whether it is reached
pub record Marked (rs : List Record) (marks : List Bool) : Type 0 where
  pub size : length marks ≡ length (goals rs)
  pub reached : (g : ℕ) → g < length (goals rs) → cond (get_or marks g false) (Reached rs g) (Reached rs g → ⊥)

-- how many marks are true
unfoldable pub count_true : List Bool → ℕ
count_true [] = 0
count_true (b ∷ bs) = cond b 1 0 + count_true bs

-- What is printed for an audience of a book that was read: a refused one prints `refused N at I`. Of an accepted one the survey is t, the
-- marks say which goals are reached.
abbrev pub ListingAfter : Audience → Outcome (List Record) → List ℕ → Type 0
ListingAfter a (refused N I) out = out ≡ refused_line N I
ListingAfter a (accepted rs) out =
    (t : List ℕ) × IsSurvey (formulas rs) (initial rs) t
    × ((marks : List Bool) × Marked rs marks
    × (out ≡ place_lines a (formulas rs) 0 t ++ held_line (held t) ++ goals_line (count_true marks) (length (goals rs))))

-- the bytes `out` are the listing of the bytes of a book for an audience
abbrev pub ListingFor : Audience → (book out : List ℕ) → Type 0
ListingFor a book out = ListingAfter a (reading book) out

-- the listing, and the guest's
abbrev pub Listing : (book out : List ℕ) → Type 0
Listing book out = ListingFor Owner book out

abbrev pub GuestListing : (book out : List ℕ) → Type 0
GuestListing book out = ListingFor Guest book out

-- THE LISTING IN PIECES, as an operation for an audience on a book, the table that a survey of it filled, the number of the line to go on
-- from, and a buffer. The lines are a function of book and table, whatever the table t holds; gs are the goal records of the book.

-- the byte of the fact that the goal record r asks for
abbrev pub goal_byte : List Record → List ℕ → Record → ℕ
goal_byte fs t r = get_or t (place fs (goal_fact_on fs r)) 0

-- a mark for each goal: whether its byte is 1 to 1 + its message number
unfoldable pub marks_by : (fs gs : List Record) → List ℕ → List Bool
marks_by fs gs t = map (λ r. is_within r.first (goal_byte fs t r)) gs

-- The lines are numbered: those of the places have the numbers 0 to F − 1, `held H` has F, `goals R of G, C per cent` has F + 1.
unfoldable pub line_at : Audience → (fs gs : List Record) → List ℕ → ℕ → List ℕ
line_at a fs gs t i =
    cond (ltb i (F fs)) (place_line a fs i (get_or t i 0))
    (cond (eqb i (F fs)) (held_line (held (take (F fs) t)))
    (goals_line (count_true (marks_by fs gs t)) (length gs)))

abbrev pub line_count : List Record → ℕ
line_count fs = F fs + 2

-- lines that fit, one behind the other, and the number of the first that is left
pub record Fitting : Type 0 where
  pub bytes : List ℕ
  pub next : ℕ

-- as many of `left` lines from number i on as fit whole into `room` bytes
unfoldable pub fitting : (ℕ → List ℕ) → (left i room : ℕ) → Fitting
fitting line zero i room = record { bytes = []; next = i }
fitting line (suc left) i room =
    cond (ltb room (length (line i))) (record { bytes = []; next = i })
    (record {
      bytes = line i ++ (fitting line left (suc i) (room - length (line i))).bytes;
      next = (fitting line left (suc i) (room - length (line i))).next;
    })

-- what is answered: a piece and the number of the line to go on from, or that the listing is over
pub data Part (A : Type 0) : Type 0 where
  piece : (bytes : A) (next : ℕ) → Part A
  over : Part A

-- 14 at 0 where not even the next line fits
abbrev pub piece_of : Fitting → Outcome (Part (List ℕ))
piece_of f = cond (eqb (length f.bytes) 0) (refused 14 0) (accepted (piece f.bytes f.next))

-- in an accepted book: 14 at 0 for a table of less than F bytes
abbrev pub part_among : Audience → (fs gs : List Record) (table : List ℕ) (from room : ℕ) → Outcome (Part (List ℕ))
part_among a fs gs table from room =
    cond (ltb (length table) (F fs)) (refused 14 0)
    (cond (leb (line_count fs) from) (accepted over)
    (piece_of (fitting (line_at a fs gs table) (line_count fs - from) from room)))

-- the book's refusals come first
abbrev pub part_after : Audience → Outcome (List Record) → (table : List ℕ) (from room : ℕ) → Outcome (Part (List ℕ))
part_after a (refused f i) table from room = refused f i
part_after a (accepted rs) table from room = part_among a (formulas rs) (goals rs) table from room

unfoldable pub part_for : Audience → (book table : List ℕ) (from room : ℕ) → Outcome (Part (List ℕ))
part_for a book table from room = part_after a (reading book) table from room

-- the answer counts the bytes of the piece,
abbrev pub part_told : Outcome (Part (List ℕ)) → Outcome (Part ℕ)
part_told (accepted (piece s n)) = accepted (piece (length s) n)
part_told (accepted over) = accepted over
part_told (refused f i) = refused f i

-- which stands at the front of the buffer b then, and the rest of it stays; otherwise all stays as it was
abbrev pub with_part : Outcome (Part (List ℕ)) → List ℕ → List ℕ
with_part (accepted (piece s n)) b = s ++ drop (length s) b
with_part (accepted over) b = b
with_part (refused f i) b = b

-- what the operation answers, and the buffer b afterwards
unfoldable pub listing_told : Audience → (book table : List ℕ) (from : ℕ) (b : List ℕ) → Outcome (Part ℕ)
listing_told a book table from b = part_told (part_for a book table from (length b))

unfoldable pub listing_in : Audience → (book table : List ℕ) (from : ℕ) (b : List ℕ) → List ℕ
listing_in a book table from b = with_part (part_for a book table from (length b)) b
