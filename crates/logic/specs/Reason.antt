-- A refusal in words: a sentence for each number of document 01, "What is turned away", and of document 02, and what its place is the number of.
use Rattle.std.specs.Prelude.{ℕ, List, [], ◌∷◌, ◌++◌, cond, length, get_or, eqb, ltb}
use Prim.Native.String.{String}
use Rattle.logic.specs.Refusal.{Outcome}
use Rattle.logic.specs.Refusal.Outcome.{accepted, refused}
use Rattle.logic.specs.Text.{ascii, decimal, length_told, at_front}
use Rattle.logic.specs.Listing.{line_feed}

pub record Reason : Type 0 where
  -- what the place is the number of; nothing where the place is always 0 and names nothing
  pub unit : List ℕ
  pub sentence : List ℕ

abbrev pub row : (unit sentence : String) → Reason
row c s = record { unit = ascii c; sentence = ascii s }

-- from number 0 on
unfoldable pub reasons : List Reason
reasons =
    row "" ""  -- 0 is no refusal
    ∷ row "record" "an unknown kind byte"
    ∷ row "record" "a body that is not of its kind's length"
    ∷ row "record" "an assumption behind a message or a goal, or a message behind a goal"
    ∷ row "record" "a reference that is not to an earlier formula"
    ∷ row "record" "a reference of the wrong sort"
    ∷ row "record" "two principals whose names are equal or falling"
    ∷ row "record" "a sender that is the receiver"
    ∷ row "record" "a formula that is there already"
    ∷ row "record" "one more than the limit of its kind"
    ∷ row "record" "an assumption or a goal that is not of kind 12 or 13"
    ∷ row "record" "a goal after a message that is not there"
    ∷ row "record" "no space for it, or a used length above the buffer's"
    ∷ row "goal" "there is no such goal"
    ∷ row "" "a buffer that is too short"
    ∷ row "" "a text above 4,096 bytes or above its buffer"
    ∷ row "step" "an unknown kind of step, or a step that is cut"
    ∷ row "step" "a malformed fact"
    ∷ row "step" "a premise that is not an earlier step"
    ∷ row "step" "it does not follow"
    ∷ row "step" "the steps end here, and the last one is not the goal"
    ∷ row "step" "a step numbered 65,535 or above"
    ∷ row "record" "an assumption, a message or a goal with a variable outside every kind 17"
    ∷ row "record" "a kind 17 that holds another kind 17 or another variable"
    ∷ []

-- a number that is no refusal's has the empty sentence
unfoldable pub reason_of : ℕ → Reason
reason_of n = get_or reasons n (row "" "")

-- the place I, as `record I: `
abbrev pub placed : List ℕ → ℕ → List ℕ
placed c i = cond (eqb (length c) 0) [] (c ++ ascii " " ++ decimal i ++ ascii ": ")

-- the line of refusal N at I, as `record I: a reference of the wrong sort`
unfoldable pub reason_line : (N I : ℕ) → List ℕ
reason_line N I = placed (reason_of N).unit I ++ (reason_of N).sentence ++ line_feed

-- a text that is put whole into a buffer with so much room: 14 at 0 where it does not fit
abbrev pub whole : (room : ℕ) → List ℕ → Outcome (List ℕ)
whole room s = cond (ltb room (length s)) (refused 14 0) (accepted s)

-- The sentence of a number as an operation on a buffer b: what is answered is its length, and it stands at the front of the buffer then.
unfoldable pub reason_told : ℕ → List ℕ → Outcome ℕ
reason_told n b = length_told (whole (length b) (reason_of n).sentence)

-- the buffer afterwards: the rest of it stays, and a refusal leaves it as it was
unfoldable pub reason_in : ℕ → List ℕ → List ℕ
reason_in n b = at_front (whole (length b) (reason_of n).sentence) b
