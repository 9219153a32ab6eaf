-- What the program `honest` prints: a call for each pair of the report, one behind the other, gives its lines. Assumes nothing.
use Prim.Native.Nat.{ℕ, ◌<◌, ◌≤◌}
use native.Mathlib.Omega.{arith}
use mathlib.Core.Path.{◌≡◌, refl, sym, ap, ap₂, subst}
use mathlib.Core.Logic.{inl, inr}
use mathlib.Core.List.{List, [], ◌∷◌, ◌++◌}
use mathlib.Core.Bool.{Bool, true, false, cond}
use lib.ListN.{length, take, drop, replicate}
use lib.Seq.{take-append_seam}
use lib.Dec.{ltb, lit≤}
use borrow.Author.Tests.{le-ltb}
use Rattle.logic.specs.declared.Record.{Record}
use Rattle.logic.specs.Count.{formulas, messages}
use Rattle.logic.specs.Refusal.{Outcome}
use Rattle.logic.specs.Refusal.Outcome.{accepted, refused}
use Rattle.logic.specs.Reading.{reading}
use Rattle.logic.specs.Formula.{record_of}
use Rattle.logic.specs.Fact.{initial}
use Rattle.logic.specs.Derivation.{Among}
use Rattle.logic.specs.Survey.{IsSurvey}
use Rattle.logic.specs.Text.{length_told, at_front}
use Rattle.logic.specs.Honesty.{Pair, Fault, IsReport, disbelief_line, disbelief_lines, honest_line, report_lines, Honesty, is_no_pair, disbelief_for, disbelief_told, disbelief_in}
use Rattle.logic.proofs.Bytes.{Bytes}
use Rattle.logic.proofs.BookRead.{accepted_is_book}
use Rattle.logic.proofs.Meaning.{formula_in_lem}
use Rattle.logic.proofs.HonestSenders.{to_be_believed}
use Rattle.text.proofs.PairLines.{there_pair}
use Rattle.text.proofs.Room.{disbelief_limit}
use Rattle.text.proofs.Explanation.{told_front}

-- the pair is a message and a formula of the book
abbrev pub IsThere : List Record → Pair → Type 0
IsThere rs a = (1 ≤ a.message) × (a.message ≤ length (messages rs)) × (a.formula < length (formulas rs))

pub fault_there : (rs : List Record) (t : List ℕ) (a : Pair) → Fault rs t a → IsThere rs a
fault_there rs t a f = (f.0, f.1, formula_in_lem (formulas rs) a.formula (to_be_believed (record_of (formulas rs) a.formula).kind f.2.asked))

-- WHAT A CALL WRITES: the line stands in the buffer, and is what the definition gives
pub told_disbelief : (book : List ℕ) (m x : ℕ) (b : List ℕ) {b' : List ℕ} {k : ℕ} → accepted k ≡ disbelief_told book m x b → b' ≡ disbelief_in book m x b
    → (disbelief_for book m x (length b) ≡ accepted (take k b')) × (k ≤ length b')
unfolding disbelief_told disbelief_in
told_disbelief book m x b e h = told_front (disbelief_for book m x (length b)) b e h

-- CALLS for one pair after the other, each with a buffer of its own, b before it and b' behind it, of which k bytes are told to be written:
-- those bytes of each, one behind the other, are `out`
pub data Called (book : List ℕ) : (ps : List Pair) → (out : List ℕ) → Type 0 where
  none : Called book [] []
  more : (a : Pair) (ps : List Pair) (b b' : List ℕ) (k : ℕ) (out : List ℕ) → accepted k ≡ disbelief_told book a.message a.formula b
      → b' ≡ disbelief_in book a.message a.formula b → Called book ps out → Called book (a ∷ ps) (take k b' ++ out)

module _ (book : List ℕ) (rs : List Record) (read : reading book ≡ accepted rs) where
  abbrev line_of : Pair → List ℕ
  line_of a = disbelief_line (formulas rs) (messages rs) a.message a.formula

  -- an accepted call wrote the line of its pair
  the_line : (a : Pair) (room : ℕ) (s : List ℕ) → disbelief_for book a.message a.formula room ≡ accepted s → s ≡ line_of a
  unfolding disbelief_for
  the_line a room s e = go (is_no_pair (formulas rs) (messages rs) a.message a.formula) (ltb room (length (line_of a))) (rw read at e)
    where
      go : (c d : Bool) → ◌≡◌ {A = Outcome (List ℕ)} (cond c (refused 17 0) (cond d (refused 14 0) (accepted (line_of a)))) (accepted s) → s ≡ line_of a
      go true d e = absurd (let z : ◌≡◌ {A = ℕ} 0 1 = cc in omega arith)
      go false true e = absurd (let z : ◌≡◌ {A = ℕ} 0 1 = cc in omega arith)
      go false false e = cc

  -- with 4,160 bytes no call for a pair that is there is refused
  pub line_written : Bytes book → (a : Pair) → IsThere rs a → (room : ℕ) → 4160 ≤ room → disbelief_for book a.message a.formula room ≡ accepted (line_of a)
  unfolding disbelief_for
  line_written b a h room l =
      let w = disbelief_limit rs (accepted_is_book book rs b read).1 a.message a.formula h.1 in
      rw (read, there_pair (length (messages rs)) (length (formulas rs)) a.message a.formula h, le-ltb room (length (line_of a)) (omega arith)) refl

  -- THE CALLS GIVE THE LINES OF THE PAIRS
  pub called_lines : (ps : List Pair) (out : List ℕ) → Called book ps out → out ≡ disbelief_lines (formulas rs) (messages rs) ps
  unfolding disbelief_lines
  called_lines _ _ none = refl
  called_lines _ _ (more a ps b b' k out e h c) =
      ap₂ (λ (s l : List ℕ). s ++ l) (the_line a (length b) (take k b') (told_disbelief book a.message a.formula b e h).0) (called_lines ps out c)

  -- and there are such calls: with buffers of 4,160 bytes, for pairs that are there
  pub each_called : Bytes book → (ps : List Pair) → ((a : Pair) → Among a ps → IsThere rs a) → Called book ps (disbelief_lines (formulas rs) (messages rs) ps)
  unfolding disbelief_lines disbelief_told disbelief_in
  each_called b [] h = none
  each_called b (a ∷ ps) h =
      let o : List ℕ = replicate 4160 0 in
      let w = line_written b a (h a (inl refl)) (length o) (lit≤ tt) in
      let l = line_of a in
      subst (λ (s : List ℕ). Called book (a ∷ ps) (s ++ disbelief_lines (formulas rs) (messages rs) ps)) (take-append_seam l (drop (length l) o))
      (more a ps o (l ++ drop (length l) o) (length l) (disbelief_lines (formulas rs) (messages rs) ps)
      (sym (ap length_told w)) (sym (ap (λ (u : Outcome (List ℕ)). at_front u o) w)) (each_called b ps (λ q m. h q (inr m))))

  -- WHAT THE PROGRAM PRINTS of a report: one line where it names no formula, otherwise what the calls for its pairs write
  abbrev pub Printed : (ps : List Pair) → (out : List ℕ) → Type 0
  Printed [] out = out ≡ honest_line
  Printed (a ∷ ps) out = Called book (a ∷ ps) out

  printed_lines : (ps : List Pair) (out : List ℕ) → Printed ps out → out ≡ report_lines (formulas rs) (messages rs) ps
  printed_lines [] out p = p
  printed_lines (a ∷ ps) out p = called_lines (a ∷ ps) out p

  pub honesty_printed : (t : List ℕ) → IsSurvey (formulas rs) (initial rs) t → (ps : List Pair) → IsReport rs t ps → (out : List ℕ) → Printed ps out → Honesty book out
  honesty_printed t survey ps report out p = rw read (t, survey, (ps, report, printed_lines ps out p))

  -- and no call for a pair of the report is refused
  pub report_called : Bytes book → (t : List ℕ) (ps : List Pair) → IsReport rs t ps → Called book ps (disbelief_lines (formulas rs) (messages rs) ps)
  report_called b t ps report = each_called b ps (λ a m. fault_there rs t a (report.only a m))
