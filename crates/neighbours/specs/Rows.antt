-- The certificate and its neighbours as a table. Document 01, "The certificate, and its neighbours": the starred lines.
-- That each row is right is proved in proofs/Table.antt.
use Rattle.std.specs.Prelude.{ℕ, ◌<◌, ◌≡◌, List, [], ◌∷◌, ◌++◌, map, Bool, true, false, cond, length, get_or}
use Rattle.logic.specs.declared.Record.{Record}
use Rattle.logic.specs.Fact.{initial}
use Rattle.logic.specs.Record.{bytes}
use Rattle.logic.specs.Count.{formulas, goals}
use Rattle.logic.specs.Refusal.{Outcome}
use Rattle.logic.specs.Refusal.Outcome.{accepted, refused}
use Rattle.logic.specs.Reading.{reading}
use Rattle.logic.specs.Book.{All}
use Rattle.logic.specs.Place.{F}
use Rattle.logic.specs.Step.{steps_in, goal_of, Checked}
use Rattle.logic.specs.Survey.{IsSurvey, held, held_after}
use Rattle.logic.specs.Proof.{Reached}

-- THE BOOKS. A record: its kind, then its fields, 0 where the kind has none.
abbrev pub line : (kind first second third : ℕ) → Record
line k a b c = record { kind = k; first = a; second = b; third = c }

-- formulas 0 to 15, record 8 being from the principal `from`
abbrev pub formulas_from : (from : ℕ) → List Record
formulas_from from =
    line 1 1 0 0  -- 0: P1
    ∷ line 1 2 0 0  -- 1: P2
    ∷ line 1 3 0 0  -- 2: P3
    ∷ line 2 1 0 0  -- 3: K1
    ∷ line 2 2 0 0  -- 4: K2
    ∷ line 3 1 0 0  -- 5: N1
    ∷ line 9 3 1 0  -- 6: K1 of P2
    ∷ line 4 6 5 0  -- 7: (6, 5)
    ∷ line 6 7 4 from  -- 8: signed 7 under K2
    ∷ line 9 4 2 0  -- 9: K2 of P3
    ∷ line 12 0 9 0  -- 10: P1 believes 9
    ∷ line 11 5 0 0  -- 11: fresh 5
    ∷ line 12 0 11 0  -- 12: P1 believes 11
    ∷ line 15 2 6 0  -- 13: P3 controls 6
    ∷ line 12 0 13 0  -- 14: P1 believes 13
    ∷ line 12 0 6 0  -- 15: P1 believes 6
    ∷ []

-- with these assumptions, the message P3 to P1: 8, and the goal 15, asked after message number `after`
abbrev pub book : (from : ℕ) (assumed : List ℕ) (after : ℕ) → List Record
book from assumed after =
    formulas_from from ++ (map (λ x. line 32 x 0 0) assumed ++ (line 33 2 0 8 ∷ line 34 after 15 0 ∷ []))

-- "Formulas 0 to 15 .. 8 signed 7 under K2 from P3 .. Assumptions 10, 12, 14; message P3 to P1: 8; goal after 1: 15."
abbrev pub certificate : List Record
certificate = book 2 (10 ∷ 12 ∷ 14 ∷ []) 1

-- THE DERIVATIONS. The bytes of a step: its kind, then mode, P, Q and X of its fact, then its numbers.

-- nine steps that end in P1 believes 6
abbrev pub nine : List ℕ
nine =
    -- 0: P1 believes 9, by assumption 0
    64 ∷ 2 ∷ 0 ∷ 0 ∷ 0 ∷ 0 ∷ 0 ∷ 9 ∷ 0 ∷ 0
    -- 1: P1 sees 8, by message 1
    ∷ 65 ∷ 1 ∷ 0 ∷ 0 ∷ 0 ∷ 0 ∷ 0 ∷ 8 ∷ 0 ∷ 1
    -- 2: P1 believes P3 said 7, by rule 2 from 0 and 1
    ∷ 67 ∷ 4 ∷ 0 ∷ 0 ∷ 0 ∷ 2 ∷ 0 ∷ 7 ∷ 0 ∷ 0 ∷ 0 ∷ 1
    -- 3: P1 believes fresh 5, by assumption 1
    ∷ 64 ∷ 3 ∷ 0 ∷ 0 ∷ 0 ∷ 0 ∷ 0 ∷ 5 ∷ 0 ∷ 1
    -- 4: P1 believes fresh 7, by rule 13 from 3
    ∷ 78 ∷ 3 ∷ 0 ∷ 0 ∷ 0 ∷ 0 ∷ 0 ∷ 7 ∷ 0 ∷ 3
    -- 5: P1 believes P3 believes 7, by rule 4 from 4 and 2
    ∷ 69 ∷ 5 ∷ 0 ∷ 0 ∷ 0 ∷ 2 ∷ 0 ∷ 7 ∷ 0 ∷ 4 ∷ 0 ∷ 2
    -- 6: P1 believes P3 believes 6, by rule 16 from 5
    ∷ 81 ∷ 5 ∷ 0 ∷ 0 ∷ 0 ∷ 2 ∷ 0 ∷ 6 ∷ 0 ∷ 5
    -- 7: P1 believes 13, by assumption 2
    ∷ 64 ∷ 2 ∷ 0 ∷ 0 ∷ 0 ∷ 0 ∷ 0 ∷ 13 ∷ 0 ∷ 2
    -- 8: P1 believes 6, by rule 5 from 7 and 6
    ∷ 70 ∷ 2 ∷ 0 ∷ 0 ∷ 0 ∷ 0 ∷ 0 ∷ 6 ∷ 0 ∷ 7 ∷ 0 ∷ 6
    ∷ []

-- step 4 of these alone, as step 0 that names premise 0: P1 believes fresh 7, by rule 13
abbrev pub premise_zero : List ℕ
premise_zero = 78 ∷ 3 ∷ 0 ∷ 0 ∷ 0 ∷ 0 ∷ 0 ∷ 7 ∷ 0 ∷ 0 ∷ []

-- THE ROWS. A book stands in them as its records.
pub data Row : Type 0 where
  -- whether goal 0 of a book is reached, how many facts are held after its message, and what some places of the survey hold
  proving : (rs : List Record) (is_reached : Bool) (held : ℕ) (places : List (ℕ × ℕ)) → Row
  -- what the checker answers for goal 0 of a book and the bytes of so many steps
  checking : (rs : List Record) (derivation : List ℕ) (steps : ℕ) (answer : Outcome Unit) → Row
  -- F of a book, and how many facts its survey holds
  surveying : (rs : List Record) (size held : ℕ) → Row

-- A ROW IS RIGHT.
abbrev pub Right : Row → Type 0
-- the book is accepted and has a goal 0, which is reached or not, as the row says; and with t its survey, so many facts are held
-- after the goal's message, and each place named holds its byte. There is one survey of a book
Right (proving rs is_reached h places) =
    (reading (bytes rs) ≡ accepted rs) × (0 < length (goals rs)) × cond is_reached (Reached rs 0) (Reached rs 0 → ⊥)
    × ((t : List ℕ) × IsSurvey (formulas rs) (initial rs) t × (held_after (goal_of rs 0).first t ≡ h) × All (λ (p : ℕ × ℕ). get_or t p.0 0 ≡ p.1) places)
-- the bytes are so many steps, and the checker answers this
Right (checking rs derivation steps answer) = (length (steps_in derivation) ≡ steps) × Checked (bytes rs) 0 derivation answer
-- the book is accepted, its F is this, and so many bytes of its survey are not 0
Right (surveying rs size h) =
    (reading (bytes rs) ≡ accepted rs) × (F (formulas rs) ≡ size) × ((t : List ℕ) × IsSurvey (formulas rs) (initial rs) t × (held t ≡ h))

abbrev pub rows : List Row
rows =
    -- "F is 432."
    surveying certificate 432 15
    -- "Reached; 9 steps suffice; 15 facts held; place 55 holds 2, place 82 holds 1."
    ∷ proving certificate true 15 ((55, 2) ∷ (82, 1) ∷ [])
    ∷ checking certificate nine 9 (accepted tt)
    -- "Goal after 0: not reached, 4 held."
    ∷ proving (book 2 (10 ∷ 12 ∷ 14 ∷ []) 0) false 4 []
    -- "Without assumption 12: not reached, 9 held."
    ∷ proving (book 2 (10 ∷ 14 ∷ []) 1) false 9 []
    -- "Without 14: not reached, 13 held."
    ∷ proving (book 2 (10 ∷ 12 ∷ []) 1) false 13 []
    -- "Record 8 from P1: not reached, 5 held."
    ∷ proving (book 0 (10 ∷ 12 ∷ 14 ∷ []) 1) false 5 []
    -- "No steps: 20 at 0."
    ∷ checking certificate [] 0 (refused 20 0)
    -- "Step 0, of a known kind with a sound fact, naming premise 0: 18."
    ∷ checking certificate premise_zero 1 (refused 18 0)
    -- "Empty book: accepted, F 0, held 0."
    ∷ surveying [] 0 0
    ∷ []
