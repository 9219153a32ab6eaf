-- Each goal of a book in lines: what it asks, whether it is reached, and the derivation step by step.
use Rattle.std.specs.Prelude.{ℕ, zero, suc, ◌-◌, ◌≡◌, ◌⊎◌, List, [], ◌∷◌, ◌++◌, Bool, cond, ◌||◌, length, get_or, drop, replicate, leb, ltb, eqb}
use Rattle.logic.specs.declared.Record.{Record}
use Rattle.logic.specs.Record.{no_record}
use Rattle.logic.specs.Count.{formulas, goals}
use Rattle.logic.specs.Refusal.{Outcome}
use Rattle.logic.specs.Refusal.Outcome.{accepted, refused}
use Rattle.logic.specs.Reading.{reading}
use Rattle.logic.specs.Fact.{goal_fact}
use Rattle.logic.specs.Written.{is_malformed}
use Rattle.logic.specs.Step.{Step, numbers_in, step_size, step_at, steps_in, stated_by, goal_of}
use Rattle.logic.specs.Proof.{Proves, Reached}
use Rattle.logic.specs.Text.{ascii, decimal, datum_text, fact_text, length_told, at_front}
use Rattle.logic.specs.Listing.{line_feed, printed, goals_line, refused_line, Marked, count_true, fitting, Part, piece_of, part_told, with_part}
use Rattle.logic.specs.Listing.Part.{over}
use Rattle.logic.specs.Reason.{whole}

-- THE LINES

-- `goal G after M: `
unfoldable pub goal_heading : (g m : ℕ) → List ℕ
goal_heading g m = ascii "goal " ++ decimal g ++ ascii " after " ++ decimal m ++ ascii ": "

-- `goal G after M: FACT`, for the goal record r with number g; a text above 4,096 bytes prints as `too long`
unfoldable pub goal_line : List Record → (g : ℕ) → Record → List ℕ
goal_line fs g r = goal_heading g r.first ++ printed (fact_text datum_text (goal_fact fs r)) ++ line_feed

-- `  reached, S steps`
unfoldable pub reached_line : ℕ → List ℕ
reached_line S = ascii "  reached, " ++ decimal S ++ ascii " steps" ++ line_feed

-- `  not reached: no derivation exists`
unfoldable pub unreached_line : List ℕ
unreached_line = ascii "  not reached: no derivation exists" ++ line_feed

-- a number right-aligned in four columns; one with more digits takes more
unfoldable pub aligned : ℕ → List ℕ
aligned n = replicate (4 - length (decimal n)) 32 ++ decimal n

-- the premises, as `0 and 3`
unfoldable pub premises_text : List ℕ → List ℕ
premises_text [] = []
premises_text (i ∷ []) = decimal i
premises_text (i ∷ j ∷ l) = decimal i ++ ascii " and " ++ premises_text (j ∷ l)

-- why a step holds: `assumption 1`, `message 1`, `rule 2 from 0 and 3`
unfoldable pub why : Step → List ℕ
why q =
    cond (eqb q.kind 64) (ascii "assumption " ++ decimal (get_or q.numbers 0 0))
    (cond (eqb q.kind 65) (ascii "message " ++ decimal (get_or q.numbers 0 0))
    (ascii "rule " ++ decimal (q.kind - 65) ++ ascii " from " ++ premises_text q.numbers))

-- what stands behind the fact of a step
unfoldable pub why_in_brackets : Step → List ℕ
why_in_brackets q = ascii "  [" ++ why q ++ ascii "]" ++ line_feed

-- step number i, as `   4. P1 believes P3 said (K1 of P2, N1)  [rule 2 from 0 and 3]`
unfoldable pub step_line : List Record → (i : ℕ) → Step → List ℕ
step_line fs i q = aligned i ++ ascii ". " ++ printed (fact_text datum_text (stated_by fs q)) ++ why_in_brackets q

-- the steps from number i on
unfoldable pub step_lines : List Record → (i : ℕ) → List Step → List ℕ
step_lines fs i [] = []
step_lines fs i (q ∷ qs) = step_line fs i q ++ step_lines fs (suc i) qs

-- WHAT IS PRINTED

-- of goal g: with a derivation d that proves it, or that there is none
abbrev pub GoalPrinted : List Record → (g : ℕ) → List ℕ → Type 0
GoalPrinted rs g out =
    ((d : List ℕ) × Proves rs g d
    × (out ≡ goal_line (formulas rs) g (goal_of rs g) ++ reached_line (length (steps_in d)) ++ step_lines (formulas rs) 0 (steps_in d)))
    ⊎ ((Reached rs g → ⊥) × (out ≡ goal_line (formulas rs) g (goal_of rs g) ++ unreached_line))

-- of the goals from number g on, of which `left` are left
abbrev pub GoalsPrinted : List Record → (left g : ℕ) → List ℕ → Type 0
GoalsPrinted rs zero g out = out ≡ []
GoalsPrinted rs (suc left) g out =
    (first : List ℕ) × (rest : List ℕ) × GoalPrinted rs g first × GoalsPrinted rs left (suc g) rest × (out ≡ first ++ rest)

-- of a book that was read: a refused one prints `refused N at I`; behind the goals of an accepted one stands how many are reached
abbrev pub ExplainedAfter : Outcome (List Record) → List ℕ → Type 0
ExplainedAfter (refused N I) out = out ≡ refused_line N I
ExplainedAfter (accepted rs) out =
    (first : List ℕ) × GoalsPrinted rs (length (goals rs)) 0 first
    × ((marks : List Bool) × Marked rs marks × (out ≡ first ++ goals_line (count_true marks) (length (goals rs))))

-- the bytes `out` are what the program `goals` prints of the bytes of a book
abbrev pub Explained : (book out : List ℕ) → Type 0
Explained book out = ExplainedAfter (reading book) out

-- THE LINE OF A GOAL, as an operation on a book, a goal number and a buffer: the book's refusals, 13 for a goal that is not there, 14 at 0
-- where the line does not fit

abbrev pub goal_line_among : (fs gs : List Record) (g room : ℕ) → Outcome (List ℕ)
goal_line_among fs gs g room = cond (leb (length gs) g) (refused 13 g) (whole room (goal_line fs g (get_or gs g no_record)))

abbrev pub goal_line_after : Outcome (List Record) → (g room : ℕ) → Outcome (List ℕ)
goal_line_after (refused f i) g room = refused f i
goal_line_after (accepted rs) g room = goal_line_among (formulas rs) (goals rs) g room

unfoldable pub goal_line_for : (book : List ℕ) (g room : ℕ) → Outcome (List ℕ)
goal_line_for book g room = goal_line_after (reading book) g room

-- what the operation answers, the length of the line, and the buffer b afterwards
unfoldable pub goal_told : (book : List ℕ) (g : ℕ) (b : List ℕ) → Outcome ℕ
goal_told book g b = length_told (goal_line_for book g (length b))

unfoldable pub goal_in : (book : List ℕ) (g : ℕ) (b : List ℕ) → List ℕ
goal_in book g b = at_front (goal_line_for book g (length b)) b

-- THE STEPS IN PIECES, as an operation on a book, the bytes d of a derivation, the number of the step to go on from, and a buffer.
-- The lines are a function of book and derivation; nobody looks whether a step follows.

-- the bytes behind the step at the front of s
abbrev pub behind_step : List ℕ → List ℕ
behind_step s = drop (step_size (get_or s 0 0)) s

-- the bytes from step i on
unfoldable pub behind_steps : (i : ℕ) → List ℕ → List ℕ
behind_steps zero d = d
behind_steps (suc i) d = behind_step (behind_steps i d)

-- why the step at the front of s cannot be printed: 16 where its kind is unknown or it is cut, 17 where its fact is malformed; else 0
unfoldable pub unreadable : List Record → List ℕ → ℕ
unreadable fs s =
    cond (eqb (numbers_in (get_or s 0 0)) 0 || ltb (length s) (step_size (get_or s 0 0))) 16
    (cond (is_malformed fs (step_at s).fact) 17 0)

-- how many steps at the front of s come before the end and before the first that cannot be printed; the first argument bounds them
unfoldable pub readable_from : List Record → (n : ℕ) → List ℕ → ℕ
readable_from fs zero s = 0
readable_from fs (suc n) [] = 0
readable_from fs (suc n) (k ∷ s) = cond (eqb (unreadable fs (k ∷ s)) 0) (suc (readable_from fs n (behind_step (k ∷ s)))) 0

-- a step has at least one byte
abbrev pub readable : List Record → List ℕ → ℕ
readable fs s = readable_from fs (length s) s

-- the line of step i
unfoldable pub step_line_at : List Record → List ℕ → ℕ → List ℕ
step_line_at fs d i = step_line fs i (step_at (behind_steps i d))

-- of the steps from number `from` on, whose bytes are s: over at the end, 16 or 17 at a step that cannot be printed, otherwise as many
-- whole lines as fit, or 14 at 0
abbrev pub steps_among : List Record → (d : List ℕ) (from room : ℕ) → (s : List ℕ) → Outcome (Part (List ℕ))
steps_among fs d from room [] = accepted over
steps_among fs d from room (k ∷ s) =
    cond (eqb (unreadable fs (k ∷ s)) 0) (piece_of (fitting (step_line_at fs d) (readable fs (k ∷ s)) from room))
    (refused (unreadable fs (k ∷ s)) from)

-- the book's refusals come first
abbrev pub steps_after : Outcome (List Record) → (d : List ℕ) (from room : ℕ) → Outcome (Part (List ℕ))
steps_after (refused f i) d from room = refused f i
steps_after (accepted rs) d from room = steps_among (formulas rs) d from room (behind_steps from d)

unfoldable pub steps_for : (book d : List ℕ) (from room : ℕ) → Outcome (Part (List ℕ))
steps_for book d from room = steps_after (reading book) d from room

-- what the operation answers, and the buffer b afterwards
unfoldable pub steps_told : (book d : List ℕ) (from : ℕ) (b : List ℕ) → Outcome (Part ℕ)
steps_told book d from b = part_told (steps_for book d from (length b))

unfoldable pub steps_printed : (book d : List ℕ) (from : ℕ) (b : List ℕ) → List ℕ
steps_printed book d from b = with_part (steps_for book d from (length b)) b
