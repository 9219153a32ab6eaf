-- The pieces of a derivation's steps, one behind the other until it is over, are its lines; with the prover's answer they are what is
-- printed of a goal. Assumes nothing.
use Prim.Native.Nat.{ℕ, zero, suc, ◌+◌, ◌-◌, ◌<◌, ◌≤◌}
use native.Mathlib.Nat.{le_refl, zero-add}
use native.Mathlib.Omega.{arith}
use mathlib.Core.Path.{◌≡◌, refl, sym, ap, ap₂, ◌∙◌}
use mathlib.Core.Logic.{inl, inr}
use mathlib.Core.List.{List, [], ◌∷◌, ◌++◌}
use mathlib.Core.Bool.{Bool, true, false, cond}
use lib.ListN.{length, get_or, take, drop, length-drop, length-append}
use lib.Seq.{take-append_seam}
use lib.Dec.{eqb}
use borrow.Author.Tests.{eq-eqb, ne_eqb, eqb-true, eqb-false}
use Rattle.logic.specs.declared.Record.{Record}
use Rattle.logic.specs.Count.{formulas, goals}
use Rattle.logic.specs.Refusal.{Outcome}
use Rattle.logic.specs.Refusal.Outcome.{accepted, refused}
use Rattle.logic.specs.Reading.{reading}
use Rattle.logic.specs.Step.{Step, step_size, step_at, steps_from, steps_in, goal_of}
use Rattle.logic.specs.Proof.{Promises, Reached}
use Rattle.logic.specs.Proof.Answer.{reached, not_reached}
use Rattle.logic.specs.Text.{length_told, at_front}
use Rattle.logic.specs.Listing.{goals_line, count_true, Fitting, fitting, Part, piece_of}
use Rattle.logic.specs.Listing.Part.{piece, over}
use Rattle.logic.specs.Explained.{goal_line, reached_line, unreached_line, step_line, step_lines, GoalPrinted, GoalsPrinted, Explained, goal_line_for, goal_told, goal_in, behind_step, behind_steps, unreadable, readable_from, readable, step_line_at, steps_among, steps_after, steps_for, steps_told, steps_printed}
use Rattle.text.proofs.Calls.{lines_from, the_piece, not_over, Calls, InPieces, calls_lines, rises, told_part}

-- STEPS
size_some : (k : ℕ) → 8 ≤ step_size k
unfolding step_size
size_some k = omega arith

-- behind a step there are fewer bytes
pub behind_fewer : (k : ℕ) (s : List ℕ) → length (behind_step (k ∷ s)) ≤ length s
behind_fewer k s = let l = size_some k in rw length-drop (omega arith)

-- there are no more steps than bytes
pub steps_few : (d : List ℕ) (i : ℕ) → 0 < length (behind_steps i d) → i + length (behind_steps i d) ≤ length d
unfolding behind_steps
steps_few d zero l = omega arith
steps_few d (suc i) l =
    let e = length-drop (step_size (get_or (behind_steps i d) 0 0)) (behind_steps i d) in
    let k = size_some (get_or (behind_steps i d) 0 0) in
    let h = steps_few d i (omega arith) in
    omega arith

-- HOW MANY STEPS CAN BE PRINTED: any bound that is large enough gives the same
module _ (fs : List Record) where
  enough : (m n : ℕ) (s : List ℕ) → length s ≤ m → length s ≤ n → readable_from fs m s ≡ readable_from fs n s
  unfolding readable_from
  enough zero zero s l h = refl
  enough zero (suc n) [] l h = refl
  enough zero (suc n) (k ∷ s) l h = absurd (omega arith)
  enough (suc m) zero [] l h = refl
  enough (suc m) zero (k ∷ s) l h = absurd (omega arith)
  enough (suc m) (suc n) [] l h = refl
  enough (suc m) (suc n) (k ∷ s) l h =
      let b = behind_fewer k s in
      ap (λ (z : ℕ). cond (eqb (unreadable fs (k ∷ s)) 0) (suc z) 0) (enough m n (behind_step (k ∷ s)) (omega arith) (omega arith))

  pub readable_none : (s : List ℕ) → length s ≡ 0 → readable fs s ≡ 0
  unfolding readable_from
  readable_none [] e = refl
  readable_none (k ∷ s) e = absurd (omega arith)

  pub readable_more : (s : List ℕ) → 0 < length s → unreadable fs s ≡ 0 → readable fs s ≡ suc (readable fs (behind_step s))
  unfolding readable_from
  readable_more [] l e = absurd (omega arith)
  readable_more (k ∷ s) l e =
      rw (eq-eqb (unreadable fs (k ∷ s)) 0 e) (ap (λ (n : ℕ). suc n) (enough (length s) (length (behind_step (k ∷ s))) (behind_step (k ∷ s)) (behind_fewer k s) (le_refl _)))

  pub readable_stop : (s : List ℕ) → (unreadable fs s ≡ 0 → ⊥) → readable fs s ≡ 0
  unfolding readable_from
  readable_stop [] e = refl
  readable_stop (k ∷ s) e = rw (ne_eqb (unreadable fs (k ∷ s)) 0 e) refl

-- any bound that is large enough gives the same steps
enough_steps : (m n : ℕ) (s : List ℕ) → length s ≤ m → length s ≤ n → steps_from m s ≡ steps_from n s
unfolding steps_from
enough_steps zero zero s l h = refl
enough_steps zero (suc n) [] l h = refl
enough_steps zero (suc n) (k ∷ s) l h = absurd (omega arith)
enough_steps (suc m) zero [] l h = refl
enough_steps (suc m) zero (k ∷ s) l h = absurd (omega arith)
enough_steps (suc m) (suc n) [] l h = refl
enough_steps (suc m) (suc n) (k ∷ s) l h =
    let b = behind_fewer k s in
    ap (λ (qs : List Step). step_at (k ∷ s) ∷ qs) (enough_steps m n (behind_step (k ∷ s)) (omega arith) (omega arith))

steps_more : (s : List ℕ) → 0 < length s → steps_in s ≡ step_at s ∷ steps_in (behind_step s)
unfolding steps_from
steps_more [] l = absurd (omega arith)
steps_more (k ∷ s) l =
    ap (λ (qs : List Step). step_at (k ∷ s) ∷ qs) (enough_steps (length s) (length (behind_step (k ∷ s))) (behind_step (k ∷ s)) (behind_fewer k s) (omega arith))

-- what a call answers for the bytes from a step on
module _ (fs : List Record) (d : List ℕ) (from room : ℕ) where
  over_none : (s : List ℕ) → steps_among fs d from room s ≡ accepted over → s ≡ []
  over_none [] e = refl
  over_none (k ∷ s) e = absurd (go (eqb (unreadable fs (k ∷ s)) 0) e)
    where
      go : (b : Bool) → ◌≡◌ {A = Outcome (Part (List ℕ))} (cond b (piece_of (fitting (step_line_at fs d) (readable fs (k ∷ s)) from room)) (refused (unreadable fs (k ∷ s)) from)) (accepted over) → ⊥
      go true e = not_over (fitting (step_line_at fs d) (readable fs (k ∷ s)) from room) e
      go false e = let z : ◌≡◌ {A = ℕ} 0 1 = cc in omega arith

  piece_some : (s w : List ℕ) (n : ℕ) → steps_among fs d from room s ≡ accepted (piece w n)
      → ((fitting (step_line_at fs d) (readable fs s) from room).bytes ≡ w) × ((fitting (step_line_at fs d) (readable fs s) from room).next ≡ n)
      × (length (fitting (step_line_at fs d) (readable fs s) from room).bytes ≡ 0 → ⊥)
  piece_some [] w n e = absurd (let z : ◌≡◌ {A = ℕ} 0 1 = cc in omega arith)
  piece_some (k ∷ s) w n e = go (eqb (unreadable fs (k ∷ s)) 0) e
    where
      f : Fitting
      f = fitting (step_line_at fs d) (readable fs (k ∷ s)) from room

      go : (b : Bool) → ◌≡◌ {A = Outcome (Part (List ℕ))} (cond b (piece_of (fitting (step_line_at fs d) (readable fs (k ∷ s)) from room)) (refused (unreadable fs (k ∷ s)) from)) (accepted (piece w n))
          → ((fitting (step_line_at fs d) (readable fs (k ∷ s)) from room).bytes ≡ w) × ((fitting (step_line_at fs d) (readable fs (k ∷ s)) from room).next ≡ n)
          × (length (fitting (step_line_at fs d) (readable fs (k ∷ s)) from room).bytes ≡ 0 → ⊥)
      go true e = the_piece (fitting (step_line_at fs d) (readable fs (k ∷ s)) from room) w n e
      go false e = absurd (let z : ◌≡◌ {A = ℕ} 0 1 = cc in omega arith)

-- EACH PIECE GOES ON, and is within the buffer
steps_rise : (book d : List ℕ) (from room : ℕ) (w : List ℕ) (n : ℕ) → steps_for book d from room ≡ accepted (piece w n) → from < n
unfolding steps_for
steps_rise book d from room w n = go (reading book)
  where
    go : (o : Outcome (List Record)) → steps_after o d from room ≡ accepted (piece w n) → from < n
    go (refused f i) e = absurd (let z : ◌≡◌ {A = ℕ} 0 1 = cc in omega arith)
    go (accepted rs) e =
        let q = piece_some (formulas rs) d from room (behind_steps from d) w n e in
        let r = rises (step_line_at (formulas rs) d) (readable (formulas rs) (behind_steps from d)) from room q.2 in
        let z = q.1 in
        omega arith

pub told_steps : (book d : List ℕ) (from : ℕ) (b : List ℕ) {b' : List ℕ} {k n : ℕ} → accepted (piece k n) ≡ steps_told book d from b
    → b' ≡ steps_printed book d from b → (from < n) × (k ≤ length b')
unfolding steps_told steps_printed
told_steps book d from b = told_part (steps_for book d from (length b)) from b (steps_rise book d from (length b))

-- THE STEPS COME IN PIECES
module _ (fs : List Record) (d : List ℕ) where
  -- where a step can be printed there is one, and it is one more than those behind it
  readable_some : (s : List ℕ) → 0 < readable fs s → (0 < length s) × (readable fs s ≡ suc (readable fs (behind_step s)))
  readable_some [] l = absurd (let z = readable_none fs [] refl in omega arith)
  readable_some (k ∷ s) l = (omega arith, go (eqb (unreadable fs (k ∷ s)) 0) refl)
    where
      go : (b : Bool) → eqb (unreadable fs (k ∷ s)) 0 ≡ b → readable fs (k ∷ s) ≡ suc (readable fs (behind_step (k ∷ s)))
      go true e = readable_more fs (k ∷ s) (omega arith) (eqb-true (unreadable fs (k ∷ s)) 0 e)
      go false e = absurd (let z = readable_stop fs (k ∷ s) (eqb-false (unreadable fs (k ∷ s)) 0 e) in omega arith)

  -- the steps that can be printed from number i on are those that are left
  left_over : (i : ℕ) → i ≤ readable fs d → readable fs (behind_steps i d) + i ≡ readable fs d
  unfolding behind_steps
  left_over zero l = omega arith
  left_over (suc i) l =
      let h = left_over i (omega arith) in
      let m = (readable_some (behind_steps i d) (omega arith)).1 in
      omega arith

  steps_in_pieces : (book : List ℕ) (rs : List Record) → reading book ≡ accepted rs → formulas rs ≡ fs → InPieces (steps_for book d) (step_line_at fs d) (readable fs d)
  unfolding steps_for
  steps_in_pieces book rs read same =
      record {
        over_at = λ from room l e.
            let z = over_none fs d from room (behind_steps from d) (rw (read, same) at e) in
            let h = left_over from l in
            let n = readable_none fs (behind_steps from d) (ap length z) in
            omega arith;
        piece_at = λ from room w n l e.
            let q = piece_some fs d from room (behind_steps from d) w n (rw (read, same) at e) in
            let k : readable fs d - from ≡ readable fs (behind_steps from d) = (let h = left_over from l in omega arith) in
            rw k (q.0, q.1);
      }

  -- all lines are the lines of the steps, where the steps that can be printed end with the bytes
  all_lines : (c i : ℕ) → readable fs (behind_steps i d) ≡ c → behind_steps (i + c) d ≡ [] → lines_from (step_line_at fs d) c i ≡ step_lines fs i (steps_in (behind_steps i d))
  unfolding lines_from step_lines step_line_at behind_steps steps_from
  all_lines zero i e h =
      let z : behind_steps i d ≡ [] = ap (λ (k : ℕ). behind_steps k d) (let y : i ≡ i + 0 = omega arith in y) ∙ h in
      sym (ap (λ (s : List ℕ). step_lines fs i (steps_in s)) z)
  all_lines (suc c) i e h =
      let s = behind_steps i d in
      let m = readable_some s (omega arith) in
      let r = all_lines c (suc i) (omega arith) (ap (λ (k : ℕ). behind_steps k d) (let y : suc i + c ≡ i + suc c = omega arith in y) ∙ h) in
      ap (λ (x : List ℕ). step_line fs i (step_at s) ++ x) r ∙ sym (ap (step_lines fs i) (steps_more s m.0))

-- THE PIECES ARE THE LINES OF THE STEPS
pub steps_explained : (book d out : List ℕ) (rs : List Record) → reading book ≡ accepted rs → Calls (steps_for book d) 0 out → out ≡ step_lines (formulas rs) 0 (steps_in d)
unfolding steps_for behind_steps
steps_explained book d out rs read c =
    let fs = formulas rs in
    let r = calls_lines (steps_in_pieces fs d book rs read refl) 0 out (omega arith) c in
    let n : readable fs d - 0 ≡ readable fs d = omega arith in
    let k : 0 + readable fs d ≡ readable fs d = omega arith in
    let z = over_none fs d (readable fs d) r.1.0 (behind_steps (readable fs d) d) (rw read at r.1.1) in
    r.0 ∙ ap (λ (m : ℕ). lines_from (step_line_at fs d) m 0) n ∙ all_lines fs d (readable fs d) 0 refl (ap (λ (m : ℕ). behind_steps m d) k ∙ z)

-- WHAT IS PRINTED OF A GOAL: its line, and behind it, by what the prover answers, the line of its steps and their pieces, or that it is
-- not reached
pub reached_printed : (book : List ℕ) (rs : List Record) → reading book ≡ accepted rs → (g : ℕ) (d d' : List ℕ) (k l h : ℕ) → Promises rs g d d' (reached k l h)
    → (out : List ℕ) → Calls (steps_for book (take l d')) 0 out → GoalPrinted rs g (goal_line (formulas rs) g (goal_of rs g) ++ reached_line k ++ out)
reached_printed book rs read g d d' k l h p out c =
    inl (
      take l d',
      p.0,
      ap₂ (λ (n : ℕ) (x : List ℕ). goal_line (formulas rs) g (goal_of rs g) ++ reached_line n ++ x) p.1 (steps_explained book (take l d') out rs read c),
    )

pub unreached_printed : (rs : List Record) (g : ℕ) (d d' : List ℕ) (h : ℕ) → Promises rs g d d' (not_reached h)
    → GoalPrinted rs g (goal_line (formulas rs) g (goal_of rs g) ++ unreached_line)
unreached_printed rs g d d' h p = inr (p.0, refl)

-- what an operation tells to be written stands at the front of the buffer, and is within it
pub told_front : (o : Outcome (List ℕ)) (b : List ℕ) {b' : List ℕ} {k : ℕ} → accepted k ≡ length_told o → b' ≡ at_front o b → (o ≡ accepted (take k b')) × (k ≤ length b')
told_front (refused f i) b e h = absurd (let z : ◌≡◌ {A = ℕ} 0 1 = cc in omega arith)
told_front (accepted s) b {b'} {k} e h =
    let a : k ≡ length s = cc in
    let z = ap length h ∙ length-append s (drop (length s) b) in
    (ap (λ (x : List ℕ). accepted x) (sym (rw (h, a) (take-append_seam s (drop (length s) b)))), omega arith)

-- the operation on a goal gives its line, which is within the buffer
pub told_goal : (book : List ℕ) (g : ℕ) (b : List ℕ) {b' : List ℕ} {k : ℕ} → accepted k ≡ goal_told book g b → b' ≡ goal_in book g b → k ≤ length b'
unfolding goal_told goal_in
told_goal book g b e h = (told_front (goal_line_for book g (length b)) b e h).1

-- THE GOALS OF A BOOK, one behind the other, and behind them how many are reached: `out g` is what is printed of goal g, `mark g` whether it
-- is reached
unfoldable pub marks_from : (ℕ → Bool) → (left g : ℕ) → List Bool
marks_from mark zero g = []
marks_from mark (suc left) g = mark g ∷ marks_from mark left (suc g)

module _ (rs : List Record) (out : ℕ → List ℕ) (mark : ℕ → Bool) where
  marks_size : (left g : ℕ) → length (marks_from mark left g) ≡ left
  unfolding marks_from
  marks_size zero g = refl
  marks_size (suc left) g = ap (λ (n : ℕ). suc n) (marks_size left (suc g))

  marks_are : (left g k : ℕ) → k < left → get_or (marks_from mark left g) k false ≡ mark (g + k)
  unfolding marks_from
  marks_are zero g k l = absurd (omega arith)
  marks_are (suc left) g zero l = ap mark (let z : g ≡ g + 0 = omega arith in z)
  marks_are (suc left) g (suc k) l = marks_are left (suc g) k (omega arith) ∙ ap mark (let z : suc g + k ≡ g + suc k = omega arith in z)

  module _ (printed : (g : ℕ) → g < length (goals rs) → GoalPrinted rs g (out g))
      (marked : (g : ℕ) → g < length (goals rs) → cond (mark g) (Reached rs g) (Reached rs g → ⊥)) where
    all_printed : (left g : ℕ) → g + left ≡ length (goals rs) → GoalsPrinted rs left g (lines_from out left g)
    unfolding lines_from
    all_printed zero g e = refl
    all_printed (suc left) g e = (out g, lines_from out left (suc g), printed g (omega arith), all_printed left (suc g) (omega arith), refl)

    pub book_explained : (book : List ℕ) → reading book ≡ accepted rs
        → Explained book (lines_from out (length (goals rs)) 0 ++ goals_line (count_true (marks_from mark (length (goals rs)) 0)) (length (goals rs)))
    book_explained book read =
        let n = length (goals rs) in
        rw read (
          lines_from out n 0,
          all_printed n 0 (zero-add n),
          (
            marks_from mark n 0,
            record { size = marks_size n 0; reached = λ g l. rw (marks_are n 0 g l, zero-add g) (marked g l) },
            refl,
          ),
        )
