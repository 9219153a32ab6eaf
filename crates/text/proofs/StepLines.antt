-- Laws that the proofs of the lines of goals and steps cite, over plain variables. Assumes nothing.
use Prim.Native.Nat.{ℕ, suc, ◌+◌, ◌-◌, ◌<◌, ◌≤◌}
use native.Mathlib.Numerals.{add-one}
use native.Mathlib.Omega.{arith}
use mathlib.Core.Path.{◌≡◌, refl, sym, ap, ◌∙◌}
use mathlib.Core.Logic.{◌⊎◌, inl, inr}
use mathlib.Core.List.{List, [], ◌∷◌}
use mathlib.Core.Bool.{Bool, true, false, cond, ◌||◌}
use lib.ListN.{length, get_or, take, drop, length-drop, drop_of_length-le, get_or-map}
use lib.Seq.{sets, get_or-take, get_or-drop}
use lib.Dec.{eqb, ltb}
use borrow.Author.Tests.{eq-eqb, ne_eqb, lt-leb, le-leb, ltb-false}
use Rattle.logic.specs.declared.Record.{Record}
use Rattle.logic.specs.declared.Cause.{Cause}
use Rattle.std.specs.Prelude.{Option, None, Some}
use Rattle.std.specs.Option.{is_some}
use Rattle.written.specs.Stated.{told_cause}
use Rattle.book.proofs.Stage.{cause_number}
use Rattle.logic.specs.Refusal.{Outcome}
use Rattle.logic.specs.Refusal.Outcome.{accepted, refused}
use Rattle.logic.specs.Record.{no_record}
use Rattle.logic.specs.Written.{is_malformed}
use Rattle.format.specs.Index.{goals_from, goal_in, unpacked}
use Rattle.logic.specs.Text.{length_told, at_front}
use Rattle.logic.specs.Step.{numbers_in, step_size, step_at}
use Rattle.logic.specs.Listing.{fitting, Part, piece_of, part_told, with_part}
use Rattle.logic.specs.Listing.Part.{piece, over}
use Rattle.logic.specs.Explained.{goal_line, goal_line_among, behind_step, behind_steps, unreadable, readable, step_line, step_line_at, steps_among}
use Rattle.text.proofs.Explanation.{steps_few, readable_none, readable_more, readable_stop}
use Rattle.digits.proofs.Puts.{whole_short, whole_put}
use Rattle.places.specs.Places.{goals_in}
use Rattle.text.specs.Lines.{LinesIn}
use Rattle.text.proofs.Lines.{Going, going_starts, length_kept, going_more, going_stops, going_ends, no_piece, some_piece}

-- WHY A STEP CANNOT BE PRINTED
-- a step that can be printed has a fact that is not malformed, and is long enough for it
pub record Printable (fs : List Record) (s : List ℕ) : Type 0 where
  pub long : 8 ≤ length s
  pub right : is_malformed fs (take 7 (drop 1 s)) ≡ false

pub printable : (fs : List Record) (s : List ℕ) → unreadable fs s ≡ 0 → Printable fs s
unfolding unreadable step_at step_size
printable fs s e = go (eqb (numbers_in (get_or s 0 0)) 0) (ltb (length s) (step_size (get_or s 0 0))) refl (is_malformed fs (take 7 (drop 1 s))) refl e
  where
    go : (a b : Bool) → ltb (length s) (step_size (get_or s 0 0)) ≡ b → (m : Bool) → is_malformed fs (take 7 (drop 1 s)) ≡ m
        → ◌≡◌ {A = ℕ} (cond (a || b) 16 (cond m 17 0)) 0 → Printable fs s
    go true b g m h e = absurd (omega arith)
    go false true g m h e = absurd (omega arith)
    go false false g true h e = absurd (omega arith)
    go false false g false h e = record { long = (let l = ltb-false (length s) (step_size (get_or s 0 0)) g in omega arith); right = h }

-- it is 16 or 17
-- whether the code has a cause why a step cannot be printed
pub no_cause : (o : Option Cause) {b : Bool} → b ≡ is_some o → b ≡ false → told_cause o ≡ 0
no_cause None e h = refl
no_cause (Some c) e h = absurd (let z : ◌≡◌ {A = Bool} true false = sym e ∙ h in let y : ◌≡◌ {A = ℕ} 0 1 = cc in omega arith)

pub a_cause : (o : Option Cause) {b : Bool} → b ≡ is_some o → b ≡ true → told_cause o ≡ 0 → ⊥
a_cause None e h z = absurd (let z : ◌≡◌ {A = Bool} false true = sym e ∙ h in let y : ◌≡◌ {A = ℕ} 0 1 = cc in omega arith)
a_cause (Some c) e h z = let (m, k) = cause_number c in absurd (omega arith)

pub either_fault : (fs : List Record) (s : List ℕ) {f : ℕ} → f ≡ unreadable fs s → (f ≡ 0 → ⊥) → (f ≡ 16) ⊎ (f ≡ 17)
unfolding unreadable
either_fault fs s {f} e z = go (eqb (numbers_in (get_or s 0 0)) 0 || ltb (length s) (step_size (get_or s 0 0))) (is_malformed fs (step_at s).fact) e
  where
    go : (a m : Bool) → f ≡ cond {A = ℕ} a 16 (cond m 17 0) → (f ≡ 16) ⊎ (f ≡ 17)
    go true m e = inl e
    go false true e = inr e
    go false false e = absurd (z e)

-- behind a step there are fewer bytes
pub falls : (d : List ℕ) (at next : ℕ) → at < length d → drop next d ≡ behind_step (drop at d) → length d - next < length d - at
unfolding step_size
falls d at next l e =
    let a = length-drop next d in
    let b = length-drop at d in
    let z = ap length e ∙ length-drop (step_size (get_or (drop at d) 0 0)) (drop at d) in
    omega arith

-- THE LINE OF A GOAL
pub goal_here : (index : List ℕ) (n g : ℕ) → g < n → get_or (goals_in n index) g no_record ≡ goal_in index g
unfolding goals_in unpacked
goal_here index n g l =
    get_or-map unpacked (take n (drop goals_from index)) g 0 ∙ ap unpacked (get_or-take n (drop goals_from index) g 0 l ∙ get_or-drop goals_from index g 0)

module _ (fs gs : List Record) (g : ℕ) (b : List ℕ) where
  abbrev Told : Outcome ℕ → List ℕ → Type 0
  Told o b' = (o ≡ length_told (goal_line_among fs gs g (length b))) × (b' ≡ at_front (goal_line_among fs gs g (length b)) b)

  pub no_goal : {o : Outcome ℕ} → length gs ≤ g → o ≡ refused 13 g → Told o b
  no_goal l e = rw (le-leb (length gs) g l) (e, refl)

  module _ (l : g < length gs) {k : ℕ} (e : k ≡ length (goal_line fs g (get_or gs g no_record))) where
    pub goal_short : {o : Outcome ℕ} → length b < k → o ≡ refused 14 0 → Told o b
    goal_short h z = rw (lt-leb (length gs) g l) (whole_short (goal_line fs g (get_or gs g no_record)) b e h z)

    pub goal_whole : {b' : List ℕ} → k ≤ length b → b' ≡ sets b 0 (goal_line fs g (get_or gs g no_record)) → Told (accepted k) b'
    goal_whole h z = rw (lt-leb (length gs) g l) (whole_put (goal_line fs g (get_or gs g no_record)) b e h z)

-- GOING ON, step by step: the place `at` is where step i starts, and the steps that can be printed from there end where they did.
pub record Stepping (fs : List Record) (d : List ℕ) (from : ℕ) (b₀ b : List ℕ) (written at i : ℕ) : Type 0 where
  pub going : Going (step_line_at fs d) (from + readable fs (behind_steps from d)) from b₀ b written i
  pub start : drop at d ≡ behind_steps i d
  pub inside : at ≤ length d
  pub last : i + readable fs (behind_steps i d) ≡ from + readable fs (behind_steps from d)

module _ (fs : List Record) (d : List ℕ) (from : ℕ) (b₀ : List ℕ) where
  abbrev end : ℕ
  end = from + readable fs (behind_steps from d)

  pub stepping_starts : (at : ℕ) → drop at d ≡ behind_steps from d → at ≤ length d → Stepping fs d from b₀ b₀ 0 at from
  stepping_starts at e l = record { going = going_starts (step_line_at fs d) end from b₀ (omega arith); start = e; inside = l; last = refl }

  module _ {b : List ℕ} {written at i : ℕ} (v : Stepping fs d from b₀ b written at i) where
    pub kept : length b ≡ length b₀
    kept = length_kept (step_line_at fs d) end from b₀ b written i v.going

    -- the bytes from here on
    here_long : length (behind_steps i d) ≡ length d - at
    here_long = ap length (sym v.start) ∙ length-drop at d

    pub few : at < length d → i < length d
    few l = let h = steps_few d i (rw here_long (omega arith)) in let e = here_long in omega arith

    module _ (l : at < length d) where
      -- a step that cannot be printed is the end
      pub stepping_stops : {f : ℕ} → f ≡ unreadable fs (drop at d) → (f ≡ 0 → ⊥) → LinesIn (step_line_at fs d) end from b₀ b written i
      stepping_stops e z =
          let r = readable_stop fs (behind_steps i d) (λ y. z (e ∙ ap (unreadable fs) v.start ∙ y)) in
          let y = v.last in
          going_ends (step_line_at fs d) end from b₀ b written i v.going (omega arith)

      module _ {f : ℕ} (e : f ≡ unreadable fs (drop at d)) (z : f ≡ 0) where
        more : readable fs (behind_steps i d) ≡ suc (readable fs (behind_step (behind_steps i d)))
        more = readable_more fs (behind_steps i d) (rw here_long (omega arith)) (sym (ap (unreadable fs) v.start) ∙ sym e ∙ z)

        before_end : i < end
        before_end = let y = v.last in let r = more in omega arith

        pub line_here : step_line fs i (step_at (drop at d)) ≡ step_line_at fs d i
        unfolding step_line_at
        line_here = ap (λ (s : List ℕ). step_line fs i (step_at s)) v.start

        pub stepping_full : {k : ℕ} → k ≡ length (step_line_at fs d i) → length b - written < k → LinesIn (step_line_at fs d) end from b₀ b written i
        stepping_full g h = going_stops (step_line_at fs d) end from b₀ b written i v.going before_end g h

        pub stepping_more : {b' : List ℕ} {k : ℕ} (next : ℕ) → k ≡ length (step_line_at fs d i) → k ≤ length b - written → b' ≡ sets b written (step_line_at fs d i)
            → drop next d ≡ behind_step (drop at d) → next ≤ length d → Stepping fs d from b₀ b' (written + k) next (i + 1)
        unfolding behind_steps
        stepping_more next g h eb en ln =
            let one : behind_steps (i + 1) d ≡ behind_step (behind_steps i d) = ap (λ (n : ℕ). behind_steps n d) (add-one i) in
            record {
              going = going_more (step_line_at fs d) end from b₀ b written i v.going before_end g h eb;
              start = en ∙ ap behind_step v.start ∙ sym one;
              inside = ln;
              last = (let r = more in let y = v.last in let o = ap (readable fs) one in omega arith);
            }

    pub stepping_ends : length d ≤ at → LinesIn (step_line_at fs d) end from b₀ b written i
    stepping_ends l =
        let r = readable_none fs (behind_steps i d) (here_long ∙ (let z : length d - at ≡ 0 = omega arith in z)) in
        let y = v.last in
        going_ends (step_line_at fs d) end from b₀ b written i v.going (omega arith)

-- THE ANSWER, for the steps from number `from` on, which start at the place `at`.
module _ (fs : List Record) (d : List ℕ) (from : ℕ) (b : List ℕ) (at : ℕ) (start : drop at d ≡ behind_steps from d) where
  abbrev Answers : Outcome (Part ℕ) → List ℕ → Type 0
  Answers o b' = (o ≡ part_told (steps_among fs d from (length b) (behind_steps from d))) × (b' ≡ with_part (steps_among fs d from (length b) (behind_steps from d)) b)

  pub at_end : length d ≤ at → Answers (accepted over) b
  at_end l = rw (sym start ∙ drop_of_length-le d l) (refl, refl)

  module _ (l : at < length d) {f : ℕ} (e : f ≡ unreadable fs (drop at d)) where
    -- the bytes from there on are not empty
    among_is : (s : List ℕ) → 0 < length s → steps_among fs d from (length b) s
        ≡ cond (eqb (unreadable fs s) 0) (piece_of (fitting (step_line_at fs d) (readable fs s) from (length b))) (refused (unreadable fs s) from)
    among_is [] z = absurd (omega arith)
    among_is (k ∷ s) z = refl

    some : 0 < length (behind_steps from d)
    some = let z = ap length (sym start) ∙ length-drop at d in omega arith

    fault_is : f ≡ unreadable fs (behind_steps from d)
    fault_is = e ∙ ap (unreadable fs) start

    pub not_printable : (f ≡ 0 → ⊥) → {o : Outcome (Part ℕ)} → o ≡ refused f from → Answers o b
    not_printable z {o} h = rw (among_is (behind_steps from d) some, ← fault_is, ne_eqb f 0 z) (h, refl)

    module _ (z : f ≡ 0) {b' : List ℕ} {k i : ℕ} (w : LinesIn (step_line_at fs d) (from + readable fs (behind_steps from d)) from b b' k i) where
      part_is : steps_among fs d from (length b) (behind_steps from d) ≡ piece_of (fitting (step_line_at fs d) (readable fs (behind_steps from d)) from (length b))
      part_is = among_is (behind_steps from d) some ∙ rw (← fault_is, eq-eqb f 0 z) refl

      piece_is : steps_among fs d from (length b) (behind_steps from d) ≡ piece_of (fitting (step_line_at fs d) (from + readable fs (behind_steps from d) - from) from (length b))
      piece_is =
          part_is ∙ ap (λ (n : ℕ). piece_of (fitting (step_line_at fs d) n from (length b))) (let y : readable fs (behind_steps from d) ≡ from + readable fs (behind_steps from d) - from = omega arith in y)

      pub nothing_fits : {o : Outcome (Part ℕ)} → k ≡ 0 → o ≡ refused 14 0 → Answers o b'
      nothing_fits y h = rw piece_is (no_piece w y h)

      pub a_piece : (k ≡ 0 → ⊥) → Answers (accepted (piece k i)) b'
      a_piece y = rw piece_is (some_piece w y)
