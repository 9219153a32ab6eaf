-- The pieces of a listing, one behind the other until it is over, are the listing. Assumes nothing.
use Prim.Native.Nat.{ℕ, zero, suc, ◌+◌, ◌-◌, ◌<◌, ◌≤◌}
use native.Mathlib.Nat.{zero-add}
use native.Mathlib.Omega.{arith}
use mathlib.Core.Path.{◌≡◌, refl, sym, ap, ap₂, ◌∙◌}
use mathlib.Core.List.{List, [], ◌∷◌, ◌++◌, map, append_assoc, append-nil}
use mathlib.Core.Bool.{Bool, true, false, cond, ◌&&◌}
use lib.ListN.{length, get_or, take, length-append, length-map, get_or-append}
use lib.Seq.{take-append_seam}
use lib.Dec.{leb, ltb}
use borrow.Author.Tests.{eq-eqb, ne_eqb, lt-ltb, le-ltb, leb-true, leb-false}
use Rattle.logic.specs.declared.Record.{Record}
use Rattle.logic.specs.declared.Audience.{Audience}
use Rattle.logic.specs.Fact.{initial}
use Rattle.logic.specs.Record.{no_record}
use Rattle.logic.specs.Count.{formulas, goals}
use Rattle.logic.specs.Refusal.{Outcome}
use Rattle.logic.specs.Refusal.Outcome.{accepted, refused}
use Rattle.logic.specs.Reading.{reading}
use Rattle.logic.specs.Book.{Book}
use Rattle.logic.specs.Written.{goal_fact_on}
use Rattle.logic.specs.Place.{F}
use Rattle.logic.specs.Step.{goal_of}
use Rattle.logic.specs.Survey.{IsSurvey, held, is_within}
use Rattle.logic.specs.Proof.{Reached}
use Rattle.logic.specs.Listing.{held_line, goals_line, place_lines, Marked, count_true, ListingFor, goal_byte, marks_by, line_at, line_count, fitting, Part, piece_of, part_after, part_for, listing_told, listing_in}
use Rattle.logic.specs.Listing.Part.{piece, over}
use Rattle.text.proofs.Calls.{lines_from, the_piece, not_over, Calls, InPieces, calls_lines, rises, told_part}
use Rattle.logic.proofs.Contents.{contents, among_at}
use Rattle.logic.proofs.Initial.{asks}
use Rattle.logic.proofs.Places.{place_below}
use Rattle.logic.proofs.Surveys.{placed}
use Rattle.logic.proofs.GoalByte.{reached_by_byte}

lines_apart : (line : ℕ → List ℕ) (a b i : ℕ) → lines_from line (a + b) i ≡ lines_from line a i ++ lines_from line b (i + a)
unfolding lines_from
lines_apart line zero b i = let e : i + 0 ≡ i = omega arith in let z : 0 + b ≡ b = omega arith in rw (e, z) refl
lines_apart line (suc a) b i =
    let e : suc i + a ≡ i + suc a = omega arith in
    let z : suc a + b ≡ suc (a + b) = omega arith in
    rw z (ap (λ (s : List ℕ). line i ++ s) (lines_apart line a b (suc i) ∙ ap (λ (k : ℕ). lines_from line a (suc i) ++ lines_from line b k) e)
    ∙ sym (append_assoc (line i) (lines_from line a (suc i)) (lines_from line b (i + suc a))))

-- a listing comes in pieces
module _ (a : Audience) (book table : List ℕ) (rs : List Record) (read : reading book ≡ accepted rs) (long : F (formulas rs) ≤ length table) where
  abbrev line : ℕ → List ℕ
  line = line_at a (formulas rs) (goals rs) table

  part_is : (from room : ℕ) → part_for a book table from room
      ≡ cond (leb (line_count (formulas rs)) from) (accepted over) (piece_of (fitting line (line_count (formulas rs) - from) from room))
  unfolding part_for
  part_is from room = rw (read, le-ltb (length table) (F (formulas rs)) long) refl

  ends : (from room : ℕ) (b : Bool) → leb (line_count (formulas rs)) from ≡ b
      → ◌≡◌ {A = Outcome (Part (List ℕ))} (cond b (accepted over) (piece_of (fitting line (line_count (formulas rs) - from) from room))) (accepted over) → line_count (formulas rs) ≤ from
  ends from room true h e = leb-true (line_count (formulas rs)) from h
  ends from room false h e = absurd (not_over (fitting line (line_count (formulas rs) - from) from room) e)

  goes_on_lem : (from room : ℕ) (s : List ℕ) (n : ℕ) (b : Bool)
      → ◌≡◌ {A = Outcome (Part (List ℕ))} (cond b (accepted over) (piece_of (fitting line (line_count (formulas rs) - from) from room))) (accepted (piece s n))
      → ((fitting line (line_count (formulas rs) - from) from room).bytes ≡ s) × ((fitting line (line_count (formulas rs) - from) from room).next ≡ n)
  goes_on_lem from room s n true e = absurd (let z : ◌≡◌ {A = ℕ} 0 1 = cc in omega arith)
  goes_on_lem from room s n false e = let p = the_piece (fitting line (line_count (formulas rs) - from) from room) s n e in (p.0, p.1)

  listing_in_pieces : InPieces (part_for a book table) line (line_count (formulas rs))
  listing_in_pieces =
      record {
        over_at = λ from room l e. let m = ends from room _ refl (sym (part_is from room) ∙ e) in omega arith;
        piece_at = λ from room s n l e. goes_on_lem from room s n (leb (line_count (formulas rs)) from) (sym (part_is from room) ∙ e);
      }

-- THE LINES OF A SURVEY. The table begins with the survey t.
getD_map_in : (f : Record → Bool) (l : List Record) (i : ℕ) → i < length l → get_or (map f l) i false ≡ f (get_or l i no_record)
getD_map_in f [] i h = absurd (omega arith)
getD_map_in f (r ∷ l) zero h = refl
getD_map_in f (r ∷ l) (suc i) h = getD_map_in f l i (omega arith)

within_iff : (m v : ℕ) (A : Type 0) → (((1 ≤ v) × (v ≤ 1 + m)) → A) → (A → (1 ≤ v) × (v ≤ 1 + m)) → cond (is_within m v) A (A → ⊥)
within_iff m v A f g = go (leb 1 v) (leb v (1 + m)) refl refl
  where
    go : (a b : Bool) → leb 1 v ≡ a → leb v (1 + m) ≡ b → cond (a && b) A (A → ⊥)
    go true true p q = f (leb-true 1 v p, leb-true v (1 + m) q)
    go true false p q = λ x. let h = g x in let l = leb-false v (1 + m) q in omega arith
    go false b p q = λ x. let h = g x in let l = leb-false 1 v p in omega arith

module _ (a : Audience) (rs : List Record) (book : Book rs) (t rest : List ℕ) (survey : IsSurvey (formulas rs) (initial rs) t) where
  abbrev fs : List Record
  fs = formulas rs

  same_byte : (g : ℕ) → g < length (goals rs) → goal_byte fs (t ++ rest) (goal_of rs g) ≡ goal_byte fs t (goal_of rs g)
  same_byte g l =
      let a = asks rs (contents rs book) (goal_of rs g) (among_at (goals rs) g l) in
      get_or-append t rest 0 _ (let b = place_below fs (goal_fact_on fs (goal_of rs g)) (placed fs (goal_fact_on fs (goal_of rs g)) a.0) in let e = survey.size in omega arith)

  pub marks_right : Marked rs (marks_by fs (goals rs) (t ++ rest))
  unfolding marks_by
  marks_right =
      record {
        size = length-map (goals rs) _;
        reached = λ g l.
            let h = reached_by_byte rs book g l t survey in
            rw (getD_map_in (λ r. is_within r.first (goal_byte fs (t ++ rest) r)) (goals rs) g l, same_byte g l)
            (within_iff (goal_of rs g).first (goal_byte fs t (goal_of rs g)) (Reached rs g) h.0 h.1);
      }

  place_lines_lem : (s : List ℕ) (i : ℕ) → i + length s ≤ F fs → ((k : ℕ) → k < length s → get_or (t ++ rest) (i + k) 0 ≡ get_or s k 0)
      → lines_from (line_at a fs (goals rs) (t ++ rest)) (length s) i ≡ place_lines a fs i s
  unfolding lines_from place_lines line_at
  place_lines_lem [] i l h = refl
  place_lines_lem (v ∷ s) i l h =
      let e : get_or (t ++ rest) i 0 ≡ v = ap (λ (k : ℕ). get_or (t ++ rest) k 0) (let z : i ≡ i + 0 = omega arith in z) ∙ h 0 (omega arith) in
      let u = place_lines_lem s (suc i) (omega arith) (λ k m. ap (λ (j : ℕ). get_or (t ++ rest) j 0) (let z : suc i + k ≡ i + suc k = omega arith in z) ∙ h (suc k) (omega arith)) in
      rw (lt-ltb i (F fs) (omega arith), e, u) refl

  pub lines_listed : lines_from (line_at a fs (goals rs) (t ++ rest)) (line_count (formulas rs)) 0
      ≡ place_lines a fs 0 t ++ held_line (held t) ++ goals_line (count_true (marks_by fs (goals rs) (t ++ rest))) (length (goals rs))
  unfolding lines_from line_at
  lines_listed =
      let z = survey.size in
      let front = place_lines_lem t 0 (omega arith) (λ k l. ap (λ (j : ℕ). get_or (t ++ rest) j 0) (zero-add k) ∙ get_or-append t rest 0 k l) in
      let same : take (F fs) (t ++ rest) ≡ t = ap (λ (k : ℕ). take k (t ++ rest)) (sym z) ∙ take-append_seam t rest in
      let n : 0 + F fs ≡ F fs = omega arith in
      lines_apart (line_at a fs (goals rs) (t ++ rest)) (F fs) 2 0
      ∙ rw (n, le-ltb (F fs) (F fs) (omega arith), le-ltb (suc (F fs)) (F fs) (omega arith), eq-eqb (F fs) (F fs) refl, ne_eqb (suc (F fs)) (F fs) (omega arith), same, append-nil)
      (ap (λ (s : List ℕ). s ++ (held_line (held t) ++ goals_line (count_true (marks_by fs (goals rs) (t ++ rest))) (length (goals rs)))) (ap (λ (k : ℕ). lines_from (line_at a fs (goals rs) (t ++ rest)) k 0) (sym z) ∙ front)
      ∙ sym (append_assoc (place_lines a fs 0 t) (held_line (held t)) (goals_line (count_true (marks_by fs (goals rs) (t ++ rest))) (length (goals rs)))))

-- THE PIECES ARE THE LISTING
pub pieces_listed : (a : Audience) (book table : List ℕ) (rs : List Record) → reading book ≡ accepted rs → Book rs → (t rest : List ℕ) → IsSurvey (formulas rs) (initial rs) t → table ≡ t ++ rest
    → (out : List ℕ) → Calls (part_for a book table) 0 out → ListingFor a book out
pieces_listed a book table rs e b t rest s k out c =
    let long : F (formulas rs) ≤ length table = (let z = s.size in let l = ap length k ∙ length-append t rest in omega arith) in
    let n : line_count (formulas rs) - 0 ≡ line_count (formulas rs) = omega arith in
    let w = (calls_lines (listing_in_pieces a book table rs e long) 0 out (omega arith) c).0 ∙ ap₂ (λ (m : ℕ) (u : List ℕ). lines_from (line_at a (formulas rs) (goals rs) u) m 0) n k in
    rw e (t, s, (marks_by (formulas rs) (goals rs) (t ++ rest), marks_right a rs b t rest s, w ∙ lines_listed a rs b t rest s))

-- EACH PIECE GOES ON: the number answered is above the one that was asked from, so calls come to an end.
part_rises : (a : Audience) (book table : List ℕ) (from room : ℕ) (s : List ℕ) (n : ℕ) → part_for a book table from room ≡ accepted (piece s n) → from < n
unfolding part_for
part_rises a book table from room s n = go (reading book)
  where
    go : (o : Outcome (List Record)) → part_after a o table from room ≡ accepted (piece s n) → from < n
    go (refused f i) e = absurd (let z : ◌≡◌ {A = ℕ} 0 1 = cc in omega arith)
    go (accepted rs) e = pick (ltb (length table) (F fs)) (leb (line_count fs) from) e
      where
        fs : List Record
        fs = formulas rs

        pick : (c b : Bool) → ◌≡◌ {A = Outcome (Part (List ℕ))} (cond c (refused 14 0) (cond b (accepted over)
            (piece_of (fitting (line_at a (formulas rs) (goals rs) table) (line_count (formulas rs) - from) from room)))) (accepted (piece s n)) → from < n
        pick true b e = absurd (let z : ◌≡◌ {A = ℕ} 0 1 = cc in omega arith)
        pick false true e = absurd (let z : ◌≡◌ {A = ℕ} 0 1 = cc in omega arith)
        pick false false e =
            let q = the_piece (fitting (line_at a (formulas rs) (goals rs) table) (line_count (formulas rs) - from) from room) s n e in
            let r = rises (line_at a (formulas rs) (goals rs) table) (line_count (formulas rs) - from) from room q.2 in
            let z = q.1 in
            omega arith

-- the same of what the operation answers, and that the bytes told are within the buffer
pub told_piece : (a : Audience) (book table : List ℕ) (from : ℕ) (b : List ℕ) {b' : List ℕ} {k n : ℕ} → accepted (piece k n) ≡ listing_told a book table from b
    → b' ≡ listing_in a book table from b → (from < n) × (k ≤ length b')
unfolding listing_told listing_in
told_piece a book table from b = told_part (part_for a book table from (length b)) from b (part_rises a book table from (length b))
