-- A BUFFER OF 4,160 BYTES IS NEVER TOO SHORT for the line of a goal, of a step or of a pair. Book and derivation are made of bytes. Assumes nothing.
use Prim.Native.Nat.{ℕ, zero, suc, ◌+◌, ◌-◌, ◌<◌, ◌≤◌}
use native.Mathlib.Decide.{dec_lt}
use native.Mathlib.Omega.{arith}
use mathlib.Core.Path.{◌≡◌, refl, sym, ap, subst}
use mathlib.Core.Logic.{⊎_elim}
use mathlib.Core.List.{List, [], ◌∷◌, ◌++◌}
use mathlib.Core.Bool.{Bool, true, false, cond}
use lib.ListN.{length, get_or, take, length-append, length-replicate, get_or-eq_default}
use lib.Seq.{take-nil}
use lib.Dec.{eqb, ltb, leb, lit≤, lit<, eqb→eq}
use borrow.Author.Tests.{le-ltb, ltb-false, leb-false, ne_eqb}
use Rattle.logic.specs.declared.Record.{Record}
use Rattle.logic.specs.Record.{no_record, word}
use Rattle.logic.specs.Count.{formulas, messages, goals}
use Rattle.logic.specs.Refusal.Outcome.{accepted, refused}
use Rattle.logic.specs.Reading.{reading}
use Rattle.logic.specs.Kind.{is_formula_record}
use Rattle.logic.specs.Book.{EachField, Whole, Book}
use Rattle.logic.specs.Formula.{name_of, tree_of}
use Rattle.logic.specs.Fact.{goal_fact}
use Rattle.logic.specs.Step.{numbers_in, step_size, step_at, stated_by}
use Rattle.logic.specs.Text.{ascii, decimal, datum_text, text, fact_text, text_limit, length_told}
use Rattle.logic.specs.Listing.{printed, Fitting, fitting, piece_of, part_told}
use Rattle.logic.specs.Explained.{goal_heading, goal_line, aligned, premises_text, why, why_in_brackets, step_line, goal_line_for, goal_told, behind_steps, unreadable, readable, step_line_at, steps_among, steps_for, steps_told}
use Rattle.logic.specs.Reason.{whole}
use Rattle.logic.specs.Honesty.{message_of, disbelief_heading, disbelief_line, is_no_pair, disbelief_for, disbelief_told}
use Rattle.logic.proofs.Bytes.{Bytes, bytes_drop}
use Rattle.logic.proofs.BookRead.{accepted_is_book}
use Rattle.logic.proofs.Follows.{all_of_kind, all_at as All-here, book_whole, message_limit_lem, goal_limit_lem}
use Rattle.format.proofs.Packing.{whole_fields}
use Rattle.logic.proofs.Member.{all_at}
use Rattle.logic.proofs.Contents.{contents, in_class, among_at}
use Rattle.text.proofs.Explanation.{steps_few, readable_more}
use Rattle.digits.proofs.Put.{five_digits, twenty_digits}
use Rattle.text.proofs.StepLines.{either_fault}
use Rattle.text.proofs.PairLines.{pair_there}

either : (b : Bool) (s t : List ℕ) {n : ℕ} → length s ≤ n → length t ≤ n → length (cond b s t) ≤ n
either true s t l m = l
either false s t l m = m

pub printed_limit : (t : List ℕ) → length (printed t) ≤ 4096
printed_limit t = go (ltb text_limit (length t)) refl
  where
    go : (b : Bool) → ltb text_limit (length t) ≡ b → length (cond b (ascii "too long") t) ≤ 4096
    go true e = lit≤ tt
    go false e = ltb-false text_limit (length t) e

-- THE LINE OF A STEP
aligned_limit : (i : ℕ) → i < 18446744073709551616 → length (aligned i) ≤ 20
unfolding aligned
aligned_limit i l =
    let d = twenty_digits i l refl in
    let r = length-replicate {A = ℕ} (4 - length (decimal i)) 32 in
    rw length-append (omega arith)

premises_limit : (n i j : ℕ) → i < 65536 → j < 65536 → length (premises_text (take n (i ∷ j ∷ []))) ≤ 15
unfolding premises_text
premises_limit zero i j l m = lit≤ tt
premises_limit (suc zero) i j l m = let a = (five_digits i l).1 in omega arith
premises_limit (suc (suc n)) i j l m =
    let a = (five_digits i l).1 in
    let b = (five_digits j m).1 in
    rw (take-nil {A = ℕ} n) (simp length-append (omega arith))

word_small : (s : List ℕ) (i : ℕ) → Bytes s → word s i < 65536
unfolding word
word_small s i b = let x = b i in let y = b (i + 1) in omega arith

first_small : (n i j : ℕ) → i < 65536 → get_or (take n (i ∷ j ∷ [])) 0 0 < 65536
first_small zero i j l = lit< tt
first_small (suc n) i j l = l

why_limit : (s : List ℕ) → Bytes s → length (why (step_at s)) ≤ 31
unfolding why step_at
why_limit s b =
    let k = get_or s 0 0 in
    let n = numbers_in (get_or s 0 0) in
    let v = get_or (take n (word s 8 ∷ word s 10 ∷ [])) 0 0 in
    let g = (five_digits v (first_small n (word s 8) (word s 10) (word_small s 8 b))).1 in
    let r = (five_digits (k - 65) (let l = b 0 in omega arith)).1 in
    let p = premises_limit n (word s 8) (word s 10) (word_small s 8 b) (word_small s 10 b) in
    either (eqb k 64) (ascii "assumption " ++ decimal v) _ (simp length-append (omega arith))
    (either (eqb k 65) (ascii "message " ++ decimal v) _ (simp length-append (omega arith)) (simp length-append (omega arith)))

step_limit : (fs : List Record) (i : ℕ) (s : List ℕ) → i < 18446744073709551616 → Bytes s → (0 < length (step_line fs i (step_at s))) × (length (step_line fs i (step_at s)) ≤ 4160)
unfolding step_line why_in_brackets
step_limit fs i s l b =
    let a = aligned_limit i l in
    let p = printed_limit (fact_text datum_text (stated_by fs (step_at s))) in
    let w = why_limit s b in
    simp length-append (omega arith, omega arith)

behind_bytes : (i : ℕ) (d : List ℕ) → Bytes d → Bytes (behind_steps i d)
unfolding behind_steps
behind_bytes zero d b = b
behind_bytes (suc i) d b = bytes_drop (step_size (get_or (behind_steps i d) 0 0)) (behind_steps i d) (behind_bytes i d b)

-- a first line that fits is a piece
first_fits : (line : ℕ → List ℕ) (left i room : ℕ) → 0 < left → 0 < length (line i) → length (line i) ≤ room → part_told (piece_of (fitting line left i room)) ≡ refused 14 0 → ⊥
unfolding fitting
first_fits line zero i room n l m e = omega arith
first_fits line (suc left) i room n l m e = go (fitting line left (suc i) (room - length (line i))) (rw (le-ltb room (length (line i)) m) at e)
  where
    go : (f : Fitting) → part_told (piece_of (record { bytes = line i ++ f.bytes; next = f.next })) ≡ refused 14 0 → ⊥
    go f e =
        let k = rw (ne_eqb (length (line i ++ f.bytes)) 0 (λ z. let y = length-append (line i) f.bytes in omega arith)) at e in
        let z : ◌≡◌ {A = ℕ} 0 1 = cc in
        omega arith

pub steps_fit : (s : List ℕ) (rs : List Record) → reading s ≡ accepted rs → (d : List ℕ) → Bytes d → length d < 18446744073709551616 → (from : ℕ) (t : List ℕ) → 4160 ≤ length t
    → steps_told s d from t ≡ refused 14 0 → ⊥
unfolding steps_told steps_for step_line_at
steps_fit s rs e d b few from t l h = go (behind_steps from d) refl (rw e at h)
  where
    go : (x : List ℕ) → behind_steps from d ≡ x → part_told (steps_among (formulas rs) d from (length t) x) ≡ refused 14 0 → ⊥
    go [] g h = let z : ◌≡◌ {A = ℕ} 0 1 = cc in omega arith
    go (k ∷ x) g h = pick (unreadable (formulas rs) (k ∷ x)) refl h
      where
        pick : (f : ℕ) → unreadable (formulas rs) (k ∷ x) ≡ f
            → part_told (cond (eqb f 0) (piece_of (fitting (step_line_at (formulas rs) d) (readable (formulas rs) (k ∷ x)) from (length t))) (refused f from)) ≡ refused 14 0 → ⊥
        pick zero u h =
            let y = ap length g in
            let f = steps_few d from (omega arith) in
            let n = step_limit (formulas rs) from (behind_steps from d) (omega arith) (behind_bytes from d b) in
            let m = readable_more (formulas rs) (k ∷ x) (omega arith) u in
            first_fits (step_line_at (formulas rs) d) (readable (formulas rs) (k ∷ x)) from (length t) (omega arith) n.0 (let z = n.1 in omega arith) h
        pick (suc f) u h =
            let y = rw (ne_eqb (suc f) 0 (λ v. omega arith)) at h in
            let z : ◌≡◌ {A = ℕ} (suc f) 14 = cc in
            ⊎_elim (λ v. omega arith) (λ v. omega arith) (either_fault (formulas rs) (k ∷ x) (sym u) (λ v. omega arith))

-- THE LINE OF A GOAL
goal_limit_line : (fs : List Record) (g : ℕ) (r : Record) → g < 65536 → r.first < 65536 → length (goal_line fs g r) ≤ 4160
unfolding goal_line goal_heading
goal_limit_line fs g r l m =
    let a = (five_digits g l).1 in
    let b = (five_digits r.first m).1 in
    let p = printed_limit (fact_text datum_text (goal_fact fs r)) in
    simp length-append (omega arith)

pub goal_fits : (s : List ℕ) → Bytes s → (rs : List Record) → reading s ≡ accepted rs → (g : ℕ) (t : List ℕ) → 4160 ≤ length t → goal_told s g t ≡ refused 14 0 → ⊥
unfolding goal_told goal_line_for
goal_fits s b rs e g t l h = go (leb (length (goals rs)) g) refl (rw e at h)
  where
    book : Book rs
    book = (accepted_is_book s rs b e).1

    go : (c : Bool) → leb (length (goals rs)) g ≡ c
        → length_told (cond c (refused 13 g) (cond (ltb (length t) (length (goal_line (formulas rs) g (get_or (goals rs) g no_record)))) (refused 14 0) (accepted (goal_line (formulas rs) g (get_or (goals rs) g no_record))))) ≡ refused 14 0 → ⊥
    go true z h = let y : ◌≡◌ {A = ℕ} 13 14 = cc in omega arith
    go false z h =
        let n = leb-false (length (goals rs)) g z in
        let few = goal_limit_lem rs book in
        let i = in_class (λ k. eqb k 34) (get_or (goals rs) g no_record) rs (among_at (goals rs) g n) in
        let m = all_at (λ q. q.kind ≡ 34 → q.first ≤ length (messages rs)) (get_or (goals rs) g no_record) rs (contents rs book).goal_after i.0 (eqb→eq (get_or (goals rs) g no_record).kind 34 i.1) in
        let k = message_limit_lem rs book in
        let w = goal_limit_line (formulas rs) g (get_or (goals rs) g no_record) (omega arith) (omega arith) in
        let y = rw (le-ltb (length t) (length (goal_line (formulas rs) g (get_or (goals rs) g no_record))) (omega arith)) at h in
        let x : ◌≡◌ {A = ℕ} 0 1 = cc in
        omega arith

-- THE LINE OF A PAIR: a name has five digits, and so has the number of a message
name_small : (rs : List Record) → Book rs → (y : ℕ) → name_of (formulas rs) y < 65536
name_small rs b y =
    elim (dec_lt y (length (formulas rs))) [
      | yes l ↦ (whole_fields (get_or (formulas rs) y no_record) (All-here (EachField Whole) (formulas rs) y no_record (all_of_kind (EachField Whole) is_formula_record rs (book_whole rs b)) l)).first
      | no l ↦ subst (λ (r : Record). r.first < 65536) (sym (get_or-eq_default (formulas rs) no_record {n = y} (omega arith))) (lit< tt)
    ]

pub disbelief_limit : (rs : List Record) → Book rs → (m x : ℕ) → m ≤ length (messages rs) → length (disbelief_line (formulas rs) (messages rs) m x) ≤ 4160
unfolding disbelief_line disbelief_heading
disbelief_limit rs b m x l =
    let few = message_limit_lem rs b in
    let y = (message_of (messages rs) m).first in
    let d = (five_digits m (omega arith)).1 in
    let n = (five_digits (name_of (formulas rs) y) (name_small rs b y)).1 in
    let p = printed_limit (text datum_text (tree_of (formulas rs) x)) in
    simp length-append (omega arith)

pub disbelief_fits : (s : List ℕ) → Bytes s → (rs : List Record) → reading s ≡ accepted rs → (m x : ℕ) (t : List ℕ) → 4160 ≤ length t → disbelief_told s m x t ≡ refused 14 0 → ⊥
unfolding disbelief_told disbelief_for
disbelief_fits s b rs e m x t l h = go (is_no_pair (formulas rs) (messages rs) m x) refl (rw e at h)
  where
    line : List ℕ
    line = disbelief_line (formulas rs) (messages rs) m x

    go : (c : Bool) → is_no_pair (formulas rs) (messages rs) m x ≡ c → length_told (cond c (refused 17 0) (whole (length t) line)) ≡ refused 14 0 → ⊥
    go true z h = let y : ◌≡◌ {A = ℕ} 17 14 = cc in omega arith
    go false z h =
        let w = disbelief_limit rs (accepted_is_book s rs b e).1 m x (pair_there (length (messages rs)) (length (formulas rs)) m x z).1 in
        let y = rw (le-ltb (length t) (length line) (omega arith)) at h in
        let x : ◌≡◌ {A = ℕ} 0 1 = cc in
        omega arith
