-- How long a listing can be. No line has more than 4,160 bytes, so A BUFFER OF 4,160 BYTES IS NEVER REFUSED, and no piece has more than
-- 38,914 × 4,160. Book and table are made of bytes. Assumes nothing.
use Prim.Native.Nat.{ℕ, zero, suc, ◌+◌, ◌*◌, ◌-◌, ◌<◌, ◌≤◌}
use native.Mathlib.Omega.{arith}
use mathlib.Core.Path.{◌≡◌, refl, ap, subst}
use mathlib.Core.List.{List, [], ◌∷◌, ◌++◌}
use mathlib.Core.Bool.{Bool, true, false, cond, ◌&&◌}
use lib.ListN.{length, get_or, take, length-append, length-map}
use lib.Seq.{length-take-le}
use lib.Dec.{leb, ltb, eqb, lit≤, lit<}
use borrow.Author.Tests.{le-ltb, ltb-false, leb-false, ne_eqb}
use Rattle.logic.specs.declared.Record.{Record}
use Rattle.logic.specs.declared.Audience.{Audience}
use Rattle.logic.specs.Count.{formulas, goals}
use Rattle.logic.specs.Refusal.{Outcome}
use Rattle.logic.specs.Refusal.Outcome.{accepted, refused}
use Rattle.logic.specs.Reading.{reading}
use Rattle.logic.specs.Book.{Book}
use Rattle.logic.specs.Place.{F, fact_at}
use Rattle.logic.specs.Written.{meaning, is_written}
use Rattle.logic.specs.Survey.{held, is_within}
use Rattle.logic.specs.Text.{datum_for, fact_text}
use Rattle.logic.specs.PerCent.{per_cent}
use Rattle.logic.specs.Listing.{fact_line, place_line, held_line, goals_line, count_true, marks_by, goal_byte, line_at, line_count, Fitting, fitting, Part, piece_of, part_among, part_for, part_told, listing_told}
use Rattle.logic.specs.Listing.Part.{piece, over}
use Rattle.logic.proofs.Bytes.{Bytes}
use Rattle.logic.proofs.Follows.{goal_limit_lem}
use Rattle.text.proofs.Calls.{fitting_splits}
use Rattle.logic.proofs.Limits.{size_limit}
use Rattle.logic.proofs.PerCent.{per_cent_most}
use Rattle.logic.proofs.BookRead.{accepted_is_book}
use Rattle.digits.proofs.Put.{five_digits}
use Rattle.text.proofs.Room.{printed_limit}
use Rattle.capi.proofs.Bounds.{either_way, count_le}

fact_limit : (v : ℕ) (t : List ℕ) → v < 256 → length (fact_line v t) ≤ 4160
fact_limit v t l =
    let a = (five_digits (v - 1) (omega arith)).1 in
    let b = printed_limit t in
    simp length-append (omega arith)

place_limit : (a : Audience) (fs : List Record) (i v : ℕ) → v < 256 → length (place_line a fs i v) ≤ 4160
unfolding place_line
place_limit a fs i v l =
    either_way (λ (s : List ℕ). length s ≤ 4160) (ltb 0 v && (ltb i (F fs) && is_written fs (fact_at fs i))) (fact_line v (fact_text (datum_for a fs) (meaning fs (fact_at fs i)))) []
    (fact_limit v (fact_text (datum_for a fs) (meaning fs (fact_at fs i))) l) (lit≤ tt)

held_limit : (H : ℕ) → H < 65536 → length (held_line H) ≤ 4160
unfolding held_line
held_limit H l = let a = (five_digits H l).1 in simp length-append (omega arith)

goals_limit : (R G : ℕ) → R ≤ G → G ≤ 32 → (0 < length (goals_line R G)) × (length (goals_line R G) ≤ 4160)
unfolding goals_line
goals_limit R G k l =
    let a = (five_digits R (omega arith)).1 in
    let b = (five_digits G (omega arith)).1 in
    let c = (five_digits (per_cent R G) (let m = per_cent_most R G k in omega arith)).1 in
    simp length-append (omega arith, omega arith)

true_few : (bs : List Bool) → count_true bs ≤ length bs
unfolding count_true
true_few [] = lit≤ tt
true_few (b ∷ bs) = let l = true_few bs in let k : cond b 1 0 ≤ 1 = either_way (λ (z : ℕ). z ≤ 1) b 1 0 (lit≤ tt) (lit≤ tt) in omega arith

module _ (a : Audience) (rs : List Record) (k : Book rs) (t : List ℕ) (b : Bytes t) (long : F (formulas rs) ≤ length t) where
  abbrev fs : List Record
  fs = formulas rs

  abbrev line : ℕ → List ℕ
  line = line_at a fs (goals rs) t

  last_limit : (0 < length (goals_line (count_true (marks_by fs (goals rs) t)) (length (goals rs)))) × (length (goals_line (count_true (marks_by fs (goals rs) t)) (length (goals rs))) ≤ 4160)
  unfolding marks_by
  last_limit =
      let g = goal_limit_lem rs k in
      let m = true_few (marks_by fs (goals rs) t) in
      let e = length-map (goals rs) (λ r. is_within r.first (goal_byte fs t r)) in
      goals_limit (count_true (marks_by fs (goals rs) t)) (length (goals rs)) (omega arith) g

  pub line_limit : (i : ℕ) → length (line i) ≤ 4160
  unfolding line_at
  line_limit i =
      either_way (λ (s : List ℕ). length s ≤ 4160) (ltb i (F fs)) (place_line a fs i (get_or t i 0)) _ (place_limit a fs i (get_or t i 0) (b i))
      (either_way (λ (s : List ℕ). length s ≤ 4160) (eqb i (F fs)) (held_line (held (take (F fs) t))) _
      (held_limit (held (take (F fs) t)) (let a = count_le (λ v. ltb 0 v) (take (F fs) t) in let c = length-take-le (F fs) t long in let d = size_limit rs k in omega arith))
      last_limit.1)

  line_last : (i : ℕ) → i ≡ F fs + 1 → 0 < length (line i)
  unfolding line_at
  line_last i e = rw (le-ltb i (F fs) (omega arith), ne_eqb i (F fs) (omega arith)) last_limit.0

-- `left` lines of at most 4,160 bytes
few_bytes : (line : ℕ → List ℕ) → ((j : ℕ) → length (line j) ≤ 4160) → (left i room : ℕ) → length (fitting line left i room).bytes ≤ left * 4160
unfolding fitting
few_bytes line h zero i room = lit≤ tt
few_bytes line h (suc left) i room =
    go (ltb room (length (line i))) (fitting line left (suc i) (room - length (line i))) (few_bytes line h left (suc i) (room - length (line i)))
  where
    go : (b : Bool) (f : Fitting) → length f.bytes ≤ left * 4160
        → length (cond {A = Fitting} b (record { bytes = []; next = i }) (record { bytes = line i ++ f.bytes; next = f.next })).bytes ≤ suc left * 4160
    go true f l = omega arith
    go false f l = let k = length-append (line i) f.bytes in let m = h i in omega arith

-- what may be said of a piece
abbrev pub PartBounds : Outcome (Part (List ℕ)) → Type 0
PartBounds (accepted (piece s n)) = (length s ≤ 161882240) × (n ≤ 38914)
PartBounds (accepted over) = Unit
PartBounds (refused f i) = (0 < f) × (f < 256) × (i ≤ 65535)

piece_bounds : (f : Fitting) → length f.bytes ≤ 161882240 → f.next ≤ 38914 → PartBounds (piece_of f)
piece_bounds f a b = either_way PartBounds (eqb (length f.bytes) 0) (refused 14 0) (accepted (piece f.bytes f.next)) (lit< tt, lit< tt, lit≤ tt) (a, b)

pub part_bounds : (a : Audience) (rs : List Record) → Book rs → (t : List ℕ) → Bytes t → (from room : ℕ) → PartBounds (part_among a (formulas rs) (goals rs) t from room)
part_bounds a rs k t b from room = table (ltb (length t) (F (formulas rs))) refl
  where
    ln : ℕ → List ℕ
    ln = line_at a (formulas rs) (goals rs) t

    rest : F (formulas rs) ≤ length t → (q : Bool) → leb (line_count (formulas rs)) from ≡ q
        → PartBounds (cond q (accepted over) (piece_of (fitting ln (line_count (formulas rs) - from) from room)))
    rest l true e = tt
    rest l false e =
        let m = size_limit rs k in
        let z = leb-false (line_count (formulas rs)) from e in
        let s = (fitting_splits ln (line_count (formulas rs) - from) from room).sum in
        let n = few_bytes ln (line_limit a rs k t b l) (line_count (formulas rs) - from) from room in
        piece_bounds (fitting ln (line_count (formulas rs) - from) from room) (omega arith) (omega arith)

    table : (q : Bool) → ltb (length t) (F (formulas rs)) ≡ q → PartBounds (cond q (refused 14 0) (cond (leb (line_count (formulas rs)) from) (accepted over) (piece_of (fitting ln (line_count (formulas rs) - from) from room))))
    table true e = (lit< tt, lit< tt, lit≤ tt)
    table false e = rest (ltb-false (length t) (F (formulas rs)) e) (leb (line_count (formulas rs)) from) refl

-- of lines that are no longer than the room, of which the last is not empty, some fit
some_fit : (line : ℕ → List ℕ) (left i room : ℕ) → ((j : ℕ) → length (line j) ≤ room) → 0 < length (line (i + left)) → 0 < length (fitting line (suc left) i room).bytes
unfolding fitting
some_fit line zero i room h s =
    let z : length (line (i + 0)) ≡ length (line i) = ap (λ (j : ℕ). length (line j)) (let y : i + 0 ≡ i = omega arith in y) in
    rw (le-ltb room (length (line i)) (h i), length-append) (omega arith)
some_fit line (suc left) i room h s =
    rw (le-ltb room (length (line i)) (h i), length-append)
    (go (length (line i)) (some_fit line left (suc i) room h (subst (λ (j : ℕ). 0 < length (line j)) (let y : i + suc left ≡ suc i + left = omega arith in y) s)))
  where
    go : (m : ℕ) → 0 < length (fitting line (suc left) (suc i) room).bytes → 0 < m + length (fitting line (suc left) (suc i) (room - m)).bytes
    go (suc m) p = omega arith
    go zero p = subst (λ (r : ℕ). 0 < 0 + length (fitting line (suc left) (suc i) r).bytes) (let y : room ≡ room - 0 = omega arith in y) (omega arith)

some_piece : (g : Fitting) (f i : ℕ) → 0 < length g.bytes → part_told (piece_of g) ≡ refused f i → ⊥
some_piece g f i p h =
    let k = rw (ne_eqb (length g.bytes) 0 (omega arith)) at h in
    let z : ◌≡◌ {A = ℕ} 0 1 = cc in
    omega arith

-- a buffer of 4,160 bytes is never refused, in an accepted book with a table of F bytes
pub list_fits : (a : Audience) (s : List ℕ) → Bytes s → (rs : List Record) → reading s ≡ accepted rs → (table : List ℕ) → Bytes table → F (formulas rs) ≤ length table
    → (from : ℕ) (t : List ℕ) → 4160 ≤ length t → (f i : ℕ) → listing_told a s table from t ≡ refused f i → ⊥
unfolding listing_told part_for
list_fits a s b rs e table c l from t k f i h =
    go (leb (line_count (formulas rs)) from) refl (rw (e, le-ltb (length table) (F (formulas rs)) l) at h)
  where
    book : Book rs
    book = (accepted_is_book s rs b e).1

    ln : ℕ → List ℕ
    ln = line_at a (formulas rs) (goals rs) table

    some : from < line_count (formulas rs) → 0 < length (fitting ln (line_count (formulas rs) - from) from (length t)).bytes
    some m =
        subst (λ (n : ℕ). 0 < length (fitting ln n from (length t)).bytes) (let y : suc (F (formulas rs) + 1 - from) ≡ line_count (formulas rs) - from = omega arith in y)
        (some_fit ln (F (formulas rs) + 1 - from) from (length t) (λ j. let q = line_limit a rs book table c l j in omega arith)
        (line_last a rs book table c l (from + (F (formulas rs) + 1 - from)) (omega arith)))

    go : (q : Bool) → leb (line_count (formulas rs)) from ≡ q
        → part_told (cond q (accepted over) (piece_of (fitting ln (line_count (formulas rs) - from) from (length t)))) ≡ refused f i → ⊥
    go true z h = let y : ◌≡◌ {A = ℕ} 0 1 = cc in omega arith
    go false z h = some_piece (fitting ln (line_count (formulas rs) - from) from (length t)) f i (some (leb-false (line_count (formulas rs)) from z)) h
