-- Lines that come in pieces: calls one after the other, each from where the one before told to go on, give all lines. Assumes nothing.
use Prim.Native.Nat.{ℕ, zero, suc, ◌+◌, ◌-◌, ◌<◌, ◌≤◌}
use native.Mathlib.Decide.{dec_lt}
use native.Mathlib.Omega.{arith}
use mathlib.Core.Path.{◌≡◌, refl, sym, ap, ap₂, ◌∙◌}
use mathlib.Core.List.{List, [], ◌++◌, append_assoc}
use mathlib.Core.Bool.{Bool, true, false, cond}
use lib.ListN.{length, drop, length-append}
use lib.Dec.{ltb, eqb}
use borrow.Author.Tests.{eqb-false}
use Rattle.logic.specs.Refusal.{Outcome}
use Rattle.logic.specs.Refusal.Outcome.{accepted, refused}
use Rattle.logic.specs.Listing.{Fitting, fitting, Part, piece_of, part_told, with_part}
use Rattle.logic.specs.Listing.Part.{piece, over}

-- `left` lines from number i on, one behind the other
unfoldable pub lines_from : (ℕ → List ℕ) → (left i : ℕ) → List ℕ
lines_from line zero i = []
lines_from line (suc left) i = line i ++ lines_from line left (suc i)

-- what fits, and the lines that are left behind it
pub record Splits (line : ℕ → List ℕ) (left i : ℕ) (f : Fitting) : Type 0 where
  pub rest : ℕ
  pub onward : i ≤ f.next
  pub sum : f.next + rest ≡ i + left
  pub same : f.bytes ++ lines_from line rest f.next ≡ lines_from line left i

pub fitting_splits : (line : ℕ → List ℕ) (left i room : ℕ) → Splits line left i (fitting line left i room)
unfolding fitting lines_from
fitting_splits line zero i room = record { rest = 0; onward = omega arith; sum = refl; same = refl }
fitting_splits line (suc left) i room =
    go (ltb room (length (line i))) (fitting line left (suc i) (room - length (line i))) (fitting_splits line left (suc i) (room - length (line i)))
  where
    go : (b : Bool) (f : Fitting) → Splits line left (suc i) f
        → Splits line (suc left) i (cond b (record { bytes = []; next = i }) (record { bytes = line i ++ f.bytes; next = f.next }))
    go true f h = record { rest = suc left; onward = omega arith; sum = refl; same = refl }
    go false f h =
        record {
          rest = h.rest;
          onward = (let o = h.onward in omega arith);
          sum = (let e = h.sum in omega arith);
          same = append_assoc (line i) f.bytes (lines_from line h.rest f.next) ∙ ap (λ (s : List ℕ). line i ++ s) h.same;
        }

-- a piece is what fits, and is not empty
pub the_piece : (f : Fitting) (s : List ℕ) (n : ℕ) → piece_of f ≡ accepted (piece s n) → (f.bytes ≡ s) × (f.next ≡ n) × (length f.bytes ≡ 0 → ⊥)
the_piece f s n = go (eqb (length f.bytes) 0) refl
  where
    go : (b : Bool) → eqb (length f.bytes) 0 ≡ b
        → ◌≡◌ {A = Outcome (Part (List ℕ))} (cond b (refused 14 0) (accepted (piece f.bytes f.next))) (accepted (piece s n))
        → (f.bytes ≡ s) × (f.next ≡ n) × (length f.bytes ≡ 0 → ⊥)
    go true h e = absurd (let z : ◌≡◌ {A = ℕ} 0 1 = cc in omega arith)
    go false h e = ((cc), (cc), eqb-false _ _ h)

pub not_over : (f : Fitting) → piece_of f ≡ accepted over → ⊥
not_over f = go (eqb (length f.bytes) 0)
  where
    go : (b : Bool) → ◌≡◌ {A = Outcome (Part (List ℕ))} (cond b (refused 14 0) (accepted (piece f.bytes f.next))) (accepted over) → ⊥
    go true e = let z : ◌≡◌ {A = ℕ} 0 1 = cc in omega arith
    go false e = let z : ◌≡◌ {A = ℕ} 0 1 = cc in omega arith

-- Calls one after the other, each from where the one before told to go on, with a buffer of any length, until it is over: what they
-- write, one behind the other, is `out`. `part from room` is what a call answers.
pub data Calls (part : (from room : ℕ) → Outcome (Part (List ℕ))) : (from : ℕ) → (out : List ℕ) → Type 0 where
  ended : (from room : ℕ) → part from room ≡ accepted over → Calls part from []
  more : (from room next : ℕ) (s out : List ℕ) → part from room ≡ accepted (piece s next) → Calls part next out → Calls part from (s ++ out)

-- an operation gives the lines up to number `last` in pieces: it is over only there, and a piece is as many lines as fit
pub record InPieces (part : (from room : ℕ) → Outcome (Part (List ℕ))) (line : ℕ → List ℕ) (last : ℕ) : Type 0 where
  pub over_at : (from room : ℕ) → from ≤ last → part from room ≡ accepted over → from ≡ last
  pub piece_at : (from room : ℕ) (s : List ℕ) (n : ℕ) → from ≤ last → part from room ≡ accepted (piece s n)
      → ((fitting line (last - from) from room).bytes ≡ s) × ((fitting line (last - from) from room).next ≡ n)

module _ {part : (from room : ℕ) → Outcome (Part (List ℕ))} {line : ℕ → List ℕ} {last : ℕ} (h : InPieces part line last) where
  -- THE CALLS GIVE ALL LINES, and they end behind the last
  pub calls_lines : (from : ℕ) (out : List ℕ) → from ≤ last → Calls part from out
      → (out ≡ lines_from line (last - from) from) × ((room : ℕ) × (part last room ≡ accepted over))
  unfolding lines_from
  calls_lines from out l (ended from₁ room e) =
      let d = h.over_at from room l e in
      let z : last - from ≡ 0 = omega arith in
      (rw z refl, (room, ap (λ (k : ℕ). part k room) (sym d) ∙ e))
  calls_lines from out₁ l (more from₁ room next s out e c) =
      let q = h.piece_at from room s next l e in
      let w = fitting_splits line (last - from) from room in
      let k : w.rest ≡ last - next = (let a = w.sum in let b = q.1 in omega arith) in
      let r = calls_lines next out (let a = w.sum in let b = q.1 in omega arith) c in (
        ap (λ (x : List ℕ). s ++ x) r.0
            ∙ ap₂ (λ (x : List ℕ) (n : ℕ). x ++ lines_from line n next) (sym q.0) (sym k)
            ∙ ap (λ (n : ℕ). (fitting line (last - from) from room).bytes ++ lines_from line w.rest n) (sym q.1)
            ∙ w.same,
        r.1,
      )

-- EACH PIECE GOES ON: the number answered is above the one that was asked from, so calls come to an end.
pub rises : (line : ℕ → List ℕ) (left i room : ℕ) → (length (fitting line left i room).bytes ≡ 0 → ⊥) → i < (fitting line left i room).next
rises line left i room some = go (fitting line left i room) (fitting_splits line left i room) some
  where
    go : (f : Fitting) → Splits line left i f → (length f.bytes ≡ 0 → ⊥) → i < f.next
    go f h some =
        elim (dec_lt i f.next) [
          | yes l ↦ l
          | no l ↦
              let e : f.next ≡ i = (let o = h.onward in omega arith) in
              let r : h.rest ≡ left = (let z = h.sum in omega arith) in
              let w = ap length h.same in
              let u = length-append f.bytes (lines_from line h.rest f.next) in
              let v : length (lines_from line h.rest f.next) ≡ length (lines_from line left i) = ap₂ (λ (a b : ℕ). length (lines_from line a b)) r e in
              absurd (some (omega arith))
        ]

-- the same of what an operation answers, and that the bytes told are within the buffer
pub told_part : (o : Outcome (Part (List ℕ))) (from : ℕ) (b : List ℕ) {b' : List ℕ} {k n : ℕ} → ((s : List ℕ) (m : ℕ) → o ≡ accepted (piece s m) → from < m)
    → accepted (piece k n) ≡ part_told o → b' ≡ with_part o b → (from < n) × (k ≤ length b')
told_part (refused f i) from b h e g = absurd (let z : ◌≡◌ {A = ℕ} 0 1 = cc in omega arith)
told_part (accepted over) from b h e g = absurd (let z : ◌≡◌ {A = ℕ} 0 1 = cc in omega arith)
told_part (accepted (piece s m)) from b {b'} {k} {n} h e g =
    let a : k ≡ length s = cc in
    let c : n ≡ m = cc in
    let l = h s m refl in
    (omega arith, (let z = ap length g ∙ length-append s (drop (length s) b) in omega arith))
