-- Per cent is 100 × R / G to the nearest whole number, at the half to the even one: `Rounded` holds of this figure and of no other.
use Prim.Native.Nat.{ℕ, suc, ◌+◌, ◌*◌, ◌/◌, ◌%◌, ◌<◌, ◌≤◌}
use native.Mathlib.Nat.{div-add-mod', mod-lt, mul-le-mul_right, suc-mul}
use native.Mathlib.Decide.{dec_lt}
use native.Mathlib.Omega.{arith}
use mathlib.Core.Path.{◌≡◌, refl}
use mathlib.Core.Bool.{Bool, true, false, cond}
use mathlib.Core.List.{[], ◌∷◌, ◌++◌, map}
use lib.Dec.{ltb}
use borrow.Author.Tests.{ltb-true, ltb-false, ne_eqb}
use Rattle.logic.specs.Text.{ascii, digits, decimal}
use Rattle.logic.specs.Listing.{line_feed, goals_line}
use Rattle.logic.specs.PerCent.{even_neighbour, nearest, per_cent, distance, Rounded}

-- "1 of 8 prints 12 and 3 of 8 prints 38": every number of eight goals
eighths : map (λ R. per_cent R 8) (0 ∷ 1 ∷ 2 ∷ 3 ∷ 4 ∷ 5 ∷ 6 ∷ 7 ∷ 8 ∷ []) ≡ 0 ∷ 12 ∷ 25 ∷ 38 ∷ 50 ∷ 62 ∷ 75 ∷ 88 ∷ 100 ∷ []
unfolding per_cent
eighths = refl

line_row : goals_line 1 8 ≡ ascii "goals 1 of 8, 12 per cent" ++ line_feed
unfolding goals_line decimal digits per_cent
line_row = refl

-- "No goals still prints 0."
pub per_cent_none : (R : ℕ) → per_cent R 0 ≡ 0
unfolding per_cent
per_cent_none R = refl

-- the quotient q of 100 × R by G with the remainder r, and its neighbour q + 1
module _ (R G q r : ℕ) (e : q * G + r ≡ 100 * R) (l : r < G) where
  lower : 2 * r ≤ G → (2 * r ≡ G → q % 2 ≡ 0) → Rounded R G q
  lower n h = record { near = omega arith; at_half = λ s. h (omega arith) }

  upper : G ≤ 2 * r → (2 * r ≡ G → (q + 1) % 2 ≡ 0) → Rounded R G (q + 1)
  upper n h = let k = suc-mul q G in record { near = omega arith; at_half = λ s. h (omega arith) }

  even_rounded : 2 * r ≡ G → Rounded R G (even_neighbour q)
  even_rounded s =
      elim (dec_lt (q % 2) 1) [
        | yes m ↦ let z : even_neighbour q ≡ q = omega arith in rw z (lower (omega arith) (λ _. omega arith))
        | no m ↦ let z : even_neighbour q ≡ q + 1 = omega arith in rw z (upper (omega arith) (λ _. omega arith))
      ]

  nearest_rounded : Rounded R G (nearest q r G)
  nearest_rounded = go (ltb (2 * r) G) (ltb G (2 * r)) refl refl
    where
      go : (b c : Bool) → ltb (2 * r) G ≡ b → ltb G (2 * r) ≡ c → Rounded R G (cond b q (cond c (q + 1) (even_neighbour q)))
      go true c f g = let k = ltb-true (2 * r) G f in lower (omega arith) (λ s. absurd (omega arith))
      go false true f g = let k = ltb-true G (2 * r) g in upper (omega arith) (λ s. absurd (omega arith))
      go false false f g =
          let k = ltb-false (2 * r) G f in
          let j = ltb-false G (2 * r) g in
          even_rounded (omega arith)

-- TWICE THE DISTANCE of C × G from 100 × R is at most G, and where it is G, C is even
pub per_cent_rounded : (R G : ℕ) → 0 < G → Rounded R G (per_cent R G)
unfolding per_cent
per_cent_rounded R G l =
    rw (ne_eqb G 0 (omega arith)) (nearest_rounded R G (100 * R / G) (100 * R % G) (div-add-mod' (100 * R) G) (mod-lt (100 * R) l))

-- of two such figures, both would be just half of G away, and so both even and next to each other
not_below : (R G C D : ℕ) → 0 < G → Rounded R G C → Rounded R G D → C < D → ⊥
not_below R G C D l c d m =
    let k = mul-le-mul_right {m = suc C} {n = D} G m in
    let j = suc-mul C G in
    let n = c.near in
    let p = d.near in
    let x = c.at_half (omega arith) in
    let y = d.at_half (omega arith) in
    elim (dec_lt (suc C) D) [
      | yes u ↦ omega (arith, mul-le-mul_right {m = suc (suc C)} {n = D} G u, suc-mul (suc C) G)
      | no u ↦ omega arith
    ]

-- NO OTHER FIGURE is like this
pub per_cent_only : (R G C : ℕ) → 0 < G → Rounded R G C → C ≡ per_cent R G
per_cent_only R G C l c =
    let d = per_cent_rounded R G l in
    elim (dec_lt C (per_cent R G)) [
      | yes m ↦ absurd (not_below R G C (per_cent R G) l c d m)
      | no m ↦
          elim (dec_lt (per_cent R G) C) [
            | yes n ↦ absurd (not_below R G (per_cent R G) C l d c n)
            | no n ↦ omega arith
          ]
    ]

-- at most 100 per cent are reached
pub per_cent_most : (R G : ℕ) → R ≤ G → per_cent R G ≤ 100
per_cent_most R G h =
    elim (dec_lt 0 G) [
      | yes l ↦ go (per_cent R G) (per_cent_rounded R G l).near l
      | no l ↦ let z : G ≡ 0 = omega arith in rw (z, per_cent_none R) (omega arith)
    ]
  where
    go : (C : ℕ) → 2 * distance (C * G) (100 * R) ≤ G → 0 < G → C ≤ 100
    go C n l =
        elim (dec_lt 100 C) [
          | yes m ↦ absurd (omega (arith, mul-le-mul_right {m = 101} {n = C} G m))
          | no m ↦ omega arith
        ]

-- in a book, which has at most 32 goals, 100 per cent are all of them and 0 per cent none
pub per_cent_all : (R G : ℕ) → 0 < G → G ≤ 32 → per_cent R G ≡ 100 → R ≡ G
per_cent_all R G l m e = let n = rw e at (per_cent_rounded R G l).near in omega arith

pub per_cent_zero : (R G : ℕ) → 0 < G → G ≤ 32 → per_cent R G ≡ 0 → R ≡ 0
per_cent_zero R G l m e = let n = rw e at (per_cent_rounded R G l).near in omega arith
