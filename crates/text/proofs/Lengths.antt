-- Lengths up to 5,000, by record: what the table of lengths holds is the length of the text, where that is at most 5,000.
-- Assumes nothing.
use Prim.Native.Nat.{ℕ, ◌+◌, ◌<◌}
use native.Mathlib.Decide.{ℕ_discrete}
use native.Mathlib.Omega.{arith}
use mathlib.Core.Path.{◌≡◌, refl, ap, ◌∙◌}
use mathlib.Core.List.{List, ◌∷◌, ◌++◌, append-nil}
use mathlib.Core.Bool.{Bool, true, false, cond}
use lib.ListN.{length, get_or, set, length-append}
use lib.Seq.{get_or-set_same, get_or-set_other}
use Rattle.logic.specs.declared.Record.{Record}
use Rattle.logic.specs.declared.Audience.{Audience}
use Rattle.format.specs.Index.{look_in}
use Rattle.logic.proofs.Formulas.{Formulas}
use Rattle.words.specs.Words.{is_leaf, inner_of, before, behind, is_pair, goes_on, ending, ahead}
use Rattle.words.specs.Lengths.{capped, front_length, length_by, fact_length}
use Rattle.written.specs.Stated.{records_in}
use Rattle.text.specs.Printing.{text_in, list_in, Measured, fact_text_in}
use Rattle.text.proofs.Shape.{leaf_here, inner_below, second_below, front_text, list_text_lem, bracket_text, comma_text, pair_on, on_kinds, right_list, right_none, right_one}

-- n is the length of s, as far as it is kept
abbrev Near : List ℕ → ℕ → Type 0
Near s n = capped n ≡ capped (length s)

near_kept : (s : List ℕ) (n : ℕ) → n ≡ capped (length s) → Near s n
near_kept s n h = omega arith

near_cap : (s : List ℕ) (n : ℕ) → Near s n → Near s (capped n)
near_cap s n h = omega arith

near_as : {s t : List ℕ} (n : ℕ) → s ≡ t → Near t n → Near s n
near_as n e h = rw e h

near_then : (s t : List ℕ) (n m : ℕ) → Near s n → Near t m → Near (s ++ t) (n + m)
near_then s t n m g h = rw (length-append s t) (omega arith)

-- a fact, with the length of X from the table
pub fact_long : (a : Audience) (f : ℕ) (t ls : List ℕ) (look : ℕ → Record) (m p q x : ℕ) → Measured a f t ls f → x < f
    → fact_length look ls m p q x ≡ capped (length (fact_text_in a f t look m p q x))
unfolding fact_text_in
fact_long a f t ls look m p q x h l = near_then (ahead look m p q) (text_in a f t x) (length (ahead look m p q)) (get_or ls x 0) refl (near_kept (text_in a f t x) (get_or ls x 0) (h x l))

-- Formula x, whose record is r, where the lengths of the formulas before it are known.
module _ (a : Audience) (f : ℕ) (t ls : List ℕ) (ok : Formulas (records_in f t)) (x : ℕ) (known : Measured a f t ls x) (l : x < length (records_in f t)) (r : Record) (e : r ≡ look_in f t x) where
  abbrev length_of : ℕ → ℕ
  length_of y = get_or ls y 0

  module _ (k : is_leaf r.kind ≡ false) where
    inner_long : Near (text_in a f t (inner_of r)) (length_of (inner_of r))
    inner_long = near_kept (text_in a f t (inner_of r)) (length_of (inner_of r)) (known (inner_of r) (inner_below a f t ok x l r e refl k))

    second_long : is_pair r.kind ≡ true → Near (text_in a f t r.second) (length_of r.second)
    second_long p = near_kept (text_in a f t r.second) (length_of r.second) (known r.second (second_below a f t ok x l r e p))

    -- A list goes on: (X, Y, Z) is (Y, Z) with X, a comma and a space in it.
    longer : goes_on (look_in f t) r ≡ true → length (text_in a f t x) ≡ length (text_in a f t (inner_of r)) + 2 + length (text_in a f t r.second)
    unfolding inner_of
    longer g =
        let z = on_kinds a f t r g in
        let b : r.second < length (records_in f t) = omega (arith, second_below a f t ok x l r e (pair_on r.kind z.0)) in
        let h : inner_of r ≡ r.first = rw z.0 refl in
        rw (
          h,
          bracket_text a f t ok x l r e z.0,
          list_text_lem a f t ok x l r e z.0,
          comma_text a f t ok x l r e z.0,
          right_list a f t r g,
          bracket_text a f t ok r.second b (look_in f t r.second) refl z.1,
        )
        (omega (arith, length-append (text_in a f t r.first) (44 ∷ 32 ∷ list_in a f t r.second)))

    list_long : goes_on (look_in f t) r ≡ true → capped (capped (length_of (inner_of r) + 2) + length_of r.second) ≡ capped (length (text_in a f t x))
    list_long g =
        let i = known (inner_of r) (inner_below a f t ok x l r e refl k) in
        let s = known r.second (second_below a f t ok x l r e (pair_on r.kind (on_kinds a f t r g).0)) in
        omega (arith, longer g, i, s)

    -- what stands before, what stands behind, and the inner formula between them
    abbrev front : List ℕ
    front = before (look_in f t) r ++ (text_in a f t (inner_of r) ++ behind (look_in f t) r)

    abbrev front_sum : ℕ
    front_sum = length (before (look_in f t) r) + capped (length_of (inner_of r) + length (behind (look_in f t) r))

    front_long : Near front front_sum
    front_long =
        let w = behind (look_in f t) r in
        let i = text_in a f t (inner_of r) in
        let n = length_of (inner_of r) + length w in
        near_then (before (look_in f t) r) (i ++ w) (length (before (look_in f t) r)) (capped n) refl
        (near_cap (i ++ w) n (near_then i w (length_of (inner_of r)) (length w) inner_long refl))

    none_long : is_pair r.kind ≡ false → capped front_sum ≡ capped (length (text_in a f t x))
    none_long p =
        near_as front_sum (front_text a f t ok x l r e refl k ∙ ap (λ (s : List ℕ). front ++ s) (right_none a f t r p) ∙ append-nil front) front_long

    pair_long : goes_on (look_in f t) r ≡ false → is_pair r.kind ≡ true
        → capped (capped front_sum + capped (length_of r.second + length (ending r.kind))) ≡ capped (length (text_in a f t x))
    pair_long g p =
        let w : r.second < length (records_in f t) = omega (arith, second_below a f t ok x l r e p) in
        let s = text_in a f t r.second in
        let z = ending r.kind in
        let n = length_of r.second + length z in
        near_as (capped front_sum + capped n) (front_text a f t ok x l r e refl k ∙ ap (λ (q : List ℕ). front ++ q) (right_one a f t r ok w g p))
        (near_then front (s ++ z) (capped front_sum) (capped n) (near_cap front front_sum front_long)
        (near_cap (s ++ z) n (near_then s z (length_of r.second) (length z) (second_long p) refl)))

  -- the length that is told is that of the text
  pub length_right : length_by a (look_in f t) ls x r ≡ capped (length (text_in a f t x))
  unfolding length_by
  length_right = by (is_leaf r.kind) refl
    where
      go : is_leaf r.kind ≡ false → (g : Bool) → goes_on (look_in f t) r ≡ g → (p : Bool) → is_pair r.kind ≡ p
          → cond g (capped (capped (length_of (inner_of r) + 2) + length_of r.second))
          (cond p (capped (front_length (look_in f t) r (length_of (inner_of r)) + capped (length_of r.second + length (ending r.kind))))
          (front_length (look_in f t) r (length_of (inner_of r))))
          ≡ capped (length (text_in a f t x))
      go k true eg p ep = list_long k eg
      go k false eg true ep = pair_long k eg ep
      go k false eg false ep = none_long k ep

      by : (b : Bool) → is_leaf r.kind ≡ b → length_by a (look_in f t) ls x r ≡ capped (length (text_in a f t x))
      by true k = rw (k, leaf_here a f t ok x l r e k) refl
      by false k = rw k (go k (goes_on (look_in f t) r) refl (is_pair r.kind) refl)

-- one length more
pub measured_more : (a : Audience) (f : ℕ) (t ls : List ℕ) {ls' : List ℕ} (i : ℕ) {n : ℕ} → Measured a f t ls i → i < length ls → n ≡ capped (length (text_in a f t i)) → ls' ≡ set ls i n
    → Measured a f t ls' (i + 1)
measured_more a f t ls i {n} h l g e y b =
    rw e (elim (ℕ_discrete y i) [
      | yes d ↦ rw (d, get_or-set_same ls i n 0 l) g
      | no d ↦ rw (get_or-set_other ls i y n 0 d) (h y (omega arith))
    ])
