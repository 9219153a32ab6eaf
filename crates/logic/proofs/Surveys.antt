-- The survey's place rule: it leaves no choice, and what it says of each fact by its place.
use Prim.Native.Nat.{ℕ, ◌+◌, ◌≤◌, ◌<◌}
use mathlib.Core.Path.{◌≡◌, sym, ◌∙◌, ap, subst}
use mathlib.Core.Logic.{inl, inr, ◌↔◌}
use mathlib.Core.List.{List, ◌++◌}
use mathlib.Core.Bool.{Bool, true, false, cond, not}
use native.Mathlib.Omega.{arith}
use native.Mathlib.Decide.{dec_lt}
use lib.ListN.{get_or, drop}
use lib.Seq.{ext_get_or}
use lib.Dec.{T}
use Rattle.logic.specs.declared.Record.{Record}
use Rattle.logic.specs.Count.{formulas}
use Rattle.logic.specs.Refusal.{Outcome}
use Rattle.logic.specs.Refusal.Outcome.{accepted, refused}
use Rattle.logic.specs.Reading.{reading}
use Rattle.logic.specs.Formula.{Tree}
use Rattle.logic.specs.Fact.{Fact, initial}
use Rattle.logic.specs.Fact.Fact.{Sees, Believes, BelievesFresh, BelievesSaid, BelievesBelieves}
use Rattle.logic.specs.Derivation.{Among, Derivable}
use Rattle.logic.specs.Written.{meaning, is_written}
use Rattle.logic.specs.Place.{F, place, fact_at}
use Rattle.logic.specs.Survey.{FirstAfter, ByteOf, PlaceHolds, IsSurvey, held, SurveyedAfter, Surveyed}
use Rattle.logic.proofs.Derivable.{follows_more}
use Rattle.logic.proofs.Meaning.{Valid, valid, formula_in_lem}
use Rattle.logic.proofs.Places.{Placed, fact_at_place, place_below}

-- AT MOST ONE SURVEY.

first_once : (fs : List Record) (given : ℕ → List (Fact Tree)) (f : Fact Tree) (m k : ℕ) → FirstAfter fs given f m → FirstAfter fs given f k → m ≡ k
first_once fs given f m k (d, h) (e, i) =
    elim (dec_lt m k) [
      | yes l ↦ absurd (i m l d)
      | no n ↦ elim (dec_lt k m) [ yes l ↦ absurd (h k l e) | no o ↦ (omega arith) ]
    ]

pub byte_once : (fs : List Record) (given : ℕ → List (Fact Tree)) (f : Fact Tree) (v w : ℕ) → ByteOf fs given f v → ByteOf fs given f w → v ≡ w
byte_once fs given f v w (inl (a, n)) (inl (b, o)) = a ∙ sym b
byte_once fs given f v w (inl (a, n)) (inr (m, b, (d, h))) = absurd (n m d)
byte_once fs given f v w (inr (m, a, (d, h))) (inl (b, o)) = absurd (o m d)
byte_once fs given f v w (inr (m, a, d)) (inr (k, b, e)) = a ∙ (ap (λ i. 1 + i) (first_once fs given f m k d e) ∙ sym b)

place_holds_once : (fs : List Record) (given : ℕ → List (Fact Tree)) (i v w : ℕ) → PlaceHolds fs given i v → PlaceHolds fs given i w → v ≡ w
place_holds_once fs given i v w = go (is_written fs (fact_at fs i))
  where
    go : (b : Bool) → cond b (ByteOf fs given (meaning fs (fact_at fs i)) v) (v ≡ 0)
        → cond b (ByteOf fs given (meaning fs (fact_at fs i)) w) (w ≡ 0) → v ≡ w
    go true h k = byte_once fs given (meaning fs (fact_at fs i)) v w h k
    go false h k = h ∙ sym k

pub survey_once : (fs : List Record) (given : ℕ → List (Fact Tree)) (t u : List ℕ) → IsSurvey fs given t → IsSurvey fs given u → t ≡ u
survey_once fs given t u s r =
    ext_get_or 0 t u (s.size ∙ sym r.size)
    (λ i l. let h : i < F fs = subst (λ n. i < n) s.size l in
    place_holds_once fs given i (get_or t i 0) (get_or u i 0) (s.holds i h) (r.holds i h))

surveyed_after_once : (r : Outcome (List Record)) (t t₁ t₂ : List ℕ) (o u : Outcome ℕ) → SurveyedAfter r t t₁ o → SurveyedAfter r t t₂ u
    → (o ≡ u) × (t₁ ≡ t₂)
surveyed_after_once (refused f i) t t₁ t₂ o u (a, b) (c, d) = (a ∙ sym c, b ∙ sym d)
surveyed_after_once (accepted rs) t t₁ t₂ o u (inl (l, a, b)) (inl (k, c, d)) = (a ∙ sym c, b ∙ sym d)
surveyed_after_once (accepted rs) t t₁ t₂ o u (inl (l, a, b)) (inr (k, c)) = absurd (omega arith)
surveyed_after_once (accepted rs) t t₁ t₂ o u (inr (l, a)) (inl (k, c, d)) = absurd (omega arith)
surveyed_after_once (accepted rs) t t₁ t₂ o u (inr (l, (v, s, a, b))) (inr (k, (w, r, c, d))) =
    let e = survey_once (formulas rs) (initial rs) v w s r in
    (a ∙ (ap (λ x. accepted (held x)) e ∙ sym c), b ∙ (ap (λ x. x ++ drop (F (formulas rs)) t) e ∙ sym d))

-- the survey's answer and the table are fixed by the bytes it is given
pub surveyed_once : (b t t₁ t₂ : List ℕ) (o u : Outcome ℕ) → Surveyed b t t₁ o → Surveyed b t t₂ u → (o ≡ u) × (t₁ ≡ t₂)
surveyed_once b t t₁ t₂ o u v w = surveyed_after_once (reading b) t t₁ t₂ o u v w

-- WHAT IT SAYS OF EACH FACT.

pub placed : (fs : List Record) (g : Fact ℕ) → Valid fs g → Placed fs g
placed fs (Sees P x) v = (v.0, formula_in_lem fs x v.1.0)
placed fs (Believes P x) v = (v.0, formula_in_lem fs x v.1.0)
placed fs (BelievesFresh P x) v = (v.0, formula_in_lem fs x v.1.0)
placed fs (BelievesSaid P Q x) v = (v.0, v.1, formula_in_lem fs x v.2.0)
placed fs (BelievesBelieves P Q x) v = (v.0, v.1, formula_in_lem fs x v.2.0)

module _ (fs : List Record) (given : ℕ → List (Fact Tree)) (t : List ℕ) (s : IsSurvey fs given t) where
  at_place : (g : Fact ℕ) → Placed fs g
      → cond (is_written fs g) (ByteOf fs given (meaning fs g) (get_or t (place fs g) 0)) (get_or t (place fs g) 0 ≡ 0)
  at_place g p =
      subst (λ h. cond (is_written fs h) (ByteOf fs given (meaning fs h) (get_or t (place fs g) 0)) (get_or t (place fs g) 0 ≡ 0))
      (fact_at_place fs g p) (s.holds (place fs g) (place_below fs g p))

  -- the place of a written fact holds its byte
  pub at_written : (g : Fact ℕ) → T (is_written fs g) → ByteOf fs given (meaning fs g) (get_or t (place fs g) 0)
  at_written g w = go (is_written fs g) w (at_place g (placed fs g (valid fs g w)))
    where
      go : (b : Bool) → T b
          → cond b (ByteOf fs given (meaning fs g) (get_or t (place fs g) 0)) (get_or t (place fs g) 0 ≡ 0)
          → ByteOf fs given (meaning fs g) (get_or t (place fs g) 0)
      go false w h = elim w [ ]
      go true w h = h

  -- PLACES of unopened beliefs, of principals, keys and variables, and of formulas with a loose variable, hold 0
  pub at_unwritten : (g : Fact ℕ) → Placed fs g → T (not (is_written fs g)) → get_or t (place fs g) 0 ≡ 0
  at_unwritten g p w = go (is_written fs g) w (at_place g p)
    where
      go : (b : Bool) → T (not b)
          → cond b (ByteOf fs given (meaning fs g) (get_or t (place fs g) 0)) (get_or t (place fs g) 0 ≡ 0)
          → get_or t (place fs g) 0 ≡ 0
      go true w h = elim w [ ]
      go false w h = h

  -- where what is given never lapses, a written fact follows up to message m if and only if its byte is 1 to 1 + m
  pub follows_by_byte : ((k m : ℕ) → k ≤ m → (f : Fact Tree) → Among f (given k) → Among f (given m)) → (g : Fact ℕ) → T (is_written fs g) → (m : ℕ)
      → Derivable fs (given m) (meaning fs g) ↔ ((1 ≤ get_or t (place fs g) 0) × (get_or t (place fs g) 0 ≤ 1 + m))
  follows_by_byte grows g w m = (there (at_written g w), back (at_written g w))
    where
      f : Fact Tree
      f = meaning fs g

      v : ℕ
      v = get_or t (place fs g) 0

      there : ByteOf fs given f v → Derivable fs (given m) f → (1 ≤ v) × (v ≤ 1 + m)
      there (inl (e, n)) d = absurd (n m d)
      there (inr (k, e, (a, h))) d = elim (dec_lt m k) [ yes l ↦ absurd (h m l d) | no n ↦ (omega arith, omega arith) ]

      back : ByteOf fs given f v → (1 ≤ v) × (v ≤ 1 + m) → Derivable fs (given m) f
      back (inl (e, n)) b = absurd (omega arith)
      back (inr (k, e, (a, h))) b = follows_more fs (given k) (given m) (grows k m (omega arith)) f a
