-- Facts as bytes: a fact is read back from its seven bytes, and a fact has one writing.
use Prim.Native.Nat.{ℕ, ◌+◌, ◌*◌, ◌≤◌, ◌<◌}
use mathlib.Core.Path.{◌≡◌, refl, sym, ◌∙◌, ap}
use mathlib.Core.List.{List, [], ◌∷◌}
use mathlib.Core.Bool.{Bool, true, false, cond, not, ◌&&◌, ◌||◌}
use native.Mathlib.Omega.{arith}
use native.Mathlib.Nat.{div-add-mod'}
use lib.ListN.{length, get_or}
use lib.Dec.{T, leb, eqb, eqb→eq, leb→le, le→leb}
use borrow.Author.Tests.{eqb-true, eqb-false}
use Rattle.logic.specs.declared.Record.{Record}
use Rattle.logic.specs.Record.{word}
use Rattle.logic.specs.Book.{All}
use Rattle.logic.specs.Fact.{Fact}
use Rattle.logic.specs.Fact.Fact.{Sees, Believes, BelievesFresh, BelievesSaid, BelievesBelieves}
use Rattle.logic.specs.Written.{meaning, is_written, seven_bytes, fact_bytes, fact_in, is_malformed}
use Rattle.logic.proofs.Formulas.{Formulas}
use Rattle.logic.proofs.Meaning.{valid, meaning_once}
use Rattle.logic.proofs.Places.{quotient, remainder}
use Rattle.logic.proofs.Verdict.{well_formed_fact}

-- the words of seven bytes
words : (mode p q x : ℕ) → (word (seven_bytes mode p q x) 1 ≡ p) × (word (seven_bytes mode p q x) 3 ≡ q) × (word (seven_bytes mode p q x) 5 ≡ x)
unfolding word
words mode p q x = (div-add-mod' p 256, div-add-mod' q 256, div-add-mod' x 256)

-- THE BYTES OF A FACT are read as that fact
pub read_back : (g : Fact ℕ) → fact_in (fact_bytes g) ≡ g
unfolding fact_in
read_back (Sees p x) = let h = words 1 p 0 x in rw (h.0, h.2)
read_back (Believes p x) = let h = words 2 p 0 x in rw (h.0, h.2)
read_back (BelievesFresh p x) = let h = words 3 p 0 x in rw (h.0, h.2)
read_back (BelievesSaid p q x) = let h = words 4 p q x in rw (h.0, h.1, h.2)
read_back (BelievesBelieves p q x) = let h = words 5 p q x in rw (h.0, h.1, h.2)

-- they are malformed just if the fact may not be written
pub malformed_just_if : (fs : List Record) (g : Fact ℕ) → is_malformed fs (fact_bytes g) ≡ not (is_written fs g)
unfolding is_malformed word
malformed_just_if fs (Sees p x) = ap (λ g. not (is_written fs g)) (read_back (Sees p x))
malformed_just_if fs (Believes p x) = ap (λ g. not (is_written fs g)) (read_back (Believes p x))
malformed_just_if fs (BelievesFresh p x) = ap (λ g. not (is_written fs g)) (read_back (BelievesFresh p x))
malformed_just_if fs (BelievesSaid p q x) = ap (λ g. not (is_written fs g)) (read_back (BelievesSaid p q x))
malformed_just_if fs (BelievesBelieves p q x) = ap (λ g. not (is_written fs g)) (read_back (BelievesBelieves p q x))

-- what is not malformed
pub record Formed (fs : List Record) (s : List ℕ) : Type 0 where
  pub seven : length s ≡ 7
  pub mode : (1 ≤ get_or s 0 0) × (get_or s 0 0 ≤ 5)
  pub none : get_or s 0 0 ≤ 3 → word s 3 ≡ 0
  pub may : T (is_written fs (fact_in s))

tests : (a b c d e w : Bool) → T (not (not a || (not (b && c) || (d && not e || not w)))) → T a × T b × T c × (T d → T e) × T w
tests false b c d e w t = absurd t
tests true false c d e w t = absurd t
tests true true false d e w t = absurd t
tests true true true true false w t = absurd t
tests true true true true true false t = absurd t
tests true true true true true true t = (tt, tt, tt, (λ x. tt), tt)
tests true true true false e false t = absurd t
tests true true true false e true t = (tt, tt, tt, (λ x. absurd x), tt)

pub formed : (fs : List Record) (s : List ℕ) → T (not (is_malformed fs s)) → Formed fs s
unfolding is_malformed
formed fs s t =
    let k = get_or s 0 0 in
    let h = tests (eqb (length s) 7) (leb 1 k) (leb k 5) (leb k 3) (eqb (word s 3) 0) (is_written fs (fact_in s)) t in
    record {
      seven = eqb→eq (length s) 7 h.0;
      mode = (leb→le 1 k h.1, leb→le k 5 h.2);
      none = λ l. eqb→eq (word s 3) 0 (h.3 (le→leb k 3 l));
      may = h.4;
    }

seven_bytes_lem : (k p q x b c d e f g : ℕ) → p ≡ b * 256 + c → q ≡ d * 256 + e → x ≡ f * 256 + g → c < 256 → e < 256 → g < 256
    → seven_bytes k p q x ≡ k ∷ b ∷ c ∷ d ∷ e ∷ f ∷ g ∷ []
seven_bytes_lem k p q x b c d e f g i j l r s t =
    rw (i, j, l, quotient b 256 c r, remainder b 256 c r, quotient d 256 e s, remainder d 256 e s, quotient f 256 g t, remainder f 256 g t)

-- seven bytes by their mode
written_again : (k b c d e f g : ℕ) → 1 ≤ k → k ≤ 5 → (k ≤ 3 → d * 256 + e ≡ 0) → c < 256 → e < 256 → g < 256
    → fact_bytes (fact_in (k ∷ b ∷ c ∷ d ∷ e ∷ f ∷ g ∷ [])) ≡ k ∷ b ∷ c ∷ d ∷ e ∷ f ∷ g ∷ []
unfolding fact_in word
written_again k b c d e f g lo hi z r s t = go (eqb k 1) (eqb k 2) (eqb k 3) (eqb k 4) refl refl refl refl
  where
    P : ℕ
    P = b * 256 + c

    X : ℕ
    X = f * 256 + g

    Q : ℕ
    Q = d * 256 + e

    go : (t₁ t₂ t₃ t₄ : Bool) → eqb k 1 ≡ t₁ → eqb k 2 ≡ t₂ → eqb k 3 ≡ t₃ → eqb k 4 ≡ t₄
        → fact_bytes (cond t₁ (Sees P X) (cond t₂ (Believes P X) (cond t₃ (BelievesFresh P X) (cond t₄ (BelievesSaid P Q X) (BelievesBelieves P Q X)))))
        ≡ k ∷ b ∷ c ∷ d ∷ e ∷ f ∷ g ∷ []
    go true t₂ t₃ t₄ e₁ e₂ e₃ e₄ =
        let m = eqb-true k 1 e₁ in
        rw m (seven_bytes_lem 1 P 0 X b c d e f g refl (sym (z (omega arith))) refl r s t)
    go false true t₃ t₄ e₁ e₂ e₃ e₄ =
        let m = eqb-true k 2 e₂ in
        rw m (seven_bytes_lem 2 P 0 X b c d e f g refl (sym (z (omega arith))) refl r s t)
    go false false true t₄ e₁ e₂ e₃ e₄ =
        let m = eqb-true k 3 e₃ in
        rw m (seven_bytes_lem 3 P 0 X b c d e f g refl (sym (z (omega arith))) refl r s t)
    go false false false true e₁ e₂ e₃ e₄ =
        let m = eqb-true k 4 e₄ in
        rw m (seven_bytes_lem 4 P Q X b c d e f g refl refl refl r s t)
    go false false false false e₁ e₂ e₃ e₄ =
        let a₁ = eqb-false k 1 e₁ in
        let a₂ = eqb-false k 2 e₂ in
        let a₃ = eqb-false k 3 e₃ in
        let a₄ = eqb-false k 4 e₄ in
        let m : k ≡ 5 = omega arith in
        rw m (seven_bytes_lem 5 P Q X b c d e f g refl refl refl r s t)

-- bytes that are not malformed are those of the fact that they are read as
pub written_back : (fs : List Record) (s : List ℕ) → All (λ b. b < 256) s → T (not (is_malformed fs s)) → fact_bytes (fact_in s) ≡ s
unfolding word
written_back fs s h t = go s h (formed fs s t)
  where
    go : (s : List ℕ) → All (λ b. b < 256) s → Formed fs s → fact_bytes (fact_in s) ≡ s
    go [] h m = absurd (omega (arith, m.seven))
    go (k ∷ []) h m = absurd (omega (arith, m.seven))
    go (k ∷ b ∷ []) h m = absurd (omega (arith, m.seven))
    go (k ∷ b ∷ c ∷ []) h m = absurd (omega (arith, m.seven))
    go (k ∷ b ∷ c ∷ d ∷ []) h m = absurd (omega (arith, m.seven))
    go (k ∷ b ∷ c ∷ d ∷ e ∷ []) h m = absurd (omega (arith, m.seven))
    go (k ∷ b ∷ c ∷ d ∷ e ∷ f ∷ []) h m = absurd (omega (arith, m.seven))
    go (k ∷ b ∷ c ∷ d ∷ e ∷ f ∷ g ∷ []) h m =
        written_again k b c d e f g m.mode.0 m.mode.1 m.none h.1.1.0 h.1.1.1.1.0 h.1.1.1.1.1.1.0
    go (k ∷ b ∷ c ∷ d ∷ e ∷ f ∷ g ∷ i ∷ l) h m = absurd (omega (arith, m.seven))

-- NO FACT HAS TWO WRITINGS: in an accepted book two writings that mean the same fact over trees are the same bytes
pub one_writing : (fs : List Record) → Formulas fs → (s t : List ℕ) → All (λ b. b < 256) s → All (λ b. b < 256) t
    → T (not (is_malformed fs s)) → T (not (is_malformed fs t)) → meaning fs (fact_in s) ≡ meaning fs (fact_in t) → s ≡ t
one_writing fs ok s t h k a b e =
    let g = meaning_once fs ok (fact_in s) (fact_in t) (valid fs (fact_in s) (well_formed_fact fs s a)) (valid fs (fact_in t) (well_formed_fact fs t b)) e in
    sym (written_back fs s h a) ∙ (ap fact_bytes g ∙ written_back fs t k b)
