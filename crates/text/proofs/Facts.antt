-- The text of a written fact, by the index of its book: what its text is, and what the operation answers. Assumes nothing.
use Prim.Native.Nat.{ℕ, ◌<◌, ◌≤◌, min}
use native.Mathlib.Omega.{arith}
use native.Mathlib.Nat.{zero-add}
use mathlib.Core.Path.{◌≡◌, refl, sym, ap, ◌∙◌}
use mathlib.Core.List.{List, ◌++◌, append_assoc}
use mathlib.Core.Bool.{Bool, true, false}
use lib.ListN.{length}
use borrow.Author.Tests.{lt-ltb, le-ltb}
use Rattle.logic.specs.declared.Record.{Record}
use Rattle.logic.specs.declared.Audience.{Audience}
use Rattle.logic.specs.Refusal.{Outcome}
use Rattle.logic.specs.Refusal.Outcome.{accepted, refused}
use Rattle.logic.specs.Formula.{record_of, tree_of}
use Rattle.logic.specs.Fact.{Fact}
use Rattle.logic.specs.Written.{meaning, fact_in, is_malformed}
use Rattle.format.specs.Index.{look_in}
use Rattle.logic.specs.Text.{datum_for, shown, text, fact_text, text_fitting, text_among, length_told, at_front}
use Rattle.digits.specs.Puts.{Puts}
use Rattle.digits.proofs.Puts.{sets_front}
use Rattle.words.specs.Words.{opening, before, outer, nested, ahead}
use Rattle.words.specs.Lengths.{capped}
use Rattle.written.specs.declared.Numbers.{Numbers}
use Rattle.written.specs.Stated.{records_in, numbers_of}
use Rattle.written.proofs.Laws.{Mode, fact_of, look_eq, fact_is, mode_is}
use Rattle.written.proofs.Laws.Mode.{mode1, mode2, mode3, mode4, mode5}
use Rattle.text.specs.Printing.{text_in, fact_text_in}

-- the text of a fact is what stands ahead of X, and the text of X
apart_as : (naming : ℕ → List ℕ) (fs : List Record) (m p q x : ℕ) → Mode m
    → fact_text naming (meaning fs (fact_of m p q x)) ≡ before (record_of fs) (outer m p) ++ (before (record_of fs) (nested m q) ++ text naming (tree_of fs x))
unfolding shown before opening outer nested
apart_as naming fs m p q x mode1 = refl
apart_as naming fs m p q x mode2 = refl
apart_as naming fs m p q x mode3 = refl
apart_as naming fs m p q x mode4 = refl
apart_as naming fs m p q x mode5 = refl

pub text_as : (naming : ℕ → List ℕ) (fs : List Record) (m p q x : ℕ) → Mode m
    → fact_text naming (meaning fs (fact_of m p q x)) ≡ ahead (record_of fs) m p q ++ text naming (tree_of fs x)
unfolding ahead
text_as naming fs m p q x d =
    apart_as naming fs m p q x d ∙ sym (append_assoc (before (record_of fs) (outer m p)) (before (record_of fs) (nested m q)) (text naming (tree_of fs x)))

-- what the operation answers to a written fact s and a buffer b, by the formula records fs
abbrev pub Answers : Audience → List Record → List ℕ → List ℕ → Outcome ℕ → List ℕ → Type 0
Answers a fs s b o b' = (o ≡ length_told (text_among a fs s (length b))) × (b' ≡ at_front (text_among a fs s (length b)) b)

pub malformed : (a : Audience) (fs : List Record) (s b : List ℕ) {w : Bool} {o : Outcome ℕ} → w ≡ is_malformed fs s → w ≡ true → o ≡ refused 17 0 → Answers a fs s b o b
malformed a fs s b ew h e = rw (← ew, h) (e, refl)

-- a text that was put at the front
at_front_lem : (a : Audience) (fs : List Record) (s : List ℕ) {b w b' : List ℕ} {end : ℕ} → text_among a fs s (length b) ≡ accepted w → Puts b 0 w b' end → length w ≤ length b
    → Answers a fs s b (accepted end) b'
at_front_lem a fs s {b} {w} {b'} {end} z u l =
    let g : end ≡ length w = u.place ∙ zero-add (length w) in
    rw (z, g) (refl, u.list ∙ sets_front w b l)

-- The fact in the bytes s, which says the numbers n, is not malformed.
module _ (a : Audience) (f : ℕ) (t s : List ℕ) {n : Numbers} (e : n ≡ numbers_of s) (right : is_malformed (records_in f t) s ≡ false) where
  abbrev text_here : List ℕ
  text_here = fact_text_in a f t (look_in f t) n.mode n.p n.q n.x

  pub text_is : fact_text (datum_for a (records_in f t)) (meaning (records_in f t) (fact_in s)) ≡ text_here
  unfolding fact_text_in text_in
  text_is =
      ap (λ (g : Fact ℕ). fact_text (datum_for a (records_in f t)) (meaning (records_in f t) g)) (fact_is f t s e)
      ∙ text_as (datum_for a (records_in f t)) (records_in f t) n.mode n.p n.q n.x (mode_is f t s e right)
      ∙ ap (λ (look : ℕ → Record). ahead look n.mode n.p n.q ++ text (datum_for a (records_in f t)) (tree_of (records_in f t) n.x)) (look_eq f t s e)

  -- size is the length of its text, up to the cap
  module _ (b : List ℕ) {size : ℕ} (es : size ≡ capped (length text_here)) where
    told : text_among a (records_in f t) s (length b) ≡ text_fitting (length b) text_here
    told = rw (right, text_is) refl

    long : min 4096 (length b) < length text_here → text_among a (records_in f t) s (length b) ≡ refused 15 0
    long g = told ∙ rw (lt-ltb (min 4096 (length b)) (length text_here) g) refl

    pub too_long : {o : Outcome ℕ} → 4096 < size → o ≡ refused 15 0 → Answers a (records_in f t) s b o b
    too_long g h = rw (long (omega arith)) (h, refl)

    pub too_narrow : {o : Outcome ℕ} → size ≤ 4096 → length b < size → o ≡ refused 15 0 → Answers a (records_in f t) s b o b
    too_narrow k g h = rw (long (omega arith)) (h, refl)

    pub printed : size ≤ 4096 → size ≤ length b → {b' : List ℕ} {end : ℕ} → Puts b 0 text_here b' end → Answers a (records_in f t) s b (accepted end) b'
    printed k g {b'} {end} u =
        let z : text_among a (records_in f t) s (length b) ≡ accepted text_here =
        told ∙ rw (le-ltb (min 4096 (length b)) (length text_here) (omega arith)) refl in
        at_front_lem a (records_in f t) s z u (omega arith)
