-- Laws that the proofs cite, over plain variables, and what a fact that is not malformed says. Assumes nothing.
use Prim.Native.Nat.{ℕ, zero, suc, ◌<◌, ◌≤◌}
use native.Mathlib.Decide.{dec_lt}
use native.Mathlib.Omega.{arith}
use mathlib.Core.Path.{◌≡◌, refl, sym, ap, ◌∙◌, subst, fun_ext}
use mathlib.Core.List.{List, map}
use mathlib.Core.Bool.{Bool, true, false, cond, not, ◌&&◌, ◌||◌}
use lib.ListN.{length, get_or, take, length-map, length-take, get_or-map, get_or-eq_default}
use lib.Seq.{get_or-take}
use lib.Dec.{T, leb, eqb, leb→le}
use borrow.Author.Tests.{eq-eqb, eqb-true, lt-ltb, le-ltb}
use Rattle.logic.specs.declared.Record.{Record}
use Rattle.logic.specs.Kind.{is_formula}
use Rattle.logic.specs.Record.{no_record, word}
use Rattle.logic.specs.Formula.{is_closed, record_of, tree_of}
use Rattle.logic.specs.Fact.{Fact}
use Rattle.logic.specs.Fact.Fact.{Sees, Believes, BelievesFresh, BelievesSaid, BelievesBelieves}
use Rattle.logic.specs.Written.{is_principal, is_sentence, is_opening, is_written, fact_in, is_malformed}
use Rattle.format.specs.Index.{unpacked, look_in}
use Rattle.format.specs.Variables.{loose_in}
use Rattle.logic.specs.Step.{step_at}
use Rattle.logic.specs.Explained.{unreadable}
use Rattle.logic.proofs.Tests.{true_T, T_and}
use Rattle.logic.proofs.Meaning.{formula_in_lem}
use Rattle.written.specs.declared.Numbers.{Numbers}
use Rattle.written.specs.Stated.{records_in, Noted, is_stated, is_wrong, is_malformed_by, unreadable_by, numbers_of}

-- a look into the index is a look among its records
pub look_is : (f : ℕ) (t : List ℕ) (y : ℕ) → look_in f t y ≡ record_of (records_in f t) y
unfolding look_in records_in unpacked
look_is f t y =
    elim (dec_lt y f) [
      | yes l ↦ rw (lt-ltb y f l) (sym (get_or-map unpacked (take f t) y 0 ∙ ap unpacked (get_or-take f t y 0 l)))
      | no l ↦
          rw (le-ltb y f (omega arith))
          (sym (get_or-eq_default (map unpacked (take f t)) no_record {n = y} (simp (length-map, length-take) (omega arith))))
    ]

pub data Mode : ℕ → Type 0 where
  mode1 : Mode 1
  mode2 : Mode 2
  mode3 : Mode 3
  mode4 : Mode 4
  mode5 : Mode 5

pub mode_of : (m : ℕ) → 1 ≤ m → m ≤ 5 → Mode m
mode_of zero l h = absurd (omega arith)
mode_of (suc zero) l h = mode1
mode_of (suc (suc zero)) l h = mode2
mode_of (suc (suc (suc zero))) l h = mode3
mode_of (suc (suc (suc (suc zero)))) l h = mode4
mode_of (suc (suc (suc (suc (suc zero))))) l h = mode5
mode_of (suc (suc (suc (suc (suc (suc m)))))) l h = absurd (omega arith)

-- the fact that a mode and numbers are
abbrev pub fact_of : (m p q x : ℕ) → Fact ℕ
fact_of m p q x =
    cond (eqb m 1) (Sees p x)
    (cond (eqb m 2) (Believes p x)
    (cond (eqb m 3) (BelievesFresh p x)
    (cond (eqb m 4) (BelievesSaid p q x)
    (BelievesBelieves p q x))))

-- X is a formula, and it has no loose variable: F says the one, o the other where X is a formula
whole : (F C o : Bool) → (T F → o ≡ not C) → (F && C) ≡ (not o && (F && true))
whole true true o h = rw (h tt) refl
whole true false o h = rw (h tt) refl
whole false C true h = refl
whole false C false h = refl

whole_left : (F C o O : Bool) → (T F → o ≡ not C) → ((F && C) && O) ≡ (not o && (F && O))
whole_left true true o O h = rw (h tt) refl
whole_left true false o O h = rw (h tt) refl
whole_left false C true O h = refl
whole_left false C false O h = refl

-- a fact may be written by the records as by a look at them, where `is_open` is right
pub stated_as : (fs : List Record) (is_open : ℕ → Bool) → ((y : ℕ) → y < length fs → is_open y ≡ not (is_closed (tree_of fs y)))
    → (m p q x : ℕ) → Mode m → is_written fs (fact_of m p q x) ≡ is_stated (record_of fs) is_open m p q x
unfolding is_stated
stated_as fs is_open right m p q x d = go m d
  where
    F : Bool
    F = is_formula (record_of fs x).kind

    C : Bool
    C = is_closed (tree_of fs x)

    told : T F → is_open x ≡ not C
    told t = right x (formula_in_lem fs x t)

    go : (k : ℕ) → Mode k → is_written fs (fact_of k p q x) ≡ is_stated (record_of fs) is_open k p q x
    go k mode1 = ap (λ b. is_principal fs p && b) (whole F C (is_open x) told)
    go k mode2 = ap (λ b. is_principal fs p && b) (whole_left F C (is_open x) (not (is_opening (record_of fs x).kind)) told)
    go k mode3 = ap (λ b. is_principal fs p && b) (whole F C (is_open x) told)
    go k mode4 = ap (λ b. is_principal fs p && (is_principal fs q && b)) (whole F C (is_open x) told)
    go k mode5 = ap (λ b. is_principal fs p && (is_principal fs q && b)) (whole F C (is_open x) told)

-- X of a fact that may be written is a formula
formula_of_lem : (fs : List Record) (m p q x : ℕ) → Mode m → T (is_written fs (fact_of m p q x)) → T (is_formula (record_of fs x).kind)
formula_of_lem fs m p q x mode1 t = (T_and (is_formula (record_of fs x).kind) _ (T_and (is_principal fs p) (is_sentence fs x) t).1).0
formula_of_lem fs m p q x mode2 t = (T_and (is_formula (record_of fs x).kind) _ (T_and (is_sentence fs x) _ (T_and (is_principal fs p) _ t).1).0).0
formula_of_lem fs m p q x mode3 t = (T_and (is_formula (record_of fs x).kind) _ (T_and (is_principal fs p) (is_sentence fs x) t).1).0
formula_of_lem fs m p q x mode4 t = (T_and (is_formula (record_of fs x).kind) _ (T_and (is_principal fs q) (is_sentence fs x) (T_and (is_principal fs p) _ t).1).1).0
formula_of_lem fs m p q x mode5 t = (T_and (is_formula (record_of fs x).kind) _ (T_and (is_principal fs q) (is_sentence fs x) (T_and (is_principal fs p) _ t).1).1).0

-- is_wrong, taken apart
wrong_apart : (a b c : Bool) → (not a || (b || not c)) ≡ false → (a ≡ true) × (c ≡ true)
wrong_apart true true c e = absurd (let z : ◌≡◌ {A = ℕ} 0 1 = cc in omega arith)
wrong_apart true false true e = (refl, refl)
wrong_apart true false false e = absurd (let z : ◌≡◌ {A = ℕ} 0 1 = cc in omega arith)
wrong_apart false b c e = absurd (let z : ◌≡◌ {A = ℕ} 0 1 = cc in omega arith)

same_where : (a b c d : Bool) → (T a → c ≡ d) → (not a || (b || not c)) ≡ (not a || (b || not d))
same_where true b c d h = ap (λ z. b || not z) (h tt)
same_where false b c d h = refl

pub right_size : (fs : List Record) (s : List ℕ) → is_malformed fs s ≡ false → length s ≡ 7
unfolding is_malformed
right_size fs s e = go (eqb (length s) 7) refl _ e
  where
    go : (b : Bool) → eqb (length s) 7 ≡ b → (c : Bool) → (not b || c) ≡ false → length s ≡ 7
    go true h c z = eqb-true (length s) 7 h
    go false h c z = absurd (let y : ◌≡◌ {A = ℕ} 0 1 = cc in omega arith)

-- The numbers n are those in the bytes s.
module _ (f : ℕ) (t s : List ℕ) {n : Numbers} (e : n ≡ numbers_of s) where
  pub look_eq : record_of (records_in f t) ≡ look_in f t
  look_eq = sym (fun_ext (look_is f t))

  pub fact_is : fact_in s ≡ fact_of n.mode n.p n.q n.x
  unfolding fact_in
  fact_is = rw e refl

  mode_here : T (leb 1 n.mode && leb n.mode 5) → Mode n.mode
  mode_here z =
      let g = T_and (leb 1 n.mode) (leb n.mode 5) z in
      mode_of n.mode (leb→le 1 n.mode g.0) (leb→le n.mode 5 g.1)

  -- a fact that is not malformed
  module _ (right : is_malformed (records_in f t) s ≡ false) where
    parts : ((leb 1 n.mode && leb n.mode 5) ≡ true) × (is_written (records_in f t) (fact_in s) ≡ true)
    unfolding is_malformed
    parts =
        let em : n.mode ≡ get_or s 0 0 = ap (λ (z : Numbers). z.mode) e in
        let eq : n.q ≡ word s 3 = ap (λ (z : Numbers). z.q) e in
        let h = rw (eq-eqb (length s) 7 (right_size (records_in f t) s right), ← em, ← eq) at right in
        wrong_apart (leb 1 n.mode && leb n.mode 5) (leb n.mode 3 && not (eqb n.q 0)) (is_written (records_in f t) (fact_in s)) h

    pub mode_is : Mode n.mode
    mode_is = mode_here (true_T (leb 1 n.mode && leb n.mode 5) parts.0)

    -- X is a formula of the book
    pub formula_here : n.x < length (records_in f t)
    formula_here =
        let z = true_T (is_written (records_in f t) (fact_in s)) parts.1 in
        formula_in_lem (records_in f t) n.x
        (formula_of_lem (records_in f t) n.mode n.p n.q n.x mode_is (subst (λ (g : Fact ℕ). T (is_written (records_in f t) g)) fact_is z))

-- WHERE THE INDEX SAYS WHAT IS LOOSE, a look into it tells what is malformed and what cannot be printed
module _ (f : ℕ) (t : List ℕ) (noted : Noted f t) where
  stated_here : (s : List ℕ) → Mode (get_or s 0 0)
      → is_written (records_in f t) (fact_in s) ≡ is_stated (look_in f t) (loose_in t) (get_or s 0 0) (word s 1) (word s 3) (word s 5)
  stated_here s d =
      ap (is_written (records_in f t)) (fact_is f t s refl)
      ∙ stated_as (records_in f t) (loose_in t) noted (get_or s 0 0) (word s 1) (word s 3) (word s 5) d
      ∙ ap (λ (look : ℕ → Record). is_stated look (loose_in t) (get_or s 0 0) (word s 1) (word s 3) (word s 5)) (look_eq f t s refl)

  pub malformed_noted : (s : List ℕ) → is_malformed_by (look_in f t) (loose_in t) s ≡ is_malformed (records_in f t) s
  unfolding is_malformed_by is_malformed is_wrong
  malformed_noted s =
      ap (λ b. not (eqb (length s) 7) || b)
      (same_where (leb 1 (get_or s 0 0) && leb (get_or s 0 0) 5) (leb (get_or s 0 0) 3 && not (eqb (word s 3) 0))
      (is_stated (look_in f t) (loose_in t) (get_or s 0 0) (word s 1) (word s 3) (word s 5)) (is_written (records_in f t) (fact_in s))
      (λ z. sym (stated_here s (mode_here f t s refl z))))

  pub unreadable_noted : (s : List ℕ) → unreadable_by (look_in f t) (loose_in t) s ≡ unreadable (records_in f t) s
  unfolding unreadable_by unreadable
  unreadable_noted s = rw (malformed_noted (step_at s).fact) refl
