-- A formula of the index is a number that the chains find, and a record more keeps the chains right. Assumes nothing.
use Prim.Native.Nat.{ℕ, zero, suc, ◌+◌, ◌<◌, ◌≤◌}
use native.Mathlib.Omega.{arith}
use native.Mathlib.Numerals.{add-one}
use native.Mathlib.Decide.{dec_lt}
use mathlib.Core.Path.{◌≡◌, refl, sym, ap, ◌∙◌, subst}
use mathlib.Core.List.{List, [], ◌∷◌, ◌++◌}
use mathlib.Core.Bool.{Bool, true, false, cond, not, ◌&&◌, ◌||◌}
use lib.ListN.{length, get_or, take, set}
use lib.Seq.{take-suc, length-take-le}
use lib.Dec.{T, eqb, ltb}
use borrow.Author.Tests.{lt-ltb, le-ltb, ne_eqb}
use Rattle.logic.specs.declared.Record.{Record}
use Rattle.logic.specs.declared.Counts.{Counts}
use Rattle.logic.specs.Kind.{is_formula_record}
use Rattle.format.specs.Index.{packed, position_in, slot_of}
use Rattle.format.specs.Variables.{variables_from}
use Rattle.std.specs.Prelude.{Option, is_some}
use Rattle.chains.specs.Chain.{hash_of, is_before, found_from, found_in, place_told, Ready}
use Rattle.chains.proofs.Chain.{Chained, kept, grown, found_before, found_ready}
use Rattle.book.specs.Read.{place_among, is_among, note_in, one_more}
use Rattle.book.specs.Chain.{heads_with, next_with}
use Rattle.book.proofs.Laws.{slot_formula}

pub is_T : {v : Bool} → v ≡ true → T v
is_T e = subst T (sym e) tt

-- One number more behind a list, as the search for x from the front sees it.
ltb_suc : (a b : ℕ) → ltb (suc a) (suc b) ≡ ltb a b
ltb_suc a b =
    elim (dec_lt a b) [
      | yes l ↦ lt-ltb (suc a) (suc b) (omega arith) ∙ sym (lt-ltb a b l)
      | no l ↦ le-ltb (suc a) (suc b) (omega arith) ∙ sym (le-ltb a b (omega arith))
    ]

position_more : (x y : ℕ) (l : List ℕ)
    → ltb (position_in x (l ++ (y ∷ []))) (suc (length l)) ≡ (eqb x y || ltb (position_in x l) (length l))
unfolding position_in
position_more x y [] = go (eqb x y)
  where
    go : (v : Bool) → ltb (cond v 0 1) 1 ≡ (v || ltb 0 0)
    go true = refl
    go false = refl
position_more x y (z ∷ l) = go (eqb x z) (eqb x y) (position_more x y l)
  where
    go : (v w : Bool) → ltb (position_in x (l ++ (y ∷ []))) (suc (length l)) ≡ (w || ltb (position_in x l) (length l))
        → ltb (cond v 0 (suc (position_in x (l ++ (y ∷ []))))) (suc (suc (length l))) ≡ (w || ltb (cond v 0 (suc (position_in x l))) (suc (length l)))
    go true true e = lt-ltb 0 (suc (suc (length l))) (omega arith)
    go true false e = lt-ltb 0 (suc (suc (length l))) (omega arith) ∙ sym (lt-ltb 0 (suc (length l)) (omega arith))
    go false true e = ltb_suc (position_in x (l ++ (y ∷ []))) (suc (length l)) ∙ e
    go false false e = ltb_suc (position_in x (l ++ (y ∷ []))) (suc (length l)) ∙ e ∙ sym (ltb_suc (position_in x l) (length l))

-- x IS AMONG THE FIRST n NUMBERS where a search for it from the front ends before them all
pub before_is : (t : List ℕ) (x n : ℕ) → n ≤ length t → is_before t x n ≡ ltb (position_in x (take n t)) n
unfolding is_before position_in
before_is t x zero l = sym (le-ltb (position_in x (take zero t)) 0 (omega arith))
before_is t x (suc n) l =
    rw (take-suc t n 0 l) (sym (subst (λ k. ltb (position_in x (take n t ++ (get_or t n 0 ∷ []))) (suc k) ≡ (eqb x (get_or t n 0) || ltb (position_in x (take n t)) k))
    (length-take-le n t (omega arith)) (position_more x (get_or t n 0) (take n t)) ∙ ap (λ v. eqb x (get_or t n 0) || v) (sym (before_is t x n (omega arith)))))

-- A record is a formula of the index where its number is before.
pub among_before : (n : Counts) (t : List ℕ) (r : Record) {k x : ℕ} {v : Bool} → n.formulas ≤ length t → k ≡ r.kind → x ≡ packed r
    → v ≡ (is_formula_record k && is_before t x n.formulas) → v ≡ is_among n t r
unfolding is_among place_among
among_before n t r {k} {x} l e d g = g ∙ rw (e, d, before_is t (packed r) n.formulas l) refl

-- One record more of any kind: a formula is linked, and any other goes behind the formulas of the index.
module _ (t heads next : List ℕ) (n : Counts) (k x : ℕ) (l : n.formulas ≤ 256) (room : 256 ≤ length t) (c : Chained t heads next n.formulas) where
  slot_behind : n.formulas ≤ slot_of n k
  unfolding slot_of
  slot_behind = go (eqb k 32) (eqb k 33) (eqb k 34)
    where
      go : (a m g : Bool) → n.formulas ≤ cond a (256 + n.assumptions) (cond m (320 + n.messages) (cond g (336 + n.goals) n.formulas))
      go true m g = omega arith
      go false true g = omega arith
      go false false true = omega arith
      go false false false = omega arith

  -- the number of its variables stands behind the formulas, too
  pub chained_noted : (v : ℕ) → Chained (note_in n k v t) heads next n.formulas
  unfolding note_in
  chained_noted v = go (is_formula_record k)
    where
      go : (b : Bool) → Chained (cond b (set t (variables_from + n.formulas) v) t) heads next n.formulas
      go true = kept t heads next n.formulas (variables_from + n.formulas) v (omega arith) c
      go false = c

  pub chained_more : (T (is_formula_record k) → n.formulas < 256)
      → Chained (set t (slot_of n k) x) (heads_with n k (hash_of x) heads) (next_with n k (hash_of x) heads next) (one_more n k).formulas
  unfolding heads_with next_with one_more
  chained_more small = go (is_formula_record k) refl
    where
      go : (v : Bool) → is_formula_record k ≡ v
          → Chained (set t (slot_of n k) x) (cond v (set heads (hash_of x) (n.formulas + 1)) heads)
          (cond v (set next n.formulas (get_or heads (hash_of x) 0)) next) (cond v (n.formulas + 1) n.formulas)
      go true e =
          let f = small (is_T e) in
          rw (sym (slot_formula n k e), add-one) (grown t heads next n.formulas x (omega arith) f c)
      go false e = kept t heads next n.formulas (slot_of n k) x slot_behind c

-- the chain of x finds it where it is one of the first n numbers
pub found_some : (t heads next : List ℕ) (n x : ℕ) → Ready t heads next n → {h : ℕ} {o : Option ℕ} {v : Bool}
    → o ≡ place_told (found_from t next x (get_or heads h 0)) → h ≡ hash_of x → v ≡ is_some o → v ≡ is_before t x n
found_some t heads next n x r eo eh ev =
    ev ∙ ap is_some (eo ∙ rw (eh, found_ready t heads next n x r)) ∙ told_some (found_in t x n) ∙ sym (found_before t x n)
  where
    told_some : (c : ℕ) → is_some (place_told c) ≡ not (eqb c 0)
    told_some zero = refl
    told_some (suc i) = sym (rw (ne_eqb (suc i) 0 (λ e. omega arith)))
