-- A pass down over marks that lead to lower marks sets just those that can be come to: what is set at the end was set at first or is led
-- to, and wherever a mark is set, so are those that it leads to.
use Prim.Native.Nat.{ℕ, zero, suc, ◌/◌, ◌%◌, ◌≤◌, ◌<◌}
use native.Mathlib.Decide.{ℕ_discrete, dec_lt}
use native.Mathlib.Omega.{arith}
use mathlib.Core.Path.{◌≡◌, refl, sym, ◌∙◌}
use mathlib.Core.Logic.{◌≢◌}
use mathlib.Core.List.{List, [], ◌∷◌}
use mathlib.Core.Bool.{Bool, true, false, cond}
use lib.ListN.{length, get_or, set, length-set, get_or-eq_default}
use lib.Seq.{get_or-set_same, get_or-set_other}
use lib.Dec.{eqb}
use borrow.Author.Tests.{eqb-true, eqb-false}
use Rattle.logic.specs.declared.Record.{Record}
use Rattle.logic.specs.Book.{All}
use Rattle.logic.proofs.Member.{all_imp}
use Rattle.walks.specs.Walk.{onward, with_marks, spread, walk_down}

abbrev pub IsSet : List ℕ → ℕ → Type 0
IsSet t i = get_or t i 0 ≢ 0

-- what is set is in the table
set_inside : (t : List ℕ) (i : ℕ) → IsSet t i → i < length t
set_inside t i s = elim (dec_lt i (length t)) [ yes l ↦ l | no n ↦ absurd (s (get_or-eq_default t 0 {n = i} (omega arith))) ]

one_set : (t : List ℕ) (j : ℕ) → j < length t → IsSet (set t j 1) j
one_set t j l e = let h : ◌≡◌ {A = ℕ} 1 0 = sym (get_or-set_same t j 1 0 l) ∙ e in omega arith

set_stays : (t : List ℕ) (j i : ℕ) → IsSet t i → IsSet (set t j 1) i
set_stays t j i s =
    elim (ℕ_discrete i j) [
      | yes d ↦ (rw d (one_set t j (rw (← d) (set_inside t i s))))
      | no d ↦ (λ e. s (sym (get_or-set_other t j i 1 0 d) ∙ e))
    ]

-- with more marks all stay,
pub marks_stay : (t l : List ℕ) (i : ℕ) → IsSet t i → IsSet (with_marks t l) i
unfolding with_marks
marks_stay t [] i s = s
marks_stay t (j ∷ l) i s = marks_stay (set t j 1) l i (set_stays t j i s)

-- all these are set,
marks_set : (t l : List ℕ) → All (λ j. j < length t) l → All (IsSet (with_marks t l)) l
unfolding with_marks
marks_set t [] h = tt
marks_set t (j ∷ l) h = (
  marks_stay (set t j 1) l j (one_set t j h.0),
  marks_set (set t j 1) l (all_imp (λ i. i < length t) (λ i. i < length (set t j 1)) (λ i b. rw (length-set t j 1) b) l h.1),
)

-- and no others
marks_only : (P : ℕ → Type 0) (t l : List ℕ) → All P l → ((i : ℕ) → IsSet t i → P i) → (i : ℕ) → IsSet (with_marks t l) i → P i
unfolding with_marks
marks_only P t [] a h i s = h i s
marks_only P t (j ∷ l) a h i s =
    marks_only P (set t j 1) l a.1
    (λ k u. elim (ℕ_discrete k j) [ yes d ↦ (rw d a.0) | no d ↦ h k (λ e. u (get_or-set_other t j k 1 0 d ∙ e)) ]) i s

marks_above : (t l : List ℕ) (n i : ℕ) → All (λ j. j < n) l → n ≤ i → IsSet (with_marks t l) i → IsSet t i
unfolding with_marks
marks_above t [] n i a b s = s
marks_above t (j ∷ l) n i a b s =
    let d : i ≢ j = λ (z : i ≡ j). let h = a.0 in omega arith in
    (λ e. marks_above (set t j 1) l n i a.1 b s (get_or-set_other t j i 1 0 d ∙ e))

module _ (look : ℕ → Record) (a : ℕ) where
  -- where mark i leads
  abbrev pub leads : ℕ → List ℕ
  leads i = onward a (look (i / 2)) (i % 2)

  spread_only : (P : ℕ → Type 0) → ((i : ℕ) → P i → All P (leads i)) → (t : List ℕ) (i : ℕ) → ((j : ℕ) → IsSet t j → P j)
      → (j : ℕ) → IsSet (spread look a t i) j → P j
  unfolding spread
  spread_only P closed t i h = go (eqb (get_or t i 0) 0) refl
    where
      go : (b : Bool) → eqb (get_or t i 0) 0 ≡ b → (j : ℕ) → IsSet (cond b t (with_marks t (leads i))) j → P j
      go true e j s = h j s
      go false e j s = marks_only P t (leads i) (closed i (h i (eqb-false (get_or t i 0) 0 e))) h j s

  -- WHAT IS SET AT THE END has every property that the marks at first have and that goes on along what they lead to
  pub walk_only : (P : ℕ → Type 0) → ((i : ℕ) → P i → All P (leads i)) → (t : List ℕ) (n : ℕ) → ((j : ℕ) → IsSet t j → P j)
      → (j : ℕ) → IsSet (walk_down look a t n) j → P j
  unfolding walk_down
  walk_only P closed t zero h j s = h j s
  walk_only P closed t (suc n) h j s = walk_only P closed (spread look a t n) n (spread_only P closed t n h) j s

  spread_stays : (t : List ℕ) (i j : ℕ) → IsSet t j → IsSet (spread look a t i) j
  unfolding spread
  spread_stays t i j s = go (eqb (get_or t i 0) 0)
    where
      go : (b : Bool) → IsSet (cond b t (with_marks t (leads i))) j
      go true = s
      go false = marks_stay t (leads i) j s

  pub walk_stays : (t : List ℕ) (n j : ℕ) → IsSet t j → IsSet (walk_down look a t n) j
  unfolding walk_down
  walk_stays t zero j s = s
  walk_stays t (suc n) j s = walk_stays (spread look a t n) n j (spread_stays t n j s)

  -- from number n on, wherever a mark is set, so are those that it leads to
  abbrev pub Done : List ℕ → ℕ → Type 0
  Done t n = (i : ℕ) → n ≤ i → IsSet t i → All (IsSet t) (leads i)

  spread_done : ((i : ℕ) → All (λ j. j < i) (leads i)) → (t : List ℕ) (n : ℕ) → Done t (suc n) → Done (spread look a t n) n
  unfolding spread
  spread_done falls t n d = go (eqb (get_or t n 0) 0) refl
    where
      go : (b : Bool) → eqb (get_or t n 0) 0 ≡ b → Done (cond b t (with_marks t (leads n))) n
      go true e i l s =
          elim (ℕ_discrete i n) [
            | yes z ↦ absurd (s (rw z (eqb-true (get_or t n 0) 0 e)))
            | no z ↦ d i (omega arith) s
          ]
      go false e i l s =
          elim (ℕ_discrete i n) [
            | yes z ↦ (rw z (marks_set t (leads n) (all_imp (λ j. j < n) (λ j. j < length t) (λ j b. let h = set_inside t n (eqb-false (get_or t n 0) 0 e) in omega arith) (leads n) (falls n))))
            | no z ↦ all_imp (IsSet t) (IsSet (with_marks t (leads n))) (λ j u. marks_stay t (leads n) j u) (leads i) (d i (omega arith) (marks_above t (leads n) n i (falls n) l s))
          ]

  -- WHEREVER A MARK IS SET AT THE END, so are those that it leads to
  pub walk_done : ((i : ℕ) → All (λ j. j < i) (leads i)) → (t : List ℕ) (n : ℕ) → Done t n → Done (walk_down look a t n) 0
  unfolding walk_down
  walk_done falls t zero d = d
  walk_done falls t (suc n) d = walk_done falls (spread look a t n) n (spread_done falls t n d)
