-- Laws that the proofs cite, over plain variables. Assumes nothing.
use Prim.Native.Nat.{ℕ, ◌+◌, ◌-◌, ◌*◌, ◌<◌, ◌≤◌, min}
use native.Mathlib.Nat.{zero-add}
use native.Mathlib.Numerals.{add-one}
use native.Mathlib.Decide.{dec_lt}
use native.Mathlib.Omega.{arith}
use mathlib.Core.Path.{◌≡◌, refl, sym, ap, ap₂, ◌∙◌}
use mathlib.Core.List.{List, [], ◌∷◌, ◌++◌, map, map-append}
use mathlib.Core.Bool.{Bool, true, false, cond}
use lib.ListN.{length, get_or, take, drop, length-drop, length-map, length-take}
use lib.Seq.{get_or-drop, take-suc, take_all, take-length}
use lib.Dec.{eqb, ltb}
use borrow.Author.Tests.{ne_eqb}
use Rattle.logic.specs.declared.Record.{Record}
use Rattle.logic.specs.Formula.{record_of}
use Rattle.format.specs.Index.{goals_from, unpacked, goal_in, look_in}
use Rattle.logic.specs.Fact.Fact.{Believes, BelievesFresh, BelievesSaid, BelievesBelieves}
use Rattle.logic.specs.Written.{opened, stated_on, goal_fact_on}
use Rattle.logic.specs.Place as place
use mir.Val.{bool_byte}
use Rattle.logic.specs.Survey.{count, held, is_within}
use Rattle.logic.specs.Listing.{count_true, marks_by}
use Rattle.logic.proofs.Places.{rank_next}
use Rattle.written.specs.Stated.{records_in}
use Rattle.written.proofs.Laws.{look_is}
use Rattle.places.specs.Places.{Sized, place_by, belief_place, goals_in, mark_of}

take_least : {A : Type 0} (n : ℕ) (s : List A) {m k : ℕ} → m ≡ length s → k ≡ min n m → take k s ≡ take n s
take_least n s {m} {k} em ek =
    elim (dec_lt n m) [
      | yes l ↦ ap (λ (z : ℕ). take z s) (let e : k ≡ n = omega arith in e)
      | no l ↦ take_all k s (omega arith) ∙ sym (take_all n s (omega arith))
    ]

-- RANKS
-- what is looked up in the index is the record
pub look_kind : (f : ℕ) (t : List ℕ) (x : ℕ) → eqb (look_in f t x).kind 1 ≡ eqb (record_of (records_in f t) x).kind 1
look_kind f t x = ap (λ (r : Record). eqb r.kind 1) (look_is f t x)

pub rank_step : (f : ℕ) (t : List ℕ) (i : ℕ) {r k : ℕ} → r ≡ place.rank (records_in f t) i → k ≡ cond (eqb (look_in f t i).kind 1) 1 0
    → r + k ≡ place.rank (records_in f t) (i + 1)
rank_step f t i {r} {k} e g =
    ap₂ (λ (x y : ℕ). x + y) e (g ∙ ap (λ (b : Bool). cond b 1 0) (look_kind f t i)) ∙ sym (rank_next (records_in f t) i) ∙ ap (place.rank (records_in f t)) (sym (add-one i))

-- COUNTS
count_append : (p : ℕ → Bool) (s t : List ℕ) → count p (s ++ t) ≡ count p s + count p t
unfolding count
count_append p [] t = sym (zero-add (count p t))
count_append p (v ∷ s) t = let h = count_append p s t in omega arith

as_number : (b : Bool) → bool_byte b ≡ cond b 1 0
as_number true = refl
as_number false = refl

-- one byte more
pub held_step : (t : List ℕ) (i : ℕ) {h k : ℕ} → i < length t → h ≡ held (take i t) → k ≡ bool_byte (ltb 0 (get_or t i 0)) → h + k ≡ held (take (i + 1) t)
unfolding count
held_step t i {h} {k} l e g =
    ap₂ (λ (x y : ℕ). x + y) e (g ∙ as_number (ltb 0 (get_or t i 0)) ∙ (let z : cond (ltb 0 (get_or t i 0)) 1 0 ≡ cond (ltb 0 (get_or t i 0)) 1 0 + 0 = omega arith in z))
    ∙ sym (ap held (ap (λ (j : ℕ). take j t) (add-one i) ∙ take-suc t i 0 l) ∙ count_append (λ v. ltb 0 v) (take i t) (get_or t i 0 ∷ []))

-- all bytes of a part of m bytes passed
pub held_all : (t : List ℕ) (n : ℕ) {h i m : ℕ} → m ≡ min n (length t) → i ≡ length (take m t) → h ≡ held (take i (take m t)) → h ≡ held (take n t)
held_all t n {h} {i} {m} em ei eh = eh ∙ ap held (take_all i (take m t) (omega arith) ∙ take_least n t refl em)

-- PLACES OF GOALS, by the index of a book.
module _ (k : ℕ) (index : List ℕ) {f p : ℕ} (h : Sized (records_in k index) f p) where
  abbrev fs : List Record
  fs = records_in k index

  same_place : {a a' f f' p p' : ℕ} (x m : ℕ) → a ≡ a' → f ≡ f' → p ≡ p' → (a * f + x) * (3 + 2 * p) + m ≡ (a' * f' + x) * (3 + 2 * p') + m
  same_place x m ea ef ep = rw (ea, ef, ep) refl

  pub with_place : (P x m : ℕ) {a z : ℕ} → a ≡ place.rank fs P → z ≡ place_by f p a x m → z ≡ place.place_with fs (place.rank fs P) x m
  with_place P x m ea ez = ez ∙ same_place x m ea h.formulas h.principals

  record_is : (x : ℕ) {r : Record} → r ≡ look_in k index x → record_of fs x ≡ r
  record_is x e = sym (look_is k index x) ∙ sym e

  -- THE PLACE OF AN OPENED BELIEF of P in formula x
  pub opened_is : (P x : ℕ) {a b : ℕ} {r : Record} → a ≡ place.rank fs P → r ≡ look_in k index x → b ≡ place.rank fs r.first
      → belief_place f p a x r b ≡ place.place fs (opened fs P x)
  unfolding belief_place opened place.place
  opened_is P x {a} {b} {r} ea er eb = rw (record_is x er) (go (eqb r.kind 11) (eqb r.kind 14) (eqb r.kind 12))
    where
      same : (y m m' : ℕ) → m ≡ m' → place_by f p a y m ≡ place.place_with fs (place.rank fs P) y m'
      same y m m' em = same_place y m ea h.formulas h.principals ∙ ap (λ (n : ℕ). place.place_with fs (place.rank fs P) y n) em

      go : (u v w : Bool)
          → cond u (place_by f p a r.first 2) (cond v (place_by f p a r.second (3 + b)) (cond w (place_by f p a r.second (3 + p + b)) (place_by f p a x 1)))
          ≡ place.place fs (cond u (BelievesFresh P r.first) (cond v (BelievesSaid P r.first r.second) (cond w (BelievesBelieves P r.first r.second) (Believes P x))))
      go true v w = same r.first 2 2 refl
      go false true w = same r.second (3 + b) (3 + place.rank fs r.first) (ap (λ (n : ℕ). 3 + n) eb)
      go false false true = same r.second (3 + p + b) (3 + place.principal_count fs + place.rank fs r.first) (ap₂ (λ (m n : ℕ). 3 + m + n) h.principals eb)
      go false false false = same x 1 1 refl

  pub stated_belief : {r s : Record} {z : ℕ} → r ≡ s → r.kind ≡ 12 → z ≡ place.place fs (opened fs r.first r.second) → z ≡ place.place fs (stated_on fs s)
  stated_belief {r} {s} e k g = rw (← e, k) g

  pub stated_sight : {r s : Record} {z : ℕ} → r ≡ s → (r.kind ≡ 12 → ⊥) → z ≡ place.place_with fs (place.rank fs r.first) r.second 0 → z ≡ place.place fs (stated_on fs s)
  unfolding place.place
  stated_sight {r} {s} e k g = rw (← e, ne_eqb r.kind 12 k) g

  pub mark_is : (t : List ℕ) {r g : Record} {z v : ℕ} {b : Bool} → r ≡ g → z ≡ place.place fs (stated_on fs (look_in k index r.second)) → v ≡ get_or t z 0
      → b ≡ is_within r.first v → b ≡ mark_of fs t g
  unfolding goal_fact_on
  mark_is t {r} {g} {z} {v} {b} er ez ev eb =
      let e : z ≡ place.place fs (stated_on fs (record_of fs r.second)) = ez ∙ ap (λ (q : Record). place.place fs (stated_on fs q)) (look_is k index r.second) in
      rw (← er) (eb ∙ ap (λ (y : ℕ). is_within r.first y) (ev ∙ ap (λ (y : ℕ). get_or t y 0) e))

-- one goal more
goals_step : (index : List ℕ) (g : ℕ) → goals_from + g < length index → goals_in (g + 1) index ≡ goals_in g index ++ (goal_in index g ∷ [])
unfolding goals_in
goals_step index g l =
    ap (λ (k : ℕ). map unpacked (take k (drop goals_from index))) (add-one g)
    ∙ ap (map unpacked) (take-suc (drop goals_from index) g 0 (rw length-drop (omega arith)))
    ∙ map-append unpacked (take g (drop goals_from index)) (get_or (drop goals_from index) g 0 ∷ [])
    ∙ ap (λ (v : ℕ). map unpacked (take g (drop goals_from index)) ++ (unpacked v ∷ [])) (get_or-drop goals_from index g 0)

count_more : (l : List Bool) (b : Bool) → count_true (l ++ (b ∷ [])) ≡ count_true l + cond b 1 0
unfolding count_true
count_more [] b = omega arith
count_more (a ∷ l) b = let e = count_more l b in omega arith

pub reached_step : (fs : List Record) (index t : List ℕ) (g : ℕ) {r k : ℕ} {b : Bool} → goals_from + g < length index → r ≡ count_true (marks_by fs (goals_in g index) t)
    → b ≡ mark_of fs t (goal_in index g) → k ≡ bool_byte b → r + k ≡ count_true (marks_by fs (goals_in (g + 1) index) t)
unfolding marks_by
reached_step fs index t g {r} {k} {b} l er eb ek =
    ap₂ (λ (x y : ℕ). x + y) er (ek ∙ as_number b ∙ ap (λ (x : Bool). cond x 1 0) eb)
    ∙ sym (ap (λ (gs : List Record). count_true (map (mark_of fs t) gs)) (goals_step index g l)
    ∙ ap count_true (map-append (mark_of fs t) (goals_in g index) (goal_in index g ∷ []))
    ∙ count_more (map (mark_of fs t) (goals_in g index)) (mark_of fs t (goal_in index g)))

-- how many goals the index has
pub goals_all : (index : List ℕ) (goals : ℕ) {n : ℕ} → n ≡ min goals (length index - goals_from) → goals_in n index ≡ goals_in goals index
unfolding goals_in
goals_all index goals e = ap (map unpacked) (take_least goals (drop goals_from index) (sym (length-drop goals_from index)) e)

-- f and p, by the index
pub sized : (k : ℕ) (index : List ℕ) {f p : ℕ} → k < 65536 → f ≡ min k (length index) → p ≡ place.rank (records_in k index) f → p ≤ 65535
    → Sized (records_in k index) f p
unfolding records_in place.rank
sized k index {f} {p} l ef ep few =
    let n : f ≡ length (records_in k index) = ef ∙ sym (length-map (take k index) unpacked ∙ length-take k index) in
    record {
      formulas = n;
      principals = ep ∙ rw (n, take-length (records_in k index)) refl;
      few = omega arith;
      fewer = few;
    }
