-- Deliveries one after the other, and the turns that they make. Assumes nothing.
use Prim.Native.Nat.{ℕ, zero, suc, ◌+◌, ◌*◌, ◌/◌, ◌%◌, ◌^◌, ◌<◌, ◌≤◌}
use native.Mathlib.Nat.{one-mul, mod-eq_of_lt, zero-add}
use native.Mathlib.Numerals.{add-one}
use native.Mathlib.Omega.{arith}
use native.Mathlib.Decide.{dec_lt}
use mathlib.Core.Path.{◌≡◌, refl, sym, ap, ◌∙◌, subst}
use mathlib.Core.List.{List, [], ◌∷◌}
use mathlib.Core.Bool.{Bool, true, false}
use lib.ListN.{length, get_or, set, replicate, get_or-replicate, length-set, get_or-eq_default}
use lib.Pow.{pow-lt}
use lib.Dec.{ltb, eqb}
use borrow.Author.Tests.{lt-ltb, le-ltb, ltb-true, eqb-true}
use Rattle.flat.specs.Layout.{at}
use Rattle.stages.specs.Stages.{gives, receiver_in, only, delivered, delivered_from, stamps_from, goes_on, Turning}
use Rattle.lanes.specs.Lanes.{State, entered}
use Rattle.rules.proofs.Keys.{apart, both_true}
use Rattle.stages.specs.Stages.IsTurn.{none, more}

-- the set of one rank
pub only_one_lem : (r : ℕ) → r < 8 → 1 * 2 ^ r % 256 ≡ only r
unfolding only
only_one_lem r l = rw (lt-ltb r 8 l, one-mul (2 ^ r)) (mod-eq_of_lt {n = 2 ^ r} {m = 2 ^ 8} (pow-lt {i = r} {j = 8} l))

pub only_none : (r : ℕ) → 8 ≤ r → 0 ≡ only r
unfolding only
only_none r l = rw (le-ltb r 8 l)

module _ (ds u : List ℕ) (k : ℕ) (s : State) where
  -- by the number of the delivery
  pub delivered_by : (m : ℕ) {d : ℕ} {t : State} → d ≡ get_or ds m 0 → t ≡ entered u k (only (d / 256)) (gives 65 (m + 1) (at (d % 256) 0)) s → t ≡ delivered ds u k m s
  unfolding delivered
  delivered_by m e h = rw (← e) h

  -- all of them
  pub all_none : s ≡ delivered_from ds u k 0 0 s
  unfolding delivered_from
  all_none = refl

  pub all_more : (m : ℕ) {t v : State} → t ≡ delivered_from ds u k 0 m s → v ≡ delivered ds u k m t → v ≡ delivered_from ds u k 0 (m + 1) s
  unfolding delivered_from
  all_more m e f = rw (add-one m, ← e, zero-add m) f

  pub all_end : (m n : ℕ) {t : State} → m ≤ n → n ≤ m → t ≡ delivered_from ds u k 0 m s → t ≡ delivered_from ds u k 0 n s
  all_end m n l h e = let z : m ≡ n = omega arith in rw z at e

-- what comes later has the log of the same principal
pub delivered_since : (ds u : List ℕ) (m : ℕ) (s : State) {k k' : ℕ} {t : State} → k' ≡ k → t ≡ delivered ds u k' m s → t ≡ delivered ds u k m s
delivered_since ds u m s {t = t} e h = subst (λ x. t ≡ delivered ds u x m s) e h

-- whether a turn goes on
pub goes_by : (ds v : List ℕ) (m : ℕ) {r x : ℕ} → m < length ds → r ≡ receiver_in ds m → x ≡ get_or v r 1 → eqb x 1 ≡ goes_on ds v m
unfolding goes_on
goes_by ds v m l e f = rw (lt-ltb m (length ds) l, ← e, ← f)

-- the same by the number of the delivery
pub goes_on_is : (ds v : List ℕ) (m : ℕ) {d : ℕ} {g : Bool} → m < length ds → d ≡ get_or ds m 0 → g ≡ eqb (get_or v (d / 256) 1) 1 → g ≡ goes_on ds v m
goes_on_is ds v m l e f = f ∙ goes_by ds v m l (ap (λ x. x / 256) e) refl

-- what stands in a list does not depend on what stands for a place outside
pub getD_inside : (l : List ℕ) (i d e : ℕ) → i < length l → get_or l i d ≡ get_or l i e
getD_inside [] i d e h = absurd (omega arith)
getD_inside (x ∷ l) zero d e h = refl
getD_inside (x ∷ l) (suc i) d e h = getD_inside l i d e (omega arith)

pub stamps_length : (ds : List ℕ) (m c : ℕ) → length (stamps_from ds m c) ≡ 8
unfolding stamps_from
stamps_length ds m zero = refl
stamps_length ds m (suc c) = length-set (stamps_from ds m c) _ _ ∙ stamps_length ds m c

-- who has received none has 1, and so has nobody
one_each : (r : ℕ) → ◌≡◌ {A = ℕ} (get_or (replicate 8 1) r 1) 1
one_each r = elim (dec_lt r 8) [
  | yes l ↦ get_or-replicate 8 r 1 1 l
  | no l ↦ get_or-eq_default (replicate 8 1) 1 {n = r} (omega arith)
]

-- A TURN
module _ (ds u : List ℕ) (m : ℕ) (s : State) where
  pub turning_none : (v : List ℕ) → v ≡ replicate 8 1 → Turning ds u m s m s v
  unfolding delivered_from stamps_from
  turning_none v e = (0, omega arith, none, refl, e)

  pub there : (n : ℕ) (v : List ℕ) {g : Bool} → g ≡ goes_on ds v n → g ≡ true → n < length ds
  unfolding goes_on
  there n v e h = ltb-true n (length ds) (both_true (ltb n (length ds)) (eqb (get_or v (receiver_in ds n) 1) 1) (sym e ∙ h)).0

  pub turning_more : (n : ℕ) (s' t : State) (v : List ℕ) {g : Bool} {r : ℕ} {w : List ℕ} → Turning ds u m s n s' v → g ≡ goes_on ds v n → g ≡ true
      → t ≡ delivered ds u 8 n s' → r ≡ receiver_in ds n → w ≡ set v r (n + 2) → Turning ds u m s (n + 1) t w
  unfolding goes_on delivered_from stamps_from
  turning_more n s' t v (c, en, i, es, ev) eg h et er ew =
      let a = both_true (ltb n (length ds)) (eqb (get_or v (receiver_in ds n) 1) 1) (sym eg ∙ h) in
      let l = ltb-true n (length ds) a.0 in
      let f : get_or v (receiver_in ds n) 1 ≡ 1 = eqb-true (get_or v (receiver_in ds n) 1) 1 a.1 in (
        suc c,
        omega arith,
        more c i (omega arith) (subst (λ k. get_or (stamps_from ds m c) (receiver_in ds k) 1 ≡ 1) en (rw ev at f)),
        rw (← en, ← es) et,
        rw (← en, ← ev, ← er) ew,
      )

  -- it goes on from where it begins
  pub turning_goes : (n : ℕ) (s' : State) (v : List ℕ) {g : Bool} → Turning ds u m s n s' v → g ≡ goes_on ds v n → g ≡ false → m < length ds → m < n
  unfolding goes_on stamps_from
  turning_goes n s' v (zero, en, i, es, ev) eg h l =
      let z : n ≡ m = omega arith in
      let q : goes_on ds v m ≡ true = rw (lt-ltb m (length ds) l, ev, one_each (receiver_in ds m)) refl in
      apart (sym (sym (sym eg ∙ h) ∙ ap (goes_on ds v) z ∙ q))
  turning_goes n s' v (suc c, en, i, es, ev) eg h l = omega arith

  pub turning_end : (s' : State) (v : List ℕ) {n n' : ℕ} → n ≡ n' → Turning ds u m s n s' v → Turning ds u m s n' s' v
  turning_end s' v e t = subst (λ n. Turning ds u m s n s' v) e t
