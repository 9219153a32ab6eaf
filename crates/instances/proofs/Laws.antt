-- Laws that the proofs of this crate's functions cite, over plain variables. Assumes nothing.
use Prim.Native.Nat.{ℕ, zero, suc, ◌+◌, ◌<◌, ◌≤◌}
use native.Mathlib.Numerals.{add-one}
use native.Mathlib.Omega.{arith}
use native.Mathlib.Decide.{ℕ_discrete}
use mathlib.Core.Path.{◌≡◌, refl, sym, ap, ◌∙◌, subst}
use mathlib.Core.List.{List}
use mathlib.Core.Bool.{Bool, true, false, cond, ◌||◌}
use lib.ListN.{length, get_or, set, take, replicate, length-set, length-replicate}
use lib.Seq.{get_or-take}
use Rattle.std.specs.Prelude.{Option}
use Rattle.std.specs.Option.{unwrap_or}
use Rattle.std.proofs.lemmas.List.{length-take-le}
use lib.Dec.{eqb}
use borrow.Author.Tests.{ne_eqb}
use Rattle.logic.specs.declared.Record.{Record}
use Rattle.format.specs.Index.{index_size, packed, record_in}
use Rattle.std.specs.List.{list_any, range_with_len}
use Rattle.chains.specs.Chain.{found_in, place_told, Ready, is_outside, heads_upto, next_upto}
use Rattle.chains.proofs.Chain.{unchained, chained_upto, inside, ready}
use Rattle.instances.specs.Images.{has_just, count_just, list_just, place_found, mapped, image_of, images_upto}
use Rattle.instances.specs.Rows.{with_bit, has_delegation, imaged_upto, key_one, keys_upto, put_for}

-- A KIND 17
swapped : (x y z : Bool) → ((x || y) || z) ≡ (y || (x || z))
swapped true true z = refl
swapped true false z = refl
swapped false true z = refl
swapped false false z = refl

or_none : (b : Bool) → b ≡ (b || false)
or_none true = refl
or_none false = refl

module _ (t : List ℕ) where
  abbrev any_in : List ℕ → Bool
  any_in = list_any (λ x. eqb (record_in t x).kind 17)

  any_behind : (n a : ℕ) → (any_in (range_with_len a n) || has_delegation t a) ≡ has_delegation t (a + n)
  unfolding has_delegation
  any_behind zero a = ap (has_delegation t) (omega arith)
  any_behind (suc n) a =
      let e : has_delegation t (a + 1) ≡ (eqb (record_in t a).kind 17 || has_delegation t a) = rw (add-one a) refl in
      swapped (eqb (record_in t a).kind 17) (any_in (range_with_len (a + 1) n)) (has_delegation t a)
      ∙ ap (λ (b : Bool). any_in (range_with_len (a + 1) n) || b) (sym e)
      ∙ any_behind n (a + 1)
      ∙ ap (has_delegation t) (omega arith)

  more_delegation : (x n : ℕ) → has_delegation t x ≡ true → x ≤ n → has_delegation t n ≡ true
  unfolding has_delegation
  more_delegation x zero e l = subst (λ k. has_delegation t k ≡ true) (let d : x ≡ 0 = omega arith in d) e
  more_delegation x (suc n) e l = elim (ℕ_discrete x (suc n)) [
    | yes d ↦ subst (λ k. has_delegation t k ≡ true) d e
    | no d ↦ go (eqb (record_in t n).kind 17) (more_delegation x n e (omega arith))
  ]
    where
      go : (v : Bool) → has_delegation t n ≡ true → (v || has_delegation t n) ≡ true
      go true h = refl
      go false h = h

  pub delegation_here : (x n : ℕ) {k : ℕ} → x < n → k ≡ (record_in t x).kind → k ≡ 17 → true ≡ has_delegation t n
  unfolding has_delegation
  delegation_here x n l e h = sym (more_delegation (suc x) n (rw (← e, h)) (omega arith))

  -- one of the first n, found by going over them
  pub any_delegation : (n : ℕ) {b : Bool} → b ≡ any_in (range_with_len 0 n) → b ≡ has_delegation t n
  unfolding has_delegation
  any_delegation n e = e ∙ or_none (any_in (range_with_len 0 n)) ∙ any_behind n 0 ∙ ap (has_delegation t) (omega arith)

-- FORMULAS WITH JUST v
module _ (t : List ℕ) (v : ℕ) where
  pub count_below : (y : ℕ) → count_just t v y ≤ y
  unfolding count_just
  count_below zero = omega arith
  count_below (suc y) = go (has_just t v y) (count_below y)
    where
      go : (b : Bool) → count_just t v y ≤ y → cond b (count_just t v y + 1) (count_just t v y) ≤ suc y
      go true l = omega arith
      go false l = omega arith

  module _ (y m : ℕ) (just : List ℕ) where
    pub not_listed : {b : Bool} → b ≡ has_just t v y → b ≡ false
        → (m ≡ cond (has_just t v y) (m + 1) m) × (just ≡ cond (has_just t v y) (set just m y) just)
    not_listed e z = rw (← e, z) (refl, refl)

    pub is_listed_lem : {b : Bool} → b ≡ has_just t v y → b ≡ true
        → (m + 1 ≡ cond (has_just t v y) (m + 1) m) × (set just m y ≡ cond (has_just t v y) (set just m y) just)
    is_listed_lem e z = rw (← e, z) (refl, refl)

  module _ (just : List ℕ) where
    pub listed_none : (0 ≡ count_just t v 0) × (just ≡ list_just t v 0 just)
    unfolding count_just list_just
    listed_none = (refl, refl)

    pub listed_more : (y m : ℕ) {k : ℕ} {a b : List ℕ} → (m ≡ count_just t v y) × (a ≡ list_just t v y just)
        → (k ≡ cond (has_just t v y) (m + 1) m) × (b ≡ cond (has_just t v y) (set a m y) a)
        → (k ≡ count_just t v (y + 1)) × (b ≡ list_just t v (y + 1) just)
    unfolding count_just list_just
    listed_more y m e g = (g.0 ∙ rw (add-one y, e.0), g.1 ∙ rw (add-one y, e.0, e.1))

    pub listed_length : (y : ℕ) → length (list_just t v y just) ≡ length just
    unfolding list_just
    listed_length zero = refl
    listed_length (suc y) = go (has_just t v y) (listed_length y)
      where
        go : (b : Bool) → length (list_just t v y just) ≡ length just
            → length (cond b (set (list_just t v y just) (count_just t v y) y) (list_just t v y just)) ≡ length just
        go true e = length-set (list_just t v y just) (count_just t v y) y ∙ e
        go false e = e

  pub listed_wide : (n : ℕ) {m : ℕ} {a : List ℕ} → (m ≡ count_just t v n) × (a ≡ list_just t v n (replicate 256 0)) → length a ≡ 256
  listed_wide n e = ap length e.1 ∙ listed_length (replicate 256 0) n ∙ length-replicate {A = ℕ} 256 0

  pub listed_room : (n : ℕ) {m : ℕ} {a : List ℕ} → n ≤ 256 → (m ≡ count_just t v n) × (a ≡ list_just t v n (replicate 256 0)) → m ≤ length a
  listed_room n l e = omega (arith, e.0, listed_wide n e, count_below n)

-- IMAGES
-- what a search found, or the number of no formula
told : (c : ℕ) → unwrap_or (place_told c) 256 ≡ place_found c
told zero = refl
told (suc c) = rw (ne_eqb (suc c) 0 (λ (e : suc c ≡ 0). omega arith)) (omega arith)

module _ (t : List ℕ) (n v k : ℕ) where
  module _ (images : List ℕ) (y : ℕ) where
    pub image_found : (y ≡ v → ⊥) → {q r : Record} {p c i : ℕ} {o : Option ℕ} → r ≡ record_in t y → q ≡ mapped t v images r → p ≡ packed q → o ≡ place_told c → c ≡ found_in t p n
        → i ≡ unwrap_or o 256 → i ≡ image_of t n v k images y
    unfolding image_of
    image_found d {c = c} e f g s h j = j ∙ ap (λ (o : Option ℕ). unwrap_or o 256) s ∙ told c ∙ rw (h, g, f, e, ne_eqb y v d)

  module _ (a : List ℕ) (rows : List ℕ) where
    pub imaged_none : (replicate 256 256 ≡ images_upto t n v k a 0) × (rows ≡ imaged_upto t n v k a 0 rows)
    unfolding images_upto imaged_upto
    imaged_none = (refl, refl)

    pub imaged_more : (i : ℕ) {x : ℕ} {images u w : List ℕ} → (images ≡ images_upto t n v k a i) × (u ≡ imaged_upto t n v k a i rows)
        → x ≡ image_of t n v k images (get_or a i 0) → w ≡ with_bit u (get_or a i 0) x
        → (set images (get_or a i 0) x ≡ images_upto t n v k a (i + 1)) × (w ≡ imaged_upto t n v k a (i + 1) rows)
    unfolding images_upto imaged_upto
    imaged_more i e f g = (rw (add-one i, f, e.0), g ∙ rw (add-one i, f, e.0, e.1))

    -- the first m formulas of a are those of its first m
    module _ (m : ℕ) where
      images_taken : (i : ℕ) → i ≤ m → images_upto t n v k (take m a) i ≡ images_upto t n v k a i
      unfolding images_upto
      images_taken zero l = refl
      images_taken (suc i) l = rw (get_or-take m a i 0 l, images_taken i (omega arith)) refl

      imaged_taken : (i : ℕ) → i ≤ m → imaged_upto t n v k (take m a) i rows ≡ imaged_upto t n v k a i rows
      unfolding imaged_upto
      imaged_taken zero l = refl
      imaged_taken (suc i) l = rw (get_or-take m a i 0 l, images_taken i (omega arith), imaged_taken i (omega arith)) refl

      key_taken : key_one t n v (take m a) m k rows ≡ key_one t n v a m k rows
      unfolding key_one
      key_taken = ap (λ (u : List ℕ). cond (eqb (record_in t k).kind 2) u rows) (imaged_taken m (omega arith))

module _ (t : List ℕ) (n v : ℕ) where
  keys_taken : (a : List ℕ) (m : ℕ) (rows : List ℕ) (k : ℕ) → keys_upto t n v (take m a) m k rows ≡ keys_upto t n v a m k rows
  unfolding keys_upto
  keys_taken a m rows zero = refl
  keys_taken a m rows (suc k) = key_taken t n v k a (keys_upto t n v (take m a) m k rows) m ∙ ap (key_one t n v a m k) (keys_taken a m rows k)

  pub put_for_is : (rows : List ℕ) {m : ℕ} {a w : List ℕ} → m ≤ length a → (m ≡ count_just t v n) × (a ≡ list_just t v n (replicate 256 0))
      → w ≡ keys_upto t n v (take m a) (length (take m a)) n rows → w ≡ put_for t n v rows
  unfolding put_for
  put_for_is rows {m} {a} l e g =
      g ∙ ap (λ (j : ℕ). keys_upto t n v (take m a) j n rows) (length-take-le m a l) ∙ keys_taken a m rows n ∙ rw (e.0, e.1)

-- the chains of the first n numbers of an index
pub linked_ready : (t : List ℕ) (n : ℕ) {heads next : List ℕ} → n ≤ 256 → index_size ≤ length t
    → (heads ≡ cond (is_outside t n) (replicate 256 0) (heads_upto t n (replicate 256 0)))
    × (next ≡ cond (is_outside t n) (replicate 256 0) (next_upto t n (replicate 256 0) (replicate 256 0)))
    → Ready t heads next n
linked_ready t n {heads} {next} l m e =
    let d = inside t n l (omega arith) in
    rw (e.0, e.1, d) (ready t _ _ n l (omega arith) (chained_upto t (replicate 256 0) (replicate 256 0) n l (unchained t)))
