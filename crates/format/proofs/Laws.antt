-- Laws that the proofs of this crate cite, over plain variables. Assumes nothing.
use Prim.Native.Nat.{ℕ, zero, suc, ◌+◌, ◌%◌, ◌<◌, ◌≤◌}
use native.Mathlib.Numerals.{add-one}
use native.Mathlib.Omega.{arith}
use mathlib.Core.Path.{◌≡◌, refl, sym, ◌∙◌}
use mathlib.Core.List.{List, [], ◌∷◌}
use mathlib.Core.Bool.{Bool, true, false, cond, not, ◌&&◌, ◌||◌}
use lib.ListN.{length, get_or, take, drop, length-take, drop_of_length-le, get_or-eq_default}
use lib.Seq.{drop-cons, get_or-take}
use lib.Dec.{T, leb, ltb, eqb}
use borrow.Author.Tests.{eq-eqb, ne_eqb, lt-ltb, le-ltb, leb-true}
use Rattle.logic.specs.declared.Sort.{Sort}
use Rattle.logic.specs.declared.Sort.TheVariants.{Absent, Name, Principal, Key, Formula, Variable, Control, Statement, Message}
use Rattle.logic.specs.declared.Body.{Body}
use Rattle.logic.specs.declared.Record.{Record}
use Rattle.logic.specs.Kind.{bodies, body_of, none, is_field, size_of, is_formula_record}
use Rattle.logic.specs.Record.{no_record, word, field, record_at}
use Rattle.format.specs.Variables.{joined_low, joined}
use Rattle.format.specs.Index.{record_within, unpacked, record_in, look_in, position_in}
use Rattle.logic.proofs.Table.{at_each_kind}
use Rattle.logic.proofs.Tests.{T_and}

-- A byte that is no number of the table has no field.

-- k is none of the n numbers from `low` on, as the rest of a `match` says it
abbrev pub NoneFrom : ℕ → ℕ → ℕ → Type 0
NoneFrom k low zero = Unit
NoneFrom k low (suc n) = NoneFrom k low n × (k ≡ low + n → ⊥)

pub none_from : (k low n : ℕ) → NoneFrom k low n → low ≤ k → k < low + n → ⊥
none_from k low zero u l h = omega arith
none_from k low (suc n) u l h = let g = u.1 in none_from k low n u.0 l (omega arith)

pub none_above : (k low n : ℕ) → low + n ≤ k → NoneFrom k low n
none_above k low zero l = tt
none_above k low (suc n) l = (none_above k low n (omega arith), λ e. omega arith)

absent : (s : Sort) → T (not (is_field s)) → s ≡ Absent
absent Absent t = refl
absent Name t = absurd t
absent Principal t = absurd t
absent Key t = absurd t
absent Formula t = absurd t
absent Variable t = absurd t
absent Control t = absurd t
absent Statement t = absurd t
absent Message t = absurd t

is_none : Body → Bool
is_none b = not (is_field b.first) && (not (is_field b.second) && not (is_field b.third))

all_absent : (b : Body) → T (is_none b) → b ≡ none
unfolding is_none
all_absent b t = go (is_field b.first) (is_field b.second) (is_field b.third) refl refl refl t
  where
    go : (x y z : Bool) → is_field b.first ≡ x → is_field b.second ≡ y → is_field b.third ≡ z
        → T (not x && (not y && not z)) → b ≡ none
    go true y z p q r t = absurd t
    go false true z p q r t = absurd t
    go false false true p q r t = absurd t
    go false false false p q r t =
        let x = absent b.first (rw p tt) in
        let y = absent b.second (rw q tt) in
        let z = absent b.third (rw r tt) in
        λ i. record { first = x i; second = y i; third = z i }

is_listed : ℕ → Bool
is_listed k = is_formula_record k || (eqb k 32 || (eqb k 33 || eqb k 34))

none_or_listed : (k : ℕ) → T (is_listed k || is_none (body_of k))
unfolding is_listed is_none body_of bodies
none_or_listed = at_each_kind (λ k b. is_listed k || is_none b) tt right
  where
    right : (k : ℕ) → T (is_listed k || true)
    right k = or_true (is_listed k)
      where
        or_true : (x : Bool) → T (x || true)
        or_true true = tt
        or_true false = tt

pub other_kind : (k : ℕ) → NoneFrom k 1 17 → (k ≡ 32 → ⊥) → (k ≡ 33 → ⊥) → (k ≡ 34 → ⊥) → none ≡ body_of k
unfolding is_listed
other_kind k u a m g = sym (all_absent (body_of k) (rw unlisted at (none_or_listed k)))
  where
    outside : is_formula_record k ≡ false
    outside = go (leb 1 k) (leb k 17) refl refl
      where
        go : (x y : Bool) → leb 1 k ≡ x → leb k 17 ≡ y → (x && y) ≡ false
        go true true p q = absurd (none_from k 1 17 u (leb-true 1 k p) (let l = leb-true k 17 q in omega arith))
        go true false p q = refl
        go false y p q = refl

    unlisted : is_listed k ≡ false
    unlisted = rw (outside, ne_eqb k 32 a, ne_eqb k 33 m, ne_eqb k 34 g)

-- The variables of two parts together.
pub low_small : (a b : ℕ) → a < 512 → b < 512 → joined_low a b < 512
unfolding joined_low
low_small a b l m = go (eqb a 0) (eqb b 0) (eqb a b)
  where
    go : (x y z : Bool) → cond x b (cond y a (cond z a 257)) < 512
    go true y z = m
    go false true z = l
    go false false true = l
    go false false false = omega arith

pub join_left : (a b : ℕ) → 512 ≤ a → {v : ℕ} → v ≡ joined_low (a % 512) (b % 512) → 512 + v ≡ joined a b
unfolding joined
join_left a b l e = rw (e, le-ltb a 512 l) refl

pub join_right : (a b : ℕ) → a < 512 → 512 ≤ b → {v : ℕ} → v ≡ joined_low (a % 512) (b % 512) → 512 + v ≡ joined a b
unfolding joined
join_right a b l m e = rw (e, lt-ltb a 512 l, le-ltb b 512 m) refl

pub join_plain : (a b : ℕ) → a < 512 → b < 512 → {v : ℕ} → v ≡ joined_low (a % 512) (b % 512) → v ≡ joined a b
unfolding joined
join_plain a b l m e = e ∙ rw (lt-ltb a 512 l, lt-ltb b 512 m) refl

-- Seeking x among the first f numbers of t, from place i on: the place that is looked for is z.
module _ (x : ℕ) (t : List ℕ) (f i z : ℕ) (h : i + position_in x (drop i (take f t)) ≡ z) where
  pub place_out : length (take f t) ≤ i → i ≡ z
  unfolding position_in
  place_out l = let e : i + position_in x [] ≡ z = rw (drop_of_length-le (take f t) l) at h in omega arith

  pub place_end : f ≤ i → i ≡ z
  place_end l = place_out (simp length-take (omega arith))

  pub place_past : length t ≤ i → i ≡ z
  place_past l = place_out (simp length-take (omega arith))

  module _ (l : i < f) (k : i < length t) where
    inside : i < length (take f t)
    inside = simp length-take (omega arith)

    next : i + position_in x (get_or t i 0 ∷ drop (i + 1) (take f t)) ≡ z
    next = rw (add-one, ← get_or-take f t i 0 l, ← drop-cons (take f t) i 0 inside) h

    pub place_hit : get_or t i 0 ≡ x → i ≡ z
    unfolding position_in
    place_hit e = let g = rw (eq-eqb x (get_or t i 0) (sym e)) at next in omega arith

    pub place_more : (get_or t i 0 ≡ x → ⊥) → i + 1 + position_in x (drop (i + 1) (take f t)) ≡ z
    unfolding position_in
    place_more e = let g = rw (ne_eqb x (get_or t i 0) (λ p. e (sym p))) at next in omega arith

-- There is no record past the end of an index.
pub past_end : (t : List ℕ) (i : ℕ) → length t ≤ i → no_record ≡ record_in t i
unfolding unpacked
past_end t i l = rw (get_or-eq_default t 0 l)

-- Formula x of an index t with f formulas, by what the test on the place i says.
module _ (f : ℕ) (t : List ℕ) (x i : ℕ) (e : i ≡ x) where
  pub look_past : f ≤ i → no_record ≡ look_in f t x
  unfolding look_in
  look_past l = rw (← e, le-ltb i f l)

  pub look_in_lem : {r : Record} → i < f → r ≡ record_in t i → r ≡ look_in f t x
  unfolding look_in
  look_in_lem l k = rw (← e, lt-ltb i f l) k

-- Two bytes past the end.
pub word_past : (s : List ℕ) (i : ℕ) → length s ≤ i → 0 ≡ word s i
unfolding word
word_past s i l = rw (get_or-eq_default s 0 {n = i} l, get_or-eq_default s 0 {n = i + 1} (omega arith))

abbrev alike : Bool → Bool → Bool
alike true y = y
alike false y = not y

alike_is : (x y : Bool) → T (alike x y) → x ≡ y
alike_is true true u = refl
alike_is true false u = absurd u
alike_is false true u = absurd u
alike_is false false u = refl

-- A kind has its first, second and third field where its records have more than one, three and five bytes.
field_sizes : (k : ℕ) → (is_field (body_of k).first ≡ ltb 1 (size_of (body_of k))) × (is_field (body_of k).second ≡ ltb 3 (size_of (body_of k)))
    × (is_field (body_of k).third ≡ ltb 5 (size_of (body_of k)))
unfolding body_of bodies
field_sizes k =
    let t = at_each_kind (λ k b. alike (is_field b.first) (ltb 1 (size_of b)) && (alike (is_field b.second) (ltb 3 (size_of b)) && alike (is_field b.third) (ltb 5 (size_of b)))) tt (λ k. tt) k in
    let p = T_and (alike (is_field (body_of k).first) (ltb 1 (size_of (body_of k)))) _ t in
    let q = T_and (alike (is_field (body_of k).second) (ltb 3 (size_of (body_of k)))) _ p.1 in
    (alike_is _ _ p.0, alike_is _ _ q.0, alike_is _ _ q.1)

-- A record from its bytes
pub within_is : (s : List ℕ) (z : ℕ) {k x y w : ℕ} → k ≡ get_or s 0 0 → x ≡ cond (ltb 1 z) (word s 1) 0 → y ≡ cond (ltb 3 z) (word s 3) 0
    → w ≡ cond (ltb 5 z) (word s 5) 0 → record { kind = k; first = x; second = y; third = w } ≡ record_within z s
unfolding record_within
within_is s z ek ex ey ew = rw (ek, ex, ey, ew) refl

-- where z is the size of its kind
pub within_whole : (s : List ℕ) (z : ℕ) → z ≡ size_of (body_of (get_or s 0 0)) → record_within z s ≡ record_at s
unfolding record_within record_at field
within_whole s z ez =
    let f = field_sizes (get_or s 0 0) in
    rw (ez, f.0, f.1, f.2) refl
