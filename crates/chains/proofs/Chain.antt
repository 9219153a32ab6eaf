-- A chain passes over no number that is sought, and takes a number more at its end. Assumes nothing.
use Prim.Native.Nat.{ℕ, zero, suc, ◌+◌, ◌-◌, ◌*◌, ◌/◌, ◌%◌, ◌<◌, ◌≤◌}
use native.Mathlib.Omega.{arith}
use native.Mathlib.Numerals.{add-one}
use native.Mathlib.Nat.{not-suc-le-zero}
use native.Mathlib.Decide.{dec_lt, ℕ_discrete}
use mathlib.Core.Path.{◌≡◌, refl, sym, ap, ◌∙◌, subst}
use mathlib.Core.List.{List}
use mathlib.Core.Bool.{Bool, true, false, cond, not, ◌||◌}
use lib.ListN.{length, get_or, set, replicate, length-set, get_or-replicate}
use lib.Seq.{get_or-set_same, get_or-set_other}
use lib.Dec.{eqb, ltb, leb}
use borrow.Author.Tests.{eqb-true, eqb-false, ltb-true, eq-eqb, ne_eqb, lt-ltb, le-ltb, le-leb, lt-leb}
use Rattle.std.specs.Prelude.{Some}
use Rattle.chains.specs.Chain.{hash_of, link_behind, found_along, found_from, place_told, last_before, found_in, is_before, Linked, Heads, Ready, is_outside, heads_upto, next_upto}

pub hash_small : (x : ℕ) → hash_of x < 256
unfolding hash_of
hash_small x = omega arith

-- the sum that the hash is taken from fits 64 bits
pub hash_fits : (x : ℕ) → x < 18446744073709551616 → x / 4294967296 * 40503 + x % 4294967296 * 34283 < 18446744073709551616
hash_fits x l = omega arith

-- WHAT IS FOUND: x stands at that place; and where x stands somewhere, it is found, there or behind
module _ (t : List ℕ) (x : ℕ) where
  pub found_at : (n i : ℕ) → found_in t x n ≡ suc i → (i < n) × (get_or t i 0 ≡ x)
  unfolding found_in
  found_at zero i e = absurd (omega arith)
  found_at (suc n) i e = go (eqb x (get_or t n 0)) refl e (found_at n i)
    where
      go : (v : Bool) → eqb x (get_or t n 0) ≡ v → cond v (suc n) (found_in t x n) ≡ suc i → (found_in t x n ≡ suc i → (i < n) × (get_or t i 0 ≡ x))
          → (i < suc n) × (get_or t i 0 ≡ x)
      go true d e f =
          let h : n ≡ i = omega arith in
          (omega arith, subst (λ k. get_or t k 0 ≡ x) h (sym (eqb-true x (get_or t n 0) d)))
      go false d e f =
          let h = f e in
          (omega (arith, h.0), h.1)

  pub found_some : (n i : ℕ) → i < n → get_or t i 0 ≡ x → (found_in t x n ≡ 0 → ⊥)
  unfolding found_in
  found_some zero i l e z = absurd (omega arith)
  found_some (suc n) i l e z = go (eqb x (get_or t n 0)) refl z (λ m. found_some n i m e)
    where
      go : (v : Bool) → eqb x (get_or t n 0) ≡ v → cond v (suc n) (found_in t x n) ≡ 0 → (i < n → found_in t x n ≡ 0 → ⊥) → ⊥
      go true d z f = omega arith
      go false d z f = elim (ℕ_discrete i n) [
        | yes h ↦ eqb-false x (get_or t n 0) d (sym e ∙ ap (λ k. get_or t k 0) h)
        | no h ↦ f (omega arith) z
      ]

  pub found_before : (n : ℕ) → is_before t x n ≡ not (eqb (found_in t x n) 0)
  unfolding found_in is_before
  found_before zero = refl
  found_before (suc n) = go (eqb x (get_or t n 0)) (found_before n)
    where
      go : (v : Bool) → is_before t x n ≡ not (eqb (found_in t x n) 0) → (v || is_before t x n) ≡ not (eqb (cond v (suc n) (found_in t x n)) 0)
      go true e = rw (ne_eqb (suc n) 0 (λ z. omega arith))
      go false e = e

module _ (t : List ℕ) where
  -- where a chain of h stands: at its end, or at a number with hash h
  On : ℕ → ℕ → Type 0
  On h zero = Unit
  On h (suc i) = hash_of (get_or t i 0) ≡ h

  last_le : (h n : ℕ) → last_before t h n ≤ n
  unfolding last_before
  last_le h zero = omega arith
  last_le h (suc n) = by (eqb (hash_of (get_or t n 0)) h) (last_le h n)
    where
      by : (v : Bool) → last_before t h n ≤ n → cond v (suc n) (last_before t h n) ≤ suc n
      by true e = omega arith
      by false e = omega arith

  last_on : (h n : ℕ) → On h (last_before t h n)
  unfolding last_before On
  last_on h zero = tt
  last_on h (suc n) = by (eqb (hash_of (get_or t n 0)) h) refl (last_on h n)
    where
      by : (v : Bool) → eqb (hash_of (get_or t n 0)) h ≡ v → On h (last_before t h n) → On h (cond v (suc n) (last_before t h n))
      by true e k = eqb-true (hash_of (get_or t n 0)) h e
      by false e k = k

  -- what the chain of x's hash passes over is not x
  skip : (x n : ℕ) → found_in t x n ≡ found_in t x (last_before t (hash_of x) n)
  unfolding last_before found_in
  skip x zero = refl
  skip x (suc n) = by (eqb (hash_of (get_or t n 0)) (hash_of x)) refl (skip x n)
    where
      by : (v : Bool) → eqb (hash_of (get_or t n 0)) (hash_of x) ≡ v → found_in t x n ≡ found_in t x (last_before t (hash_of x) n)
          → found_in t x (suc n) ≡ found_in t x (cond v (suc n) (last_before t (hash_of x) n))
      by true e k = refl
      by false e k = rw (ne_eqb x (get_or t n 0) (λ d. eqb-false (hash_of (get_or t n 0)) (hash_of x) e (ap hash_of (sym d)))) k

  module _ (x n : ℕ) where
    -- the chain of x at c: what is left decides
    pub record Left (c : ℕ) : Type 0 where
      pub within : c ≤ n
      on : On (hash_of x) c
      decides : found_in t x c ≡ found_in t x n

    pub begun : Left (last_before t (hash_of x) n)
    begun = record { within = last_le (hash_of x) n; on = last_on (hash_of x) n; decides = sym (skip x n) }

    pub ended : (c : ℕ) → Left c → c ≡ 0 → 0 ≡ found_in t x n
    unfolding found_in
    ended c l e = subst (λ k. found_in t x k ≡ found_in t x n) e l.decides

    at_pred : (c i : ℕ) → c ≡ suc i → c - 1 ≡ i
    at_pred c i e = omega arith

    pub hit : (c : ℕ) → Left c → (c ≡ 0 → ⊥) → get_or t (c - 1) 0 ≡ x → c ≡ found_in t x n
    unfolding found_in
    hit zero l z e = absurd (z refl)
    hit (suc i) l z e =
        let f : x ≡ get_or t i 0 = sym (ap (λ k. get_or t k 0) (sym (at_pred (suc i) i refl)) ∙ e) in
        go (eqb x (get_or t i 0)) (eq-eqb x (get_or t i 0) f) l.decides
      where
        go : (v : Bool) → v ≡ true → cond v (suc i) (found_in t x i) ≡ found_in t x n → suc i ≡ found_in t x n
        go true d h = h
        go false d h = absurd (let o : ◌≡◌ {A = ℕ} 0 1 = cc in omega arith)

    past : (i : ℕ) → (get_or t i 0 ≡ x → ⊥) → found_in t x (suc i) ≡ found_in t x n → found_in t x i ≡ found_in t x n
    unfolding found_in
    past i m h = go (eqb x (get_or t i 0)) (ne_eqb x (get_or t i 0) (λ d. m (sym d))) h
      where
        go : (v : Bool) → v ≡ false → cond v (suc i) (found_in t x i) ≡ found_in t x n → found_in t x i ≡ found_in t x n
        go true d h = absurd (let o : ◌≡◌ {A = ℕ} 0 1 = cc in omega arith)
        go false d h = h

    pub more : (next : List ℕ) (c k : ℕ) → Linked t next n → Left c → (c ≡ 0 → ⊥) → (get_or t (c - 1) 0 ≡ x → ⊥)
        → k ≡ get_or next (c - 1) 0 → Left k × (k < c)
    unfolding found_in On
    more next zero k u l z e h = absurd (z refl)
    more next (suc i) k u l z e h =
        (subst Left (sym at) here, (let q = last_le (hash_of x) i in let w : k ≤ i = rw at q in omega arith))
      where
        p : suc i - 1 ≡ i
        p = at_pred (suc i) i refl

        miss : get_or t i 0 ≡ x → ⊥
        miss d = e (ap (λ k. get_or t k 0) p ∙ d)

        at : k ≡ last_before t (hash_of x) i
        at = h ∙ ap (λ j. get_or next j 0) p ∙ u i (let q = l.within in omega arith) ∙ ap (λ y. last_before t y i) l.on

        here : Left (last_before t (hash_of x) i)
        here =
            record {
              within = (let q = last_le (hash_of x) i in let w = l.within in omega arith);
              on = last_on (hash_of x) i;
              decides = sym (skip x i) ∙ past i miss l.decides;
            }

-- ALONG A CHAIN, whatever its links are: it leads down, so the search from c on takes at most c numbers.
module _ (next : List ℕ) where
  pub behind_less : (c : ℕ) → 0 < c → link_behind next c < c
  unfolding link_behind
  behind_less c l = go (ltb 256 c) (ltb (get_or next (c - 1) 0) c) refl
    where
      go : (u v : Bool) → ltb (get_or next (c - 1) 0) c ≡ v → cond u 0 (cond v (get_or next (c - 1) 0) 0) < c
      go true v e = l
      go false true e = ltb-true (get_or next (c - 1) 0) c e
      go false false e = l

  -- the two ways in which it ends, and the one in which it goes on
  pub behind_outside : (c : ℕ) → 256 < c → 0 ≡ link_behind next c
  unfolding link_behind
  behind_outside c l = rw (lt-ltb 256 c l)

  pub behind_down : (c k : ℕ) → c ≤ 256 → k ≡ get_or next (c - 1) 0 → k < c → k ≡ link_behind next c
  unfolding link_behind
  behind_down c k l e d = rw (le-ltb 256 c l, sym e, lt-ltb k c d)

  pub behind_end : (c k : ℕ) → c ≤ 256 → k ≡ get_or next (c - 1) 0 → c ≤ k → 0 ≡ link_behind next c
  unfolding link_behind
  behind_end c k l e d = rw (le-ltb 256 c l, sym e, le-ltb k c d)

module _ (t next : List ℕ) (x : ℕ) where
  -- as long as c numbers are allowed it is no matter how many are
  enough : (k m c : ℕ) → c ≤ k → c ≤ m → found_along t next x k c ≡ found_along t next x m c
  unfolding found_along
  enough zero zero c l h = refl
  enough zero (suc m) zero l h = refl
  enough zero (suc m) (suc c) l h = absurd (omega arith)
  enough (suc k) zero zero l h = refl
  enough (suc k) zero (suc c) l h = absurd (omega arith)
  enough (suc k) (suc m) zero l h = refl
  enough (suc k) (suc m) (suc c) l h =
      let b = behind_less next (suc c) (omega arith) in
      rw (enough k m (link_behind next (suc c)) (omega arith) (omega arith)) refl

  -- one number of the chain
  one : (c : ℕ) → (c ≡ 0 → ⊥)
      → found_from t next x c
      ≡ cond (leb (length t) (c - 1)) 0 (cond (eqb (get_or t (c - 1) 0) x) c (found_from t next x (link_behind next c)))
  unfolding found_along
  one zero z = absurd (z refl)
  one (suc i) z =
      let b = behind_less next (suc i) (omega arith) in
      rw (ne_eqb (suc i) 0 z, enough i (link_behind next (suc i)) (link_behind next (suc i)) (omega arith) (omega arith)) refl

  -- the search at c: what is left decides what is found from `from` on
  module _ (from c : ℕ) (left : found_from t next x c ≡ found_from t next x from) where
    pub along_end : c ≡ 0 → 0 ≡ found_from t next x from
    unfolding found_along
    along_end e = subst (λ k. found_from t next x k ≡ found_from t next x from) e left

    pub along_outside : (c ≡ 0 → ⊥) → length t ≤ c - 1 → 0 ≡ found_from t next x from
    along_outside z l = sym (one c z ∙ rw (le-leb (length t) (c - 1) l)) ∙ left

    pub along_met : (c ≡ 0 → ⊥) → c - 1 < length t → get_or t (c - 1) 0 ≡ x → c ≡ found_from t next x from
    along_met z l e = sym (one c z ∙ rw (lt-leb (length t) (c - 1) l, eq-eqb (get_or t (c - 1) 0) x e)) ∙ left

    pub along_past : (k : ℕ) → (c ≡ 0 → ⊥) → c - 1 < length t → (get_or t (c - 1) 0 ≡ x → ⊥) → k ≡ link_behind next c
        → found_from t next x k ≡ found_from t next x from
    along_past k z l m e = ap (found_from t next x) e ∙ sym (one c z ∙ rw (lt-leb (length t) (c - 1) l, ne_eqb (get_or t (c - 1) 0) x m)) ∙ left

-- a number that was found stands one before its count
pub told_pred : (c : ℕ) → (c ≡ 0 → ⊥) → Some (c - 1) ≡ place_told c
told_pred zero z = absurd (z refl)
told_pred (suc i) z = let e : suc i - 1 ≡ i = omega arith in ap Some e

-- IN THE CHAINS OF A TABLE a search along the chain of x finds the last of the first n numbers that is x.
module _ (t heads next : List ℕ) (n x : ℕ) (r : Ready t heads next n) where
  walked : (k c : ℕ) → c ≤ k → Left t x n c → found_from t next x c ≡ found_in t x n
  unfolding found_along
  walked zero zero l h = ended t x n zero h refl
  walked zero (suc i) l h = absurd (omega arith)
  walked (suc k) zero l h = ended t x n zero h refl
  walked (suc k) (suc i) l h =
      one t next x (suc i) (λ z. omega arith) ∙ rw (lt-leb (length t) (suc i - 1) inside) (go (eqb (get_or t (suc i - 1) 0) x) refl (walked k (get_or next (suc i - 1) 0)))
    where
      inside : suc i - 1 < length t
      inside = let w = h.within in let a = r.0 in let b = r.1 in omega arith

      go : (v : Bool) → eqb (get_or t (suc i - 1) 0) x ≡ v
          → (get_or next (suc i - 1) 0 ≤ k → Left t x n (get_or next (suc i - 1) 0) → found_from t next x (get_or next (suc i - 1) 0) ≡ found_in t x n)
          → cond v (suc i) (found_from t next x (link_behind next (suc i))) ≡ found_in t x n
      go true e on = hit t x n (suc i) h (λ z. omega arith) (eqb-true (get_or t (suc i - 1) 0) x e)
      go false e on =
          let m = more t x n next (suc i) (get_or next (suc i - 1) 0) r.3 h (λ z. omega arith) (eqb-false (get_or t (suc i - 1) 0) x e) refl in
          let w = h.within in
          let a = r.0 in
          let d = behind_down next (suc i) (get_or next (suc i - 1) 0) (omega arith) refl m.1 in
          ap (found_from t next x) (sym d) ∙ on (let q = m.1 in omega arith) m.0

  pub found_ready : found_from t next x (get_or heads (hash_of x) 0) ≡ found_in t x n
  found_ready =
      let e = r.2 (hash_of x) (hash_small x) in
      walked (get_or heads (hash_of x) 0) (get_or heads (hash_of x) 0) (omega arith) (subst (Left t x n) (sym e) (begun t x n))

-- The chains of the first n numbers.
pub record Chained (t heads next : List ℕ) (n : ℕ) : Type 0 where
  pub linked : Linked t next n
  pub headed : Heads t heads n
  pub wide : length heads ≡ 256
  pub long : length next ≡ 256

last_same : (t u : List ℕ) (h n : ℕ) → ((i : ℕ) → i < n → get_or u i 0 ≡ get_or t i 0) → last_before u h n ≡ last_before t h n
unfolding last_before
last_same t u h zero e = refl
last_same t u h (suc n) e = rw (e n (omega arith), last_same t u h n (λ i l. e i (omega arith)))

-- a table with the same first n numbers has the same chains of them
pub kept_same : (t u heads next : List ℕ) (n : ℕ) → ((i : ℕ) → i < n → get_or u i 0 ≡ get_or t i 0) → Chained t heads next n → Chained u heads next n
kept_same t u heads next n same c =
    record {
      linked = λ i m. c.linked i m ∙ sym (ap (λ x. last_before t (hash_of x) i) (same i m)) ∙ sym (last_same t u _ i (λ j k. same j (omega arith)));
      headed = λ h m. c.headed h m ∙ sym (last_same t u h n same);
      wide = c.wide;
      long = c.long;
    }

-- a number put behind the first n leaves their chains
pub kept : (t heads next : List ℕ) (n p w : ℕ) → n ≤ p → Chained t heads next n → Chained (set t p w) heads next n
kept t heads next n p w l c = kept_same t (set t p w) heads next n (λ i m. get_or-set_other t p i w 0 (λ e. omega arith)) c

-- the number behind them is linked
module _ (t heads next : List ℕ) (n w : ℕ) (ln : n < 256) (here : get_or t n 0 ≡ w) (c : Chained t heads next n) where
  linked_more : Linked t (set next n (get_or heads (hash_of w) 0)) (suc n)
  linked_more i l =
      elim (dec_lt i n) [
        | yes h ↦ get_or-set_other next n i (get_or heads (hash_of w) 0) 0 (λ e. omega arith) ∙ c.linked i h
        | no h ↦ subst (λ j. get_or (set next n (get_or heads (hash_of w) 0)) j 0 ≡ last_before t (hash_of (get_or t j 0)) j) (let e : n ≡ i = omega arith in e)
            (get_or-set_same next n (get_or heads (hash_of w) 0) 0 (rw c.long ln)
            ∙ c.headed (hash_of w) (hash_small w)
            ∙ sym (ap (λ x. last_before t (hash_of x) n) here))
      ]

  heads_more : Heads t (set heads (hash_of w) (suc n)) (suc n)
  unfolding last_before
  heads_more h l =
      elim (ℕ_discrete (hash_of w) h) [
        | yes e ↦ subst (λ k. get_or (set heads (hash_of w) (suc n)) k 0 ≡ last_before t k (suc n)) e
            (rw (get_or-set_same heads (hash_of w) (suc n) 0 (rw c.wide (hash_small w)), here, eq-eqb (hash_of w) (hash_of w) refl))
        | no d ↦ get_or-set_other heads (hash_of w) h (suc n) 0 (λ e. d (sym e)) ∙ c.headed h l ∙ (rw (here, ne_eqb (hash_of w) h d))
      ]

  pub entered : Chained t (set heads (hash_of w) (suc n)) (set next n (get_or heads (hash_of w) 0)) (suc n)
  entered = record { linked = linked_more; headed = heads_more; wide = length-set heads (hash_of w) (suc n) ∙ c.wide; long = length-set next n _ ∙ c.long }

-- a number that is put behind them and linked
pub grown : (t heads next : List ℕ) (n w : ℕ) → n < length t → n < 256 → Chained t heads next n
    → Chained (set t n w) (set heads (hash_of w) (suc n)) (set next n (get_or heads (hash_of w) 0)) (suc n)
grown t heads next n w lt ln c = entered (set t n w) heads next n w ln (get_or-set_same t n w 0 lt) (kept t heads next n n w (omega arith) c)

-- no number, no chain
pub unchained : (t : List ℕ) → Chained t (replicate 256 0) (replicate 256 0) 0
unfolding last_before
unchained t =
    record {
      linked = λ i l. absurd (not-suc-le-zero l);
      headed = λ h l. get_or-replicate 256 h 0 0 l;
      wide = refl;
      long = refl;
    }

-- ALL OF THE FIRST n NUMBERS, one after the other
pub chained_upto : (t heads next : List ℕ) (n : ℕ) → n ≤ 256 → Chained t heads next 0 → Chained t (heads_upto t n heads) (next_upto t n heads next) n
unfolding heads_upto next_upto
chained_upto t heads next zero l c = c
chained_upto t heads next (suc n) l c =
    entered t (heads_upto t n heads) (next_upto t n heads next) n (get_or t n 0) (omega arith) refl (chained_upto t heads next n (omega arith) c)

-- where there are so many, and where there are not
pub inside : (t : List ℕ) (n : ℕ) → n ≤ 256 → n ≤ length t → is_outside t n ≡ false
unfolding is_outside
inside t n l m = rw (le-ltb 256 n l, le-ltb (length t) n m)

pub too_many : (t : List ℕ) (n : ℕ) → 256 < n → is_outside t n ≡ true
unfolding is_outside
too_many t n l = rw (lt-ltb 256 n l)

pub too_short : (t : List ℕ) (n : ℕ) → n ≤ 256 → length t < n → is_outside t n ≡ true
unfolding is_outside
too_short t n l m = rw (le-ltb 256 n l, lt-ltb (length t) n m)

pub ready : (t heads next : List ℕ) (n : ℕ) → n ≤ 256 → 256 ≤ length t → Chained t heads next n → Ready t heads next n
ready t heads next n l m c = (l, m, c.headed, c.linked)

-- one turn of the loop that links them
module _ (t heads next : List ℕ) (i : ℕ) where
  pub linked_turn : {h k hs ns : List ℕ} {y : ℕ} → (h ≡ heads_upto t i heads) × (k ≡ next_upto t i heads next) → y ≡ hash_of (get_or t i 0)
      → (hs ≡ set h y (i + 1)) × (ns ≡ set k i (get_or h y 0))
      → (hs ≡ heads_upto t (i + 1) heads) × (ns ≡ next_upto t (i + 1) heads next)
  unfolding heads_upto next_upto
  linked_turn {h} {k} e d g =
      let a : i + 1 ≡ suc i = add-one i in
      (g.0 ∙ rw (a, e.0, d), g.1 ∙ rw (a, e.0, e.1, d))

  pub linked_end : (n : ℕ) {h k : List ℕ} → (h ≡ heads_upto t i heads) × (k ≡ next_upto t i heads next) → i ≡ n
      → (h ≡ heads_upto t n heads) × (k ≡ next_upto t n heads next)
  linked_end n e d = (e.0 ∙ ap (λ j. heads_upto t j heads) d, e.1 ∙ ap (λ j. next_upto t j heads next) d)
