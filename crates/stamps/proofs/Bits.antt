-- The stamps of the bits of one word: what a byte of the table is afterwards. Assumes nothing.
use Prim.Native.Nat.{ℕ, zero, suc, ◌+◌, ◌/◌, ◌%◌, ◌^◌, ◌<◌}
use native.Mathlib.Nat.{mod-lt, zero-add, zero-div}
use native.Mathlib.Omega.{arith}
use native.Mathlib.Decide.{dec_lt, ℕ_discrete}
use mathlib.Core.Path.{◌≡◌, refl, sym, ap, ◌∙◌, subst}
use mathlib.Core.List.{List, [], ◌∷◌}
use mathlib.Core.Bool.{Bool, true, false, cond, not, ◌&&◌}
use lib.ListN.{length, get_or, set, length-set}
use lib.Seq.{get_or-set_same, get_or-set_other}
use lib.Dec.{eqb, ltb}
use lib.Pow.{shr-shr}
use lib.Bits.{bit_and, bit_xor, xor_shr, xor_mod, and_shr, and_mod}
use borrow.Author.Tests.{lt-ltb, le-ltb}
use Rattle.logic.specs.Survey.{count, held}
use Rattle.facts.specs.Facts.{bit_at}
use Rattle.stamps.specs.Stamps.{Table, stamp_at, place_of, stamp_bit, stamp_bits, fresh}

-- NEW BITS
fresh_digit : (d e : ℕ) → d < 2 → e < 2 → eqb (bit_xor d (bit_and d e)) 1 ≡ (eqb d 1 && not (eqb e 1))
fresh_digit zero zero l k = refl
fresh_digit zero (suc zero) l k = refl
fresh_digit (suc zero) zero l k = refl
fresh_digit (suc zero) (suc zero) l k = refl
fresh_digit (suc (suc d)) e l k = absurd (omega arith)
fresh_digit zero (suc (suc e)) l k = absurd (omega arith)
fresh_digit (suc zero) (suc (suc e)) l k = absurd (omega arith)

pub fresh_in : (w b k : ℕ) → bit_at (fresh w b) k ≡ (bit_at w k && not (bit_at b k))
unfolding fresh bit_at
fresh_in w b k =
    rw (xor_shr w (bit_and w b) k, xor_mod (w / 2 ^ k) (bit_and w b / 2 ^ k) 1, and_shr w b k, and_mod (w / 2 ^ k) (b / 2 ^ k) 1)
    (fresh_digit (w / 2 ^ k % 2) (b / 2 ^ k % 2) (mod-lt (w / 2 ^ k) (omega arith)) (mod-lt (b / 2 ^ k) (omega arith)))

pub shifted_in : (w l k : ℕ) → bit_at (w / 2 ^ l) k ≡ bit_at w (l + k)
unfolding bit_at
shifted_in w l k = ap (λ x. eqb (x % 2) 1) (shr-shr w l k)

pub zero_in : (k : ℕ) → bit_at 0 k ≡ false
unfolding bit_at
zero_in k = rw (zero-div (2 ^ k))

-- ONE STAMP
module _ (i x : ℕ) (t : Table) where
  pub at_length : length (stamp_at i x t).bytes ≡ length t.bytes
  unfolding stamp_at
  at_length = elim (dec_lt i (length t.bytes)) [
    | yes l ↦ rw (lt-ltb i (length t.bytes) l) (length-set t.bytes i x)
    | no h ↦ rw (le-ltb i (length t.bytes) (omega arith))
  ]

  pub at_same : i < length t.bytes → get_or (stamp_at i x t).bytes i 0 ≡ x
  unfolding stamp_at
  at_same l = rw (lt-ltb i (length t.bytes) l) (get_or-set_same t.bytes i x 0 l)

  pub at_keeps : (j y : ℕ) → (i ≡ j → x ≡ y) → get_or t.bytes j 0 ≡ y → get_or (stamp_at i x t).bytes j 0 ≡ y
  unfolding stamp_at
  at_keeps j y h e = elim (dec_lt i (length t.bytes)) [
    | yes l ↦ rw (lt-ltb i (length t.bytes) l) (elim (ℕ_discrete j i) [
      | yes q ↦ ap (λ k. get_or (set t.bytes i x) k 0) q ∙ (get_or-set_same t.bytes i x 0 l ∙ h (sym q))
      | no n ↦ get_or-set_other t.bytes i j x 0 n ∙ e
    ])
    | no g ↦ rw (le-ltb i (length t.bytes) (omega arith)) e
  ]

-- one number more in a list
counted_set : (f : ℕ → Bool) (l : List ℕ) (i v : ℕ) → i < length l → f (get_or l i 0) ≡ false → count f (set l i v) ≡ cond (f v) 1 0 + count f l
unfolding count
counted_set f [] i v l e = absurd (omega arith)
counted_set f (a ∷ l) zero v h e = rw e (ap (λ n. cond (f v) 1 0 + n) (sym (zero-add (count f l))))
counted_set f (a ∷ l) (suc i) v h e = rw (counted_set f l i v (omega arith) e) (swap (cond (f a) 1 0) (cond (f v) 1 0) (count f l))
  where
    swap : (x y z : ℕ) → x + (y + z) ≡ y + (x + z)
    swap x y z = omega arith

-- a stamp where there was none is one byte more that is not 0
at_held : (i x : ℕ) (t : Table) → i < length t.bytes → get_or t.bytes i 0 ≡ 0 → 0 < x
    → held (stamp_at i x t).bytes + t.count ≡ held t.bytes + (stamp_at i x t).count
unfolding stamp_at
at_held i x t l e h =
    rw (lt-ltb i (length t.bytes) l, counted_set (λ v. ltb 0 v) t.bytes i x l (ap (λ v. ltb 0 v) e), lt-ltb 0 x h) (omega arith)

-- THE BITS of a word below bit k
module _ (v : List ℕ) (d a : ℕ) where
  -- every bit that is set and has the place j has the stamp y
  abbrev pub Only : (k w j y : ℕ) → Type 0
  Only k w j y = (b : ℕ) → b < k → true ≡ bit_at w b → place_of d a b ≡ j → get_or v (b % 8) 0 ≡ y

  bit_length : (k w : ℕ) (t : Table) → length (stamp_bit v d a k w t).bytes ≡ length t.bytes
  bit_length k w t = go (bit_at w k)
    where
      go : (b : Bool) → length (cond b (stamp_at (place_of d a k) (get_or v (k % 8) 0) t) t).bytes ≡ length t.bytes
      go true = at_length (place_of d a k) (get_or v (k % 8) 0) t
      go false = refl

  bit_keeps : (k w : ℕ) (t : Table) (j y : ℕ) → (true ≡ bit_at w k → place_of d a k ≡ j → get_or v (k % 8) 0 ≡ y) → get_or t.bytes j 0 ≡ y → get_or (stamp_bit v d a k w t).bytes j 0 ≡ y
  bit_keeps k w t j y h e = go (bit_at w k) h
    where
      go : (b : Bool) → (true ≡ b → place_of d a k ≡ j → get_or v (k % 8) 0 ≡ y) → get_or (cond b (stamp_at (place_of d a k) (get_or v (k % 8) 0) t) t).bytes j 0 ≡ y
      go true h = at_keeps (place_of d a k) (get_or v (k % 8) 0) t j y (h refl) e
      go false h = e

  pub bits_length : (k w : ℕ) (t : Table) → length (stamp_bits v d a k w t).bytes ≡ length t.bytes
  unfolding stamp_bits
  bits_length zero w t = refl
  bits_length (suc k) w t = bit_length k w (stamp_bits v d a k w t) ∙ bits_length k w t

  pub bits_keeps : (k w : ℕ) (t : Table) (j y : ℕ) → Only k w j y → get_or t.bytes j 0 ≡ y → get_or (stamp_bits v d a k w t).bytes j 0 ≡ y
  unfolding stamp_bits
  bits_keeps zero w t j y h e = e
  bits_keeps (suc k) w t j y h e =
      bit_keeps k w (stamp_bits v d a k w t) j y (h k (omega arith)) (bits_keeps k w t j y (λ b l. h b (omega arith)) e)

  pub bits_set : (k w : ℕ) (t : Table) (b j y : ℕ) → b < k → true ≡ bit_at w b → place_of d a b ≡ j → Only k w j y → j < length t.bytes → get_or (stamp_bits v d a k w t).bytes j 0 ≡ y
  unfolding stamp_bits
  bits_set zero w t b j y l s e h r = absurd (omega arith)
  bits_set (suc k) w t b j y l s e h r =
      let u = stamp_bits v d a k w t in
      elim (ℕ_discrete b k) [
        | yes q ↦
            let sk : true ≡ bit_at w k = s ∙ ap (bit_at w) q in
            let ek : place_of d a k ≡ j = ap (place_of d a) (sym q) ∙ e in
            let i : get_or (stamp_at (place_of d a k) (get_or v (k % 8) 0) u).bytes j 0 ≡ y =
            ap (λ z. get_or (stamp_at (place_of d a k) (get_or v (k % 8) 0) u).bytes z 0) (sym ek)
            ∙ (at_same (place_of d a k) (get_or v (k % 8) 0) u (rw (ek, bits_length k w t) r) ∙ h k (omega arith) sk ek) in
            subst (λ z. get_or (cond z (stamp_at (place_of d a k) (get_or v (k % 8) 0) u) u).bytes j 0 ≡ y) sk i
        | no n ↦ bit_keeps k w u j y (h k (omega arith)) (bits_set k w t b j y (omega arith) s e (λ b l. h b (omega arith)) r)
      ]

  -- the place of each bit that is set is there and holds 0, and the stamp is not 0
  abbrev pub Free : (k w : ℕ) → List ℕ → Type 0
  Free k w t = (b : ℕ) → b < k → true ≡ bit_at w b → (place_of d a b < length t) × (get_or t (place_of d a b) 0 ≡ 0) × (0 < get_or v (b % 8) 0)

  -- no two of them have the same place
  abbrev pub Apart : (k w : ℕ) → Type 0
  Apart k w = (b c : ℕ) → b < k → c < k → true ≡ bit_at w b → true ≡ bit_at w c → place_of d a b ≡ place_of d a c → b ≡ c

  bit_held : (k w : ℕ) (t : Table) → (true ≡ bit_at w k → (place_of d a k < length t.bytes) × (get_or t.bytes (place_of d a k) 0 ≡ 0) × (0 < get_or v (k % 8) 0))
      → held (stamp_bit v d a k w t).bytes + t.count ≡ held t.bytes + (stamp_bit v d a k w t).count
  bit_held k w t f = go (bit_at w k) f
    where
      go : (b : Bool) → (true ≡ b → (place_of d a k < length t.bytes) × (get_or t.bytes (place_of d a k) 0 ≡ 0) × (0 < get_or v (k % 8) 0))
          → held (cond b (stamp_at (place_of d a k) (get_or v (k % 8) 0) t) t).bytes + t.count ≡ held t.bytes + (cond b (stamp_at (place_of d a k) (get_or v (k % 8) 0) t) t).count
      go true f = let h = f refl in at_held (place_of d a k) (get_or v (k % 8) 0) t h.0 h.1 h.2
      go false f = refl

  pub bits_held : (k w : ℕ) (t : Table) → Free k w t.bytes → Apart k w
      → held (stamp_bits v d a k w t).bytes + t.count ≡ held t.bytes + (stamp_bits v d a k w t).count
  unfolding stamp_bits
  bits_held zero w t f p = refl
  bits_held (suc k) w t f p =
      let u = stamp_bits v d a k w t in
      let h = bits_held k w t (λ b l. f b (omega arith)) (λ b c l m. p b c (omega arith) (omega arith)) in
      let i = bit_held k w u (λ s.
      let g = f k (omega arith) s in (
        subst (λ z. place_of d a k < z) (sym (bits_length k w t)) g.0,
        bits_keeps k w t (place_of d a k) 0 (λ b l z e. absurd (let q = p b k (omega arith) (omega arith) z s e in omega arith)) g.1,
        g.2,
      )) in
      omega (arith, h, i)
