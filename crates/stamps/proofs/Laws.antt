-- What the functions leave, by the tests that they make. Each law takes what a call ensures as an equation. Assumes nothing.
use Prim.Native.Nat.{ℕ, zero, suc, ◌+◌, ◌-◌, ◌*◌, ◌/◌, ◌%◌, ◌^◌, ◌<◌, ◌≤◌}
use native.Mathlib.Nat.{zero-div, mul-le-mul}
use native.Mathlib.Omega.{arith}
use native.Mathlib.Numerals.{add-one}
use native.Mathlib.Decide.{ℕ_discrete}
use mathlib.Core.Path.{◌≡◌, refl, sym, ap, ◌∙◌}
use mathlib.Core.List.{List}
use mathlib.Core.Bool.{Bool, true, false, cond}
use lib.ListN.{length, get_or, set}
use lib.Seq.{set-get_or}
use lib.Dec.{ltb}
use lib.Bits.{bit_and, bit_xor, and_self, xor_self}
use borrow.Author.Tests.{lt-ltb, le-ltb}
use Rattle.facts.specs.Facts.{bit_at}
use Rattle.stamps.specs.Stamps.{Table, stamped, stamp_at, place_of, IsLowest, stamp_bit, stamp_bits, fresh, Part, part, State, state, stamp_part, stamp_record, stamp_upto, stamp_new}
use Rattle.stamps.proofs.Bits.{zero_in}
use Rattle.stamps.proofs.LowestBit.{lowest_gone, others_stay}

-- a stamp, by its test
module _ (i v : ℕ) (t : List ℕ) (n : ℕ) where
  pub stamp_put : i < length t → stamped (set t i v) (n + 1) ≡ stamp_at i v (stamped t n)
  unfolding stamp_at
  stamp_put l = rw (lt-ltb i (length t) l)

  pub stamp_none : length t ≤ i → stamped t n ≡ stamp_at i v (stamped t n)
  unfolding stamp_at
  stamp_none l = rw (le-ltb i (length t) l)

at_count : (i v : ℕ) (t : Table) → (t.count ≤ (stamp_at i v t).count) × ((stamp_at i v t).count ≤ t.count + 1)
unfolding stamp_at
at_count i v t = go (ltb i (length t.bytes))
  where
    go : (b : Bool) → (t.count ≤ (cond b (stamped (set t.bytes i v) (t.count + 1)) t).count) × ((cond b (stamped (set t.bytes i v) (t.count + 1)) t).count ≤ t.count + 1)
    go true = (omega arith, omega arith)
    go false = (omega arith, omega arith)

module _ (v : List ℕ) (d a : ℕ) where
  bit_count : (k w : ℕ) (t : Table) → (t.count ≤ (stamp_bit v d a k w t).count) × ((stamp_bit v d a k w t).count ≤ t.count + 1)
  bit_count k w t = go (bit_at w k)
    where
      u : Table
      u = stamp_at (place_of d a k) (get_or v (k % 8) 0) t

      go : (b : Bool) → (t.count ≤ (cond b u t).count) × ((cond b u t).count ≤ t.count + 1)
      go true = at_count (place_of d a k) (get_or v (k % 8) 0) t
      go false = (omega arith, omega arith)

  bits_count : (k w : ℕ) (t : Table) → (t.count ≤ (stamp_bits v d a k w t).count) × ((stamp_bits v d a k w t).count ≤ t.count + k)
  unfolding stamp_bits
  bits_count zero w t = (omega arith, omega arith)
  bits_count (suc k) w t =
      let g = bits_count k w t in
      let h = bit_count k w (stamp_bits v d a k w t) in
      (omega (arith, h.0, h.1, g.0, g.1), omega (arith, h.0, h.1, g.0, g.1))

  -- bits that are not set do nothing
  bits_none : (k w : ℕ) (t : Table) → ((j : ℕ) → j < k → bit_at w j ≡ false) → stamp_bits v d a k w t ≡ t
  unfolding stamp_bits
  bits_none zero w t none = refl
  bits_none (suc k) w t none = rw (none k (omega arith)) (bits_none k w t (λ j l. none j (omega arith)))

  -- the lowest bit first, and then u, which has the others
  bits_lowest : (w u b : ℕ) (t : Table) → IsLowest w b → bit_at u b ≡ false → ((j : ℕ) → (j ≡ b → ⊥) → bit_at u j ≡ bit_at w j)
      → (k : ℕ) → b < k → stamp_bits v d a k w t ≡ stamp_bits v d a k u (stamp_at (place_of d a b) (get_or v (b % 8) 0) t)
  unfolding stamp_bits
  bits_lowest w u b t lowest gone same zero l = absurd (omega arith)
  bits_lowest w u b t lowest gone same (suc k) l = elim (ℕ_discrete k b) [
    | yes e ↦
        let s = stamp_at (place_of d a b) (get_or v (b % 8) 0) t in
        let f : stamp_bits v d a b w t ≡ t = bits_none b w t lowest.1 in
        let g : stamp_bits v d a b u s ≡ s = bits_none b u s (λ j m. same j (omega arith) ∙ lowest.1 j m) in
        rw (e, lowest.0, gone, f, g)
    | no n ↦ rw (same k n, bits_lowest w u b t lowest gone same k (omega arith))
  ]

  -- THE LOOP over the bits that are set: the lowest, and the rest
  pub bits_more : (t : Table) (w b : ℕ) {u z : Table} → (b < 64) × IsLowest w b → u ≡ stamp_at (place_of d a b) (get_or v (b % 8) 0) t
      → stamp_bits v d a 64 w t ≡ z → stamp_bits v d a 64 (bit_and w (w - 1)) u ≡ z
  bits_more t w b l e h =
      rw e (sym (bits_lowest w (bit_and w (w - 1)) b t l.1 (lowest_gone w b l.1) (others_stay w b l.1) 64 l.0) ∙ h)

  pub bits_end : (w : ℕ) {t z : Table} → w ≡ 0 → stamp_bits v d a 64 w t ≡ z → t ≡ z
  bits_end w {t} {z} e h = sym (bits_none 64 0 t (λ j l. zero_in j)) ∙ ap (λ x. stamp_bits v d a 64 x t) (sym e) ∙ h

  pub written_few : (w₀ c : ℕ) (t₀ t : List ℕ) (w n : ℕ) → c ≤ 49152 → stamp_bits v d a 64 w (stamped t n) ≡ stamp_bits v d a 64 w₀ (stamped t₀ c) → n < 65536
  written_few w₀ c t₀ t w n l e =
      omega (arith, (bits_count 64 w (stamped t n)).0, (bits_count 64 w₀ (stamped t₀ c)).1, ap (λ s. s.count) e)

-- a place fits 64 bits
pub rank_fits : (b d : ℕ) → d ≤ 4864 → b % 8 * d ≤ 34048
rank_fits b d l = mul-le-mul {n₁ = b % 8} {m₁ = d} {n₂ = 7} {m₂ = 4864} (omega arith) (omega arith)

-- where the facts about a formula begin in a block
pub start_fits : (x p : ℕ) → x < 256 → p ≤ 8 → x * (3 + 2 * p) ≤ 4845
start_fits x p l h = mul-le-mul {n₁ = x} {m₁ = 3 + 2 * p} {n₂ = 255} {m₂ = 19} (omega arith) (omega arith)

-- how long a block is
pub block_fits : (n p : ℕ) → n ≤ 256 → p ≤ 8 → n * (3 + 2 * p) ≤ 4864
block_fits n p l h = mul-le-mul {n₁ = n} {m₁ = 3 + 2 * p} {n₂ = 256} {m₂ = 19} (omega arith) (omega arith)

module _ (ws v : List ℕ) where
  -- A PART: nothing is new, or the new bits are stamped
  module _ (d i l a : ℕ) (b t : List ℕ) (n : ℕ) where
    pub part_same : get_or ws i 0 ≡ get_or b i 0 → state b t n ≡ stamp_part ws v d (part i l a) (state b t n)
    unfolding stamp_part fresh
    part_same e =
        let z : bit_xor (get_or b i 0) (bit_and (get_or b i 0) (get_or b i 0)) / 2 ^ l ≡ 0 = rw (and_self (get_or b i 0), xor_self (get_or b i 0)) (zero-div (2 ^ l)) in
        rw (e, set-get_or b i 0, z) (ap (λ u. record { before = b; stamps = u }) (bits_end v d a 0 refl refl))

    pub part_new : {t' : List ℕ} {f r : ℕ} → f ≡ fresh (get_or ws i 0) (get_or b i 0) → stamped t' r ≡ stamp_bits v d a 64 (f / 2 ^ l) (stamped t n)
        → state (set b i (get_or ws i 0)) t' r ≡ stamp_part ws v d (part i l a) (state b t n)
    unfolding stamp_part
    part_new {t'} {f} {r} e h =
        ap (λ u. record { before = set b i (get_or ws i 0); stamps = u }) (h ∙ ap (λ w. stamp_bits v d a 64 (w / 2 ^ l) (stamped t n)) e)

  part_count : (d : ℕ) (c : Part) (s : State) → (stamp_part ws v d c s).stamps.count ≤ s.stamps.count + 64
  unfolding stamp_part
  part_count d c s = (bits_count v d c.at 64 (fresh (get_or ws c.word 0) (get_or s.before c.word 0) / 2 ^ c.low) s.stamps).1

  pub part_few : (d : ℕ) (c : Part) (s : State) {z : State} → z ≡ stamp_part ws v d c s → z.stamps.count ≤ s.stamps.count + 64
  part_few d c s e = rw e (part_count d c s)

  -- A FORMULA: its three parts
  pub record_is : (d p x : ℕ) (s : State) {s₁ s₂ s₃ : State} → s₁ ≡ stamp_part ws v d (part x 40 (x * (3 + 2 * p))) s
      → s₂ ≡ stamp_part ws v d (part (256 + x) 0 (x * (3 + 2 * p) + 3)) s₁ → s₃ ≡ stamp_part ws v d (part (512 + x) 0 (x * (3 + 2 * p) + (3 + p))) s₂
      → s₃ ≡ stamp_record ws v d p x s
  unfolding stamp_record
  record_is d p x s e f g = rw (g, f, e)

  pub record_few : (d p x : ℕ) (s : State) {z : State} → z ≡ stamp_record ws v d p x s → z.stamps.count ≤ s.stamps.count + 192
  unfolding stamp_record
  record_few d p x s e =
      let c₁ = part x 40 (x * (3 + 2 * p)) in
      let c₂ = part (256 + x) 0 (x * (3 + 2 * p) + 3) in
      let c₃ = part (512 + x) 0 (x * (3 + 2 * p) + (3 + p)) in
      let s₁ = stamp_part ws v d c₁ s in
      let s₂ = stamp_part ws v d c₂ s₁ in
      rw e (omega (arith, part_count d c₁ s, part_count d c₂ s₁, part_count d c₃ s₂))

  -- THE LOOP over the formulas
  pub upto_more : (d p x : ℕ) (z : State) {s t : State} → s ≡ stamp_upto ws v d p x z → t ≡ stamp_record ws v d p x s → t ≡ stamp_upto ws v d p (x + 1) z
  unfolding stamp_upto
  upto_more d p x z e f = rw (add-one x, ← e) f

  pub upto_end : (d p n x : ℕ) (z : State) {s : State} → n ≡ x → s ≡ stamp_upto ws v d p x z → s ≡ stamp_upto ws v d p n z
  upto_end d p n x z e h = rw e h

  -- the tests of the whole
  pub many_formulas : (n p : ℕ) (s : State) → 256 < n → s ≡ stamp_new ws v n p s
  unfolding stamp_new
  many_formulas n p s l = rw (lt-ltb 256 n l)

  pub many_ranks : (n p : ℕ) (s : State) → n ≤ 256 → 8 < p → s ≡ stamp_new ws v n p s
  unfolding stamp_new
  many_ranks n p s l h = rw (le-ltb 256 n l, lt-ltb 8 p h)

  pub all_stamped : (n p : ℕ) (s : State) {t : State} → n ≤ 256 → p ≤ 8 → t ≡ stamp_upto ws v (n * (3 + 2 * p)) p n s → t ≡ stamp_new ws v n p s
  unfolding stamp_new
  all_stamped n p s l h e = rw (le-ltb 256 n l, le-ltb 8 p h) e
