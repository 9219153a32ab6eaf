-- The bits that are set in the words of the first n formulas are as many as the stamps that they get in a blank table. Assumes nothing.
use Prim.Native.Nat.{ℕ, zero, suc, ◌+◌, ◌*◌, ◌/◌, ◌%◌, ◌^◌, ◌<◌, ◌≤◌}
use native.Mathlib.Nat.{zero-add, add-zero, pow-suc, mod-lt, mul-le-mul_right, suc-mul}
use native.Mathlib.Omega.{arith}
use mathlib.Core.Path.{◌≡◌, refl, sym, ap, ap₂, ◌∙◌, subst}
use mathlib.Core.Logic.{inl, inr}
use mathlib.Core.List.{List, [], ◌∷◌}
use mathlib.Core.Bool.{Bool, true, false, cond, not, ◌&&◌}
use lib.ListN.{length, get_or}
use lib.Seq.{get_or-set_other}
use lib.Count.{ones, ones_step}
use lib.Pow.{pow_pos}
use lib.Dec.{eqb}
use borrow.Author.Tests.{lt-ltb}
use Rattle.logic.specs.Derivation.{Among}
use Rattle.facts.specs.Facts.{bit_at}
use Rattle.facts.proofs.Block.{place_below}
use Rattle.stamps.specs.Stamps.{Table, stamp_at, place_of, stamp_bits, Part, part, State, stamp_part, stamp_record, stamp_upto, stamp_new}
use Rattle.stamps.proofs.Laws.{all_stamped}
use Rattle.stamps.proofs.Bits.{zero_in, shifted_in, bits_length}
use Rattle.stamps.proofs.Parts.{new, new_in, stamp_parts, parts_length}
use Rattle.stamps.proofs.Places.{Inside, parts_of, parts_upto, upto_parts, member_upto, cell_of_lem}
use Rattle.stages.specs.Stages.{held_in}

-- how many of the first k numbers pass a test
passing : (ℕ → Bool) → ℕ → ℕ
passing f zero = 0
passing f (suc k) = cond (f k) 1 0 + passing f k

passing_same : (f g : ℕ → Bool) (k : ℕ) → ((j : ℕ) → j < k → f j ≡ g j) → passing f k ≡ passing g k
unfolding passing
passing_same f g zero h = refl
passing_same f g (suc k) h = rw (h k (omega arith), passing_same f g k (λ j l. h j (omega arith)))

passing_none : (f : ℕ → Bool) (k : ℕ) → ((j : ℕ) → j < k → f j ≡ false) → passing f k ≡ 0
unfolding passing
passing_none f zero h = refl
passing_none f (suc k) h = rw (h k (omega arith), passing_none f k (λ j l. h j (omega arith)))

passing_from : (f : ℕ → Bool) (l k : ℕ) → passing f (k + l) ≡ passing (λ j. f (l + j)) k + passing f l
unfolding passing
passing_from f l zero = ap (passing f) (zero-add l) ∙ sym (zero-add (passing f l))
passing_from f l (suc k) =
    let e : suc k + l ≡ suc (k + l) = omega arith in
    let c : k + l ≡ l + k = omega arith in
    ap (passing f) e ∙ (ap₂ (λ (x : ℕ) y. cond (f x) 1 0 + y) c (passing_from f l k) ∙ group (cond (f (l + k)) 1 0) (passing (λ j. f (l + j)) k) (passing f l))
  where
    group : (x y z : ℕ) → x + (y + z) ≡ x + y + z
    group x y z = omega arith

-- THE BITS OF A WORD
one_digit : (d : ℕ) → d < 2 → cond (eqb d 1) 1 0 ≡ d
one_digit zero l = refl
one_digit (suc zero) l = refl
one_digit (suc (suc d)) l = absurd (omega arith)

lowest : (w : ℕ) → passing (bit_at w) 1 ≡ w % 2
unfolding passing bit_at
lowest w =
    let e : w / 1 ≡ w = omega arith in
    add-zero (cond (eqb (w / 1 % 2) 1) 1 0) ∙ (one_digit (w / 1 % 2) (mod-lt (w / 1) (omega arith)) ∙ ap (λ (x : ℕ). x % 2) e)

ones_passing : (k w : ℕ) → w < 2 ^ k → ones w ≡ passing (bit_at w) k
unfolding passing ones
ones_passing zero w l =
    let e : w ≡ 0 = omega arith in
    ap ones e
ones_passing (suc k) w l =
    let e : suc k ≡ k + 1 = omega arith in
    let h : w / 2 < 2 ^ k = omega (arith, l, pow-suc 2 k) in
    let s : passing (λ j. bit_at w (1 + j)) k ≡ passing (bit_at (w / 2)) k = passing_same (λ j. bit_at w (1 + j)) (bit_at (w / 2)) k (λ j i. sym (shifted_in w 1 j)) in
    let f = passing_from (bit_at w) 1 k in
    let i = ones_passing k (w / 2) h in
    let o = ones_step w in
    let b = lowest w in
    o ∙ (ap₂ (λ (x y : ℕ). x + y) (sym b) (i ∙ sym s) ∙ (swap (passing (bit_at w) 1) (passing (λ j. bit_at w (1 + j)) k) ∙ (sym f ∙ ap (passing (bit_at w)) (sym e))))
  where
    swap : (x y : ℕ) → x + y ≡ y + x
    swap x y = omega arith

below_power : (n c : ℕ) → n < 2 ^ (n + c)
below_power zero c = pow_pos (0 + c)
below_power (suc n) c =
    let e : suc n + c ≡ suc (n + c) = omega arith in
    rw e (omega (arith, below_power n c, pow-suc 2 (n + c)))

not_set : (x : Bool) → (true ≡ x → ⊥) → x ≡ false
not_set true n = absurd (n refl)
not_set false n = refl

-- a word with bits from l on, below 64 + l
ones_from : (w l : ℕ) → ((b : ℕ) → true ≡ bit_at w b → (l ≤ b) × (b < 64 + l)) → ones w ≡ passing (λ j. bit_at w (l + j)) 64
ones_from w l h =
    let a = ones_passing (w + (64 + l)) w (below_power w (64 + l)) in
    let p = passing_from (bit_at w) (64 + l) w in
    let q = passing_from (bit_at w) l 64 in
    let high : passing (λ j. bit_at w (64 + l + j)) w ≡ 0 = passing_none (λ j. bit_at w (64 + l + j)) w (λ j i. not_set (bit_at w (64 + l + j)) (λ e. let y = (h (64 + l + j) e).1 in omega arith)) in
    let low : passing (bit_at w) l ≡ 0 = passing_none (bit_at w) l (λ j i. not_set (bit_at w j) (λ e. let y = (h j e).0 in omega arith)) in
    omega arith

-- STAMPS
at_count : (i x : ℕ) (t : Table) → i < length t.bytes → (stamp_at i x t).count ≡ t.count + 1
unfolding stamp_at
at_count i x t l = rw (lt-ltb i (length t.bytes) l)

bits_count : (v : List ℕ) (d a k w : ℕ) (t : Table) → ((b : ℕ) → b < k → true ≡ bit_at w b → place_of d a b < length t.bytes)
    → (stamp_bits v d a k w t).count ≡ t.count + passing (bit_at w) k
unfolding stamp_bits passing
bits_count v d a zero w t r = sym (add-zero t.count)
bits_count v d a (suc k) w t r = go (bit_at w k) refl (bits_count v d a k w t (λ b l. r b (omega arith)))
  where
    u : Table
    u = stamp_bits v d a k w t

    go : (z : Bool) → bit_at w k ≡ z → u.count ≡ t.count + passing (bit_at w) k
        → (cond z (stamp_at (place_of d a k) (get_or v (k % 8) 0) u) u).count ≡ t.count + (cond z 1 0 + passing (bit_at w) k)
    go true e f =
        let l = subst (λ (n : ℕ). place_of d a k < n) (sym (bits_length v d a k w t)) (r k (omega arith) (sym e)) in
        let g = at_count (place_of d a k) (get_or v (k % 8) 0) u l in
        omega arith
    go false e f = omega arith

unset : (x : Bool) (w j : ℕ) → w ≡ 0 → (x && not (bit_at w j)) ≡ x
unset x w j e = rw (e, zero_in j) (go x)
  where
    go : (x : Bool) → (x && true) ≡ x
    go true = refl
    go false = refl

module _ (ws v : List ℕ) (d : ℕ) where
  part_count : (c : Part) (s : State) → get_or s.before c.word 0 ≡ 0
      → ((b : ℕ) → true ≡ bit_at (get_or ws c.word 0) b → (c.low ≤ b) × (b < 64 + c.low))
      → ((b : ℕ) → true ≡ bit_at (get_or ws c.word 0) (c.low + b) → place_of d c.at b < length s.stamps.bytes)
      → (stamp_part ws v d c s).stamps.count ≡ s.stamps.count + ones (get_or ws c.word 0)
  unfolding stamp_part
  part_count c s e bounds places =
      let w = get_or ws c.word 0 in
      let same : (j : ℕ) → bit_at (new ws v d c s.before) j ≡ bit_at w (c.low + j) =
      λ j. new_in ws v d c s.before j ∙ unset (bit_at w (c.low + j)) (get_or s.before c.word 0) (c.low + j) e in
      bits_count v d c.at 64 (new ws v d c s.before) s.stamps (λ b l t. places b (t ∙ same b))
      ∙ ap (λ (n : ℕ). s.stamps.count + n)
      (passing_same (bit_at (new ws v d c s.before)) (λ j. bit_at w (c.low + j)) 64 (λ j l. same j) ∙ sym (ones_from w c.low bounds))

  part_before : (c : Part) (s : State) (i : ℕ) → (i ≡ c.word → ⊥) → get_or (stamp_part ws v d c s).before i 0 ≡ get_or s.before i 0
  unfolding stamp_part
  part_before c s i n = get_or-set_other s.before c.word i (get_or ws c.word 0) 0 n

  -- words of other formulas are as before
  upto_before : (p x : ℕ) (s : State) (i : ℕ) → ((y : ℕ) → y < x → (i ≡ y → ⊥) × (i ≡ 256 + y → ⊥) × (i ≡ 512 + y → ⊥))
      → get_or (stamp_upto ws v d p x s).before i 0 ≡ get_or s.before i 0
  unfolding stamp_upto stamp_record
  upto_before p zero s i n = refl
  upto_before p (suc x) s i n =
      let h = n x (omega arith) in
      let c0 = part x 40 (x * (3 + 2 * p)) in
      let c1 = part (256 + x) 0 (x * (3 + 2 * p) + 3) in
      let c2 = part (512 + x) 0 (x * (3 + 2 * p) + (3 + p)) in
      let t = stamp_upto ws v d p x s in
      part_before c2 (stamp_part ws v d c1 (stamp_part ws v d c0 t)) i h.2
      ∙ (part_before c1 (stamp_part ws v d c0 t) i h.1 ∙ (part_before c0 t i h.0 ∙ upto_before p x s i (λ y l. n y (omega arith))))

  part_length : (c : Part) (s : State) → length (stamp_part ws v d c s).stamps.bytes ≡ length s.stamps.bytes
  unfolding stamp_parts
  part_length c s = parts_length ws v d (c ∷ []) s

-- ALL FORMULAS
module _ (ws v : List ℕ) (n p : ℕ) (small : n ≤ 256) (few : p ≤ 8) (inside : Inside ws n p) (s : State)
    (clear : (i : ℕ) → get_or s.before i 0 ≡ 0) (room : p * (n * (3 + 2 * p)) ≤ length s.stamps.bytes) where
  abbrev block : ℕ
  block = n * (3 + 2 * p)

  -- a bit that is set has a place in the table
  has_place : (x : ℕ) → x < n → (c : Part) → Among c (parts_of p x) → (b : ℕ) → true ≡ bit_at (get_or ws c.word 0) (c.low + b) → place_of block c.at b < length s.stamps.bytes
  has_place x l c m b t =
      let h = cell_of_lem n p few ws inside c (member_upto p n x c l m) b t in
      let e = h.1.place in
      let r = h.1.rank in
      let f = place_below p few n h.0 h.1.fits in
      let g = mul-le-mul_right {m = suc (b % 8)} {n = p} block r in
      let k = suc-mul (b % 8) block in
      omega arith

  record_count : (x : ℕ) → x < n → (t : State) → length t.stamps.bytes ≡ length s.stamps.bytes
      → get_or t.before x 0 ≡ 0 → get_or t.before (256 + x) 0 ≡ 0 → get_or t.before (512 + x) 0 ≡ 0
      → (stamp_record ws v block p x t).stamps.count
      ≡ t.stamps.count + (ones (get_or ws x 0) + (ones (get_or ws (256 + x) 0) + ones (get_or ws (512 + x) 0)))
  unfolding stamp_record
  record_count x l t e z0 z1 z2 =
      let c0 = part x 40 (x * (3 + 2 * p)) in
      let c1 = part (256 + x) 0 (x * (3 + 2 * p) + 3) in
      let c2 = part (512 + x) 0 (x * (3 + 2 * p) + (3 + p)) in
      let t1 = stamp_part ws v block c0 t in
      let t2 = stamp_part ws v block c1 t1 in
      let e1 = part_length ws v block c0 t ∙ e in
      let e2 = part_length ws v block c1 t1 ∙ e1 in
      let f0 = part_count ws v block c0 t z0
      (λ b y. let i = inside.first x b l y in let i0 = i.0 in let i1 = i.1 in (omega arith, omega arith))
      (λ b y. subst (λ (k : ℕ). place_of block c0.at b < k) (sym e) (has_place x l c0 (inl refl) b y)) in
      let f1 = part_count ws v block c1 t1 (part_before ws v block c0 t (256 + x) (λ q. omega arith) ∙ z1)
      (λ b y. let i = inside.second x b l y in let i0 = i.0 in (omega arith, omega arith))
      (λ b y. subst (λ (k : ℕ). place_of block c1.at b < k) (sym e1) (has_place x l c1 (inr (inl refl)) b y)) in
      let f2 = part_count ws v block c2 t2 (part_before ws v block c1 t1 (512 + x) (λ q. omega arith) ∙ (part_before ws v block c0 t (512 + x) (λ q. omega arith) ∙ z2))
      (λ b y. let i = inside.third x b l y in let i0 = i.0 in (omega arith, omega arith))
      (λ b y. subst (λ (k : ℕ). place_of block c2.at b < k) (sym e2) (has_place x l c2 (inr (inr (inl refl))) b y)) in
      omega (arith, f0, f1, f2)

  upto_length : (x : ℕ) → length (stamp_upto ws v block p x s).stamps.bytes ≡ length s.stamps.bytes
  upto_length x = rw (upto_parts ws v block p x s) (parts_length ws v block (parts_upto p x) s)

  upto_count : (x : ℕ) → x ≤ n → (stamp_upto ws v block p x s).stamps.count ≡ s.stamps.count + held_in ws x
  unfolding stamp_upto held_in
  upto_count zero l = sym (add-zero s.stamps.count)
  upto_count (suc x) l =
      let t = stamp_upto ws v block p x s in
      let o : (i : ℕ) → ((y : ℕ) → y < x → (i ≡ y → ⊥) × (i ≡ 256 + y → ⊥) × (i ≡ 512 + y → ⊥)) → get_or t.before i 0 ≡ 0 = λ i f. upto_before ws v block p x s i f ∙ clear i in
      let r = record_count x l t (upto_length x)
      (o x (λ y k. ((λ z. omega arith), (λ z. omega arith), (λ z. omega arith))))
      (o (256 + x) (λ y k. ((λ z. omega arith), (λ z. omega arith), (λ z. omega arith))))
      (o (512 + x) (λ y k. ((λ z. omega arith), (λ z. omega arith), (λ z. omega arith)))) in
      let h = upto_count x (omega arith) in
      omega (arith, r, h)

  -- THE STAMPS ARE AS MANY AS THE BITS
  pub stamps_held : (stamp_new ws v n p s).stamps.count ≡ s.stamps.count + held_in ws n
  stamps_held = rw (← all_stamped ws v n p s small few refl) (upto_count n (omega arith))
