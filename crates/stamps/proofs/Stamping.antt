-- THE STAMPS OF A TURN: each fact that is new has its stamp, every other byte of the table is as it was; what is held is then what was
-- held before; and the bytes that are not 0 have become more by the answer. Assumes nothing.
use Prim.Native.Nat.{ℕ, zero, suc, ◌+◌, ◌*◌, ◌/◌, ◌%◌, ◌^◌, ◌<◌, ◌≤◌}
use native.Mathlib.Nat.{mul-le-mul_right, suc-mul, mod-eq_of_lt, add-zero}
use native.Mathlib.Omega.{arith}
use mathlib.Core.Path.{◌≡◌, refl, sym, ap, ap₂, ◌∙◌, subst}
use mathlib.Core.Logic.{◌⊎◌, inl, inr}
use mathlib.Core.List.{List}
use mathlib.Core.Bool.{Bool, true, false, cond, not}
use lib.ListN.{length, get_or}
use lib.Dec.{ltb}
use borrow.Author.Tests.{lt-ltb, le-ltb}
use Rattle.logic.specs.Derivation.{Among}
use Rattle.logic.specs.Survey.{held}
use Rattle.facts.specs.declared.Cell.{Cell}
use Rattle.facts.specs.Facts.{bit_at}
use Rattle.facts.specs.Block.{place_in}
use Rattle.facts.proofs.Block.{Fit, place_below}
use Rattle.lanes.specs.Lanes.{word_of, shift_of, lane, is_new}
use Rattle.lanes.proofs.Sets.{apart, and_both}
use Rattle.stamps.specs.Stamps.{place_of, Part, part, State, stamp_new}
use Rattle.stamps.proofs.Laws.{all_stamped}
use Rattle.stamps.proofs.Parts.{new, new_in, stamp_parts, Words, OneEach, FreeOf, ApartOf, parts_before_length, parts_before_other, parts_before, parts_length, parts_keep, parts_set, parts_held}
use Rattle.stamps.proofs.Places.{parts_of, parts_upto, upto_parts, upto_member, member_upto, Inside, Stands, cell_of_lem, Bit, bit_of_lem, new_is, same_fact}

-- the part of a word
at_word : (p i : ℕ) → Part
at_word p i = part i (cond (ltb i 256) 40 0) (i % 256 * (3 + 2 * p) + cond (ltb i 256) 0 (cond (ltb i 512) 3 (3 + p)))

at_word_lem : (p x : ℕ) (c : Part) → x < 256 → Among c (parts_of p x) → c ≡ at_word p c.word
unfolding at_word
at_word_lem p x c l (inl e) =
    subst (λ c. c ≡ at_word p c.word) (sym e) (rw (lt-ltb x 256 l, mod-eq_of_lt l, add-zero (x * (3 + 2 * p))))
at_word_lem p x c l (inr (inl e)) =
    let r : (256 + x) % 256 ≡ x = omega arith in
    subst (λ c. c ≡ at_word p c.word) (sym e) (rw (le-ltb (256 + x) 256 (omega arith), lt-ltb (256 + x) 512 (omega arith), r))
at_word_lem p x c l (inr (inr (inl e))) =
    let r : (512 + x) % 256 ≡ x = omega arith in
    subst (λ c. c ≡ at_word p c.word) (sym e) (rw (le-ltb (512 + x) 256 (omega arith), le-ltb (512 + x) 512 (omega arith), r))
at_word_lem p x c l (inr (inr (inr z))) = absurd z

-- its words
word_of_lem : (p x : ℕ) (c : Part) → Among c (parts_of p x) → (c.word ≡ x) ⊎ ((c.word ≡ 256 + x) ⊎ (c.word ≡ 512 + x))
word_of_lem p x c (inl e) = inl (ap (λ c. c.word) e)
word_of_lem p x c (inr (inl e)) = inr (inl (ap (λ c. c.word) e))
word_of_lem p x c (inr (inr (inl e))) = inr (inr (ap (λ c. c.word) e))
word_of_lem p x c (inr (inr (inr z))) = absurd z

module _ (ws v : List ℕ) (n p : ℕ) (small : n ≤ 256) (few : p ≤ 8) (s : State) (wide : length s.before ≡ 768) where
  abbrev pub block : ℕ
  block = n * (3 + 2 * p)

  abbrev pub after : State
  after = stamp_new ws v n p s

  abbrev parts : List Part
  parts = parts_upto p n

  is_parts : stamp_parts ws v block parts s ≡ after
  is_parts = sym (upto_parts ws v block p n s) ∙ all_stamped ws v n p s small few refl

  words : Words ws v block parts s.before
  words c m = go (upto_member p n c m)
    where
      below : (i x : ℕ) → x < 256 → (i ≡ x) ⊎ ((i ≡ 256 + x) ⊎ (i ≡ 512 + x)) → i < 768
      below i x l (inl e) = omega arith
      below i x l (inr (inl e)) = omega arith
      below i x l (inr (inr e)) = omega arith

      go : (x : ℕ) × (x < n) × Among c (parts_of p x) → c.word < length s.before
      go (x, l, i) = rw wide (below c.word x (omega arith) (word_of_lem p x c i))

  one_each : OneEach ws v block parts
  one_each c e mc me q =
      let h = upto_member p n c mc in
      let k = upto_member p n e me in
      let lh = h.1 in
      let lk = k.1 in
      at_word_lem p h.0 c (omega arith) h.2 ∙ (ap (at_word p) q ∙ sym (at_word_lem p k.0 e (omega arith) k.2))

  -- WHAT WAS HELD BEFORE is what is held, of the first n formulas
  pub stamped_before : (x : ℕ) → x < n
      → (get_or after.before x 0 ≡ get_or ws x 0) × (get_or after.before (256 + x) 0 ≡ get_or ws (256 + x) 0) × (get_or after.before (512 + x) 0 ≡ get_or ws (512 + x) 0)
  stamped_before x l =
      rw (← is_parts) (
        parts_before ws v block parts s (part x 40 (x * (3 + 2 * p))) (member_upto p n x _ l (inl refl)) words,
        parts_before ws v block parts s (part (256 + x) 0 (x * (3 + 2 * p) + 3)) (member_upto p n x _ l (inr (inl refl))) words,
        parts_before ws v block parts s (part (512 + x) 0 (x * (3 + 2 * p) + (3 + p))) (member_upto p n x _ l (inr (inr (inl refl)))) words,
      )

  pub stamped_lane : (q : Cell) → q.formula < n → q.bit < 19 → lane after.before q ≡ lane ws q
  unfolding lane
  stamped_lane q l b = ap (λ w. w / 2 ^ shift_of q % 256) (go ((q.bit + 5) / 8 % 4) (omega arith))
    where
      go : (g : ℕ) → g < 3 → get_or after.before (q.formula + 256 * g) 0 ≡ get_or ws (q.formula + 256 * g) 0
      go zero h = let e : q.formula ≡ q.formula + 256 * 0 = omega arith in subst (λ i. get_or after.before i 0 ≡ get_or ws i 0) e (stamped_before q.formula l).0
      go (suc zero) h = let e : 256 + q.formula ≡ q.formula + 256 * 1 = omega arith in subst (λ i. get_or after.before i 0 ≡ get_or ws i 0) e (stamped_before q.formula l).1
      go (suc (suc zero)) h = let e : 512 + q.formula ≡ q.formula + 256 * 2 = omega arith in subst (λ i. get_or after.before i 0 ≡ get_or ws i 0) e (stamped_before q.formula l).2
      go (suc (suc (suc g))) h = absurd (omega arith)

  pub stamped_before_other : (i : ℕ) → ((x : ℕ) → x < n → (i ≡ x → ⊥) × (i ≡ 256 + x → ⊥) × (i ≡ 512 + x → ⊥)) → get_or after.before i 0 ≡ get_or s.before i 0
  stamped_before_other i f = rw (← is_parts) (parts_before_other ws v block parts s i other)
    where
      other : (c : Part) → Among c parts → i ≡ c.word → ⊥
      other c m e = let h = upto_member p n c m in go h.0 h.1 (word_of_lem p h.0 c h.2)
        where
          go : (x : ℕ) → x < n → (c.word ≡ x) ⊎ ((c.word ≡ 256 + x) ⊎ (c.word ≡ 512 + x)) → ⊥
          go x l (inl q) = (f x l).0 (e ∙ q)
          go x l (inr (inl q)) = (f x l).1 (e ∙ q)
          go x l (inr (inr q)) = (f x l).2 (e ∙ q)

  pub stamped_before_length : length after.before ≡ 768
  stamped_before_length = rw (← is_parts) (parts_before_length ws v block parts s ∙ wide)

  pub stamped_length : length after.stamps.bytes ≡ length s.stamps.bytes
  stamped_length = rw (← is_parts) (parts_length ws v block parts s)

  module _ (ins : Inside ws n p) where
    -- a new bit is a fact
    fact_of : (c : Part) → Among c parts → (b : ℕ) → true ≡ bit_at (new ws v block c s.before) b → (q : Cell) × Stands n p c b q
    fact_of c m b t =
        cell_of_lem n p few ws ins c m b
        (and_both (bit_at (get_or ws c.word 0) (c.low + b)) (not (bit_at (get_or s.before c.word 0) (c.low + b))) (t ∙ new_in ws v block c s.before b)).0

    place_of_lem : (c : Part) (b : ℕ) (q : Cell) → Stands n p c b q → place_of block c.at b ≡ b % 8 * block + place_in p q
    place_of_lem c b q h = ap (λ z. b % 8 * block + z) h.place

    place_inside : (P : ℕ) → P < p → (q : Cell) → Fit n p q → P * block + place_in p q < p * block
    place_inside P l q f = omega (arith, place_below p few n q f, mul-le-mul_right {m = suc P} {n = p} block l, suc-mul P block)

    -- THE TABLE: the byte of a fact
    module _ (P : ℕ) (l : P < p) (q : Cell) (f : Fit n p q) where
      abbrev place : ℕ
      place = P * block + place_in p q

      -- whoever has this place is this fact
      this : (c : Part) → Among c parts → (b : ℕ) → true ≡ bit_at (new ws v block c s.before) b → place_of block c.at b ≡ place
          → (b % 8 ≡ P) × (true ≡ is_new P (lane s.before q) (lane ws q))
      this c m b t e =
          let h = fact_of c m b t in
          let k = same_fact n p few (b % 8) P h.0 q h.1.fits f (sym (place_of_lem c b h.0 h.1) ∙ e) in (
            k.0,
            t ∙ (new_is n p few ws v s.before block c b h.0 h.1 ∙ ap₂ (λ P q. is_new P (lane s.before q) (lane ws q)) k.0 k.1),
          )

      pub stamped_place : p * block ≤ length s.stamps.bytes
          → get_or after.stamps.bytes place 0 ≡ cond (is_new P (lane s.before q) (lane ws q)) (get_or v P 0) (get_or s.stamps.bytes place 0)
      stamped_place room = rw (← is_parts) (go (is_new P (lane s.before q) (lane ws q)) refl)
        where
          bit : Bit n p few P q
          bit = bit_of_lem n p few P l q f

          go : (y : Bool) → is_new P (lane s.before q) (lane ws q) ≡ y
              → get_or (stamp_parts ws v block parts s).stamps.bytes place 0 ≡ cond y (get_or v P 0) (get_or s.stamps.bytes place 0)
          go true e =
              parts_set ws v block parts s bit.of bit.number place (get_or v P 0) bit.among bit.small
              (sym (new_is n p few ws v s.before block bit.of bit.number q bit.stands ∙ (ap (λ P. is_new P (lane s.before q) (lane ws q)) bit.rank ∙ e)))
              (place_of_lem bit.of bit.number q bit.stands ∙ ap (λ P. P * block + place_in p q) bit.rank)
              words one_each (λ c m b lb t z. ap (λ P. get_or v P 0) (this c m b t z).0) (omega (arith, place_inside P l q f))
          go false e =
              parts_keep ws v block parts s place (get_or s.stamps.bytes place 0) words (λ c m b lb t z. apart ((this c m b t z).1 ∙ e)) refl

    -- bytes behind the blocks stay
    pub stamped_behind : (j : ℕ) → p * block ≤ j → get_or after.stamps.bytes j 0 ≡ get_or s.stamps.bytes j 0
    stamped_behind j l =
        rw (← is_parts)
        (parts_keep ws v block parts s j (get_or s.stamps.bytes j 0) words
        (λ c m b lb t z.
        let h = fact_of c m b t in
        let e : b % 8 * block + place_in p h.0 ≡ j = sym (place_of_lem c b h.0 h.1) ∙ z in
        let i = place_inside (b % 8) h.1.rank h.0 h.1.fits in
        absurd (omega (arith, e, i, l)))
        refl)

    -- THE COUNT: each place that gets a stamp held 0, and no stamp is 0
    pub stamped_count : s.stamps.count ≡ 0 → p * block ≤ length s.stamps.bytes
        → ((P : ℕ) → P < p → 0 < get_or v P 0)
        → ((P : ℕ) → P < p → (q : Cell) → Fit n p q → true ≡ is_new P (lane s.before q) (lane ws q) → get_or s.stamps.bytes (P * block + place_in p q) 0 ≡ 0)
        → held after.stamps.bytes ≡ held s.stamps.bytes + after.stamps.count
    stamped_count start room some none =
        rw (← is_parts) (omega (arith, parts_held ws v block parts s words free apart_of, start))
      where
        free : FreeOf ws v block parts s
        free c m b lb t =
            let h = fact_of c m b t in
            let e = place_of_lem c b h.0 h.1 in
            let r = h.1.rank in (
              rw e (omega (arith, place_inside (b % 8) r h.0 h.1.fits, room)),
              rw e (none (b % 8) r h.0 h.1.fits (t ∙ new_is n p few ws v s.before block c b h.0 h.1)),
              some (b % 8) r,
            )

        apart_of : ApartOf ws v block parts s.before
        apart_of c e i k mc me li lk ti tk z =
            let h = fact_of c mc i ti in
            let g = fact_of e me k tk in
            let w = same_fact n p few (i % 8) (k % 8) h.0 g.0 h.1.fits g.1.fits (sym (place_of_lem c i h.0 h.1) ∙ (z ∙ place_of_lem e k g.0 g.1)) in
            let q : c ≡ e = one_each c e mc me (sym h.1.word ∙ (ap word_of w.1 ∙ g.1.word)) in
            let a : c.low + i ≡ e.low + k = sym h.1.bit ∙ (ap₂ (λ r P. shift_of r + P) w.1 w.0 ∙ g.1.bit) in
            let o : c.low ≡ e.low = ap (λ c. c.low) q in
            (q, omega (arith, a, o))
