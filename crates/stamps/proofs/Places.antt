-- The parts of all formulas: a bit of a part is a fact of a principal, and a fact has one bit. Assumes nothing.
use Prim.Native.Nat.{ℕ, zero, suc, ◌+◌, ◌-◌, ◌*◌, ◌/◌, ◌%◌, ◌^◌, ◌<◌, ◌≤◌}
use native.Mathlib.Nat.{mul-add-div_right, mul-add-mod_self_right, div-eq_of_lt, mod-eq_of_lt, add-zero}
use native.Mathlib.Omega.{arith}
use native.Mathlib.Decide.{dec_lt, ℕ_discrete}
use mathlib.Core.Path.{◌≡◌, refl, sym, ap, ap₂, ◌∙◌, subst}
use mathlib.Core.Logic.{inl, inr, ⊎_elim}
use mathlib.Core.List.{List, [], ◌∷◌, ◌++◌}
use mathlib.Core.Bool.{true, not, ◌&&◌}
use lib.ListN.{get_or}
use lib.Dec.{eqb}
use lib.Pow.{field, mod-mod-pow}
use borrow.Author.Tests.{lt-ltb, le-ltb}
use Rattle.logic.specs.Derivation.{Among}
use Rattle.logic.proofs.Member.{among_left, among_right, among_append}
use Rattle.facts.specs.declared.Cell.{Cell}
use Rattle.facts.specs.Facts.{bit_at}
use Rattle.facts.specs.Block.{mode_of, place_in, cell_at}
use Rattle.facts.proofs.Block.{Fit, fact_place, place_below}
use Rattle.lanes.specs.Lanes.{word_of, shift_of, lane, is_new}
use Rattle.stamps.specs.Stamps.{Part, part, State, stamp_record, stamp_upto}
use Rattle.stamps.proofs.Bits.{shifted_in}
use Rattle.stamps.proofs.Parts.{new, new_in, stamp_parts, parts_append}

-- the parts of the facts about formula x, and about the first n
abbrev pub parts_of : (p x : ℕ) → List Part
parts_of p x =
    part x 40 (x * (3 + 2 * p)) ∷ part (256 + x) 0 (x * (3 + 2 * p) + 3) ∷ part (512 + x) 0 (x * (3 + 2 * p) + (3 + p)) ∷ []

pub parts_upto : (p n : ℕ) → List Part
parts_upto p zero = []
parts_upto p (suc x) = parts_upto p x ++ parts_of p x

pub upto_parts : (ws v : List ℕ) (d p n : ℕ) (s : State) → stamp_upto ws v d p n s ≡ stamp_parts ws v d (parts_upto p n) s
unfolding stamp_upto stamp_record parts_upto stamp_parts
upto_parts ws v d p zero s = refl
upto_parts ws v d p (suc x) s =
    ap (λ t. stamp_record ws v d p x t) (upto_parts ws v d p x s) ∙ sym (parts_append ws v d (parts_upto p x) (parts_of p x) s)

pub upto_member : (p n : ℕ) (c : Part) → Among c (parts_upto p n) → (x : ℕ) × (x < n) × Among c (parts_of p x)
unfolding parts_upto
upto_member p zero c m = absurd m
upto_member p (suc n) c m =
    ⊎_elim
    (λ i. let h = upto_member p n c i in (h.0, let l = h.1 in omega arith, h.2))
    (λ i. (n, omega arith, i))
    (among_append c (parts_upto p n) (parts_of p n) m)

pub member_upto : (p n x : ℕ) (c : Part) → x < n → Among c (parts_of p x) → Among c (parts_upto p n)
unfolding parts_upto
member_upto p zero x c l m = absurd (omega arith)
member_upto p (suc n) x c l m = elim (ℕ_discrete x n) [
  | yes e ↦ among_right c (parts_upto p n) (parts_of p n) (subst (λ z. Among c (parts_of p z)) e m)
  | no d ↦ among_left c (parts_upto p n) (parts_of p n) (member_upto p n x c (omega arith) m)
]

-- LANES
pub low_bit : (w P : ℕ) → P < 8 → bit_at (w % 256) P ≡ bit_at w P
unfolding bit_at
low_bit w P l =
    let e : (7 - P) + 1 + P ≡ 8 = omega arith in
    let f : w % 2 ^ 8 / 2 ^ P ≡ w / 2 ^ P % 2 ^ ((7 - P) + 1) = subst (λ z. w % 2 ^ z / 2 ^ P ≡ w / 2 ^ P % 2 ^ ((7 - P) + 1)) e (field w ((7 - P) + 1) P) in
    ap (λ x. eqb (x % 2) 1) f ∙ ap (λ x. eqb x 1) (mod-mod-pow (w / 2 ^ P) (7 - P) 1)

pub lane_in : (ws : List ℕ) (q : Cell) (P : ℕ) → P < 8 → bit_at (lane ws q) P ≡ bit_at (get_or ws (word_of q) 0) (shift_of q + P)
unfolding lane
lane_in ws q P l = low_bit (get_or ws (word_of q) 0 / 2 ^ shift_of q) P l ∙ shifted_in (get_or ws (word_of q) 0) (shift_of q) P

-- BITS AND FACTS
-- what is held is about the first n formulas and p principals: of a formula's first word only the last three lanes are used, of the other
-- two a lane for each principal, and of a lane a bit for each
pub record Inside (ws : List ℕ) (n p : ℕ) : Type 0 where
  pub first : (x b : ℕ) → x < n → true ≡ bit_at (get_or ws x 0) b → (5 ≤ b / 8) × (b / 8 < 8) × (b % 8 < p)
  pub second : (x b : ℕ) → x < n → true ≡ bit_at (get_or ws (256 + x) 0) b → (b / 8 < p) × (b % 8 < p)
  pub third : (x b : ℕ) → x < n → true ≡ bit_at (get_or ws (512 + x) 0) b → (b / 8 < p) × (b % 8 < p)

-- bit b of a part is the fact of the cell q, of the principal of rank b % 8
pub record Stands (n p : ℕ) (c : Part) (b : ℕ) (q : Cell) : Type 0 where
  pub fits : Fit n p q
  pub rank : b % 8 < p
  pub place : c.at + b / 8 ≡ place_in p q
  pub word : word_of q ≡ c.word
  pub bit : shift_of q + b % 8 ≡ c.low + b

module _ (n p : ℕ) (few : p ≤ 8) where
  stands_first : (q : Cell) (b : ℕ) → q.formula < n → q.bit ≡ b / 8 → b / 8 < 3 → b % 8 < p
      → Stands n p (part q.formula 40 (q.formula * (3 + 2 * p))) b q
  unfolding place_in mode_of
  stands_first q b l e h r = record {
    fits = (l, inl (omega arith));
    rank = r;
    place = rw (e, lt-ltb (b / 8) 11 (omega arith));
    word = omega arith;
    bit = omega arith;
  }

  stands_second : (q : Cell) (b : ℕ) → q.formula < n → q.bit ≡ b / 8 + 3 → b / 8 < p → b % 8 < p
      → Stands n p (part (256 + q.formula) 0 (q.formula * (3 + 2 * p) + 3)) b q
  unfolding place_in mode_of
  stands_second q b l e h r = record {
    fits = (l, inl (omega arith));
    rank = r;
    place = rw (e, lt-ltb (b / 8 + 3) 11 (omega arith)) (omega arith);
    word = omega arith;
    bit = omega arith;
  }

  stands_third : (q : Cell) (b : ℕ) → q.formula < n → q.bit ≡ b / 8 + 11 → b / 8 < p → b % 8 < p
      → Stands n p (part (512 + q.formula) 0 (q.formula * (3 + 2 * p) + (3 + p))) b q
  unfolding place_in mode_of
  stands_third q b l e h r = record {
    fits = (l, inr (omega arith, omega arith));
    rank = r;
    place = rw (e, le-ltb (b / 8 + 11) 11 (omega arith)) (omega arith);
    word = omega arith;
    bit = omega arith;
  }

  abbrev cell : ℕ → ℕ → Cell
  cell x b = record { formula = x; bit = b }

  -- a bit that is set is a fact
  pub cell_of_lem : (ws : List ℕ) → Inside ws n p → (c : Part) → Among c (parts_upto p n) → (b : ℕ) → true ≡ bit_at (get_or ws c.word 0) (c.low + b)
      → (q : Cell) × Stands n p c b q
  cell_of_lem ws ins c m b t = let h = upto_member p n c m in go h.0 h.1 h.2
    where
      go : (x : ℕ) → x < n → Among c (parts_of p x) → (q : Cell) × Stands n p c b q
      go x l (inl e) =
          let h = ins.first x (40 + b) l (subst (λ c. true ≡ bit_at (get_or ws c.word 0) (c.low + b)) e t) in
          subst (λ c. (q : Cell) × Stands n p c b q) (sym e)
          (cell x (b / 8), stands_first (cell x (b / 8)) b l refl (omega (arith, h.1)) (omega (arith, h.2)))
      go x l (inr (inl e)) =
          let h = ins.second x (0 + b) l (subst (λ c. true ≡ bit_at (get_or ws c.word 0) (c.low + b)) e t) in
          subst (λ c. (q : Cell) × Stands n p c b q) (sym e)
          (cell x (b / 8 + 3), stands_second (cell x (b / 8 + 3)) b l refl (omega (arith, h.0)) (omega (arith, h.1)))
      go x l (inr (inr (inl e))) =
          let h = ins.third x (0 + b) l (subst (λ c. true ≡ bit_at (get_or ws c.word 0) (c.low + b)) e t) in
          subst (λ c. (q : Cell) × Stands n p c b q) (sym e)
          (cell x (b / 8 + 11), stands_third (cell x (b / 8 + 11)) b l refl (omega (arith, h.0)) (omega (arith, h.1)))
      go x l (inr (inr (inr z))) = absurd z

  -- and a fact of a principal has a bit
  pub record Bit (P : ℕ) (q : Cell) : Type 0 where
    pub of : Part
    pub among : Among of (parts_upto p n)
    pub number : ℕ
    pub small : number < 64
    pub rank : number % 8 ≡ P
    pub stands : Stands n p of number q

  pub bit_of_lem : (P : ℕ) → P < p → (q : Cell) → Fit n p q → Bit P q
  bit_of_lem P r q (l, inl h) = elim (dec_lt q.bit 3) [
    | yes k ↦ record {
      of = part q.formula 40 (q.formula * (3 + 2 * p));
      among = member_upto p n q.formula _ l (inl refl);
      number = 8 * q.bit + P;
      small = omega arith;
      rank = omega arith;
      stands = stands_first q (8 * q.bit + P) l (omega arith) (omega arith) (omega arith);
    }
    | no k ↦ record {
      of = part (256 + q.formula) 0 (q.formula * (3 + 2 * p) + 3);
      among = member_upto p n q.formula _ l (inr (inl refl));
      number = 8 * (q.bit - 3) + P;
      small = omega arith;
      rank = omega arith;
      stands = stands_second q (8 * (q.bit - 3) + P) l (omega arith) (omega arith) (omega arith);
    }
  ]
  bit_of_lem P r q (l, inr h) =
      let a = h.0 in
      let z = h.1 in
      record {
        of = part (512 + q.formula) 0 (q.formula * (3 + 2 * p) + (3 + p));
        among = member_upto p n q.formula _ l (inr (inr (inl refl)));
        number = 8 * (q.bit - 11) + P;
        small = omega arith;
        rank = omega arith;
        stands = stands_third q (8 * (q.bit - 11) + P) l (omega arith) (omega arith) (omega arith);
      }

  -- it is new if the fact is
  pub new_is : (ws v b : List ℕ) (d : ℕ) (c : Part) (k : ℕ) (q : Cell) → Stands n p c k q → bit_at (new ws v d c b) k ≡ is_new (k % 8) (lane b q) (lane ws q)
  unfolding is_new
  new_is ws v b d c k q s =
      let l : k % 8 < 8 = omega arith in
      new_in ws v d c b k
      ∙ ap₂ (λ i j. bit_at (get_or ws i 0) j && not (bit_at (get_or b i 0) j)) (sym s.word) (sym s.bit)
      ∙ ap₂ (λ x y. x && not y) (sym (lane_in ws q (k % 8) l)) (sym (lane_in b q (k % 8) l))

  -- PLACES
  same_block : (d P Q a b : ℕ) → a < d → b < d → P * d + a ≡ Q * d + b → (P ≡ Q) × (a ≡ b)
  same_block d P Q a b la lb e =
      let w : 0 < d = omega arith in
      let x : (R c : ℕ) → c < d → (R * d + c) / d ≡ R = λ R c l. mul-add-div_right w R c ∙ ap (λ k. R + k) (div-eq_of_lt l) ∙ add-zero R in
      let y : (R c : ℕ) → c < d → (R * d + c) % d ≡ c = λ R c l. mul-add-mod_self_right R d c ∙ mod-eq_of_lt l in
      (sym (x P a la) ∙ (ap (λ z. z / d) e ∙ x Q b lb), sym (y P a la) ∙ (ap (λ z. z % d) e ∙ y Q b lb))

  pub same_fact : (P Q : ℕ) (q r : Cell) → Fit n p q → Fit n p r → P * (n * (3 + 2 * p)) + place_in p q ≡ Q * (n * (3 + 2 * p)) + place_in p r → (P ≡ Q) × (q ≡ r)
  same_fact P Q q r f g e =
      let h = same_block (n * (3 + 2 * p)) P Q (place_in p q) (place_in p r) (place_below p few n q f) (place_below p few n r g) e in
      (h.0, sym (fact_place p few q f.1) ∙ (ap (cell_at p) h.1 ∙ fact_place p few r g.1))
