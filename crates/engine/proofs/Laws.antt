-- Laws that close the code: calls one after the other, loops, and what is left at once. Each takes what a call ensures as an equation.
-- Assumes nothing.
use Prim.Native.Nat.{ℕ, zero, suc, ◌+◌, ◌*◌, ◌/◌, ◌%◌, ◌^◌, ◌<◌, ◌≤◌}
use native.Mathlib.Nat.{mod-lt, mod-eq_of_lt, div-add-mod', zero-mul, add-zero, one-mul}
use native.Mathlib.Omega.{arith}
use native.Mathlib.Decide.{ℕ_discrete}
use native.Mathlib.Numerals.{add-one}
use mathlib.Core.Path.{◌≡◌, refl, sym, ap, ap₂, ◌∙◌, subst}
use mathlib.Core.List.{List, [], ◌∷◌, ◌++◌, map-append, append-nil}
use mathlib.Core.Bool.{Bool, true, false, ◌&&◌}
use lib.ListN.{get_or}
use lib.Pow.{split, pow_pos, pow-lt}
use lib.Bits.{bit_or, or_shr, or_mod, or_block, or_zero_r, and_self, and_mask, and_comm, and_zero_l, and_zero_r}
use lib.Dec.{eqb}
use borrow.Author.Tests.{eq-eqb, ne_eqb, eqb-true, le-ltb}
use Rattle.logic.specs.Book.{All}
use Rattle.logic.proofs.Member.{all_append}
use Rattle.facts.specs.declared.Cell.{Cell}
use Rattle.facts.specs.declared.Instance.{Instance}
use Rattle.facts.specs.Facts.{is_given}
use Rattle.facts.specs.Lists.{upto}
use Rattle.flat.specs.Layout.{at, kind_at, first_at, second_at}
use Rattle.rules.specs.Rules.{leads, spreads, is_public, everyone, for_all, is_about}
use Rattle.lanes.specs.Lanes.{word_of, shift_of, lane, State, state, Common, common, is_held, entered, concluded, ready, fired, run}
use Rattle.lanes.proofs.Runs.{run_append}
use Rattle.engine.specs.Tests.{has_all, is_spread}

-- what comes later has the log of the same principal
pub since : (u : List ℕ) {k k' : ℕ} (s : State) (l : List Common) {t : State} → k' ≡ k → t ≡ run u k' s l → t ≡ run u k s l
since u s l {t} e f = subst (λ x. t ≡ run u x s l) e f

pub since_one : (u : List ℕ) {k k' : ℕ} (s : State) (c : Common) {t : State} → k' ≡ k → t ≡ concluded u k' s c → t ≡ concluded u k s c
since_one u s c {t} e f = subst (λ x. t ≡ concluded u x s c) e f

-- ONE AFTER THE OTHER
module _ (u : List ℕ) (k : ℕ) where
  pub run_none : (s : State) → s ≡ run u k s []
  unfolding run
  run_none s = refl

  -- an instance of a rule, as the list has it
  as_fired : (s : State) (m : ℕ) (i : Instance) → is_given i.kind ≡ false → concluded u k s (common m i) ≡ fired u k s (common m i)
  unfolding concluded fired ready
  as_fired s m i g = rw g

  pub run_one : (s : State) (m : ℕ) (i : Instance) {t : State} {w : ℕ} {j : Instance} → is_given i.kind ≡ false → w ≡ m → j ≡ i → t ≡ concluded u k s (common w j) → t ≡ run u k s (common m i ∷ [])
  unfolding run
  run_one s m i g e q f = rw (← (as_fired s m i g), ← q, ← e) f

  pub run_cons : (s : State) (m : ℕ) (i : Instance) (l : List Common) {t v : State} {w : ℕ} {j : Instance} → is_given i.kind ≡ false → w ≡ m → j ≡ i → t ≡ concluded u k s (common w j) → v ≡ run u k t l
      → v ≡ run u k s (common m i ∷ l)
  unfolding run
  run_cons s m i l g e q f h = rw (← (as_fired s m i g), ← q, ← e, ← f) h

  pub run_both : (s : State) (l m : List Common) {t v : State} → t ≡ run u k s l → v ≡ run u k t m → v ≡ run u k s (l ++ m)
  run_both s l m e f = rw (run_append u k l m s, ← e) f

  pub both_all : (s : State) (l m : List Instance) {t v : State} → t ≡ run u k s (for_all l) → v ≡ run u k t (for_all m) → v ≡ run u k s (for_all (l ++ m))
  both_all s l m e f = rw (map-append (common everyone) l m) (run_both s (for_all l) (for_all m) e f)

  -- a turn and the end of a loop upwards
  pub up_more : (s : State) {t v : State} (f : ℕ → List Instance) (i : ℕ) → t ≡ run u k s (for_all (upto f i)) → v ≡ run u k t (for_all (f i)) → v ≡ run u k s (for_all (upto f (i + 1)))
  unfolding upto
  up_more s f i e g = rw (add-one i) (both_all s (upto f i) (f i) e g)

  pub up_end : (s : State) {t : State} (f : ℕ → List Instance) (i n : ℕ) → i ≤ n → n ≤ i → t ≡ run u k s (for_all (upto f i)) → t ≡ run u k s (for_all (upto f n))
  up_end s f i n l h e = let z : i ≡ n = omega arith in rw z at e

  -- a turn that passes over numbers with nothing in their lists
  skipped : (f : ℕ → List Instance) (x z : ℕ) → x < z → ((j : ℕ) → x < j → j < z → f j ≡ []) → upto f z ≡ upto f (x + 1)
  unfolding upto
  skipped f x zero l h = absurd (omega arith)
  skipped f x (suc z) l h = elim (ℕ_discrete x z) [
    | yes e ↦ ap (λ (i : ℕ). upto f i) (let d : suc z ≡ x + 1 = omega arith in d)
    | no d ↦
        let m : x < z = omega arith in
        rw (h z m (omega arith)) (append-nil (upto f z) ∙ skipped f x z m (λ j a b. h j a (omega arith)))
  ]

  pub up_over : (s : State) {t v : State} (f : ℕ → List Instance) (x z : ℕ) → t ≡ run u k s (for_all (upto f x)) → v ≡ run u k t (for_all (f x))
      → x < z → ((j : ℕ) → x < j → j < z → f j ≡ []) → v ≡ run u k s (for_all (upto f z))
  up_over s f x z e g l h = up_more s f x e g ∙ ap (λ (q : List Instance). run u k s (for_all q)) (sym (skipped f x z l h))

  -- WHERE NOTHING IS NEW
  -- a list of which every instance leaves all as it is
  abbrev Idle : State → Common → Type 0
  Idle s c = is_held s.words (ready s.words c) c.by.gives ≡ true

  fired_idle : (s : State) (c : Common) → Idle s c → fired u k s c ≡ s
  unfolding fired entered
  fired_idle s c e = rw e

  pub run_idle : (s : State) (l : List Common) → All (Idle s) l → s ≡ run u k s l
  unfolding run
  run_idle s [] a = refl
  run_idle s (c ∷ l) a = rw (fired_idle s c a.0) (run_idle s l a.1)

-- nobody is ready
pub none_held : (ws : List ℕ) (q : Cell) {w : ℕ} → w ≡ 0 → is_held ws w q ≡ true
unfolding is_held
none_held ws q e = rw (e, zero-mul (2 ^ shift_of q), or_zero_r (get_or ws (word_of q) 0)) (eq-eqb (get_or ws (word_of q) 0) (get_or ws (word_of q) 0) refl)

-- where nobody holds a premise nobody is ready
pub first_none : (ws : List ℕ) (c : Common) → is_given c.by.kind ≡ false → lane ws c.by.first ≡ 0 → ready ws c ≡ 0
unfolding ready
first_none ws c g e = rw (g, e, and_zero_l (lane ws c.by.second)) (and_zero_r c.may)

pub second_none : (ws : List ℕ) (c : Common) → is_given c.by.kind ≡ false → lane ws c.by.second ≡ 0 → ready ws c ≡ 0
unfolding ready
second_none ws c g e = rw (g, e, and_zero_r (lane ws c.by.first)) (and_zero_r c.may)

pub all_for_all : (P : Common → Type 0) (l : List Instance) → All (λ i. P (common everyone i)) l → All P (for_all l)
all_for_all P [] a = tt
all_for_all P (i ∷ l) a = (a.0, all_for_all P l a.1)

-- a set that a lane has is one that the word has
lane_has : (a c s : ℕ) → c < 256 → bit_or (a / 2 ^ s % 256) c ≡ a / 2 ^ s % 256 → bit_or a (c * 2 ^ s) ≡ a
lane_has a c s l e =
    let h : bit_or (a / 2 ^ s / 256 * 256 + a / 2 ^ s % 256) (0 * 256 + c) ≡ a / 2 ^ s / 256 * 256 + a / 2 ^ s % 256 =
    or_block 8 (a / 2 ^ s / 256) 0 (a / 2 ^ s % 256) c (mod-lt (a / 2 ^ s) (omega arith)) l ∙ ap₂ (λ x y. x * 256 + y) (or_zero_r (a / 2 ^ s / 256)) e in
    let z : 0 * 256 + c ≡ c = omega arith in
    let g : bit_or (a / 2 ^ s) c ≡ a / 2 ^ s = ap₂ bit_or (sym (div-add-mod' (a / 2 ^ s) 256)) (sym z) ∙ h ∙ div-add-mod' (a / 2 ^ s) 256 in
    ap₂ bit_or (sym (split a s)) (sym (add-zero (c * 2 ^ s)))
    ∙ or_block s (a / 2 ^ s) c (a % 2 ^ s) 0 (mod-lt a (pow_pos s)) (pow_pos s)
    ∙ ap₂ (λ x y. x * 2 ^ s + y) g (or_zero_r (a % 2 ^ s))
    ∙ split a s

-- those who are ready by one premise are those who hold it
ready_one : (ws : List ℕ) (n : ℕ) (p c : Cell) → ready ws (common everyone (leads (66 + n) p c)) ≡ lane ws p
unfolding ready lane
ready_one ws n p c =
    let w = get_or ws (word_of p) 0 / 2 ^ shift_of p in
    rw (le-ltb (66 + n) 66 (omega arith), and_self (w % 256)) (and_comm 255 (w % 256) ∙ and_mask (w % 256) 8 ∙ mod-eq_of_lt (mod-lt w (omega arith)))

lane_is : (ws : List ℕ) (p : Cell) → lane ws p ≡ get_or ws (word_of p) 0 / 2 ^ shift_of p % 256
unfolding lane
lane_is ws p = refl

lane_small : (ws : List ℕ) (p : Cell) → lane ws p < 256
unfolding lane
lane_small ws p = mod-lt (get_or ws (word_of p) 0 / 2 ^ shift_of p) (omega arith)

-- lanes at the same place of two words, one of which has all that the other has
copied : (ws : List ℕ) (n : ℕ) (p q : Cell) → shift_of p ≡ shift_of q → bit_or (get_or ws (word_of q) 0) (get_or ws (word_of p) 0) ≡ get_or ws (word_of q) 0
    → is_held ws (ready ws (common everyone (leads (66 + n) p q))) q ≡ true
unfolding is_held
copied ws n p q es e =
    let a = get_or ws (word_of q) 0 in
    let b = get_or ws (word_of p) 0 in
    let z : bit_or (a / 2 ^ shift_of q % 256) (lane ws p) ≡ a / 2 ^ shift_of q % 256 =
    ap (λ x. bit_or (a / 2 ^ shift_of q % 256) x) (lane_is ws p ∙ ap (λ x. b / 2 ^ x % 256) es)
    ∙ sym (or_mod (a / 2 ^ shift_of q) (b / 2 ^ shift_of q) 8) ∙ ap (λ x. x % 256) (sym (or_shr a b (shift_of q))) ∙ ap (λ x. x / 2 ^ shift_of q % 256) e in
    rw (ready_one ws n p q) (eq-eqb (bit_or a (lane ws p * 2 ^ shift_of q)) a (lane_has a (lane ws p) (shift_of q) (lane_small ws p) z))

-- what is spread already
module _ (u : List ℕ) (k : ℕ) (ws d l : List ℕ) (n second r x : ℕ) {y : Bool} (e : y ≡ is_spread ws r x) (h : y ≡ true) where
  has_all_lem : (i j : ℕ) → has_all ws i j ≡ true → bit_or (get_or ws j 0) (get_or ws i 0) ≡ get_or ws j 0
  has_all_lem i j = eqb-true (bit_or (get_or ws j 0) (get_or ws i 0)) (get_or ws j 0)

  both : (has_all ws (256 + r) (256 + x) ≡ true) × (has_all ws (512 + r) (512 + x) ≡ true)
  unfolding is_spread
  both = go (has_all ws (256 + r) (256 + x)) (has_all ws (512 + r) (512 + x)) (sym e ∙ h)
    where
      go : (a b : Bool) → (a && b) ≡ true → (a ≡ true) × (b ≡ true)
      go true b f = (refl, f)
      go false b f = absurd (let z : ◌≡◌ {A = ℕ} 0 1 = cc in omega arith)

  at_word_lem : (x b g : ℕ) → (b + 5) / 8 ≡ g → g < 4 → word_of (at x b) ≡ 256 * g + x
  at_word_lem x b g e l = omega arith

  word_has : (b g : ℕ) → (b + 5) / 8 ≡ g → g < 4 → has_all ws (256 * g + r) (256 * g + x) ≡ true
      → bit_or (get_or ws (word_of (at x b)) 0) (get_or ws (word_of (at r b)) 0) ≡ get_or ws (word_of (at x b)) 0
  word_has b g eb l f = rw (at_word_lem x b g eb l, at_word_lem r b g eb l) (has_all_lem (256 * g + r) (256 * g + x) f)

  spread_idle : (j : ℕ) → j < 8 → All (λ c. is_held ws (ready ws c) c.by.gives ≡ true) (for_all (spreads second r x j))
  spread_idle j lj = (
    subst (λ z. is_held ws (ready ws (common everyone (leads z (at r (3 + j)) (at x (3 + j))))) (at x (3 + j)) ≡ true) (let z : 66 + (13 + second) ≡ 79 + second = omega arith in z)
        (copied ws (13 + second) (at r (3 + j)) (at x (3 + j)) refl (word_has (3 + j) 1 (omega arith) (omega arith) both.0)),
    (
      subst (λ z. is_held ws (ready ws (common everyone (leads z (at r (11 + j)) (at x (11 + j))))) (at x (11 + j)) ≡ true) (let z : 66 + (15 + second) ≡ 81 + second = omega arith in z)
          (copied ws (15 + second) (at r (11 + j)) (at x (11 + j)) refl (word_has (11 + j) 2 (omega arith) (omega arith) both.1)),
      tt,
    ),
  )

  upto_idle : (P : Common → Type 0) (f : ℕ → List Instance) (m : ℕ) → ((j : ℕ) → j < m → All P (for_all (f j))) → All P (for_all (upto f m))
  unfolding upto
  upto_idle P f zero a = tt
  upto_idle P f (suc m) a = rw (map-append (common everyone) (upto f m) (f m)) (all_append P (for_all (upto f m)) (for_all (f m)) (upto_idle P f m (λ j b. a j (omega arith))) (a m (omega arith)))

  pub spread_already : state ws d l n ≡ run u k (state ws d l n) (for_all (upto (spreads second r x) 8))
  spread_already = run_idle u k (state ws d l n) (for_all (upto (spreads second r x) 8)) (upto_idle (λ c. is_held ws (ready ws c) c.by.gives ≡ true) (spreads second r x) 8 spread_idle)

-- what the small tests say
pub one_bit : (w r : ℕ) → w ≡ r → w < 8 → 1 * 2 ^ w % 256 ≡ 2 ^ r
one_bit w r e l = rw (one-mul (2 ^ w), mod-eq_of_lt (pow-lt {i = w} {j = 8} l)) (ap (λ z. 2 ^ z) e)

pub about_no : (b : List ℕ) (kind r y : ℕ) {k : ℕ} → k ≡ kind_at b y → (k ≡ kind → ⊥) → eqb k kind ≡ is_about b kind r y
unfolding is_about
about_no b kind r y {k} e n = rw (← e, ne_eqb k kind n)

pub about_yes : (b : List ℕ) (kind r y : ℕ) {k s t : ℕ} → k ≡ kind_at b y → k ≡ kind → s ≡ second_at b y → t ≡ second_at b r → eqb s t ≡ is_about b kind r y
unfolding is_about
about_yes b kind r y {k} e h es et = rw (← e, eq-eqb k kind h, ← es, ← et)

pub public_no : (b : List ℕ) (r y : ℕ) {k : ℕ} → k ≡ kind_at b y → (k ≡ 9 → ⊥) → eqb k 9 ≡ is_public b r y
unfolding is_public
public_no b r y {k} e n = rw (← e, ne_eqb k 9 n)

pub public_yes : (b : List ℕ) (r y : ℕ) {k s t : ℕ} → k ≡ kind_at b y → k ≡ 9 → s ≡ first_at b y → t ≡ second_at b r → eqb s t ≡ is_public b r y
unfolding is_public
public_yes b r y {k} e h es et = rw (← e, eq-eqb k 9 h, ← es, ← et)

-- the words of r and of x
module _ (ws : List ℕ) (r x : ℕ) {i j : ℕ} (ei : i ≡ r) (ej : j ≡ x) {v : Bool} (e : v ≡ has_all ws (256 + i) (256 + j)) where
  pub spread_no : v ≡ false → v ≡ is_spread ws r x
  unfolding is_spread
  spread_no h = h ∙ rw (← ei, ← ej, ← e, h)

  pub spread_yes : {y : Bool} → v ≡ true → y ≡ has_all ws (512 + i) (512 + j) → y ≡ is_spread ws r x
  unfolding is_spread
  spread_yes h f = f ∙ rw (← ei, ← ej, ← e, h)
