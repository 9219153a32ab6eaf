-- The last pending record, and that closing comes to an end. Assumes nothing.
use Prim.Native.Nat.{ℕ, zero, suc, ◌+◌, ◌-◌, ◌*◌, ◌/◌, ◌%◌, ◌^◌, ◌<◌, ◌≤◌}
use native.Mathlib.Nat.{mul-le-mul_right, suc-mul, one-mul, mod-eq_of_lt, mod-lt, pow-suc, zero-div, div-eq_of_lt}
use native.Mathlib.Omega.{arith}
use native.Mathlib.Decide.{dec_lt}
use mathlib.Core.Path.{◌≡◌, sym, ap, ◌∙◌, subst}
use mathlib.Core.Logic.{inl, inr, ⊎_elim}
use mathlib.Core.List.{List, [], ◌∷◌}
use mathlib.Core.Bool.{true, false}
use lib.ListN.{length, get_or, set, length-set, get_or-eq_default}
use Rattle.std.specs.Prelude.{All}
use Rattle.std.proofs.lemmas.List.Elements.{All-get_or}
use lib.Count.{count_leading_zeros, leading_top}
use lib.Dec.{eqb}
use lib.Pow.{high, pow_pos, pow-lt, field, mod-mod-pow}
use borrow.Author.Tests.{eqb-true}
use Rattle.logic.proofs.Bytes.{Bytes}
use Rattle.facts.specs.Facts.{bit_at}
use Rattle.lanes.specs.Lanes.{State, state, run}
use Rattle.lanes.proofs.Measure.{lack, run_less, run_words, run_pending}
use Rattle.rules.specs.Rules.{rules_of}
use Rattle.rules.specs.Close.{Pending, IsLast, taken, without, Reaches, Closes}
use Rattle.rules.specs.Close.Reaches.{start, more}
use Rattle.rules.proofs.RulesBounded.{bounded}

-- the highest bit is set
top_set : (w j : ℕ) → 2 ^ j ≤ w → w < 2 ^ suc j → true ≡ bit_at w j
unfolding bit_at
top_set w j a b =
    let p = pow-suc 2 j in
    let e : w ≡ 1 * 2 ^ j + (w - 2 ^ j) = omega (arith, one-mul (2 ^ j)) in
    rw (e, high 1 j {lo = w - 2 ^ j} (omega (arith, p)))

pub top_is : (w : ℕ) → 0 < w → w < 18446744073709551616 → (count_leading_zeros 64 w ≤ 63) × (63 - count_leading_zeros 64 w < 64) × (true ≡ bit_at w (63 - count_leading_zeros 64 w))
top_is w p l =
    let t = leading_top 64 w p l in
    let e : count_leading_zeros 64 w + suc t.0 ≡ 64 = t.1 in
    (omega arith, omega arith, subst (λ j. true ≡ bit_at w j) (let z : t.0 ≡ 63 - count_leading_zeros 64 w = omega arith in z) (top_set w t.0 t.2 t.3))

zero_bit : (t : ℕ) → true ≡ bit_at 0 t → ⊥
unfolding bit_at
zero_bit t e = (let z : true ≡ false = e ∙ ap (λ x. eqb x 1) (zero_digit t) in let o : ◌≡◌ {A = ℕ} 0 1 = cc in omega arith)
  where
    zero_digit : (t : ℕ) → 0 / 2 ^ t % 2 ≡ 0
    zero_digit t = rw (zero-div (2 ^ t))

-- a set bit of word k is a pending record
pub pending_at : (d : List ℕ) (k t : ℕ) → t < 64 → true ≡ bit_at (get_or d k 0) t → Pending d (64 * k + t)
pending_at d k t l e =
    let a : (64 * k + t) / 64 ≡ k = omega arith in
    let b : (64 * k + t) % 64 ≡ t = omega arith in
    rw (a, b) e

-- no word has a bit
pub none_pending : (d : List ℕ) → ((k : ℕ) → k < 4 → get_or d k 0 ≡ 0) → (j : ℕ) → j < 256 → Pending d j → ⊥
none_pending d e j l p = zero_bit (j % 64) (p ∙ ap (λ w. bit_at w (j % 64)) (e (j / 64) (omega arith)))

-- the same where all words are 0
pub zeros_pending : (d : List ℕ) → All (λ w. w ≡ 0) d → (j : ℕ) → j < 256 → Pending d j → ⊥
zeros_pending d h = none_pending d (λ k l. elim (dec_lt k (length d)) [
  | yes m ↦ All-get_or (λ w. w ≡ 0) d k 0 m h
  | no n ↦ get_or-eq_default d 0 {n = k} (omega arith)
])

-- THE MEASURE
-- the sum of four words
unfoldable pub total : List ℕ → ℕ
total d = get_or d 0 0 % 18446744073709551616 + (get_or d 1 0 % 18446744073709551616 + (get_or d 2 0 % 18446744073709551616 + get_or d 3 0 % 18446744073709551616))

abbrev pub measure : List ℕ → List ℕ → ℕ
measure ws d = lack ws * 73786976294838206464 + total d

total_small : (d : List ℕ) → total d < 73786976294838206464
unfolding total
total_small d = omega arith

-- a word with one of its low 64 bits less
bit_below : (w t : ℕ) → t < 64 → w / 2 ^ t % 2 ≡ 1 → 2 ^ t ≤ w % 18446744073709551616
bit_below w t l e =
    let f : w % 2 ^ (64 - t + t) / 2 ^ t ≡ w / 2 ^ t % 2 ^ (64 - t) = field w (64 - t) t in
    let g : 64 - t + t ≡ 64 = omega arith in
    elim (dec_lt (w % 18446744073709551616) (2 ^ t)) [
      | yes h ↦
          let z : w / 2 ^ t % 2 ^ (64 - t) ≡ 0 = sym f ∙ ap (λ k. w % 2 ^ k / 2 ^ t) g ∙ div-eq_of_lt h in
          let y : w / 2 ^ t % 2 ^ (64 - t) % 2 ≡ 1 = low_digit (w / 2 ^ t) (64 - t) (omega arith) ∙ e in
          absurd (let o : w / 2 ^ t % 2 ^ (64 - t) % 2 ≡ 0 = ap (λ x. x % 2) z in omega arith)
      | no h ↦ omega arith
    ]
  where
    low_digit : (v k : ℕ) → 0 < k → v % 2 ^ k % 2 ≡ v % 2
    low_digit v zero l = absurd (omega arith)
    low_digit v (suc k) l = ap (λ j. v % 2 ^ j % 2) (let z : suc k ≡ k + 1 = omega arith in z) ∙ mod-mod-pow v k 1

less_bit : (w v : ℕ) → 0 < v → v ≤ w % 18446744073709551616 → (w - v) % 18446744073709551616 < w % 18446744073709551616
less_bit w v p l = omega arith

-- what `1 << (r % 64)` computes, and that it is there to be taken
pub one_shifted : (r : ℕ) → 1 * 2 ^ (r % 64) % 18446744073709551616 ≡ 2 ^ (r % 64)
one_shifted r = rw (one-mul (2 ^ (r % 64)), mod-eq_of_lt {n = 2 ^ (r % 64)} {m = 2 ^ 64} (pow-lt {i = r % 64} {j = 64} (mod-lt r (omega arith))))

pub bit_there : (d : List ℕ) (r : ℕ) → Pending d r → 1 * 2 ^ (r % 64) % 18446744073709551616 ≤ get_or d (r / 64) 0
unfolding bit_at
bit_there d r p =
    let e = bit_below (get_or d (r / 64) 0) (r % 64) (omega arith) (eqb-true (get_or d (r / 64) 0 / 2 ^ (r % 64) % 2) 1 (sym p)) in
    rw (one_shifted r) (omega arith)

set_total : (d : List ℕ) (k v : ℕ) → length d ≡ 4 → k < 4 → v % 18446744073709551616 < get_or d k 0 % 18446744073709551616 → total (set d k v) < total d
unfolding total
set_total (a ∷ b ∷ c ∷ e ∷ []) zero v l h m = omega arith
set_total (a ∷ b ∷ c ∷ e ∷ []) (suc zero) v l h m = omega arith
set_total (a ∷ b ∷ c ∷ e ∷ []) (suc (suc zero)) v l h m = omega arith
set_total (a ∷ b ∷ c ∷ e ∷ []) (suc (suc (suc zero))) v l h m = omega arith
set_total (a ∷ b ∷ c ∷ e ∷ []) (suc (suc (suc (suc k)))) v l h m = absurd (omega arith)
set_total [] k v l h m = absurd (omega arith)
set_total (a ∷ []) k v l h m = absurd (omega arith)
set_total (a ∷ b ∷ []) k v l h m = absurd (omega arith)
set_total (a ∷ b ∷ c ∷ []) k v l h m = absurd (omega arith)
set_total (a ∷ b ∷ c ∷ e ∷ f ∷ d) k v l h m = absurd (omega arith)

taken_less : (d : List ℕ) (r : ℕ) → length d ≡ 4 → r < 256 → Pending d r → total (taken d r) < total d
unfolding bit_at
taken_less d r l h p =
    set_total d (r / 64) (get_or d (r / 64) 0 - 2 ^ (r % 64)) l (omega arith)
    (less_bit (get_or d (r / 64) 0) (2 ^ (r % 64)) (pow_pos (r % 64)) (bit_below (get_or d (r / 64) 0) (r % 64) (omega arith) (eqb-true (get_or d (r / 64) 0 / 2 ^ (r % 64) % 2) 1 (sym p))))

-- one more record is taken
pub one_more : (b links rows u : List ℕ) (k : ℕ) (s t : State) (r : ℕ) {t' : State} → r < 256 → Pending t.pending r → t' ≡ run u k (without r t) (rules_of b links rows r)
    → Reaches b links rows u k s t → Reaches b links rows u k s t'
one_more b links rows u k s t r l p e h = subst (Reaches b links rows u k s) (sym e) (more t r l p h)

pub closes_at : (b links rows u : List ℕ) (t : State) {k k' : ℕ} {s s' : State} → k' ≡ k → s' ≡ s → Closes b links rows u k' s' t → Closes b links rows u k s t
closes_at b links rows u t {k = k} {s' = s'} e f h = subst (λ x. Closes b links rows u k x t) f (subst (λ x. Closes b links rows u x s' t) e h)

-- taking a record and applying its rules leaves less
pub turn_less : (b links rows u : List ℕ) (k r : ℕ) (ws d l : List ℕ) (n : ℕ) → Bytes b → length ws ≡ 1024 → length d ≡ 4 → r < 256 → Pending d r → (t : State)
    → t ≡ run u k (state ws (taken d r) l n) (rules_of b links rows r) → measure t.words t.pending < measure ws d
turn_less b links rows u k r ws d l n h lw ld lr p t e =
    ⊎_elim
    (λ z. let q = e ∙ z in rw q (let m = taken_less d r ld lr p in omega arith))
    (λ z. let y : lack t.words < lack ws = rw e z in
    let m = mul-le-mul_right {m = suc (lack t.words)} {n = lack ws} 73786976294838206464 y in
    omega (arith, suc-mul (lack t.words) 73786976294838206464, total_small t.pending))
    (run_less u k (rules_of b links rows r) (bounded b links rows h r lr) (state ws (taken d r) l n) lw)

-- WHAT HOLDS SO FAR of closing: states that were reached, of their lengths, and the next record
pub record Going (b links rows u : List ℕ) (k : ℕ) (s t : State) (r : ℕ) : Type 0 where
  pub words : length t.words ≡ 1024
  pub pending : length t.pending ≡ 4
  pub reached : Reaches b links rows u k s t
  pub last : IsLast t.pending r

pub go_start : (b links rows u : List ℕ) (k : ℕ) (s : State) (r : ℕ) → length s.words ≡ 1024 → length s.pending ≡ 4 → IsLast s.pending r → Going b links rows u k s s r
go_start b links rows u k s r w d e = record { words = w; pending = d; reached = start; last = e }

pub is_pending : (d : List ℕ) (r : ℕ) → r < 256 → IsLast d r → Pending d r
is_pending d r l (inl h) = h.1
is_pending d r l (inr h) = absurd (let e = h.0 in omega arith)

pub go_on : (b links rows u : List ℕ) (k : ℕ) (s : State) (ws d l : List ℕ) (n r r' : ℕ) (d₁ : List ℕ) (t : State) → Bytes b → r < 256 → Going b links rows u k s (state ws d l n) r
    → d₁ ≡ taken d r → t ≡ run u k (state ws d₁ l n) (rules_of b links rows r) → IsLast t.pending r' → Going b links rows u k s t r'
go_on b links rows u k s ws d l n r r' d₁ t h lr g ed e q =
    let z : t ≡ run u k (state ws (taken d r) l n) (rules_of b links rows r) = subst (λ x. t ≡ run u k (state ws x l n) (rules_of b links rows r)) ed e in
    record {
      words = rw z (run_words u k (rules_of b links rows r) (bounded b links rows h r lr) (state ws (taken d r) l n) g.words);
      pending = rw z (run_pending u k (rules_of b links rows r) (bounded b links rows h r lr) (state ws (taken d r) l n) g.words ∙ simp length-set g.pending);
      reached = subst (Reaches b links rows u k s) (sym z) (more (state ws d l n) r lr (is_pending d r lr g.last) g.reached);
      last = q;
    }

pub go_less : (b links rows u : List ℕ) (k : ℕ) (s : State) (ws d l : List ℕ) (n r : ℕ) (d₁ : List ℕ) (t : State) → Bytes b → r < 256 → Going b links rows u k s (state ws d l n) r
    → d₁ ≡ taken d r → t ≡ run u k (state ws d₁ l n) (rules_of b links rows r) → measure t.words t.pending < measure ws d
go_less b links rows u k s ws d l n r d₁ t h lr g ed e =
    turn_less b links rows u k r ws d l n h g.words g.pending lr (is_pending d r lr g.last) t (subst (λ x. t ≡ run u k (state ws x l n) (rules_of b links rows r)) ed e)

pub go_end : (b links rows u : List ℕ) (k : ℕ) (s t : State) (r : ℕ) → 256 ≤ r → Going b links rows u k s t r → Closes b links rows u k s t
go_end b links rows u k s t r l g = record { reached = g.reached; done = ended g.last }
  where
    ended : IsLast t.pending r → (j : ℕ) → j < 256 → Pending t.pending j → ⊥
    ended (inl h) = absurd (let z = h.0 in omega arith)
    ended (inr h) = h.1
