-- What the functions that give leave, and how much is stamped at most. Assumes nothing.
use Prim.Native.Nat.{ℕ, zero, suc, ◌+◌, ◌*◌, ◌≤◌}
use native.Mathlib.Omega.{arith}
use native.Mathlib.Numerals.{add-one}
use mathlib.Core.Path.{◌≡◌, refl, ap, subst}
use mathlib.Core.List.{List}
use mathlib.Core.Bool.{Bool, true, false, cond}
use lib.Dec.{ltb}
use borrow.Author.Tests.{ltb-false}
use Rattle.facts.specs.declared.Cell.{Cell}
use Rattle.facts.specs.declared.Instance.{Instance}
use Rattle.facts.specs.Facts.{bit_at}
use Rattle.flat.specs.Layout.{first_at, assumption_at, stated_at}
use Rattle.stages.specs.Stages.{gives, assumed, assumed_in}
use Rattle.lanes.specs.Lanes.{State, entered}
use Rattle.rules.specs.Rules.{only_one}
use Rattle.stamps.specs.Stamps as stamps
use Rattle.stamps.specs.Stamps.{stamp_upto, stamp_new}
use Rattle.stamps.proofs.Laws.{record_few}

module _ (b u : List ℕ) (k : ℕ) (s : State) where
  pub assumed_is : (a : ℕ) {f q w : ℕ} {c : Cell} {i : Instance} {t : State} → f ≡ assumption_at b a → q ≡ first_at b f → w ≡ only_one b q → c ≡ stated_at b f → i ≡ gives 64 a c
      → t ≡ entered u k w i s → t ≡ assumed b u k a s
  unfolding assumed
  assumed_is a ef eq ew ec ei et = rw (← ef, ← eq, ← ew, ← ec, ← ei) et

  pub not_assumed : (f a : ℕ) {v : Bool} → v ≡ bit_at f a → v ≡ false → s ≡ cond (bit_at f a) (assumed b u k a s) s
  not_assumed f a e h = rw (← e, h)

  pub is_assumed : (f a : ℕ) {v : Bool} {t : State} → v ≡ bit_at f a → v ≡ true → t ≡ assumed b u k a s → t ≡ cond (bit_at f a) (assumed b u k a s) s
  is_assumed f a e h i = rw (← e, h) i

  pub assumed_none : (f : ℕ) → s ≡ assumed_in b u k f 0 s
  unfolding assumed_in
  assumed_none f = refl

  pub assumed_more : (f a : ℕ) {t v : State} → t ≡ assumed_in b u k f a s → v ≡ cond (bit_at f a) (assumed b u k a t) t → v ≡ assumed_in b u k f (a + 1) s
  unfolding assumed_in
  assumed_more f a e h = rw (add-one a, ← e) h

  pub assumed_end : (f a n : ℕ) {t : State} → a ≤ n → n ≤ a → t ≡ assumed_in b u k f a s → t ≡ assumed_in b u k f n s
  assumed_end f a n l h e = let z : a ≡ n = omega arith in rw z at e

-- what comes later has the log of the same principal
pub assumed_since : (b u : List ℕ) (f a : ℕ) (s : State) {k k' : ℕ} {t : State} → k' ≡ k → t ≡ cond (bit_at f a) (assumed b u k' a s) s → t ≡ cond (bit_at f a) (assumed b u k a s) s
assumed_since b u f a s {t = t} e h = subst (λ x. t ≡ cond (bit_at f a) (assumed b u x a s) s) e h

-- HOW MUCH IS STAMPED: at most a byte for each bit of three words to a formula
module _ (ws v : List ℕ) where
  upto_most : (d p n : ℕ) (s : stamps.State) → (stamp_upto ws v d p n s).stamps.count ≤ s.stamps.count + 192 * n
  unfolding stamp_upto
  upto_most d p zero s = omega arith
  upto_most d p (suc n) s = omega (arith, record_few ws v d p n (stamp_upto ws v d p n s) refl, upto_most d p n s)

  pub new_most : (n p : ℕ) (s : stamps.State) → (stamp_new ws v n p s).stamps.count ≤ s.stamps.count + 49152
  unfolding stamp_new
  new_most n p s = go (ltb 256 n) (ltb 8 p) refl
    where
      go : (a c : Bool) → ltb 256 n ≡ a → (cond a s (cond c s (stamp_upto ws v (n * (3 + 2 * p)) p n s))).stamps.count ≤ s.stamps.count + 49152
      go true c e = omega arith
      go false true e = omega arith
      go false false e = omega (arith, upto_most (n * (3 + 2 * p)) p n s, ltb-false 256 n e)

-- what is stamped, from what the stamping of a word says
pub stamped_few : (f₀ t₀ ws v : List ℕ) (n p : ℕ) {f t : List ℕ} {r : ℕ} → stamps.state f t r ≡ stamp_new ws v n p (stamps.state f₀ t₀ 0) → r ≤ 65536
stamped_few f₀ t₀ ws v n p e = let m = new_most ws v n p (stamps.state f₀ t₀ 0) in let z = ap (λ s. s.stamps.count) e in omega arith
