-- Closing as a function that can be computed: the last pending record is taken until none is pending. So what closes a state exists.
-- Assumes nothing.
use Prim.Native.Nat.{ℕ, zero, suc, ◌/◌, ◌%◌, ◌<◌, ◌≤◌}
use native.Mathlib.Nat.{le_refl}
use native.Mathlib.Omega.{arith}
use native.Mathlib.Decide.{ℕ_discrete}
use mathlib.Core.Path.{◌≡◌, refl, sym, subst}
use mathlib.Core.Logic.{inl, inr}
use mathlib.Core.List.{List}
use mathlib.Core.Bool.{Bool, true, false, cond}
use lib.ListN.{length, get_or}
use lib.Dec.{ltb}
use borrow.Author.Tests.{ltb-true, ltb-false}
use Rattle.logic.proofs.Bytes.{Bytes}
use Rattle.facts.specs.Facts.{bit_at}
use Rattle.lanes.specs.Lanes.{State, run}
use Rattle.rules.specs.Rules.{rules_of}
use Rattle.rules.specs.Close.{Pending, IsLast, taken, without, Closes}
use Rattle.stages.proofs.Closed.{measure, Going, go_start, go_on, go_less, go_end}

-- the last pending record below k, or 256
unfoldable pub last_below : List ℕ → ℕ → ℕ
last_below d zero = 256
last_below d (suc k) = cond (bit_at (get_or d (k / 64) 0) (k % 64)) k (last_below d k)

last_below_lem : (d : List ℕ) (k : ℕ) → k ≤ 256 → ((j : ℕ) → k ≤ j → j < 256 → Pending d j → ⊥) → IsLast d (last_below d k)
unfolding last_below
last_below_lem d zero l h = inr (refl, λ j m. h j (omega arith) m)
last_below_lem d (suc k) l h = go (bit_at (get_or d (k / 64) 0) (k % 64)) refl (last_below_lem d k (omega arith))
  where
    go : (v : Bool) → bit_at (get_or d (k / 64) 0) (k % 64) ≡ v → (((j : ℕ) → k ≤ j → j < 256 → Pending d j → ⊥) → IsLast d (last_below d k))
        → IsLast d (cond v k (last_below d k))
    go true e rest = inl (l, sym e)
    go false e rest = rest (λ j a m p. elim (ℕ_discrete j k) [
      | yes z ↦ let q : true ≡ bit_at (get_or d (k / 64) 0) (k % 64) = subst (Pending d) z p in let y : ◌≡◌ {A = ℕ} 0 1 = cc in omega arith
      | no n ↦ h j (omega arith) m p
    ])

-- the last of all records
abbrev pub last_of : List ℕ → ℕ
last_of d = last_below d 256

last_is : (d : List ℕ) → IsLast d (last_of d)
last_is d = last_below_lem d 256 (le_refl 256) (λ j a m p. omega arith)

module _ (b links rows u : List ℕ) (k : ℕ) where
  -- record r is taken, its rules are applied, and so on; 256 is the end
  unfoldable pub turned : ℕ → (State → State) → State → State
  turned r on s = cond (ltb r 256) (on (run u k (without r s) (rules_of b links rows r))) s

  -- so many turns at most
  unfoldable pub turns : ℕ → State → State
  turns zero s = s
  turns (suc m) s = turned (last_of s.pending) (turns m) s

  -- until none is pending: there are no more turns than the measure
  unfoldable pub closed_up : State → State
  closed_up s = turns (suc (measure s.words s.pending)) s

  module _ (bytes : Bytes b) (s : State) where
    one_turn : (m : ℕ) (t : State) (r : ℕ) → Going b links rows u k s t r → measure t.words t.pending < suc m
        → ((t' : State) → Going b links rows u k s t' (last_of t'.pending) → measure t'.words t'.pending < m → Closes b links rows u k s (turns m t'))
        → Closes b links rows u k s (turned r (turns m) t)
    unfolding turned
    one_turn m t r g l rest = go (ltb r 256) refl
      where
        go : (v : Bool) → ltb r 256 ≡ v → Closes b links rows u k s (cond v (turns m (run u k (without r t) (rules_of b links rows r))) t)
        go true e =
            let lr = ltb-true r 256 e in
            let t' = run u k (without r t) (rules_of b links rows r) in
            let less = go_less b links rows u k s t.words t.pending t.log t.count r (taken t.pending r) t' bytes lr g refl refl in
            rest t'
            (go_on b links rows u k s t.words t.pending t.log t.count r (last_of t'.pending) (taken t.pending r) t' bytes lr g refl refl (last_is t'.pending))
            (omega (arith, less))
        go false e = go_end b links rows u k s t r (ltb-false r 256 e) g

    all_turns : (m : ℕ) (t : State) → Going b links rows u k s t (last_of t.pending) → measure t.words t.pending < m → Closes b links rows u k s (turns m t)
    unfolding turns
    all_turns zero t g l = absurd (omega arith)
    all_turns (suc m) t g l = one_turn m t (last_of t.pending) g l (all_turns m)

    -- IT CLOSES
    pub closed_up_lem : length s.words ≡ 1024 → length s.pending ≡ 4 → Closes b links rows u k s (closed_up s)
    unfolding closed_up
    closed_up_lem w d =
        all_turns (suc (measure s.words s.pending)) s (go_start b links rows u k s (last_of s.pending) w d (last_is s.pending)) (le_refl (suc (measure s.words s.pending)))
