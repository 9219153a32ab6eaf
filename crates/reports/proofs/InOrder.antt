-- The pairs of the report by messages and formulas: which they are, and that they stand in order.
use Prim.Native.Nat.{ℕ, zero, suc, ◌≤◌, ◌<◌}
use native.Mathlib.Decide.{ℕ_discrete}
use native.Mathlib.Omega.{arith}
use mathlib.Core.Path.{◌≡◌, refl, sym, ap, subst}
use mathlib.Core.Logic.{inl, inr, ⊎_elim}
use mathlib.Core.List.{List, [], ◌∷◌, ◌++◌}
use mathlib.Core.Bool.{Bool, true, false, cond}
use lib.Dec.{T}
use Rattle.logic.specs.declared.Record.{Record}
use Rattle.logic.specs.Derivation.{Among}
use Rattle.logic.specs.Honesty.{Pair, pair, Before, Rising}
use Rattle.logic.proofs.Member.{among_left, among_right, among_append}
use Rattle.reports.specs.Pairs.{named_below, of_message, pairs_upto}

-- two lists in order, one behind the other
rising_append : (k l : List Pair) → Rising k → Rising l → ((a b : Pair) → Among a k → Among b l → Before a b) → Rising (k ++ l)
rising_append [] l r q h = q
rising_append (a ∷ []) [] r q h = tt
rising_append (a ∷ []) (b ∷ l) r q h = (h a b (inl refl) (inl refl), q)
rising_append (a ∷ b ∷ k) l r q h = (r.0, rising_append (b ∷ k) l r.1 q (λ c d i j. h c d (inr i) j))

module _ (named : ℕ → Bool) (m : ℕ) where
  -- what is named, and nothing else
  pub named_among : (n : ℕ) (a : Pair) → Among a (named_below named m n) → (a.message ≡ m) × (a.formula < n) × T (named a.formula)
  unfolding named_below
  named_among zero a i = absurd i
  named_among (suc n) a i =
      ⊎_elim (λ j. let h = named_among n a j in (h.0, omega (arith, h.1), h.2)) (go (named n) refl)
      (among_append a (named_below named m n) (cond (named n) (pair m n ∷ []) []) i)
    where
      go : (b : Bool) → named n ≡ b → Among a (cond b (pair m n ∷ []) []) → (a.message ≡ m) × (a.formula < suc n) × T (named a.formula)
      go false e x3 = elim x3 [ ]
      go true e (inr x5) = elim x5 [ ]
      go true e (inl d) = (ap (λ (c : Pair). c.message) d, rw d (omega arith), rw (d, e) tt)

  pub among_named : (n x : ℕ) → x < n → T (named x) → Among (pair m x) (named_below named m n)
  unfolding named_below
  among_named zero x l t = absurd (omega arith)
  among_named (suc n) x l t =
      elim (ℕ_discrete x n) [
        | yes e ↦ among_right (pair m x) (named_below named m n) (cond (named n) (pair m n ∷ []) []) (here (named n) e (rw (← e) t))
        | no d ↦ among_left (pair m x) (named_below named m n) (cond (named n) (pair m n ∷ []) []) (among_named n x (omega arith) t)
      ]
    where
      here : (b : Bool) → x ≡ n → T b → Among (pair m x) (cond b (pair m n ∷ []) [])
      here false e u = elim u [ ]
      here true e u = inl (ap (pair m) e)

  pub named_rising : (n : ℕ) → Rising (named_below named m n)
  unfolding named_below
  named_rising zero = tt
  named_rising (suc n) = rising_append (named_below named m n) (cond (named n) (pair m n ∷ []) []) (named_rising n) (one (named n)) (last (named n))
    where
      one : (b : Bool) → Rising (cond b (pair m n ∷ []) [])
      one true = tt
      one false = tt

      last : (d : Bool) (a b : Pair) → Among a (named_below named m n) → Among b (cond d (pair m n ∷ []) []) → Before a b
      last false a b i x'' = elim x'' [ ]
      last true a b i (inr x4) = elim x4 [ ]
      last true a b i (inl e) = let h = named_among n a i in rw e (inr (h.0, h.1))

module _ (look : ℕ → Record) (fs : List Record) (t : List ℕ) (n : ℕ) (message : ℕ → Record) where
  -- the pairs of the messages 1 to k
  pub pairs_among : (k : ℕ) (a : Pair) → Among a (pairs_upto look fs t n message k)
      → (1 ≤ a.message) × (a.message ≤ k) × Among a (of_message look fs t n a.message (message a.message))
  unfolding pairs_upto of_message
  pairs_among zero a i = absurd i
  pairs_among (suc k) a i =
      elim (among_append a (pairs_upto look fs t n message k) (of_message look fs t n (suc k) (message (suc k))) i) [
        | inl j ↦ (let h = pairs_among k a j in (h.0, omega (arith, h.1), h.2))
        | inr j ↦ (let e = (named_among _ (suc k) n a j).0 in (omega arith, omega arith, subst (λ (m : ℕ). Among a (of_message look fs t n m (message m))) (sym e) j))
      ]

  pub among_pairs : (k m : ℕ) (a : Pair) → 1 ≤ m → m ≤ k → Among a (of_message look fs t n m (message m)) → Among a (pairs_upto look fs t n message k)
  unfolding pairs_upto
  among_pairs zero m a l h i = absurd (omega arith)
  among_pairs (suc k) m a l h i =
      elim (ℕ_discrete m (suc k)) [
        | yes e ↦ among_right a (pairs_upto look fs t n message k) (of_message look fs t n (suc k) (message (suc k))) (rw (← e) i)
        | no d ↦ among_left a (pairs_upto look fs t n message k) (of_message look fs t n (suc k) (message (suc k))) (among_pairs k m a l (omega arith) i)
      ]

  pub pairs_rising : (k : ℕ) → Rising (pairs_upto look fs t n message k)
  unfolding pairs_upto of_message
  pairs_rising zero = tt
  pairs_rising (suc k) =
      rising_append (pairs_upto look fs t n message k) (of_message look fs t n (suc k) (message (suc k))) (pairs_rising k) (named_rising _ (suc k) n)
      (λ a b i j. let h = (pairs_among k a i).1 in let e = (named_among _ (suc k) n b j).0 in inl (omega arith))
