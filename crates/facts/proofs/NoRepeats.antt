-- Lists without repetition. One of numbers below N has at most N members. Assumes nothing.
use Prim.Native.Nat.{ℕ, zero, suc, ◌+◌, ◌<◌, ◌≤◌}
use native.Mathlib.Omega.{arith}
use mathlib.Core.Path.{◌≡◌, refl, sym}
use mathlib.Core.Logic.{◌⊎◌, inl, inr, ⊎_elim}
use mathlib.Core.List.{List, [], ◌∷◌, ◌++◌, map}
use mathlib.Core.Bool.{Bool, true, false, cond}
use lib.ListN.{length}
use lib.Dec.{eqb}
use borrow.Author.Tests.{eqb-true, eqb-false}
use Rattle.logic.specs.Book.{All}
use Rattle.logic.specs.Derivation.{Among}
use Rattle.logic.specs.Proof.{Distinct}
use Rattle.logic.proofs.Member.{all_at, all_of, among_append, among_image}

-- the list without the first v
without : ℕ → List ℕ → List ℕ
without v [] = []
without v (a ∷ l) = cond (eqb a v) l (a ∷ without v l)

among_without : (v b : ℕ) (l : List ℕ) → Among b (without v l) → Among b l
unfolding without
among_without v b [] m = elim m [ ]
among_without v b (a ∷ l) m = go (eqb a v) (among_without v b l) m
  where
    go : (t : Bool) → (Among b (without v l) → Among b l) → Among b (cond t l (a ∷ without v l)) → (b ≡ a) ⊎ Among b l
    go true f m = inr m
    go false f m = ⊎_elim inl (λ h. inr (f h)) m

distinct_without : (v : ℕ) (l : List ℕ) → Distinct l → Distinct (without v l)
unfolding without
distinct_without v [] d = tt
distinct_without v (a ∷ l) d = go (eqb a v) (distinct_without v l d.1)
  where
    go : (t : Bool) → Distinct (without v l) → Distinct (cond t l (a ∷ without v l))
    go true e = d.1
    go false e = ((λ m. d.0 (among_without v a l m)), e)

length_without : (v : ℕ) (l : List ℕ) → length l ≤ length (without v l) + 1
unfolding without
length_without v [] = omega arith
length_without v (a ∷ l) = go (eqb a v) (length_without v l)
  where
    go : (t : Bool) → length l ≤ length (without v l) + 1 → suc (length l) ≤ length (cond t l (a ∷ without v l)) + 1
    go true h = omega arith
    go false h = omega arith

-- the largest is gone
other_below : (a b v : ℕ) → a ≡ v → (b ≡ a → ⊥) → b < suc v → b < v
other_below a b v e n l = omega arith

below_without : (v : ℕ) (l : List ℕ) → Distinct l → All (λ a. a < suc v) l → All (λ a. a < v) (without v l)
unfolding without
below_without v [] d h = tt
below_without v (a ∷ l) d h = go (eqb a v) refl (below_without v l d.1 h.1)
  where
    go : (t : Bool) → eqb a v ≡ t → All (λ b. b < v) (without v l) → All (λ b. b < v) (cond t l (a ∷ without v l))
    go true e r = all_of (λ b. b < v) l (λ b m. other_below a b v (eqb-true a v e) (λ g. d.0 (rw (← g) m)) (all_at (λ c. c < suc v) b l h.1 m))
    go false e r = (let n = eqb-false a v e in let k = h.0 in omega arith, r)

-- AT MOST N
pub few_below : (N : ℕ) (l : List ℕ) → Distinct l → All (λ a. a < N) l → length l ≤ N
few_below zero [] d h = omega arith
few_below zero (a ∷ l) d h = absurd (let k = h.0 in omega arith)
few_below (suc N) l d h = omega (arith, length_without N l, few_below N (without N l) (distinct_without N l d) (below_without N l d h))

-- what tells the members apart leaves no repetition
pub distinct_map : {A B : Type 0} (f : A → B) (l : List A) → ((a b : A) → Among a l → Among b l → f a ≡ f b → a ≡ b) → Distinct l → Distinct (map f l)
distinct_map f [] i d = tt
distinct_map f (a ∷ l) i d = (
  (λ m. let z = among_image f (f a) l m in d.0 (rw (i a z.0 (inl refl) (inr z.1) z.2) z.1)),
  distinct_map f l (λ b c m k. i b c (inr m) (inr k)) d.1,
)

-- one more at the end
pub distinct_snoc : {A : Type 0} (l : List A) (a : A) → Distinct l → (Among a l → ⊥) → Distinct (l ++ (a ∷ []))
distinct_snoc [] a d n = ((λ m. m), tt)
distinct_snoc (b ∷ l) a d n = (
  (λ m. ⊎_elim (λ i. d.0 i) (λ i. ⊎_elim (λ e. n (inl (sym e))) (λ z. z) i) (among_append b l (a ∷ []) m)),
  distinct_snoc l a d.1 (λ m. n (inr m)),
)
