-- What the prover finds, and how many facts are held. Assumes nothing.
use Prim.Native.Nat.{ℕ, ◌+◌, ◌≤◌}
use native.Mathlib.Omega.{arith}
use native.Mathlib.Numerals.{add-one}
use mathlib.Core.Path.{◌≡◌, refl, ap, ◌∙◌, subst}
use mathlib.Core.List.{List}
use lib.ListN.{length, get_or, length-replicate}
use lib.Count.{ones}
use Rattle.lanes.specs.Lanes.{State, state}
use Rattle.rules.specs.Close.{Closes}
use Rattle.stages.specs.Stages.{nothing, assumed_in, delivered_from, held_in, given_all, FindsAll}
use Rattle.stages.proofs.Lengths.{Whole, after_assumed, after_delivered}

module _ (ws : List ℕ) where
  pub held_none : 0 ≡ held_in ws 0
  unfolding held_in
  held_none = refl

  pub held_more : (x : ℕ) {h a b c : ℕ} → h ≡ held_in ws x → a ≡ ones (get_or ws x 0) → b ≡ ones (get_or ws (256 + x) 0) → c ≡ ones (get_or ws (512 + x) 0)
      → h + (a + (b + c)) ≡ held_in ws (x + 1)
  unfolding held_in
  held_more x e f g i = rw (add-one x, ← e, ← f, ← g, ← i)

  pub held_end : (x n : ℕ) {h : ℕ} → x ≤ n → n ≤ x → h ≡ held_in ws x → h ≡ held_in ws n
  held_end x n l m e = let z : x ≡ n = omega arith in rw z at e

module _ (b links rows u ds : List ℕ) (k n f a : ℕ) (l : List ℕ) where
  pub whole_given : (s₀ g t : State) → s₀ ≡ nothing l → g ≡ assumed_in b u k f a s₀ → t ≡ delivered_from ds u k 0 (length ds) g → Whole t
  whole_given s₀ g t e i h =
      let w : Whole s₀ = rw e (length-replicate {A = ℕ} 1024 0, refl) in
      after_delivered b links rows u k ds 0 (length ds) g t h (after_assumed b links rows u k f a s₀ g i w.0 w.1)

  pub found_all : (s₀ g t : State) (ws d l' : List ℕ) (count : ℕ) {held : ℕ} → s₀ ≡ nothing l → g ≡ assumed_in b u k f a s₀ → t ≡ delivered_from ds u k 0 (length ds) g
      → Closes b links rows u k t (state ws d l' count) → held ≡ held_in ws n → FindsAll b links rows u ds k n f a l l' count held
  found_all s₀ g t ws d l' count e i h c j =
      let z : t ≡ given_all b u ds k f a l = h ∙ ap (delivered_from ds u k 0 (length ds)) (i ∙ ap (assumed_in b u k f a) e) in
      (state ws d l' count, (subst (λ x. Closes b links rows u k x (state ws d l' count)) z c, (refl, (refl, j))))
