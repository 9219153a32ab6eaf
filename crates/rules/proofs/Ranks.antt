-- Sets of ranks: who is in the set of one rank, of all but one, of all, and in two sets taken together. Assumes nothing.
use Prim.Native.Nat.{ℕ, ◌-◌, ◌^◌, ◌<◌}
use mathlib.Core.Path.{◌≡◌, refl, sym, ◌∙◌}
use mathlib.Core.Logic.{◌⊎◌}
use mathlib.Core.Bool.{Bool, true, false, not, ◌||◌}
use lib.Bits.{bit_and, bit_or}
use lib.Dec.{T, eqb, eqb→eq}
use Rattle.logic.proofs.Tests.{T_if, T_true, true_T}
use Rattle.logic.proofs.Table.{each, each_T}
use Rattle.facts.specs.Facts.{bit_at}
use Rattle.lanes.proofs.Sets.{or_in, and_in, or_left, or_right, or_either, and_both, both_and}

unless : (u v : Bool) → (T v → ⊥) → T (u || v) → true ≡ u
unless true v n t = refl
unless false v n t = absurd (n t)

-- a test of two ranks, computed at each
at_ranks : (p : ℕ → ℕ → Bool) → T (each (λ j. each (p j) 8) 8) → (j k : ℕ) → j < 8 → k < 8 → T (p j k)
at_ranks p t j k l m = each_T (p j) 8 (each_T (λ j. each (p j) 8) 8 t j l) k m

module _ (j k : ℕ) (l : j < 8) (m : k < 8) where
  pub one_in : true ≡ bit_at (2 ^ j) k → j ≡ k
  unfolding bit_at
  one_in e = eqb→eq j k (T_if (bit_at (2 ^ j) k) (eqb j k) (at_ranks (λ j k. not (bit_at (2 ^ j) k) || eqb j k) tt j k l m) (true_T (bit_at (2 ^ j) k) (sym e)))

  pub in_but : (j ≡ k → ⊥) → true ≡ bit_at (255 - 2 ^ j) k
  unfolding bit_at
  in_but n = unless (bit_at (255 - 2 ^ j) k) (eqb j k) (λ t. n (eqb→eq j k t)) (at_ranks (λ j k. bit_at (255 - 2 ^ j) k || eqb j k) tt j k l m)

module _ (j : ℕ) (l : j < 8) where
  pub in_one : true ≡ bit_at (2 ^ j) j
  unfolding bit_at
  in_one = sym (T_true (bit_at (2 ^ j) j) (each_T (λ j. bit_at (2 ^ j) j) 8 tt j l))

  pub in_all : true ≡ bit_at 255 j
  unfolding bit_at
  in_all = sym (T_true (bit_at 255 j) (each_T (bit_at 255) 8 tt j l))

  pub but_out : true ≡ bit_at (255 - 2 ^ j) j → ⊥
  unfolding bit_at
  but_out e = T_if (bit_at (255 - 2 ^ j) j) false (each_T (λ j. not (bit_at (255 - 2 ^ j) j) || false) 8 tt j l) (true_T (bit_at (255 - 2 ^ j) j) (sym e))

-- who is in both of two sets, or in one of them
module _ (m n k : ℕ) where
  pub both_in : true ≡ bit_at (bit_and m n) k → (true ≡ bit_at m k) × (true ≡ bit_at n k)
  both_in e = and_both (bit_at m k) (bit_at n k) (e ∙ and_in m n k)

  pub in_both : true ≡ bit_at m k → true ≡ bit_at n k → true ≡ bit_at (bit_and m n) k
  in_both e f = both_and (bit_at m k) (bit_at n k) e f ∙ sym (and_in m n k)

  pub either_in : true ≡ bit_at (bit_or m n) k → (true ≡ bit_at m k) ⊎ (true ≡ bit_at n k)
  either_in e = or_either (bit_at m k) (bit_at n k) (e ∙ or_in m n k)

  pub in_left : true ≡ bit_at m k → true ≡ bit_at (bit_or m n) k
  in_left e = or_left (bit_at m k) (bit_at n k) e ∙ sym (or_in m n k)

  pub in_right : true ≡ bit_at n k → true ≡ bit_at (bit_or m n) k
  in_right e = or_right (bit_at m k) (bit_at n k) e ∙ sym (or_in m n k)
