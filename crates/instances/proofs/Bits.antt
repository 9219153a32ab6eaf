-- A formula more in a row: it is there, the others stay, and no other comes. Assumes nothing.
use Prim.Native.Nat.{ℕ, ◌+◌, ◌*◌, ◌/◌, ◌%◌, ◌^◌, ◌<◌}
use native.Mathlib.Omega.{arith}
use native.Mathlib.Decide.{dec_lt}
use mathlib.Core.Path.{◌≡◌}
use mathlib.Core.Logic.{◌⊎◌, inl, inr, ⊎_elim}
use mathlib.Core.List.{List}
use lib.ListN.{length}
use borrow.Author.Tests.{lt-ltb, le-ltb}
use Rattle.lanes.specs.Lanes.{or_at}
use Rattle.lanes.proofs.Sets.{Uses}
use Rattle.lanes.proofs.Bits.{Grows, grows_same, or_grows, bit_in_lem, bit_alone}
use Rattle.instances.specs.Rows.{with_bit}

module _ (u : List ℕ) (y x : ℕ) where
  pub bit_grows : Grows u (with_bit u y x)
  unfolding with_bit
  bit_grows = elim (dec_lt x 256) [
    | yes l ↦ rw (lt-ltb x 256 l) (or_grows u (y * 4 + x / 64) (2 ^ (x % 64)))
    | no l ↦ rw (le-ltb x 256 (omega arith)) (grows_same u)
  ]

  module _ (wide : length u ≡ 2048) (ly : y < 256) where
    pub bit_here : x < 256 → Uses (with_bit u y x) y x
    unfolding with_bit
    bit_here lx = rw (lt-ltb x 256 lx) (bit_in_lem u y x (omega arith))

    pub bit_only : (a b : ℕ) → b < 256 → Uses (with_bit u y x) a b → Uses u a b ⊎ ((a ≡ y) × (b ≡ x) × (x < 256))
    unfolding with_bit
    bit_only a b lb h = elim (dec_lt x 256) [
      | yes l ↦
          let g : Uses (or_at u (y * 4 + x / 64) (2 ^ (x % 64))) a b = rw (lt-ltb x 256 l) at h in
          ⊎_elim inl (λ q. inr (q.0, q.1, l)) (bit_alone u y x (omega arith) l a b lb g)
      | no l ↦ inl (rw (le-ltb x 256 (omega arith)) at h)
    ]
