-- Laws of the walk for the functions that walk.
use Prim.Native.Nat.{ℕ, zero, suc, ◌-◌, ◌≤◌, ◌<◌}
use mathlib.Core.Path.{◌≡◌}
use mathlib.Core.List.{List}
use native.Mathlib.Omega.{arith}
use Rattle.logic.specs.declared.Record.{Record}
use Rattle.walks.specs.Walk.{spread, walk_down}

-- one mark more, downwards
module _ (look : ℕ → Record) (a : ℕ) (t : List ℕ) where
  pub down_more : {u z : List ℕ} (i : ℕ) → 0 < i → u ≡ spread look a t (i - 1) → walk_down look a t i ≡ z → walk_down look a u (i - 1) ≡ z
  unfolding walk_down
  down_more zero l e h = absurd (omega arith)
  down_more (suc i) l e h = let k : suc i - 1 ≡ i = omega arith in rw (e, k) h

  pub down_end : {z : List ℕ} (i : ℕ) → i ≤ 0 → walk_down look a t i ≡ z → t ≡ z
  unfolding walk_down
  down_end zero l h = h
  down_end (suc i) l h = absurd (omega arith)
