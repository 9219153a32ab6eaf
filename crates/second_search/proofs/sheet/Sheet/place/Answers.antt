use Prim.Native.Nat.{ℕ, ◌+◌, ◌*◌, ◌≤◌}
use native.Mathlib.Nat.{mul-le-mul}
use native.Mathlib.Omega.{arith}
use Rattle.second_search.proofs.sheet.Sheet.place.Goals as goal

-- a place is far below 2^64
wide : (a n x m : ℕ) → a ≤ 255 → n ≤ 65535 → x ≤ 65535 → m ≤ 513 → (a * n + x) * m ≤ 8606580480
wide a n x m ha hn hx hm =
    omega (
      arith,
      mul-le-mul {n₁ = a * n + x} {m₁ = m} {n₂ = 16776960} {m₂ = 513}
          (omega (arith, mul-le-mul {n₁ = a} {m₁ = n} {n₂ = 255} {m₂ = 65535} ha hn)) hm,
    )

pub overflow_mul-result : goal.overflow_mul-result
overflow_mul-result c =
    omega (arith, wide c.from.result c.from-2.result c.from-3.result c.modes.result (omega arith) (omega arith) (omega arith) (omega arith))

pub overflow_add-result : goal.overflow_add-result
overflow_add-result c =
    omega (arith, wide c.from.result c.from-2.result c.from-3.result c.modes.result (omega arith) (omega arith) (omega arith) (omega arith))
