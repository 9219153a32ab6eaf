-- The zeros below the lowest bit of a number. Assumes nothing.
use Prim.Native.Nat.{ℕ, zero, suc, ◌+◌, ◌*◌, ◌/◌, ◌%◌, ◌^◌, ◌<◌}
use native.Mathlib.Nat.{pow-suc}
use native.Mathlib.Omega.{arith}
use mathlib.Core.Path.{◌≡◌, refl, subst}
use lib.Pow.{shr-shr}
use lib.Count.{count_trailing_zeros, under}

-- below the lowest bit of a number there is none
pub zeros_below : (k n j : ℕ) → j < count_trailing_zeros k n → n / 2 ^ j % 2 ≡ 0
unfolding count_trailing_zeros
zeros_below zero n j l = absurd (omega arith)
zeros_below (suc k) n j l = go (n % 2) refl j l (zeros_below k (n / 2))
  where
    go : (d : ℕ) → n % 2 ≡ d → (j : ℕ) → j < under d (count_trailing_zeros k (n / 2)) → ((i : ℕ) → i < count_trailing_zeros k (n / 2) → n / 2 / 2 ^ i % 2 ≡ 0) → n / 2 ^ j % 2 ≡ 0
    go zero e zero l f = let h : n / 1 % 2 ≡ 0 = omega arith in h
    go zero e (suc i) l f =
        let d : 1 + i ≡ suc i = omega arith in
        let h = f i (omega arith) in
        rw (← d, ← (shr-shr n 1 i)) h
    go (suc d) e j l f = absurd (omega arith)

-- and that bit is not above its highest
pub zeros_fit : (k m n : ℕ) → 0 < n → n < 2 ^ m → count_trailing_zeros k n < m
unfolding count_trailing_zeros
zeros_fit k zero n p l = absurd (let h : n < 1 = l in omega arith)
zeros_fit zero (suc m) n p l = omega arith
zeros_fit (suc k) (suc m) n p l = go (n % 2) refl (zeros_fit k m (n / 2))
  where
    go : (d : ℕ) → n % 2 ≡ d → (0 < n / 2 → n / 2 < 2 ^ m → count_trailing_zeros k (n / 2) < m) → under d (count_trailing_zeros k (n / 2)) < suc m
    go zero e f =
        let h : n < 2 ^ m * 2 = subst (λ z. n < z) (pow-suc 2 m) l in
        let i = f (omega arith) (omega arith) in
        omega arith
    go (suc d) e f = omega arith

-- it is set
pub zeros_set : (k n : ℕ) → 0 < n → n < 2 ^ k → n / 2 ^ count_trailing_zeros k n % 2 ≡ 1
unfolding count_trailing_zeros
zeros_set zero n p l = absurd (let h : n < 1 = l in omega arith)
zeros_set (suc k) n p l = go (n % 2) refl (zeros_set k (n / 2))
  where
    go : (d : ℕ) → n % 2 ≡ d → (0 < n / 2 → n / 2 < 2 ^ k → n / 2 / 2 ^ count_trailing_zeros k (n / 2) % 2 ≡ 1) → n / 2 ^ under d (count_trailing_zeros k (n / 2)) % 2 ≡ 1
    go zero e f =
        let h : n < 2 ^ k * 2 = subst (λ z. n < z) (pow-suc 2 k) l in
        let t = count_trailing_zeros k (n / 2) in
        let d : 1 + t ≡ suc t = omega arith in
        rw (← d, ← (shr-shr n 1 t)) (f (omega arith) (omega arith))
    go (suc d) e f = let h : n / 1 % 2 ≡ 1 = omega arith in h
