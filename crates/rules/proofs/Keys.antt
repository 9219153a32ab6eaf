-- Tests that both hold, and the ends of a key. Assumes nothing.
use Prim.Native.Nat.{ℕ}
use native.Mathlib.Omega.{arith}
use mathlib.Core.Path.{◌≡◌, refl, sym, ◌∙◌}
use mathlib.Core.Logic.{inl, inr}
use mathlib.Core.Bool.{Bool, true, false, ◌&&◌}
use Rattle.logic.specs.Rule.{Ends}

pub apart : {A : Type 0} → true ≡ false → A
apart e = absurd (let z : ◌≡◌ {A = ℕ} 0 1 = cc in omega arith)

pub both_true : (u v : Bool) → (u && v) ≡ true → (u ≡ true) × (v ≡ true)
both_true true v e = (refl, e)
both_true false v e = apart (sym e)

-- the ends of a key
pub ends_eq : (p q : ℕ) {c d c' d' : ℕ} → c ≡ c' → d ≡ d' → Ends p q c d → Ends p q c' d'
ends_eq p q e f (inl h) = inl (h.0 ∙ e, h.1 ∙ f)
ends_eq p q e f (inr h) = inr (h.0 ∙ f, h.1 ∙ e)

pub ends_one : (P : ℕ → Type 0) (p q : ℕ) {c d : ℕ} → Ends p q c d → P c → P d → P q
ends_one P p q (inl h) u v = rw h.1 v
ends_one P p q (inr h) u v = rw h.1 u
