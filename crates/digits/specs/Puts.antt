-- For our own functions: a text put into a list.
use Rattle.std.specs.Prelude.{ℕ, ◌+◌, ◌-◌, ◌≡◌, min, List, length}
use Rattle.std.proofs.lemmas.List.Edits.{sets}

-- the list o with the text t put from place `at` on is p, and `end` is the place behind it
pub record Puts (o : List ℕ) (at : ℕ) (t : List ℕ) (p : List ℕ) (end : ℕ) : Type 0 where
  pub place : end ≡ at + length t
  pub list : p ≡ sets o at t

-- the greatest place, at which counting stops
abbrev pub last_place : ℕ
last_place = 18446744073709551615

-- the list o with the text t put from place `at` on is p, and `end` is the place behind it, as far as places are counted
pub record Appends (o : List ℕ) (at : ℕ) (t : List ℕ) (p : List ℕ) (end : ℕ) : Type 0 where
  pub place : end ≡ at + min (length t) (last_place - at)
  pub list : p ≡ sets o at t
