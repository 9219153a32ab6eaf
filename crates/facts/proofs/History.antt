-- The log as a history: its entries in the order in which they were found; what an entry asks for stands in entries before it, and no fact
-- is entered twice. Assumes nothing.
use Prim.Native.Nat.{ℕ, ◌*◌}
use native.Mathlib.Nat.{suc-mul}
use native.Mathlib.Omega.{arith}
use mathlib.Core.Path.{◌≡◌, refl, ◌∙◌}
use mathlib.Core.List.{List, [], ◌∷◌, ◌++◌, map}
use lib.ListN.{length, length-append}
use Rattle.logic.specs.Derivation.{Among}
use Rattle.facts.specs.declared.Cell.{Cell}
use Rattle.facts.specs.declared.Instance.{Instance}
use Rattle.facts.specs.Facts.{entry_of}
use Rattle.facts.proofs.Premises.{Asked}

-- an entry: the instance that found its fact, and the stamp of the stage
pub record Entry : Type 0 where
  pub stamp : ℕ
  pub by : Instance

abbrev pub entry : ℕ → Instance → Entry
entry t i = record { stamp = t; by = i }

-- Histories have the newest entry first. The facts of a history:
abbrev pub found : List Entry → List Cell
found h = map (λ e. e.by.gives) h

-- what each entry asks for was found before, and its fact was not
abbrev pub Proper : List Entry → Type 0
Proper [] = Unit
Proper (e ∷ h) = Asked (λ q. Among q (found h)) e.by × (Among e.by.gives (found h) → ⊥) × Proper h

-- the bytes of the log
abbrev pub log_bytes : List Entry → List ℕ
log_bytes [] = []
log_bytes (e ∷ h) = log_bytes h ++ entry_of e.stamp e.by

pub length_bytes : (h : List Entry) → length (log_bytes h) ≡ length h * 8
length_bytes [] = refl
length_bytes (e ∷ h) = length-append (log_bytes h) (entry_of e.stamp e.by) ∙ rw (length_bytes h) (omega (arith, suc-mul (length h) 8))
