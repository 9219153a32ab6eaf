-- What an instance asks for, and what it leads to. Assumes nothing.
use mathlib.Core.Bool.{Bool, true, false}
use Rattle.facts.specs.declared.Cell.{Cell}
use Rattle.facts.specs.declared.Instance.{Instance}
use Rattle.facts.specs.Facts.{is_given}

-- G holds of what the instance asks for; a given fact asks for nothing
abbrev pub Unless : Bool → Type 0 → Type 0
Unless true A = Unit
Unless false A = A

abbrev pub Asked : (Cell → Type 0) → Instance → Type 0
Asked G i = Unless (is_given i.kind) (G i.first × G i.second)

-- the instance leads from places where G holds to such a place
abbrev pub Keeps : (Cell → Type 0) → Instance → Type 0
Keeps G i = Asked G i → G i.gives

pub asked_imp : (G H : Cell → Type 0) → ((q : Cell) → G q → H q) → (i : Instance) → Asked G i → Asked H i
asked_imp G H f i a = go (is_given i.kind) a
  where
    go : (b : Bool) → Unless b (G i.first × G i.second) → Unless b (H i.first × H i.second)
    go true a = tt
    go false a = (f i.first a.0, f i.second a.1)
