-- Where the instances of a conjunction stand in its list. Assumes nothing.
use Prim.Native.Nat.{ℕ, ◌<◌}
use mathlib.Core.Logic.{inr}
use mathlib.Core.List.{List, ◌++◌}
use Rattle.logic.specs.Derivation.{Among}
use Rattle.logic.proofs.Member.{among_left, among_right}
use Rattle.facts.specs.declared.Instance.{Instance}
use Rattle.facts.proofs.Upto.{among_upto}
use Rattle.rules.specs.Rules.{spreads, parted, joined, conjoined}

-- the parts of a conjunction
module _ (b : List ℕ) (i : Instance) (r x y : ℕ) where
  pub in_first : Among i (parted 0 r x) → Among i (conjoined b r x y)
  unfolding conjoined
  in_first m = among_left i (parted 0 r x) (parted 1 r y ++ joined b r x y) m

  pub in_second : Among i (parted 1 r y) → Among i (conjoined b r x y)
  unfolding conjoined
  in_second m = among_right i (parted 0 r x) (parted 1 r y ++ joined b r x y) (among_left i (parted 1 r y) (joined b r x y) m)

  pub in_joined : Among i (joined b r x y) → Among i (conjoined b r x y)
  unfolding conjoined
  in_joined m = among_right i (parted 0 r x) (parted 1 r y ++ joined b r x y) (among_right i (parted 1 r y) (joined b r x y) m)

pub in_spread : (i : Instance) (second r x j : ℕ) → j < 8 → Among i (spreads second r x j) → Among i (parted second r x)
unfolding parted
in_spread i second r x j l m = inr (among_upto i (spreads second r x) 8 j l m)
