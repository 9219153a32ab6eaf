-- Every rule keeps its P: premises and conclusion speak of one who sees and believes. So what a principal sees and believes
-- follows from what that principal was given, and the closure falls into one closure for each principal.
use Prim.Native.Nat.{ℕ}
use mathlib.Core.Path.{◌≡◌, refl, sym}
use mathlib.Core.List.{List}
use mathlib.Core.Bool.{Bool, true, false, cond}
use lib.Dec.{eqb}
use Rattle.logic.specs.declared.Record.{Record}
use Rattle.logic.specs.Book.{All}
use Rattle.logic.specs.Formula.{record_of}
use Rattle.logic.specs.Fact.{Fact}
use Rattle.logic.specs.Fact.Fact.{Sees, Believes, BelievesFresh, BelievesSaid, BelievesBelieves}
use Rattle.logic.specs.Written.{opened}
use Rattle.logic.proofs.RuleOn.{RuleOn}
use Rattle.logic.proofs.RuleOn.RuleOn.{record1, record2, record3, record4, record5, record6, record7, record8, record9, record10, record11, record12, record13, record14, record15, record16, record17, record18, record19, record20, record21, record22}

-- P, who sees or believes
abbrev pub holder : {Formula : Type 0} → Fact Formula → ℕ
holder (Sees P X) = P
holder (Believes P X) = P
holder (BelievesFresh P X) = P
holder (BelievesSaid P Q X) = P
holder (BelievesBelieves P Q X) = P

module _ (fs : List Record) where
  pub holder_opened : (p x : ℕ) → holder (opened fs p x) ≡ p
  unfolding opened
  holder_opened p x = go (eqb (record_of fs x).kind 11) (eqb (record_of fs x).kind 14) (eqb (record_of fs x).kind 12)
    where
      go : (a b c : Bool)
          → holder (cond a (BelievesFresh p (record_of fs x).first)
          (cond b (BelievesSaid p (record_of fs x).first (record_of fs x).second)
          (cond c (BelievesBelieves p (record_of fs x).first (record_of fs x).second) (Believes p x))))
          ≡ p
      go true b c = refl
      go false true c = refl
      go false false true = refl
      go false false false = refl

  -- EVERY RULE KEEPS ITS P
  pub keeps_on : {n : ℕ} {gs : List (Fact ℕ)} {g : Fact ℕ} → RuleOn fs n gs g → All (λ h. holder h ≡ holder g) gs
  keeps_on (record1 p q y e ky ke k ends other) = (refl, (refl, tt))
  keeps_on (record2 p y e ky ke k other) = (refl, (refl, tt))
  keeps_on (record3 p q y e ky ke k ends) = (refl, (refl, tt))
  keeps_on (record4 p q x is_clear) = (refl, (refl, tt))
  keeps_on (record5 p e k) = (sym (holder_opened p (record_of fs e).second), (sym (holder_opened p (record_of fs e).second), tt))
  keeps_on (record6 p e k) = (refl, tt)
  keeps_on (record7 p e k) = (refl, tt)
  keeps_on (record8 p e k) = (refl, tt)
  keeps_on (record9 p q y e ky ke k ends other) = (refl, (refl, tt))
  keeps_on (record10 p y e ky ke k own other) = (refl, (refl, tt))
  keeps_on (record11 p y e ky ke k other) = (refl, (refl, tt))
  keeps_on (record12 p e k c) = (refl, tt)
  keeps_on (record13 p e k c) = (refl, tt)
  keeps_on (record14 p q e k) = (refl, tt)
  keeps_on (record15 p q e k) = (refl, tt)
  keeps_on (record16 p q e k) = (refl, tt)
  keeps_on (record17 p q e k) = (refl, tt)
  keeps_on (record18 p e k) = (sym (holder_opened p (record_of fs e).first), tt)
  keeps_on (record19 p e k) = (sym (holder_opened p (record_of fs e).second), tt)
  keeps_on (record20 p e k c) = (holder_opened p (record_of fs e).first, (holder_opened p (record_of fs e).second, tt))
  keeps_on (record21 p d x k i) = (sym (holder_opened p x), (sym (holder_opened p x), tt))
  keeps_on (record22 p d c k kc i) = (refl, tt)
