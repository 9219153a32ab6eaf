-- The rules: the twenty of document 01, "The rules", and the two of document 02, wish 4, as 21 and 22. Each line is a rule: what its letters
-- stand for, its conditions, then its number, its premises in the order printed, and its conclusion. "P believes X" is the opened fact
-- wherever X may be of a kind that is opened (rules 5, 18, 19, 20, 21).
use Rattle.std.specs.Prelude.{ℕ, ◌≡◌, ◌⊎◌, ◌≢◌, List, [], ◌∷◌, T}
use Rattle.logic.specs.Formula.{KeyField, Tree, clear}
use Rattle.logic.specs.Formula.Tree.{conjunction, encrypted, signed, combined, shared_key, public_key, shared_secret, controls, for_every}
use Rattle.logic.specs.Instance.{IsInstance}
use Rattle.logic.specs.Fact.{Fact, belief}
use Rattle.logic.specs.Fact.Fact.{Sees, Believes, BelievesFresh, BelievesSaid, BelievesBelieves}

-- P and Q are the two ends A and B of a shared key or secret, in one order or the other: it has no direction
abbrev pub Ends : (P Q A B : ℕ) → Type 0
Ends P Q A B = ((P ≡ A) × (Q ≡ B)) ⊎ ((P ≡ B) × (Q ≡ A))

-- these facts and this fact are premises and conclusion of an instance of the rule with this number; R is the principal a formula is from
pub data Rule : ℕ → List (Fact Tree) → Fact Tree → Type 0 where
  rule1 : (P Q A B : ℕ) (K : KeyField) (R : ℕ) (X : Tree) → Ends P Q A B → R ≢ P → Rule 1 (Believes P (shared_key A K B) ∷ Sees P (encrypted X K R) ∷ []) (BelievesSaid P Q X)
  rule2 : (P Q : ℕ) (K : KeyField) (R : ℕ) (X : Tree) → R ≢ P → Rule 2 (Believes P (public_key K Q) ∷ Sees P (signed X K R) ∷ []) (BelievesSaid P Q X)
  rule3 : (P Q A B : ℕ) (X Y : Tree) → Ends P Q A B → Rule 3 (Believes P (shared_secret A Y B) ∷ Sees P (combined X Y) ∷ []) (BelievesSaid P Q X)
  rule4 : (P Q : ℕ) (X : Tree) → T (clear X) → Rule 4 (BelievesFresh P X ∷ BelievesSaid P Q X ∷ []) (BelievesBelieves P Q X)
  rule5 : (P Q : ℕ) (X : Tree) → Rule 5 (Believes P (controls Q X) ∷ BelievesBelieves P Q X ∷ []) (belief P X)
  rule6 : (P : ℕ) (X Y : Tree) → Rule 6 (Sees P (conjunction X Y) ∷ []) (Sees P X)
  rule7 : (P : ℕ) (X Y : Tree) → Rule 7 (Sees P (conjunction X Y) ∷ []) (Sees P Y)
  rule8 : (P : ℕ) (X Y : Tree) → Rule 8 (Sees P (combined X Y) ∷ []) (Sees P X)
  rule9 : (P Q A B : ℕ) (K : KeyField) (R : ℕ) (X : Tree) → Ends P Q A B → R ≢ P → Rule 9 (Believes P (shared_key A K B) ∷ Sees P (encrypted X K R) ∷ []) (Sees P X)
  rule10 : (P : ℕ) (K : KeyField) (R : ℕ) (X : Tree) → R ≢ P → Rule 10 (Believes P (public_key K P) ∷ Sees P (encrypted X K R) ∷ []) (Sees P X)
  rule11 : (P Q : ℕ) (K : KeyField) (R : ℕ) (X : Tree) → R ≢ P → Rule 11 (Believes P (public_key K Q) ∷ Sees P (signed X K R) ∷ []) (Sees P X)
  rule12 : (P : ℕ) (X Y : Tree) → Rule 12 (BelievesFresh P X ∷ []) (BelievesFresh P (conjunction X Y))
  rule13 : (P : ℕ) (X Y : Tree) → Rule 13 (BelievesFresh P Y ∷ []) (BelievesFresh P (conjunction X Y))
  rule14 : (P Q : ℕ) (X Y : Tree) → Rule 14 (BelievesSaid P Q (conjunction X Y) ∷ []) (BelievesSaid P Q X)
  rule15 : (P Q : ℕ) (X Y : Tree) → Rule 15 (BelievesSaid P Q (conjunction X Y) ∷ []) (BelievesSaid P Q Y)
  rule16 : (P Q : ℕ) (X Y : Tree) → Rule 16 (BelievesBelieves P Q (conjunction X Y) ∷ []) (BelievesBelieves P Q X)
  rule17 : (P Q : ℕ) (X Y : Tree) → Rule 17 (BelievesBelieves P Q (conjunction X Y) ∷ []) (BelievesBelieves P Q Y)
  rule18 : (P : ℕ) (X Y : Tree) → Rule 18 (Believes P (conjunction X Y) ∷ []) (belief P X)
  rule19 : (P : ℕ) (X Y : Tree) → Rule 19 (Believes P (conjunction X Y) ∷ []) (belief P Y)
  rule20 : (P : ℕ) (X Y : Tree) → Rule 20 (belief P X ∷ belief P Y ∷ []) (Believes P (conjunction X Y))
  -- for every v, Q controls X; X' is an instance of X
  rule21 : (P Q v : ℕ) (X X' : Tree) → IsInstance v X X' → Rule 21 (Believes P (for_every v (controls Q X)) ∷ BelievesBelieves P Q X' ∷ []) (belief P X')
  rule22 : (P Q v : ℕ) (X X' : Tree) → IsInstance v X X' → Rule 22 (Believes P (for_every v (controls Q X)) ∷ []) (Believes P (controls Q X'))
