-- Facts in five modes. Document 01, "Facts", and "The rules": "A fact over trees has a mode, P, Q where the mode has one, and a
-- tree X of a kind that a written fact may have, beliefs opened".
use Rattle.std.specs.Prelude.{ℕ, ◌≡◌, List, ◌++◌, map, cond, take, eqb}
use Rattle.logic.specs.declared.Record.{Record}
use Rattle.logic.specs.Count.{formulas, assumptions, messages}
use Rattle.logic.specs.Formula.{Tree, Sentence, record_of, name_of, tree_of}
use Rattle.logic.specs.Formula.Tree.{principal, key, datum, conjunction, encrypted, signed, combined, shared_key, public_key, shared_secret, fresh, believes, sees, said, controls, variable, for_every}

-- The modes 1 to 5. Over trees, P and Q are names and the formula is a tree; written in bytes, all are formula numbers.
pub data Fact (Formula : Type 0) : Type 0 where
  -- 1: P sees X
  Sees : (P : ℕ) (X : Formula) → Fact Formula
  -- 2: P believes X
  Believes : (P : ℕ) (X : Formula) → Fact Formula
  -- 3: P believes fresh X
  BelievesFresh : (P : ℕ) (X : Formula) → Fact Formula
  -- 4: P believes Q said X
  BelievesSaid : (P Q : ℕ) (X : Formula) → Fact Formula
  -- 5: P believes Q believes X
  BelievesBelieves : (P Q : ℕ) (X : Formula) → Fact Formula

-- The fact that P believes X: a belief in a formula of kind 11, 14 or 12 is opened into mode 3, 4 or 5.
abbrev pub belief : (P : ℕ) (X : Tree) → Fact Tree
belief P (principal n) = Believes P (principal n)
belief P (key n) = Believes P (key n)
belief P (datum n) = Believes P (datum n)
belief P (conjunction X Y) = Believes P (conjunction X Y)
belief P (encrypted X K R) = Believes P (encrypted X K R)
belief P (signed X K R) = Believes P (signed X K R)
belief P (combined X Y) = Believes P (combined X Y)
belief P (shared_key A K B) = Believes P (shared_key A K B)
belief P (public_key K Q) = Believes P (public_key K Q)
belief P (shared_secret A X B) = Believes P (shared_secret A X B)
belief P (fresh X) = BelievesFresh P X
belief P (believes Q X) = BelievesBelieves P Q X
belief P (sees Q X) = Believes P (sees Q X)
belief P (said Q X) = BelievesSaid P Q X
belief P (controls Q X) = Believes P (controls Q X)
belief P (variable v) = Believes P (variable v)
belief P (for_every v Z) = Believes P (for_every v Z)

-- A fact over trees with the leaves that Leaf holds of: P and Q are recorded principals, X is of kinds 3 to 15 or 17 and has no loose
-- variable, and a belief in mode 2 is one that opening leaves in mode 2.
abbrev pub IsFact : (Tree → Type 0) → Fact Tree → Type 0
IsFact Leaf (Sees P X) = Leaf (principal P) × Sentence Leaf X
IsFact Leaf (Believes P X) = Leaf (principal P) × Sentence Leaf X × (belief P X ≡ Believes P X)
IsFact Leaf (BelievesFresh P X) = Leaf (principal P) × Sentence Leaf X
IsFact Leaf (BelievesSaid P Q X) = Leaf (principal P) × Leaf (principal Q) × Sentence Leaf X
IsFact Leaf (BelievesBelieves P Q X) = Leaf (principal P) × Leaf (principal Q) × Sentence Leaf X

-- The fact that a formula record r states: of kind 12 it is a belief, otherwise, of kind 13, that P sees X.
abbrev pub stated : List Record → Record → Fact Tree
stated fs r =
    cond (eqb r.kind 12)
    (belief (name_of fs r.first) (tree_of fs r.second))
    (Sees (name_of fs r.first) (tree_of fs r.second))

-- what the assumption record r assumes
unfoldable pub assumed : List Record → Record → Fact Tree
assumed fs r = stated fs (record_of fs r.first)

-- what the message record r adds: its receiver sees its formula
unfoldable pub delivered : List Record → Record → Fact Tree
delivered fs r = Sees (name_of fs r.second) (tree_of fs r.third)

-- what the goal record r asks
unfoldable pub goal_fact : List Record → Record → Fact Tree
goal_fact fs r = stated fs (record_of fs r.second)

-- What holds up to message m: the assumptions hold from the start, each of the messages 1 to m adds its fact, nothing lapses.
unfoldable pub initial : List Record → ℕ → List (Fact Tree)
initial rs m = map (assumed (formulas rs)) (assumptions rs) ++ map (delivered (formulas rs)) (take m (messages rs))
