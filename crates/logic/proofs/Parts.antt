-- The parts of a formula: the trees in its fields, principals, keys and variables as leaves; and its kind, and the name of a leaf.
use Prim.Native.Nat.{ℕ}
use mathlib.Core.List.{List, [], ◌∷◌}
use Rattle.logic.specs.Formula.{KeyField, Tree}
use Rattle.logic.specs.Formula.KeyField.{by_name, by_variable}
use Rattle.logic.specs.Formula.Tree.{principal, key, datum, conjunction, encrypted, signed, combined, shared_key, public_key, shared_secret, fresh, believes, sees, said, controls, variable, for_every}

-- the leaf that stands in the field of a key
abbrev pub key_leaf : KeyField → Tree
key_leaf (by_name n) = key n
key_leaf (by_variable v) = variable v

abbrev pub parts : Tree → List Tree
parts (principal n) = []
parts (key n) = []
parts (datum n) = []
parts (conjunction X Y) = X ∷ Y ∷ []
parts (encrypted X K R) = X ∷ key_leaf K ∷ principal R ∷ []
parts (signed X K R) = X ∷ key_leaf K ∷ principal R ∷ []
parts (combined X Y) = X ∷ Y ∷ []
parts (shared_key P K Q) = principal P ∷ key_leaf K ∷ principal Q ∷ []
parts (public_key K Q) = key_leaf K ∷ principal Q ∷ []
parts (shared_secret P X Q) = principal P ∷ X ∷ principal Q ∷ []
parts (fresh X) = X ∷ []
parts (believes P X) = principal P ∷ X ∷ []
parts (sees P X) = principal P ∷ X ∷ []
parts (said P X) = principal P ∷ X ∷ []
parts (controls P X) = principal P ∷ X ∷ []
parts (variable v) = []
parts (for_every v Z) = variable v ∷ Z ∷ []

-- the kind, as in the table
abbrev pub kind_of : Tree → ℕ
kind_of (principal n) = 1
kind_of (key n) = 2
kind_of (datum n) = 3
kind_of (conjunction X Y) = 4
kind_of (encrypted X K R) = 5
kind_of (signed X K R) = 6
kind_of (combined X Y) = 7
kind_of (shared_key P K Q) = 8
kind_of (public_key K Q) = 9
kind_of (shared_secret P X Q) = 10
kind_of (fresh X) = 11
kind_of (believes P X) = 12
kind_of (sees P X) = 13
kind_of (said P X) = 14
kind_of (controls P X) = 15
kind_of (variable v) = 16
kind_of (for_every v Z) = 17

-- the name number of a leaf
abbrev pub leaf_name : Tree → ℕ
leaf_name (principal n) = n
leaf_name (key n) = n
leaf_name (datum n) = n
leaf_name (conjunction X Y) = 0
leaf_name (encrypted X K R) = 0
leaf_name (signed X K R) = 0
leaf_name (combined X Y) = 0
leaf_name (shared_key P K Q) = 0
leaf_name (public_key K Q) = 0
leaf_name (shared_secret P X Q) = 0
leaf_name (fresh X) = 0
leaf_name (believes P X) = 0
leaf_name (sees P X) = 0
leaf_name (said P X) = 0
leaf_name (controls P X) = 0
leaf_name (variable v) = v
leaf_name (for_every v Z) = 0
