-- Formulas as trees. Document 01, "The book", the table, and "The rules": "In demand 3 formulas are trees."; document 02, wish 4.
-- Principals stand in the fields of other formulas by their name numbers, keys by theirs or by a variable.
use Rattle.std.specs.Prelude.{ℕ, ◌<◌, ◌≡◌, List, [], ◌∷◌, ◌++◌, Bool, true, false, cond, not, ◌&&◌, ◌||◌, length, get_or, T, eqb}
use Rattle.logic.specs.declared.Record.{Record}
use Rattle.logic.specs.Record.{no_record}

-- what stands in the field of a key: a key, or a key variable, by its name number
pub data KeyField : Type 0 where
  by_name by_variable : (name : ℕ) → KeyField

pub data Tree : Type 0 where
  -- 1, 2, 3: leaves, with their name numbers
  principal key datum : (name : ℕ) → Tree
  -- 4: (X, Y)
  conjunction : (X Y : Tree) → Tree
  -- 5: X encrypted under K, and 6: X signed under the inverse of K, from the principal R
  encrypted signed : (X : Tree) (K : KeyField) (R : ℕ) → Tree
  -- 7: X combined with the secret Y
  combined : (X Y : Tree) → Tree
  -- 8: K is shared by P and Q
  shared_key : (P : ℕ) (K : KeyField) (Q : ℕ) → Tree
  -- 9: K is the public key of Q
  public_key : (K : KeyField) (Q : ℕ) → Tree
  -- 10: X is a secret of P and Q
  shared_secret : (P : ℕ) (X : Tree) (Q : ℕ) → Tree
  -- 11: X is fresh
  fresh : (X : Tree) → Tree
  -- 12 to 15: P believes, sees, said, controls X
  believes sees said controls : (P : ℕ) (X : Tree) → Tree
  -- 16: a key variable, with its name number
  variable : (name : ℕ) → Tree
  -- 17: for every v, Z
  for_every : (v : ℕ) (Z : Tree) → Tree

-- "Clear" means neither itself of kind 5 or 6 nor holding one, at any depth.
abbrev pub clear : Tree → Bool
clear (principal n) = true
clear (key n) = true
clear (datum n) = true
clear (conjunction X Y) = clear X && clear Y
clear (encrypted X K R) = false
clear (signed X K R) = false
clear (combined X Y) = clear X && clear Y
clear (shared_key P K Q) = true
clear (public_key K Q) = true
clear (shared_secret P X Q) = clear X
clear (fresh X) = clear X
clear (believes P X) = clear X
clear (sees P X) = clear X
clear (said P X) = clear X
clear (controls P X) = clear X
clear (variable v) = true
clear (for_every v Z) = clear Z

-- The variables that stand outside every kind 17, each as often as it stands there.
abbrev pub loose_field : KeyField → List ℕ
loose_field (by_name n) = []
loose_field (by_variable v) = v ∷ []

abbrev pub loose : Tree → List ℕ
loose (principal n) = []
loose (key n) = []
loose (datum n) = []
loose (conjunction X Y) = loose X ++ loose Y
loose (encrypted X K R) = loose X ++ loose_field K
loose (signed X K R) = loose X ++ loose_field K
loose (combined X Y) = loose X ++ loose Y
loose (shared_key P K Q) = loose_field K
loose (public_key K Q) = loose_field K
loose (shared_secret P X Q) = loose X
loose (fresh X) = loose X
loose (believes P X) = loose X
loose (sees P X) = loose X
loose (said P X) = loose X
loose (controls P X) = loose X
loose (variable v) = v ∷ []
loose (for_every v Z) = []

-- whether there is none
abbrev pub is_empty : List ℕ → Bool
is_empty [] = true
is_empty (v ∷ l) = false

abbrev pub is_closed : Tree → Bool
is_closed X = is_empty (loose X)

-- Whether a formula is of kind 17 or holds one, at any depth.
abbrev pub delegates : Tree → Bool
delegates (principal n) = false
delegates (key n) = false
delegates (datum n) = false
delegates (conjunction X Y) = delegates X || delegates Y
delegates (encrypted X K R) = delegates X
delegates (signed X K R) = delegates X
delegates (combined X Y) = delegates X || delegates Y
delegates (shared_key P K Q) = false
delegates (public_key K Q) = false
delegates (shared_secret P X Q) = delegates X
delegates (fresh X) = delegates X
delegates (believes P X) = delegates X
delegates (sees P X) = delegates X
delegates (said P X) = delegates X
delegates (controls P X) = delegates X
delegates (variable v) = false
delegates (for_every v Z) = true

-- whether each member of a list passes a test
abbrev pub every : (ℕ → Bool) → List ℕ → Bool
every p [] = true
every p (n ∷ l) = p n && every p l

-- Whether "for every v, Z" is allowed: Z holds no kind 17, and no variable but v.
abbrev pub may_delegate : (v : ℕ) (Z : Tree) → Bool
may_delegate v Z = not (delegates Z) && every (λ w. eqb w v) (loose Z)

-- Z is of kind 15
abbrev pub IsControl : Tree → Type 0
IsControl Z = (Q : ℕ) × (X : Tree) × (Z ≡ controls Q X)

-- X is a formula of kinds 3 to 15 or 17. Its principals and its data are leaves that Leaf holds of, its keys may be any. Its fields have
-- trees of the table's sorts, and in kinds 8 and 10 the first principal has the smaller name. Its size is unlimited, and it need be no record.
abbrev pub WellFormed : (Tree → Type 0) → Tree → Type 0
WellFormed Leaf (principal n) = ⊥
WellFormed Leaf (key n) = ⊥
WellFormed Leaf (datum n) = Leaf (datum n)
WellFormed Leaf (conjunction X Y) = WellFormed Leaf X × WellFormed Leaf Y
WellFormed Leaf (encrypted X K R) = WellFormed Leaf X × Leaf (principal R)
WellFormed Leaf (signed X K R) = WellFormed Leaf X × Leaf (principal R)
WellFormed Leaf (combined X Y) = WellFormed Leaf X × WellFormed Leaf Y
WellFormed Leaf (shared_key P K Q) = Leaf (principal P) × Leaf (principal Q) × (P < Q)
WellFormed Leaf (public_key K Q) = Leaf (principal Q)
WellFormed Leaf (shared_secret P X Q) = Leaf (principal P) × WellFormed Leaf X × Leaf (principal Q) × (P < Q)
WellFormed Leaf (fresh X) = WellFormed Leaf X
WellFormed Leaf (believes P X) = Leaf (principal P) × WellFormed Leaf X
WellFormed Leaf (sees P X) = Leaf (principal P) × WellFormed Leaf X
WellFormed Leaf (said P X) = Leaf (principal P) × WellFormed Leaf X
WellFormed Leaf (controls P X) = Leaf (principal P) × WellFormed Leaf X
WellFormed Leaf (variable v) = ⊥
WellFormed Leaf (for_every v Z) = WellFormed Leaf Z × IsControl Z × T (may_delegate v Z)

-- X is such a formula without loose variables
abbrev pub Sentence : (Tree → Type 0) → Tree → Type 0
Sentence Leaf X = WellFormed Leaf X × (loose X ≡ [])

-- Below, fs are the formula records of a book, in their order: the tree of formula x depends on nothing else of the book.

-- formula record x, or no record
abbrev pub record_of : List Record → ℕ → Record
record_of fs x = get_or fs x no_record

-- the name number of principal, key or variable x stands in its record
abbrev pub name_of : List Record → ℕ → ℕ
name_of fs x = (record_of fs x).first

-- what stands in a field that refers to the key or variable with the record r
abbrev pub key_field : Record → KeyField
key_field r = cond (eqb r.kind 16) (by_variable r.first) (by_name r.first)

abbrev pub key_of : List Record → ℕ → KeyField
key_of fs x = key_field (record_of fs x)

-- what stands where there is no formula; no reference of an accepted book leads to it
abbrev pub no_tree : Tree
no_tree = principal 0

-- the tree of record r, where `tree x` and `look x` are the tree and the record of formula x
unfoldable pub built : (tree : ℕ → Tree) (look : ℕ → Record) → Record → Tree
built tree look r =
    cond (eqb r.kind 1) (principal r.first)
    (cond (eqb r.kind 2) (key r.first)
    (cond (eqb r.kind 3) (datum r.first)
    (cond (eqb r.kind 4) (conjunction (tree r.first) (tree r.second))
    (cond (eqb r.kind 5) (encrypted (tree r.first) (key_field (look r.second)) (look r.third).first)
    (cond (eqb r.kind 6) (signed (tree r.first) (key_field (look r.second)) (look r.third).first)
    (cond (eqb r.kind 7) (combined (tree r.first) (tree r.second))
    (cond (eqb r.kind 8) (shared_key (look r.first).first (key_field (look r.second)) (look r.third).first)
    (cond (eqb r.kind 9) (public_key (key_field (look r.first)) (look r.second).first)
    (cond (eqb r.kind 10) (shared_secret (look r.first).first (tree r.second) (look r.third).first)
    (cond (eqb r.kind 11) (fresh (tree r.first))
    (cond (eqb r.kind 12) (believes (look r.first).first (tree r.second))
    (cond (eqb r.kind 13) (sees (look r.first).first (tree r.second))
    (cond (eqb r.kind 14) (said (look r.first).first (tree r.second))
    (cond (eqb r.kind 15) (controls (look r.first).first (tree r.second))
    (cond (eqb r.kind 16) (variable r.first)
    (cond (eqb r.kind 17) (for_every (look r.first).first (tree r.second))
    no_tree))))))))))))))))

-- the trees ts of some records of fs, and then those of the records behind them; fields refer to earlier formulas
unfoldable pub trees_behind : List Record → List Tree → List Record → List Tree
trees_behind fs ts [] = ts
trees_behind fs ts (r ∷ rs) = trees_behind fs (ts ++ (built (λ x. get_or ts x no_tree) (record_of fs) r ∷ [])) rs

-- the tree of formula x
unfoldable pub tree_of : List Record → ℕ → Tree
tree_of fs x = get_or (trees_behind fs [] fs) x no_tree

-- one of the formula records has the tree t; so "the book records" a leaf
abbrev pub Recorded : List Record → Tree → Type 0
Recorded fs t = (x : ℕ) × (x < length fs) × (tree_of fs x ≡ t)
