-- The formula records of an accepted book. Equal trees are equal formula numbers, and every part of a record is a record.
use Prim.Native.Nat.{ℕ, zero, suc, ◌<◌}
use mathlib.Core.Path.{◌≡◌, refl, sym, ◌∙◌, ap, ap₂}
use mathlib.Core.Logic.{◌⊎◌, inl, inr}
use mathlib.Core.List.{List, [], ◌∷◌, ◌++◌, map}
use mathlib.Core.Bool.{cond}
use native.Mathlib.Omega.{arith}
use native.Mathlib.Decide.{dec_lt}
use native.Mathlib.Nat.{zero-add, lt_trans}
use lib.ListN.{length, get_or, get_or-eq_default}
use lib.Dec.{T}
use Rattle.logic.specs.declared.Sort.{Sort}
use Rattle.logic.specs.declared.Sort.TheVariants.{Absent, Name, Principal, Key, Formula, Variable, Control, Statement, Message}
use Rattle.logic.specs.declared.Record.{Record}
use Rattle.logic.specs.Kind.{body_of, bodies, refers, is_formula_record}
use Rattle.logic.specs.Record.{no_record}
use Rattle.logic.specs.Book.{All, EachField, Whole, MayBe}
use Rattle.logic.specs.Formula.{Tree, may_delegate, record_of, name_of, no_tree, key_field, built, trees_behind, tree_of, Recorded}
use Rattle.logic.specs.Formula.Tree.{principal, key, variable}
use Rattle.logic.proofs.Member.{all_append, all_map}
use Rattle.logic.proofs.Parts.{key_leaf, parts, kind_of, leaf_name}
use Rattle.logic.proofs.Cases.{FormulaKind, formula_kind}
use Rattle.logic.proofs.Cases.FormulaKind.{kind1, kind2, kind3, kind4, kind5, kind6, kind7, kind8, kind9, kind10, kind11, kind12, kind13, kind14, kind15, kind16, kind17}
use Rattle.logic.proofs.Trees.{found, built_from}

-- What the formula records fs of an accepted book obey. x is a formula number.
pub record Formulas (fs : List Record) : Type 0 where
  pub kinds : (x : ℕ) → x < length fs → T (is_formula_record (record_of fs x).kind)
  pub whole : (x : ℕ) → x < length fs → EachField Whole (record_of fs x)
  pub earlier : (x : ℕ) → x < length fs → EachField (λ s y. T (refers s) → y < x) (record_of fs x)
  pub sorts : (x : ℕ) → x < length fs → EachField (λ s y. MayBe s (record_of fs y).kind) (record_of fs x)
  pub rising : (x : ℕ) → x < length fs → ((record_of fs x).kind ≡ 8) ⊎ ((record_of fs x).kind ≡ 10)
      → name_of fs (record_of fs x).first < name_of fs (record_of fs x).third
  pub delegations : (x : ℕ) → x < length fs → (record_of fs x).kind ≡ 17
      → T (may_delegate (name_of fs (record_of fs x).first) (tree_of fs (record_of fs x).second))
  pub once : (x y : ℕ) → x < length fs → y < length fs → record_of fs x ≡ record_of fs y → x ≡ y

-- what has a kind is a record
pub is_record : (fs : List Record) (x : ℕ) → ((record_of fs x).kind ≡ 0 → ⊥) → x < length fs
is_record fs x h = elim (dec_lt x (length fs)) [ yes l ↦ l | no n ↦ absurd (h (ap (λ r. r.kind) (get_or-eq_default fs no_record {n = x} (omega arith)))) ]

-- the formula numbers in the fields of a record
abbrev pub reference : Sort → ℕ → List ℕ
reference s y = cond (refers s) (y ∷ []) []

abbrev pub references : Record → List ℕ
references r =
    reference (body_of r.kind).first r.first
    ++ (reference (body_of r.kind).second r.second ++ reference (body_of r.kind).third r.third)

all_reference : (P : ℕ → Type 0) (s : Sort) (y : ℕ) → (T (refers s) → P y) → All P (reference s y)
all_reference P Absent y h = tt
all_reference P Name y h = tt
all_reference P Principal y h = (h tt, tt)
all_reference P Key y h = (h tt, tt)
all_reference P Formula y h = (h tt, tt)
all_reference P Variable y h = (h tt, tt)
all_reference P Control y h = (h tt, tt)
all_reference P Statement y h = (h tt, tt)
all_reference P Message y h = tt

pub all_references : (P : ℕ → Type 0) (r : Record) → EachField (λ s y. T (refers s) → P y) r → All P (references r)
all_references P r h =
    let a = reference (body_of r.kind).first r.first in
    let b = reference (body_of r.kind).second r.second in
    let c = reference (body_of r.kind).third r.third in
    all_append P a (b ++ c) (all_reference P (body_of r.kind).first r.first h.0)
    (all_append P b c (all_reference P (body_of r.kind).second r.second h.1)
    (all_reference P (body_of r.kind).third r.third h.2))

-- the kind of a record is the kind of its tree
kind_built : (tree : ℕ → Tree) (look : ℕ → Record) (k a b c : ℕ) → FormulaKind k
    → kind_of (built tree look (record { kind = k; first = a; second = b; third = c })) ≡ k
unfolding built
kind_built tree look k a b c kind1 = refl
kind_built tree look k a b c kind2 = refl
kind_built tree look k a b c kind3 = refl
kind_built tree look k a b c kind4 = refl
kind_built tree look k a b c kind5 = refl
kind_built tree look k a b c kind6 = refl
kind_built tree look k a b c kind7 = refl
kind_built tree look k a b c kind8 = refl
kind_built tree look k a b c kind9 = refl
kind_built tree look k a b c kind10 = refl
kind_built tree look k a b c kind11 = refl
kind_built tree look k a b c kind12 = refl
kind_built tree look k a b c kind13 = refl
kind_built tree look k a b c kind14 = refl
kind_built tree look k a b c kind15 = refl
kind_built tree look k a b c kind16 = refl
kind_built tree look k a b c kind17 = refl

-- the parts of a record's tree are the trees of its references
parts_built : (tree : ℕ → Tree) (look : ℕ → Record)
    → ((y : ℕ) → (look y).kind ≡ 1 → tree y ≡ principal (look y).first) → ((y : ℕ) → ((look y).kind ≡ 2) ⊎ ((look y).kind ≡ 16) → tree y ≡ key_leaf (key_field (look y)))
    → ((y : ℕ) → (look y).kind ≡ 16 → tree y ≡ variable (look y).first)
    → (k a b c : ℕ) → FormulaKind k
    → EachField (λ s y. MayBe s (look y).kind) (record { kind = k; first = a; second = b; third = c })
    → parts (built tree look (record { kind = k; first = a; second = b; third = c }))
    ≡ map tree (references (record { kind = k; first = a; second = b; third = c }))
unfolding built body_of bodies
parts_built tree look p q v k a b c kind1 h = refl
parts_built tree look p q v k a b c kind2 h = refl
parts_built tree look p q v k a b c kind3 h = refl
parts_built tree look p q v k a b c kind4 h = refl
parts_built tree look p q v k a b c kind5 h = rw (q b h.1, p c h.2)
parts_built tree look p q v k a b c kind6 h = rw (q b h.1, p c h.2)
parts_built tree look p q v k a b c kind7 h = refl
parts_built tree look p q v k a b c kind8 h = rw (p a h.0, q b h.1, p c h.2)
parts_built tree look p q v k a b c kind9 h = rw (q a h.0, p b h.1)
parts_built tree look p q v k a b c kind10 h = rw (p a h.0, p c h.2)
parts_built tree look p q v k a b c kind11 h = refl
parts_built tree look p q v k a b c kind12 h = rw (p a h.0)
parts_built tree look p q v k a b c kind13 h = rw (p a h.0)
parts_built tree look p q v k a b c kind14 h = rw (p a h.0)
parts_built tree look p q v k a b c kind15 h = rw (p a h.0)
parts_built tree look p q v k a b c kind16 h = refl
parts_built tree look p q v k a b c kind17 h = rw (v a h.0)

-- a record is known by its kind, its references and, if it is a leaf, its name
same_record : (tree : ℕ → Tree) (look : ℕ → Record) (k a b c a' b' c' : ℕ) → FormulaKind k
    → EachField Whole (record { kind = k; first = a; second = b; third = c })
    → EachField Whole (record { kind = k; first = a'; second = b'; third = c' })
    → references (record { kind = k; first = a; second = b; third = c })
    ≡ references (record { kind = k; first = a'; second = b'; third = c' })
    → leaf_name (built tree look (record { kind = k; first = a; second = b; third = c }))
    ≡ leaf_name (built tree look (record { kind = k; first = a'; second = b'; third = c' }))
    → ◌≡◌ {A = Record} (record { kind = k; first = a; second = b; third = c }) (record { kind = k; first = a'; second = b'; third = c' })
unfolding built body_of bodies
same_record tree look k a b c a' b' c' kind1 g h e n = cc
same_record tree look k a b c a' b' c' kind2 g h e n = cc
same_record tree look k a b c a' b' c' kind3 g h e n = cc
same_record tree look k a b c a' b' c' kind4 g h e n = cc
same_record tree look k a b c a' b' c' kind5 g h e n = cc
same_record tree look k a b c a' b' c' kind6 g h e n = cc
same_record tree look k a b c a' b' c' kind7 g h e n = cc
same_record tree look k a b c a' b' c' kind8 g h e n = cc
same_record tree look k a b c a' b' c' kind9 g h e n = cc
same_record tree look k a b c a' b' c' kind10 g h e n = cc
same_record tree look k a b c a' b' c' kind11 g h e n = cc
same_record tree look k a b c a' b' c' kind12 g h e n = cc
same_record tree look k a b c a' b' c' kind13 g h e n = cc
same_record tree look k a b c a' b' c' kind14 g h e n = cc
same_record tree look k a b c a' b' c' kind15 g h e n = cc
same_record tree look k a b c a' b' c' kind16 g h e n = cc
same_record tree look k a b c a' b' c' kind17 g h e n = cc

alike : (tree : ℕ → Tree) (look : ℕ → Record) (r q : Record) → FormulaKind r.kind → q.kind ≡ r.kind
    → EachField Whole r → EachField Whole q → references r ≡ references q
    → leaf_name (built tree look r) ≡ leaf_name (built tree look q) → r ≡ q
alike tree look r q v k g h e n =
    let q' : Record = record { kind = r.kind; first = q.first; second = q.second; third = q.third } in
    let d : q ≡ q' = λ i. record { kind = k i; first = q.first; second = q.second; third = q.third } in
    same_record tree look r.kind r.first r.second r.third q.first q.second q.third v
    g (rw d at h) (rw d at e) (rw d at n)
    ∙ sym d

-- the tree of a record is built from the trees of the records that it refers to
pub tree_built : (fs : List Record) → ((x : ℕ) → x < length fs → T (is_formula_record (record_of fs x).kind))
    → ((x : ℕ) → x < length fs → EachField (λ s y. T (refers s) → y < x) (record_of fs x))
    → (x : ℕ) → x < length fs → tree_of fs x ≡ built (tree_of fs) (record_of fs) (record_of fs x)
unfolding tree_of
tree_built fs kinds earlier x l =
    let h = found fs [] fs x l in
    let near : (y : ℕ) → y < x → get_or h.before y no_tree ≡ get_or (trees_behind fs [] fs) y no_tree =
    λ y g. h.stay y (omega (arith, h.count)) in
    let e = earlier x l in
    ap (λ y. get_or (trees_behind fs [] fs) y no_tree) (sym (zero-add x))
    ∙ h.here
    ∙ built_from (λ y. get_or h.before y no_tree) (λ y. get_or (trees_behind fs [] fs) y no_tree) (record_of fs) (record_of fs x)
    (formula_kind (record_of fs x).kind (kinds x l))
    ((λ t. near (record_of fs x).first (e.0 t)), (λ t. near (record_of fs x).second (e.1 t)), (λ t. near (record_of fs x).third (e.2 t)))

module _ (fs : List Record) (ok : Formulas fs) where
  pub kind_of_lem : (x : ℕ) → x < length fs → FormulaKind (record_of fs x).kind
  kind_of_lem x l = formula_kind (record_of fs x).kind (ok.kinds x l)

  pub tree_is : (x : ℕ) → x < length fs → tree_of fs x ≡ built (tree_of fs) (record_of fs) (record_of fs x)
  tree_is x l = tree_built fs ok.kinds ok.earlier x l

  pub kind_is : (x : ℕ) → x < length fs → kind_of (tree_of fs x) ≡ (record_of fs x).kind
  kind_is x l =
      rw (tree_is x l)
      (kind_built (tree_of fs) (record_of fs) (record_of fs x).kind (record_of fs x).first (record_of fs x).second (record_of fs x).third (kind_of_lem x l))

  -- the trees of principals, keys and variables
  pub principal_is : (x : ℕ) → (record_of fs x).kind ≡ 1 → tree_of fs x ≡ principal (name_of fs x)
  unfolding built
  principal_is x k = tree_is x (is_record fs x (λ z. omega arith)) ∙ simp k

  pub key_is : (x : ℕ) → (record_of fs x).kind ≡ 2 → tree_of fs x ≡ key (name_of fs x)
  unfolding built
  key_is x k = tree_is x (is_record fs x (λ z. omega arith)) ∙ simp k

  pub variable_is : (x : ℕ) → (record_of fs x).kind ≡ 16 → tree_of fs x ≡ variable (name_of fs x)
  unfolding built
  variable_is x k = tree_is x (is_record fs x (λ z. omega arith)) ∙ simp k

  pub leaf_is : (x : ℕ) → ((record_of fs x).kind ≡ 2) ⊎ ((record_of fs x).kind ≡ 16) → tree_of fs x ≡ key_leaf (key_field (record_of fs x))
  leaf_is x (inl k) = key_is x k ∙ rw k refl
  leaf_is x (inr k) = variable_is x k ∙ rw k refl

  pub parts_are : (x : ℕ) → x < length fs → parts (tree_of fs x) ≡ map (tree_of fs) (references (record_of fs x))
  parts_are x l =
      rw (tree_is x l)
      (parts_built (tree_of fs) (record_of fs) principal_is leaf_is variable_is
      (record_of fs x).kind (record_of fs x).first (record_of fs x).second (record_of fs x).third (kind_of_lem x l) (ok.sorts x l))

  -- every part of a record is a record
  pub down : (t : Tree) → Recorded fs t → All (Recorded fs) (parts t)
  down t (x, l, e) =
      let r = record_of fs x in
      let g = ok.earlier x l in
      let near : (y : ℕ) → y < x → Recorded fs (tree_of fs y) = λ y h. (y, omega arith, refl) in
      rw (← e, parts_are x l)
      (all_map (tree_of fs) (Recorded fs) (references r)
      (all_references (λ y. Recorded fs (tree_of fs y)) r
      ((λ t. near r.first (g.0 t)), (λ t. near r.second (g.1 t)), (λ t. near r.third (g.2 t)))))

  -- equal lists of trees are equal lists of numbers, if this is so of each member
  same_list : (k l : List ℕ) → All (λ x. (y : ℕ) → y < length fs → tree_of fs x ≡ tree_of fs y → x ≡ y) k
      → All (λ y. y < length fs) l → map (tree_of fs) k ≡ map (tree_of fs) l → k ≡ l
  same_list [] [] g h e = refl
  same_list [] (y ∷ l) g h e = absurd (let z : ◌≡◌ {A = ℕ} 0 1 = cc in omega arith)
  same_list (x ∷ k) [] g h e = absurd (let z : ◌≡◌ {A = ℕ} 0 1 = cc in omega arith)
  same_list (x ∷ k) (y ∷ l) g h e = ap₂ (λ a b. a ∷ b) (g.0 y h.0 (cc)) (same_list k l g.1 h.1 (cc))

  same_below : (n x y : ℕ) → x < n → x < length fs → y < length fs → tree_of fs x ≡ tree_of fs y → x ≡ y
  same_below zero x y b l m e = absurd (omega arith)
  same_below (suc n) x y b l m e =
      let r = record_of fs x in
      let q = record_of fs y in
      let k : q.kind ≡ r.kind = sym (kind_is y m) ∙ (ap kind_of (sym e) ∙ kind_is x l) in
      let g = ok.earlier x l in
      let h = ok.earlier y m in
      let near : (z : ℕ) → z < x → (w : ℕ) → w < length fs → tree_of fs z ≡ tree_of fs w → z ≡ w =
      λ z f w i j. same_below n z w (omega arith) (omega arith) i j in
      let refs : references r ≡ references q =
      same_list (references r) (references q)
      (all_references (λ z. (w : ℕ) → w < length fs → tree_of fs z ≡ tree_of fs w → z ≡ w) r
      ((λ t. near r.first (g.0 t)), (λ t. near r.second (g.1 t)), (λ t. near r.third (g.2 t))))
      (all_references (λ w. w < length fs) q
      ((λ t. lt_trans (h.0 t) m), (λ t. lt_trans (h.1 t) m), (λ t. lt_trans (h.2 t) m)))
      (sym (parts_are x l) ∙ (ap parts e ∙ parts_are y m)) in
      ok.once x y l m
      (alike (tree_of fs) (record_of fs) r q (kind_of_lem x l) k (ok.whole x l) (ok.whole y m) refs
      (rw (← tree_is x l, ← tree_is y m) (ap leaf_name e)))

  -- equal trees are equal formula numbers
  pub same_tree : (x y : ℕ) → x < length fs → y < length fs → tree_of fs x ≡ tree_of fs y → x ≡ y
  same_tree x y l m e = same_below (suc x) x y (omega arith) l m e
