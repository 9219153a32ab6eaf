-- The tree of a record by its kind, and the kind and fields of a record by its tree; the belief in a record, opened.
use Prim.Native.Nat.{ℕ, ◌<◌}
use mathlib.Core.Path.{◌≡◌, refl, sym, ◌∙◌, ap, subst}
use mathlib.Core.List.{List, []}
use mathlib.Core.Bool.{Bool, true, false, cond}
use native.Mathlib.Omega.{arith}
use lib.ListN.{length}
use lib.Dec.{eqb}
use Rattle.logic.specs.declared.Record.{Record}
use Rattle.logic.specs.Kind.{body_of, bodies}
use Rattle.logic.specs.Book.{EachField, MayBe}
use Rattle.logic.specs.Formula.{KeyField, Tree, loose, record_of, name_of, key_of, built, tree_of}
use Rattle.logic.specs.Formula.Tree.{conjunction, encrypted, signed, combined, shared_key, public_key, shared_secret, controls, for_every}
use Rattle.logic.specs.Fact.{belief}
use Rattle.logic.specs.Fact.Fact.{Believes, BelievesFresh, BelievesSaid, BelievesBelieves}
use Rattle.logic.specs.Written.{meaning, opened}
use Rattle.logic.proofs.Parts.{kind_of}
use Rattle.logic.proofs.Cases.{FormulaKind}
use Rattle.logic.proofs.Cases.FormulaKind.{kind1, kind2, kind3, kind4, kind5, kind6, kind7, kind8, kind9, kind10, kind11, kind12, kind13, kind14, kind15, kind16, kind17}
use Rattle.logic.proofs.Formulas.{Formulas, is_record, kind_of_lem, tree_is, kind_is}
use Rattle.logic.proofs.Meaning.{IsPrincipal, IsFormula, IsSentence, Valid, formula_in_lem, form_of}

module _ (fs : List Record) (ok : Formulas fs) where
  -- the trees of records by kind
  built_at : (x k : ℕ) → (record_of fs x).kind ≡ k → (k ≡ 0 → ⊥)
      → tree_of fs x ≡ built (tree_of fs) (record_of fs) (record { kind = k; first = (record_of fs x).first; second = (record_of fs x).second; third = (record_of fs x).third })
  built_at x k e n =
      let r = record_of fs x in
      tree_is fs ok x (is_record fs x (λ z. n (sym e ∙ z)))
      ∙ ap (λ i. built (tree_of fs) (record_of fs) (record { kind = i; first = r.first; second = r.second; third = r.third })) e

  -- the fields of records by kind
  pub fields : (x k : ℕ) → (record_of fs x).kind ≡ k → (k ≡ 0 → ⊥)
      → EachField (λ s y. MayBe s (record_of fs y).kind) (record { kind = k; first = (record_of fs x).first; second = (record_of fs x).second; third = (record_of fs x).third })
  fields x k e n =
      let r = record_of fs x in
      subst (λ i. EachField (λ s y. MayBe s (record_of fs y).kind) (record { kind = i; first = r.first; second = r.second; third = r.third })) e
      (ok.sorts x (is_record fs x (λ z. n (sym e ∙ z))))

  pub conjunction_is : (x : ℕ) → (record_of fs x).kind ≡ 4 → tree_of fs x ≡ conjunction (tree_of fs (record_of fs x).first) (tree_of fs (record_of fs x).second)
  unfolding built
  conjunction_is x k = built_at x 4 k (λ z. omega arith)

  pub encrypted_is : (x : ℕ) → (record_of fs x).kind ≡ 5 → tree_of fs x ≡ encrypted (tree_of fs (record_of fs x).first) (key_of fs (record_of fs x).second) (name_of fs (record_of fs x).third)
  unfolding built
  encrypted_is x k = built_at x 5 k (λ z. omega arith)

  pub signed_is : (x : ℕ) → (record_of fs x).kind ≡ 6 → tree_of fs x ≡ signed (tree_of fs (record_of fs x).first) (key_of fs (record_of fs x).second) (name_of fs (record_of fs x).third)
  unfolding built
  signed_is x k = built_at x 6 k (λ z. omega arith)

  pub combined_is : (x : ℕ) → (record_of fs x).kind ≡ 7 → tree_of fs x ≡ combined (tree_of fs (record_of fs x).first) (tree_of fs (record_of fs x).second)
  unfolding built
  combined_is x k = built_at x 7 k (λ z. omega arith)

  pub shared_key_is : (x : ℕ) → (record_of fs x).kind ≡ 8 → tree_of fs x ≡ shared_key (name_of fs (record_of fs x).first) (key_of fs (record_of fs x).second) (name_of fs (record_of fs x).third)
  unfolding built
  shared_key_is x k = built_at x 8 k (λ z. omega arith)

  pub public_key_is : (x : ℕ) → (record_of fs x).kind ≡ 9 → tree_of fs x ≡ public_key (key_of fs (record_of fs x).first) (name_of fs (record_of fs x).second)
  unfolding built
  public_key_is x k = built_at x 9 k (λ z. omega arith)

  pub shared_secret_is : (x : ℕ) → (record_of fs x).kind ≡ 10 → tree_of fs x ≡ shared_secret (name_of fs (record_of fs x).first) (tree_of fs (record_of fs x).second) (name_of fs (record_of fs x).third)
  unfolding built
  shared_secret_is x k = built_at x 10 k (λ z. omega arith)

  pub controls_is : (x : ℕ) → (record_of fs x).kind ≡ 15 → tree_of fs x ≡ controls (name_of fs (record_of fs x).first) (tree_of fs (record_of fs x).second)
  unfolding built
  controls_is x k = built_at x 15 k (λ z. omega arith)

  pub for_every_is : (x : ℕ) → (record_of fs x).kind ≡ 17 → tree_of fs x ≡ for_every (name_of fs (record_of fs x).first) (tree_of fs (record_of fs x).second)
  unfolding built
  for_every_is x k = built_at x 17 k (λ z. omega arith)

  -- a record whose tree is of a kind is of that kind, and its fields are the tree's
  pub conjunction_at : (x : ℕ) (X Y : Tree) → IsFormula fs x → tree_of fs x ≡ conjunction X Y
      → ((record_of fs x).kind ≡ 4) × (tree_of fs (record_of fs x).first ≡ X) × (tree_of fs (record_of fs x).second ≡ Y)
  conjunction_at x X Y f e =
      let k : (record_of fs x).kind ≡ 4 = sym (kind_is fs ok x (formula_in_lem fs x f)) ∙ ap kind_of e in
      let d = conjunction_is x k in
      (k, (cc), (cc))

  pub encrypted_at : (x : ℕ) (X : Tree) (K : KeyField) (R : ℕ) → IsFormula fs x → tree_of fs x ≡ encrypted X K R
      → ((record_of fs x).kind ≡ 5) × (tree_of fs (record_of fs x).first ≡ X) × (key_of fs (record_of fs x).second ≡ K) × (name_of fs (record_of fs x).third ≡ R)
  encrypted_at x X K R f e =
      let k : (record_of fs x).kind ≡ 5 = sym (kind_is fs ok x (formula_in_lem fs x f)) ∙ ap kind_of e in
      let d = encrypted_is x k in
      (k, (cc), (cc), (cc))

  pub signed_at : (x : ℕ) (X : Tree) (K : KeyField) (R : ℕ) → IsFormula fs x → tree_of fs x ≡ signed X K R
      → ((record_of fs x).kind ≡ 6) × (tree_of fs (record_of fs x).first ≡ X) × (key_of fs (record_of fs x).second ≡ K) × (name_of fs (record_of fs x).third ≡ R)
  signed_at x X K R f e =
      let k : (record_of fs x).kind ≡ 6 = sym (kind_is fs ok x (formula_in_lem fs x f)) ∙ ap kind_of e in
      let d = signed_is x k in
      (k, (cc), (cc), (cc))

  pub combined_at : (x : ℕ) (X Y : Tree) → IsFormula fs x → tree_of fs x ≡ combined X Y
      → ((record_of fs x).kind ≡ 7) × (tree_of fs (record_of fs x).first ≡ X) × (tree_of fs (record_of fs x).second ≡ Y)
  combined_at x X Y f e =
      let k : (record_of fs x).kind ≡ 7 = sym (kind_is fs ok x (formula_in_lem fs x f)) ∙ ap kind_of e in
      let d = combined_is x k in
      (k, (cc), (cc))

  pub shared_key_at : (x : ℕ) (A : ℕ) (K : KeyField) (B : ℕ) → IsFormula fs x → tree_of fs x ≡ shared_key A K B
      → ((record_of fs x).kind ≡ 8) × (name_of fs (record_of fs x).first ≡ A) × (key_of fs (record_of fs x).second ≡ K) × (name_of fs (record_of fs x).third ≡ B)
  shared_key_at x A K B f e =
      let k : (record_of fs x).kind ≡ 8 = sym (kind_is fs ok x (formula_in_lem fs x f)) ∙ ap kind_of e in
      let d = shared_key_is x k in
      (k, (cc), (cc), (cc))

  pub public_key_at : (x : ℕ) (K : KeyField) (Q : ℕ) → IsFormula fs x → tree_of fs x ≡ public_key K Q
      → ((record_of fs x).kind ≡ 9) × (key_of fs (record_of fs x).first ≡ K) × (name_of fs (record_of fs x).second ≡ Q)
  public_key_at x K Q f e =
      let k : (record_of fs x).kind ≡ 9 = sym (kind_is fs ok x (formula_in_lem fs x f)) ∙ ap kind_of e in
      let d = public_key_is x k in
      (k, (cc), (cc))

  pub shared_secret_at : (x : ℕ) (A : ℕ) (X : Tree) (B : ℕ) → IsFormula fs x → tree_of fs x ≡ shared_secret A X B
      → ((record_of fs x).kind ≡ 10) × (name_of fs (record_of fs x).first ≡ A) × (tree_of fs (record_of fs x).second ≡ X) × (name_of fs (record_of fs x).third ≡ B)
  shared_secret_at x A X B f e =
      let k : (record_of fs x).kind ≡ 10 = sym (kind_is fs ok x (formula_in_lem fs x f)) ∙ ap kind_of e in
      let d = shared_secret_is x k in
      (k, (cc), (cc), (cc))

  pub controls_at : (x : ℕ) (Q : ℕ) (X : Tree) → IsFormula fs x → tree_of fs x ≡ controls Q X
      → ((record_of fs x).kind ≡ 15) × (name_of fs (record_of fs x).first ≡ Q) × (tree_of fs (record_of fs x).second ≡ X)
  controls_at x Q X f e =
      let k : (record_of fs x).kind ≡ 15 = sym (kind_is fs ok x (formula_in_lem fs x f)) ∙ ap kind_of e in
      let d = controls_is x k in
      (k, (cc), (cc))

  pub for_every_at : (x v : ℕ) (Z : Tree) → IsFormula fs x → tree_of fs x ≡ for_every v Z
      → ((record_of fs x).kind ≡ 17) × (name_of fs (record_of fs x).first ≡ v) × (tree_of fs (record_of fs x).second ≡ Z)
  for_every_at x v Z f e =
      let k : (record_of fs x).kind ≡ 17 = sym (kind_is fs ok x (formula_in_lem fs x f)) ∙ ap kind_of e in
      let d = for_every_is x k in
      (k, (cc), (cc))

  -- the opened belief means the opened belief
  opened_built : (p x k a b c : ℕ) → FormulaKind k
      → tree_of fs x ≡ built (tree_of fs) (record_of fs) (record { kind = k; first = a; second = b; third = c })
      → meaning fs (cond (eqb k 11) (BelievesFresh p a) (cond (eqb k 14) (BelievesSaid p a b) (cond (eqb k 12) (BelievesBelieves p a b) (Believes p x))))
      ≡ belief (name_of fs p) (tree_of fs x)
  unfolding built
  opened_built p x k a b c kind1 e = rw e
  opened_built p x k a b c kind2 e = rw e
  opened_built p x k a b c kind3 e = rw e
  opened_built p x k a b c kind4 e = rw e
  opened_built p x k a b c kind5 e = rw e
  opened_built p x k a b c kind6 e = rw e
  opened_built p x k a b c kind7 e = rw e
  opened_built p x k a b c kind8 e = rw e
  opened_built p x k a b c kind9 e = rw e
  opened_built p x k a b c kind10 e = rw e
  opened_built p x k a b c kind11 e = rw e
  opened_built p x k a b c kind12 e = rw e
  opened_built p x k a b c kind13 e = rw e
  opened_built p x k a b c kind14 e = rw e
  opened_built p x k a b c kind15 e = rw e
  opened_built p x k a b c kind16 e = rw e
  opened_built p x k a b c kind17 e = rw e

  pub opened_is : (p x : ℕ) → x < length fs → meaning fs (opened fs p x) ≡ belief (name_of fs p) (tree_of fs x)
  unfolding opened
  opened_is p x l =
      let r = record_of fs x in
      opened_built p x r.kind r.first r.second r.third (kind_of_lem fs ok x l) (tree_is fs ok x l)

  opened_fields : (p x k a b c : ℕ) → FormulaKind k → (record_of fs x).kind ≡ k → IsPrincipal fs p → IsSentence fs x
      → EachField (λ s y. MayBe s (record_of fs y).kind) (record { kind = k; first = a; second = b; third = c })
      → loose (built (tree_of fs) (record_of fs) (record { kind = k; first = a; second = b; third = c })) ≡ []
      → Valid fs (cond (eqb k 11) (BelievesFresh p a) (cond (eqb k 14) (BelievesSaid p a b) (cond (eqb k 12) (BelievesBelieves p a b) (Believes p x))))
  unfolding built body_of bodies
  opened_fields p x k a b c kind1 e i f h u = (i, f, rw e tt)
  opened_fields p x k a b c kind2 e i f h u = (i, f, rw e tt)
  opened_fields p x k a b c kind3 e i f h u = (i, f, rw e tt)
  opened_fields p x k a b c kind4 e i f h u = (i, f, rw e tt)
  opened_fields p x k a b c kind5 e i f h u = (i, f, rw e tt)
  opened_fields p x k a b c kind6 e i f h u = (i, f, rw e tt)
  opened_fields p x k a b c kind7 e i f h u = (i, f, rw e tt)
  opened_fields p x k a b c kind8 e i f h u = (i, f, rw e tt)
  opened_fields p x k a b c kind9 e i f h u = (i, f, rw e tt)
  opened_fields p x k a b c kind10 e i f h u = (i, f, rw e tt)
  opened_fields p x k a b c kind11 e i f h u = (i, (form_of fs a h.0, u))
  opened_fields p x k a b c kind12 e i f h u = (i, h.0, (form_of fs b h.1, u))
  opened_fields p x k a b c kind13 e i f h u = (i, f, rw e tt)
  opened_fields p x k a b c kind14 e i f h u = (i, h.0, (form_of fs b h.1, u))
  opened_fields p x k a b c kind15 e i f h u = (i, f, rw e tt)
  opened_fields p x k a b c kind16 e i f h u = (i, f, rw e tt)
  opened_fields p x k a b c kind17 e i f h u = (i, f, rw e tt)

  pub opened_valid : (p x : ℕ) → IsPrincipal fs p → IsSentence fs x → Valid fs (opened fs p x)
  unfolding opened
  opened_valid p x i f =
      let r = record_of fs x in
      let l = formula_in_lem fs x f.0 in
      opened_fields p x r.kind r.first r.second r.third (kind_of_lem fs ok x l) refl i f (ok.sorts x l)
      (ap loose (sym (tree_is fs ok x l)) ∙ f.1)

  -- the principal of an opened belief
  pub opened_principal : (p x : ℕ) → Valid fs (opened fs p x) → IsPrincipal fs p
  unfolding opened
  opened_principal p x v = go (eqb (record_of fs x).kind 11) (eqb (record_of fs x).kind 14) (eqb (record_of fs x).kind 12) v
    where
      go : (a b c : Bool)
          → Valid fs (cond a (BelievesFresh p (record_of fs x).first)
          (cond b (BelievesSaid p (record_of fs x).first (record_of fs x).second)
          (cond c (BelievesBelieves p (record_of fs x).first (record_of fs x).second) (Believes p x))))
          → IsPrincipal fs p
      go true b c v = v.0
      go false true c v = v.0
      go false false true v = v.0
      go false false false v = v.0
