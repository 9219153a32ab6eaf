-- The initial facts of an accepted book as facts over formula numbers: they can be written, and mean the initial facts.
use Prim.Native.Nat.{ℕ, ◌≤◌}
use mathlib.Core.Path.{◌≡◌, refl, sym, ◌∙◌, ap, ap₂}
use mathlib.Core.Logic.{◌⊎◌, inl, inr}
use mathlib.Core.List.{List, [], ◌∷◌, ◌++◌, map, map-append}
use native.Mathlib.Omega.{arith}
use lib.ListN.{take}
use lib.Dec.{T, eqb, eqb→eq}
use Rattle.logic.specs.declared.Record.{Record}
use Rattle.logic.specs.Kind.{body_of, bodies, refers}
use Rattle.logic.specs.Count.{formulas, assumptions, messages, goals}
use Rattle.logic.specs.Book.{All, EachField, MayBe, Closed}
use Rattle.logic.specs.Formula.{Tree, loose, record_of, name_of, built, tree_of, Recorded}
use Rattle.logic.specs.Formula.Tree.{believes, sees}
use Rattle.logic.specs.Fact.{Fact, IsFact, stated, assumed, delivered, goal_fact, initial}
use Rattle.logic.specs.Fact.Fact.{Sees}
use Rattle.logic.specs.Derivation.{Among}
use Rattle.logic.specs.Written.{meaning, stated_on, goal_fact_on}
use Rattle.logic.proofs.Member.{all_at, all_append, among_take, among_image}
use Rattle.logic.proofs.Formulas.{Formulas, is_record, tree_is}
use Rattle.logic.proofs.Contents.{Contents, Fitting, Unloose, in_class}
use Rattle.logic.proofs.Meaning.{Valid, formula_in_lem, form_of, is_fact}
use Rattle.logic.proofs.ByKind.{opened_is, opened_valid, fields}

unfoldable pub assumed_on : List Record → Record → Fact ℕ
assumed_on fs r = stated_on fs (record_of fs r.first)

unfoldable pub delivered_on : Record → Fact ℕ
delivered_on r = Sees r.second r.third

unfoldable pub initial_on : List Record → ℕ → List (Fact ℕ)
initial_on rs m = map (assumed_on (formulas rs)) (assumptions rs) ++ map delivered_on (take m (messages rs))

-- a written fact and the fact that it means
abbrev pub Means : List Record → Fact ℕ → Fact Tree → Type 0
Means fs g f = Valid fs g × (meaning fs g ≡ f)

-- what a record of kind 12 or 13 without loose variables states
pub states : (fs : List Record) → Formulas fs → (x : ℕ) → ((record_of fs x).kind ≡ 12) ⊎ ((record_of fs x).kind ≡ 13) → Closed fs x
    → Means fs (stated_on fs (record_of fs x)) (stated fs (record_of fs x))
unfolding built body_of bodies
states fs ok x (inl k) c =
    let r = record_of fs x in
    let s = fields fs ok x 12 k (λ z. omega arith) in
    let f = form_of fs r.second s.1 in
    let e : tree_of fs x ≡ believes (name_of fs r.first) (tree_of fs r.second) = tree_is fs ok x (is_record fs x (λ z. omega arith)) ∙ simp k in
    let u : Closed fs r.second = ap loose (sym e) ∙ c in
    rw k (opened_valid fs ok r.first r.second s.0 (f, u), opened_is fs ok r.first r.second (formula_in_lem fs r.second f))
states fs ok x (inr k) c =
    let r = record_of fs x in
    let s = fields fs ok x 13 k (λ z. omega arith) in
    let e : tree_of fs x ≡ sees (name_of fs r.first) (tree_of fs r.second) = tree_is fs ok x (is_record fs x (λ z. omega arith)) ∙ simp k in
    let u : Closed fs r.second = ap loose (sym e) ∙ c in
    rw k ((s.0, (form_of fs r.second s.1, u)), refl)

-- the fields of a record by its kind
fitting_at : (fs : List Record) (r : Record) (k : ℕ) → r.kind ≡ k → Fitting fs r
    → EachField (λ s y. MayBe s (record_of fs y).kind) (record { kind = k; first = r.first; second = r.second; third = r.third })
fitting_at fs r k e h = rw (← e) (h.0.1, h.1.1, h.2.1)

means_all : (fs : List Record) (g : Record → Fact ℕ) (f : Record → Fact Tree) (l : List Record)
    → ((r : Record) → Among r l → Means fs (g r) (f r))
    → All (Valid fs) (map g l) × (map (meaning fs) (map g l) ≡ map f l)
means_all fs g f [] h = (tt, refl)
means_all fs g f (r ∷ l) h =
    let a = h r (inl refl) in
    let b = means_all fs g f l (λ q m. h q (inr m)) in
    ((a.0, b.0), ap₂ (λ s t. s ∷ t) a.1 b.1)

module _ (rs : List Record) (c : Contents rs) where
  pub in_book : (k : ℕ) (r : Record) → Among r rs → r.kind ≡ k
      → EachField (λ s y. MayBe s (record_of (formulas rs) y).kind) (record { kind = k; first = r.first; second = r.second; third = r.third })
  in_book k r m e = fitting_at (formulas rs) r k e (all_at (Fitting (formulas rs)) r rs c.fitting m)

  -- no formula that it refers to has a loose variable
  no_loose : (k : ℕ) (r : Record) → Among r rs → r.kind ≡ k → 32 ≤ k
      → EachField (λ s y. T (refers s) → Closed (formulas rs) y) (record { kind = k; first = r.first; second = r.second; third = r.third })
  no_loose k r m e l = rw (← e) (all_at (Unloose (formulas rs)) r rs c.closed m (rw e l))

  pub assumes : (r : Record) → Among r (assumptions rs) → Means (formulas rs) (assumed_on (formulas rs) r) (assumed (formulas rs) r)
  unfolding body_of bodies assumed_on assumed
  assumes r m =
      let h = in_class (λ k. eqb k 32) r rs m in
      let s = in_book 32 r h.0 (eqb→eq r.kind 32 h.1) in
      let u = no_loose 32 r h.0 (eqb→eq r.kind 32 h.1) (omega arith) in
      states (formulas rs) c.formulas_ok r.first s.0 (u.0 tt)

  pub delivers : (r : Record) → Among r (messages rs) → Means (formulas rs) (delivered_on r) (delivered (formulas rs) r)
  unfolding body_of bodies delivered_on delivered
  delivers r m =
      let h = in_class (λ k. eqb k 33) r rs m in
      let s = in_book 33 r h.0 (eqb→eq r.kind 33 h.1) in
      let u = no_loose 33 r h.0 (eqb→eq r.kind 33 h.1) (omega arith) in
      ((s.1, (form_of (formulas rs) r.third s.2, u.2 tt)), refl)

  -- what a goal asks can be written
  pub asks : (r : Record) → Among r (goals rs) → Means (formulas rs) (goal_fact_on (formulas rs) r) (goal_fact (formulas rs) r)
  unfolding body_of bodies goal_fact_on goal_fact
  asks r m =
      let h = in_class (λ k. eqb k 34) r rs m in
      let s = in_book 34 r h.0 (eqb→eq r.kind 34 h.1) in
      let u = no_loose 34 r h.0 (eqb→eq r.kind 34 h.1) (omega arith) in
      states (formulas rs) c.formulas_ok r.second s.1 (u.1 tt)

  initial_facts : (m : ℕ) → All (Valid (formulas rs)) (initial_on rs m) × (map (meaning (formulas rs)) (initial_on rs m) ≡ initial rs m)
  unfolding initial_on initial
  initial_facts m =
      let fs = formulas rs in
      let a = means_all fs (assumed_on fs) (assumed fs) (assumptions rs) assumes in
      let b = means_all fs delivered_on (delivered fs) (take m (messages rs)) (λ r i. delivers r (among_take r m (messages rs) i)) in
      let k = map (assumed_on fs) (assumptions rs) in
      let l = map delivered_on (take m (messages rs)) in
      (all_append (Valid fs) k l a.0 b.0, map-append (meaning fs) k l ∙ ap₂ (λ s t. s ++ t) a.1 b.1)

  -- the initial facts can be written
  pub initial_valid : (m : ℕ) → All (Valid (formulas rs)) (initial_on rs m)
  initial_valid m = (initial_facts m).0

  -- and what is written of them means them
  pub initial_means : (m : ℕ) → map (meaning (formulas rs)) (initial_on rs m) ≡ initial rs m
  initial_means m = (initial_facts m).1

  -- each assumption, each message's fact and each goal is a fact over trees
  pub initial_is_fact : (m : ℕ) (f : Fact Tree) → Among f (initial rs m) → IsFact (Recorded (formulas rs)) f
  initial_is_fact m f i =
      let fs = formulas rs in
      let h = among_image (meaning fs) f (initial_on rs m) (rw (initial_means m) i) in
      rw h.2 (is_fact fs c.formulas_ok h.0 (all_at (Valid fs) h.0 (initial_on rs m) (initial_valid m) h.1))

  pub goal_is_fact : (r : Record) → Among r (goals rs) → IsFact (Recorded (formulas rs)) (goal_fact (formulas rs) r)
  goal_is_fact r i =
      let h = asks r i in
      rw (← h.1) (is_fact (formulas rs) c.formulas_ok (goal_fact_on (formulas rs) r) h.0)
