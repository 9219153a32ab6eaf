-- What written facts mean. A fact over formula numbers that may be written means a fact over trees, two of them never the same
-- one, and every fact over trees that is about a record is the meaning of one.
use Prim.Native.Nat.{ℕ, zero, suc, ◌≤◌, ◌<◌}
use mathlib.Core.Path.{◌≡◌, refl, sym, ◌∙◌, ap}
use mathlib.Core.Logic.{◌⊎◌, inl, inr}
use mathlib.Core.List.{List}
use mathlib.Core.Bool.{not, ◌&&◌}
use native.Mathlib.Omega.{arith}
use lib.ListN.{length}
use lib.Dec.{T, leb, eqb→eq, leb→le}
use Rattle.logic.specs.declared.Record.{Record}
use Rattle.logic.specs.Kind.{body_of, bodies, is_formula, refers}
use Rattle.logic.specs.Book.{EachField, MayBe, Closed}
use Rattle.logic.specs.Formula.{Tree, loose, is_closed, may_delegate, WellFormed, Sentence, record_of, name_of, key_of, built, tree_of, Recorded}
use Rattle.logic.specs.Formula.Tree.{principal, key, datum, conjunction, encrypted, signed, combined, shared_key, public_key, shared_secret, fresh, believes, sees, said, controls, variable, for_every}
use Rattle.logic.specs.Fact.{Fact, belief, IsFact}
use Rattle.logic.specs.Fact.Fact.{Sees, Believes, BelievesFresh, BelievesSaid, BelievesBelieves}
use Rattle.logic.specs.Written.{meaning, is_principal, is_sentence, is_opening, is_written}
use Rattle.logic.proofs.Parts.{key_leaf, kind_of}
use Rattle.logic.proofs.Cases.{FormulaKind}
use Rattle.logic.proofs.Tests.{T_and, and_T}
use Rattle.logic.proofs.KindTests.{T_formula}
use Rattle.logic.proofs.Loose.{empty_T}
use Rattle.logic.proofs.Cases.FormulaKind.{kind1, kind2, kind3, kind4, kind5, kind6, kind7, kind8, kind9, kind10, kind11, kind12, kind13, kind14, kind15, kind16, kind17}
use Rattle.logic.proofs.Formulas.{Formulas, is_record, kind_of_lem, tree_is, kind_is, principal_is, leaf_is, same_tree}
use Rattle.logic.proofs.Closure.{formula_of}

-- P is a principal; X is a formula of kinds 3 to 15 or 17; a belief in X is not opened
abbrev pub IsPrincipal : List Record → ℕ → Type 0
IsPrincipal fs p = (record_of fs p).kind ≡ 1

abbrev pub IsFormula : List Record → ℕ → Type 0
IsFormula fs x = T (is_formula (record_of fs x).kind)

-- and it has no variable outside kind 17
abbrev pub IsSentence : List Record → ℕ → Type 0
IsSentence fs x = IsFormula fs x × Closed fs x

pub sentence_T : (fs : List Record) (x : ℕ) → T (is_sentence fs x) → IsSentence fs x
sentence_T fs x t =
    let h = T_and (is_formula (record_of fs x).kind) (is_closed (tree_of fs x)) t in
    (h.0, empty_T (loose (tree_of fs x)) h.1)

pub T_sentence : (fs : List Record) (x : ℕ) → IsSentence fs x → T (is_sentence fs x)
T_sentence fs x h = and_T (is_formula (record_of fs x).kind) (is_closed (tree_of fs x)) h.0 (rw h.1 tt)

-- the fact may be written, part by part
abbrev pub Valid : List Record → Fact ℕ → Type 0
Valid fs (Sees p x) = IsPrincipal fs p × IsSentence fs x
Valid fs (Believes p x) = IsPrincipal fs p × IsSentence fs x × T (not (is_opening (record_of fs x).kind))
Valid fs (BelievesFresh p x) = IsPrincipal fs p × IsSentence fs x
Valid fs (BelievesSaid p q x) = IsPrincipal fs p × IsPrincipal fs q × IsSentence fs x
Valid fs (BelievesBelieves p q x) = IsPrincipal fs p × IsPrincipal fs q × IsSentence fs x

is_principal_lem : (fs : List Record) (p : ℕ) → IsPrincipal fs p → T (is_principal fs p)
is_principal_lem fs p e = rw e tt

pub valid : (fs : List Record) (g : Fact ℕ) → T (is_written fs g) → Valid fs g
valid fs (Sees p x) t = (eqb→eq (record_of fs p).kind 1 (T_and (is_principal fs p) _ t).0, sentence_T fs x (T_and (is_principal fs p) _ t).1)
valid fs (Believes p x) t =
    let h = (T_and (is_principal fs p) _ t).1 in
    (eqb→eq (record_of fs p).kind 1 (T_and (is_principal fs p) _ t).0, sentence_T fs x (T_and (is_sentence fs x) _ h).0, (T_and (is_sentence fs x) _ h).1)
valid fs (BelievesFresh p x) t = (eqb→eq (record_of fs p).kind 1 (T_and (is_principal fs p) _ t).0, sentence_T fs x (T_and (is_principal fs p) _ t).1)
valid fs (BelievesSaid p q x) t =
    let h = (T_and (is_principal fs p) _ t).1 in
    (eqb→eq (record_of fs p).kind 1 (T_and (is_principal fs p) _ t).0, eqb→eq (record_of fs q).kind 1 (T_and (is_principal fs q) _ h).0, sentence_T fs x (T_and (is_principal fs q) _ h).1)
valid fs (BelievesBelieves p q x) t =
    let h = (T_and (is_principal fs p) _ t).1 in
    (eqb→eq (record_of fs p).kind 1 (T_and (is_principal fs p) _ t).0, eqb→eq (record_of fs q).kind 1 (T_and (is_principal fs q) _ h).0, sentence_T fs x (T_and (is_principal fs q) _ h).1)

pub written : (fs : List Record) (g : Fact ℕ) → Valid fs g → T (is_written fs g)
written fs (Sees p x) v = and_T (is_principal fs p) (is_sentence fs x) (is_principal_lem fs p v.0) (T_sentence fs x v.1)
written fs (Believes p x) v =
    let k = (record_of fs x).kind in
    and_T (is_principal fs p) (is_sentence fs x && not (is_opening k)) (is_principal_lem fs p v.0)
    (and_T (is_sentence fs x) (not (is_opening k)) (T_sentence fs x v.1) v.2)
written fs (BelievesFresh p x) v = and_T (is_principal fs p) (is_sentence fs x) (is_principal_lem fs p v.0) (T_sentence fs x v.1)
written fs (BelievesSaid p q x) v =
    and_T (is_principal fs p) (is_principal fs q && is_sentence fs x) (is_principal_lem fs p v.0)
    (and_T (is_principal fs q) (is_sentence fs x) (is_principal_lem fs q v.1) (T_sentence fs x v.2))
written fs (BelievesBelieves p q x) v =
    and_T (is_principal fs p) (is_principal fs q && is_sentence fs x) (is_principal_lem fs p v.0)
    (and_T (is_principal fs q) (is_sentence fs x) (is_principal_lem fs q v.1) (T_sentence fs x v.2))

-- what is a principal or a formula is a record
pub principal_in : (fs : List Record) (p : ℕ) → IsPrincipal fs p → p < length fs
principal_in fs p e = is_record fs p (λ z. omega arith)

pub formula_in_lem : (fs : List Record) (x : ℕ) → IsFormula fs x → x < length fs
formula_in_lem fs x t =
    let h = leb→le 3 (record_of fs x).kind (T_and (leb 3 (record_of fs x).kind) _ t).0 in
    is_record fs x (λ z. omega arith)

pub form_of : (fs : List Record) (y : ℕ) → ((3 ≤ (record_of fs y).kind) × ((record_of fs y).kind ≤ 15)) ⊎ ((record_of fs y).kind ≡ 17) → IsFormula fs y
form_of fs y h = T_formula (record_of fs y).kind h

-- Trees and kinds.

-- a formula over any leaves is of kinds 3 to 15 or 17
pub formula_kinds : (Leaf : Tree → Type 0) (X : Tree) → WellFormed Leaf X → T (is_formula (kind_of X))
formula_kinds Leaf (principal n) h = absurd h
formula_kinds Leaf (key n) h = absurd h
formula_kinds Leaf (datum n) h = tt
formula_kinds Leaf (conjunction X Y) h = tt
formula_kinds Leaf (encrypted X K R) h = tt
formula_kinds Leaf (signed X K R) h = tt
formula_kinds Leaf (combined X Y) h = tt
formula_kinds Leaf (shared_key A K B) h = tt
formula_kinds Leaf (public_key K Q) h = tt
formula_kinds Leaf (shared_secret A X B) h = tt
formula_kinds Leaf (fresh X) h = tt
formula_kinds Leaf (believes Q X) h = tt
formula_kinds Leaf (sees Q X) h = tt
formula_kinds Leaf (said Q X) h = tt
formula_kinds Leaf (controls Q X) h = tt
formula_kinds Leaf (variable v) h = absurd h
formula_kinds Leaf (for_every v Z) h = tt

-- a belief is opened just in those of kinds 11, 12 and 14
pub unopened : (P : ℕ) (X : Tree) → belief P X ≡ Believes P X → T (not (is_opening (kind_of X)))
unopened P (principal n) e = tt
unopened P (key n) e = tt
unopened P (datum n) e = tt
unopened P (conjunction X Y) e = tt
unopened P (encrypted X K R) e = tt
unopened P (signed X K R) e = tt
unopened P (combined X Y) e = tt
unopened P (shared_key A K B) e = tt
unopened P (public_key K Q) e = tt
unopened P (shared_secret A X B) e = tt
unopened P (fresh X) e = absurd (let z : ◌≡◌ {A = ℕ} 0 1 = cc in omega arith)
unopened P (believes Q X) e = absurd (let z : ◌≡◌ {A = ℕ} 0 1 = cc in omega arith)
unopened P (sees Q X) e = tt
unopened P (said Q X) e = absurd (let z : ◌≡◌ {A = ℕ} 0 1 = cc in omega arith)
unopened P (controls Q X) e = tt
unopened P (variable v) e = tt
unopened P (for_every v Z) e = tt

pub stays_belief : (P : ℕ) (X : Tree) → T (not (is_opening (kind_of X))) → belief P X ≡ Believes P X
stays_belief P (principal n) t = refl
stays_belief P (key n) t = refl
stays_belief P (datum n) t = refl
stays_belief P (conjunction X Y) t = refl
stays_belief P (encrypted X K R) t = refl
stays_belief P (signed X K R) t = refl
stays_belief P (combined X Y) t = refl
stays_belief P (shared_key A K B) t = refl
stays_belief P (public_key K Q) t = refl
stays_belief P (shared_secret A X B) t = refl
stays_belief P (fresh X) t = absurd t
stays_belief P (believes Q X) t = absurd t
stays_belief P (sees Q X) t = refl
stays_belief P (said Q X) t = absurd t
stays_belief P (controls Q X) t = refl
stays_belief P (variable v) t = refl
stays_belief P (for_every v Z) t = refl

module _ (fs : List Record) (ok : Formulas fs) where
  -- names of principals and of keys are told apart by their records
  pub same_principal : (p q : ℕ) → IsPrincipal fs p → IsPrincipal fs q → name_of fs p ≡ name_of fs q → p ≡ q
  same_principal p q g h e =
      same_tree fs ok p q (principal_in fs p g) (principal_in fs q h) (principal_is fs ok p g ∙ (ap principal e ∙ sym (principal_is fs ok q h)))

  key_in : (p : ℕ) → ((record_of fs p).kind ≡ 2) ⊎ ((record_of fs p).kind ≡ 16) → p < length fs
  key_in p (inl k) = is_record fs p (λ z. omega arith)
  key_in p (inr k) = is_record fs p (λ z. omega arith)

  pub same_key : (p q : ℕ) → ((record_of fs p).kind ≡ 2) ⊎ ((record_of fs p).kind ≡ 16) → ((record_of fs q).kind ≡ 2) ⊎ ((record_of fs q).kind ≡ 16)
      → key_of fs p ≡ key_of fs q → p ≡ q
  same_key p q g h e =
      same_tree fs ok p q (key_in p g) (key_in q h)
      (leaf_is fs ok p g ∙ (ap key_leaf e ∙ sym (leaf_is fs ok q h)))

  pub same_formula : (x y : ℕ) → IsFormula fs x → IsFormula fs y → tree_of fs x ≡ tree_of fs y → x ≡ y
  same_formula x y g h e = same_tree fs ok x y (formula_in_lem fs x g) (formula_in_lem fs y h) e

  -- two written facts that mean the same are the same
  pub meaning_once : (g h : Fact ℕ) → Valid fs g → Valid fs h → meaning fs g ≡ meaning fs h → g ≡ h
  meaning_once (Sees p x) (Sees p' x') v u e =
      let a = same_principal p p' v.0 u.0 (cc) in
      let b = same_formula x x' v.1.0 u.1.0 (cc) in
      cc
  meaning_once (Sees p x) (Believes p' x') v u e = cc
  meaning_once (Sees p x) (BelievesFresh p' x') v u e = cc
  meaning_once (Sees p x) (BelievesSaid p' q' x') v u e = cc
  meaning_once (Sees p x) (BelievesBelieves p' q' x') v u e = cc
  meaning_once (Believes p x) (Sees p' x') v u e = cc
  meaning_once (Believes p x) (Believes p' x') v u e =
      let a = same_principal p p' v.0 u.0 (cc) in
      let b = same_formula x x' v.1.0 u.1.0 (cc) in
      cc
  meaning_once (Believes p x) (BelievesFresh p' x') v u e = cc
  meaning_once (Believes p x) (BelievesSaid p' q' x') v u e = cc
  meaning_once (Believes p x) (BelievesBelieves p' q' x') v u e = cc
  meaning_once (BelievesFresh p x) (Sees p' x') v u e = cc
  meaning_once (BelievesFresh p x) (Believes p' x') v u e = cc
  meaning_once (BelievesFresh p x) (BelievesFresh p' x') v u e =
      let a = same_principal p p' v.0 u.0 (cc) in
      let b = same_formula x x' v.1.0 u.1.0 (cc) in
      cc
  meaning_once (BelievesFresh p x) (BelievesSaid p' q' x') v u e = cc
  meaning_once (BelievesFresh p x) (BelievesBelieves p' q' x') v u e = cc
  meaning_once (BelievesSaid p q x) (Sees p' x') v u e = cc
  meaning_once (BelievesSaid p q x) (Believes p' x') v u e = cc
  meaning_once (BelievesSaid p q x) (BelievesFresh p' x') v u e = cc
  meaning_once (BelievesSaid p q x) (BelievesSaid p' q' x') v u e =
      let a = same_principal p p' v.0 u.0 (cc) in
      let b = same_principal q q' v.1 u.1 (cc) in
      let c = same_formula x x' v.2.0 u.2.0 (cc) in
      cc
  meaning_once (BelievesSaid p q x) (BelievesBelieves p' q' x') v u e = cc
  meaning_once (BelievesBelieves p q x) (Sees p' x') v u e = cc
  meaning_once (BelievesBelieves p q x) (Believes p' x') v u e = cc
  meaning_once (BelievesBelieves p q x) (BelievesFresh p' x') v u e = cc
  meaning_once (BelievesBelieves p q x) (BelievesSaid p' q' x') v u e = cc
  meaning_once (BelievesBelieves p q x) (BelievesBelieves p' q' x') v u e =
      let a = same_principal p p' v.0 u.0 (cc) in
      let b = same_principal q q' v.1 u.1 (cc) in
      let c = same_formula x x' v.2.0 u.2.0 (cc) in
      cc

  recorded_principal : (p : ℕ) → IsPrincipal fs p → Recorded fs (principal (name_of fs p))
  recorded_principal p g = (p, principal_in fs p g, principal_is fs ok p g)

  control_is : (x : ℕ) → (record_of fs x).kind ≡ 15 → tree_of fs x ≡ controls (name_of fs (record_of fs x).first) (tree_of fs (record_of fs x).second)
  unfolding built
  control_is x k = tree_is fs ok x (is_record fs x (λ z. omega arith)) ∙ simp k

  -- the tree of a recorded formula is a formula over the leaves of the book
  well_formed_built : (k a b c : ℕ) → FormulaKind k
      → Recorded fs (built (tree_of fs) (record_of fs) (record { kind = k; first = a; second = b; third = c }))
      → T (is_formula k)
      → EachField (λ s y. MayBe s (record_of fs y).kind) (record { kind = k; first = a; second = b; third = c })
      → EachField (λ s y. T (refers s) → IsFormula fs y → WellFormed (Recorded fs) (tree_of fs y)) (record { kind = k; first = a; second = b; third = c })
      → ((k ≡ 8) ⊎ (k ≡ 10) → name_of fs a < name_of fs c) → (k ≡ 17 → T (may_delegate (name_of fs a) (tree_of fs b)))
      → WellFormed (Recorded fs) (built (tree_of fs) (record_of fs) (record { kind = k; first = a; second = b; third = c }))
  unfolding built body_of bodies
  well_formed_built k a b c kind1 r t s h rise may = absurd t
  well_formed_built k a b c kind2 r t s h rise may = absurd t
  well_formed_built k a b c kind3 r t s h rise may = r
  well_formed_built k a b c kind4 r t s h rise may = (h.0 tt (form_of fs a s.0), h.1 tt (form_of fs b s.1))
  well_formed_built k a b c kind5 r t s h rise may = (h.0 tt (form_of fs a s.0), recorded_principal c s.2)
  well_formed_built k a b c kind6 r t s h rise may = (h.0 tt (form_of fs a s.0), recorded_principal c s.2)
  well_formed_built k a b c kind7 r t s h rise may = (h.0 tt (form_of fs a s.0), h.1 tt (form_of fs b s.1))
  well_formed_built k a b c kind8 r t s h rise may = (recorded_principal a s.0, recorded_principal c s.2, rise (inl refl))
  well_formed_built k a b c kind9 r t s h rise may = recorded_principal b s.1
  well_formed_built k a b c kind10 r t s h rise may = (recorded_principal a s.0, h.1 tt (form_of fs b s.1), recorded_principal c s.2, rise (inr refl))
  well_formed_built k a b c kind11 r t s h rise may = h.0 tt (form_of fs a s.0)
  well_formed_built k a b c kind12 r t s h rise may = (recorded_principal a s.0, h.1 tt (form_of fs b s.1))
  well_formed_built k a b c kind13 r t s h rise may = (recorded_principal a s.0, h.1 tt (form_of fs b s.1))
  well_formed_built k a b c kind14 r t s h rise may = (recorded_principal a s.0, h.1 tt (form_of fs b s.1))
  well_formed_built k a b c kind15 r t s h rise may = (recorded_principal a s.0, h.1 tt (form_of fs b s.1))
  well_formed_built k a b c kind16 r t s h rise may = absurd t
  well_formed_built k a b c kind17 r t s h rise may =
      (h.1 tt (rw s.1 tt), (name_of fs (record_of fs b).first, tree_of fs (record_of fs b).second, control_is b s.1), may refl)

  well_formed_below : (n x : ℕ) → x < n → IsFormula fs x → WellFormed (Recorded fs) (tree_of fs x)
  well_formed_below zero x l t = absurd (omega arith)
  well_formed_below (suc n) x l t =
      let b = formula_in_lem fs x t in
      let r = record_of fs x in
      let e = tree_is fs ok x b in
      let g = ok.earlier x b in
      let near : (y : ℕ) → y < x → IsFormula fs y → WellFormed (Recorded fs) (tree_of fs y) =
      λ y m f. well_formed_below n y (omega arith) f in
      rw e
      (well_formed_built r.kind r.first r.second r.third (kind_of_lem fs ok x b) (x, b, e) t (ok.sorts x b)
      ((λ u. near r.first (g.0 u)), (λ u. near r.second (g.1 u)), (λ u. near r.third (g.2 u)))
      (ok.rising x b) (ok.delegations x b))

  pub well_formed : (x : ℕ) → IsFormula fs x → WellFormed (Recorded fs) (tree_of fs x)
  well_formed x t = well_formed_below (suc x) x (omega arith) t

  sentence : (x : ℕ) → IsSentence fs x → Sentence (Recorded fs) (tree_of fs x)
  sentence x t = (well_formed x t.0, t.1)

  -- a written fact means a fact over trees
  pub is_fact : (g : Fact ℕ) → Valid fs g → IsFact (Recorded fs) (meaning fs g)
  is_fact (Sees p x) v = (recorded_principal p v.0, sentence x v.1)
  is_fact (Believes p x) v = (
    recorded_principal p v.0,
    sentence x v.1,
    stays_belief (name_of fs p) (tree_of fs x) (rw (kind_is fs ok x (formula_in_lem fs x v.1.0)) v.2),
  )
  is_fact (BelievesFresh p x) v = (recorded_principal p v.0, sentence x v.1)
  is_fact (BelievesSaid p q x) v = (recorded_principal p v.0, recorded_principal q v.1, sentence x v.2)
  is_fact (BelievesBelieves p q x) v = (recorded_principal p v.0, recorded_principal q v.1, sentence x v.2)

  -- and it is about a record
  pub about_record : (g : Fact ℕ) → Valid fs g → Recorded fs (formula_of (meaning fs g))
  about_record (Sees p x) v = (x, formula_in_lem fs x v.1.0, refl)
  about_record (Believes p x) v = (x, formula_in_lem fs x v.1.0, refl)
  about_record (BelievesFresh p x) v = (x, formula_in_lem fs x v.1.0, refl)
  about_record (BelievesSaid p q x) v = (x, formula_in_lem fs x v.2.0, refl)
  about_record (BelievesBelieves p q x) v = (x, formula_in_lem fs x v.2.0, refl)

  -- a recorded principal has a number, and so has a recorded formula
  numbered_principal : (P : ℕ) → Recorded fs (principal P) → (p : ℕ) × IsPrincipal fs p × (name_of fs p ≡ P)
  numbered_principal P (p, l, e) =
      let k : (record_of fs p).kind ≡ 1 = sym (kind_is fs ok p l) ∙ ap kind_of e in
      let d = principal_is fs ok p k in
      (p, k, (cc))

  numbered_formula : (X : Tree) → Sentence (Recorded fs) X → Recorded fs X
      → (x : ℕ) × IsSentence fs x × (tree_of fs x ≡ X) × ((record_of fs x).kind ≡ kind_of X)
  numbered_formula X w (x, l, e) =
      let k : (record_of fs x).kind ≡ kind_of X = sym (kind_is fs ok x l) ∙ ap kind_of e in
      (x, (rw k (formula_kinds (Recorded fs) X w.0), rw e w.1), e, k)

  -- a fact over trees that is about a record can be written
  pub written_as : (f : Fact Tree) → IsFact (Recorded fs) f → Recorded fs (formula_of f) → (g : Fact ℕ) × Valid fs g × (meaning fs g ≡ f)
  written_as (Sees P X) i r =
      let a = numbered_principal P i.0 in
      let b = numbered_formula X i.1 r in
      (Sees a.0 b.0, (a.1, b.1), rw (a.2, b.2))
  written_as (Believes P X) i r =
      let a = numbered_principal P i.0 in
      let b = numbered_formula X i.1 r in
      (Believes a.0 b.0, (a.1, b.1, rw b.3 (unopened P X i.2)), rw (a.2, b.2))
  written_as (BelievesFresh P X) i r =
      let a = numbered_principal P i.0 in
      let b = numbered_formula X i.1 r in
      (BelievesFresh a.0 b.0, (a.1, b.1), rw (a.2, b.2))
  written_as (BelievesSaid P Q X) i r =
      let a = numbered_principal P i.0 in
      let c = numbered_principal Q i.1 in
      let b = numbered_formula X i.2 r in
      (BelievesSaid a.0 c.0 b.0, (a.1, c.1, b.1), rw (a.2, c.2, b.2))
  written_as (BelievesBelieves P Q X) i r =
      let a = numbered_principal P i.0 in
      let c = numbered_principal Q i.1 in
      let b = numbered_formula X i.2 r in
      (BelievesBelieves a.0 c.0 b.0, (a.1, c.1, b.1), rw (a.2, c.2, b.2))
