-- The rules on records. Each instance of a rule whose facts can be written is one of these, and each of these is an instance of
-- the rule with its number: so a checker may compare record numbers, and a search may stay among the records.
use Prim.Native.Nat.{ℕ}
use mathlib.Core.Path.{◌≡◌, refl, sym, ◌∙◌, ap}
use mathlib.Core.Logic.{◌⊎◌, inl, inr, ◌≢◌}
use mathlib.Core.List.{List, [], ◌∷◌, ◌++◌, map}
use native.Mathlib.Omega.{arith}
use lib.Dec.{T}
use Rattle.logic.specs.declared.Record.{Record}
use Rattle.logic.specs.Kind.{body_of, bodies}
use Rattle.logic.specs.Book.{All, Closed}
use Rattle.logic.specs.Formula.{loose, clear, record_of, name_of, tree_of}
use Rattle.logic.specs.Formula.Tree.{conjunction, controls, for_every}
use Rattle.logic.specs.Instance.{put, IsInstance}
use Rattle.logic.specs.Fact.{Fact, belief}
use Rattle.logic.specs.Fact.Fact.{Sees, Believes, BelievesFresh, BelievesSaid, BelievesBelieves}
use Rattle.logic.specs.Rule.{Rule, Ends}
use Rattle.logic.specs.Rule.Rule.{rule1, rule2, rule3, rule4, rule5, rule6, rule7, rule8, rule9, rule10, rule11, rule12, rule13, rule14, rule15, rule16, rule17, rule18, rule19, rule20, rule21, rule22}
use Rattle.logic.specs.Written.{meaning, opened}
use Rattle.logic.proofs.Formulas.{Formulas, is_record}
use Rattle.logic.proofs.Loose.{no_left, no_right, allowed_closed}
use Rattle.logic.proofs.Meaning.{IsPrincipal, IsFormula, IsSentence, Valid, formula_in_lem, form_of, same_principal}
use Rattle.logic.proofs.ByKind.{fields, conjunction_is, encrypted_is, signed_is, combined_is, shared_key_is, public_key_is, shared_secret_is, controls_is, for_every_is, opened_is, opened_valid, opened_principal}

-- formula x is formula y with one key put for the variable v throughout
abbrev pub InstanceOn : List Record → (v y x : ℕ) → Type 0
InstanceOn fs v y x = IsInstance (name_of fs v) (tree_of fs y) (tree_of fs x)

-- An instance of the rule with this number on records, with its premises and its conclusion: p and q are principals, y is the record of a
-- key or a secret, e is the record that is taken apart or put together, d is a kind 17. Its conditions are about the fields of those records;
-- what is put together has no loose variable, and what a kind 17 is applied to is an instance, as trees.
pub data RuleOn (fs : List Record) : ℕ → List (Fact ℕ) → Fact ℕ → Type 0 where
  record1 : (p q y e : ℕ) → (record_of fs y).kind ≡ 8 → (record_of fs e).kind ≡ 5 → (record_of fs y).second ≡ (record_of fs e).second
      → Ends p q (record_of fs y).first (record_of fs y).third → (record_of fs e).third ≢ p
      → RuleOn fs 1 (Believes p y ∷ Sees p e ∷ []) (BelievesSaid p q (record_of fs e).first)
  record2 : (p y e : ℕ) → (record_of fs y).kind ≡ 9 → (record_of fs e).kind ≡ 6 → (record_of fs y).first ≡ (record_of fs e).second
      → (record_of fs e).third ≢ p
      → RuleOn fs 2 (Believes p y ∷ Sees p e ∷ []) (BelievesSaid p (record_of fs y).second (record_of fs e).first)
  record3 : (p q y e : ℕ) → (record_of fs y).kind ≡ 10 → (record_of fs e).kind ≡ 7 → (record_of fs y).second ≡ (record_of fs e).second
      → Ends p q (record_of fs y).first (record_of fs y).third
      → RuleOn fs 3 (Believes p y ∷ Sees p e ∷ []) (BelievesSaid p q (record_of fs e).first)
  record4 : (p q x : ℕ) → T (clear (tree_of fs x)) → RuleOn fs 4 (BelievesFresh p x ∷ BelievesSaid p q x ∷ []) (BelievesBelieves p q x)
  record5 : (p e : ℕ) → (record_of fs e).kind ≡ 15
      → RuleOn fs 5 (Believes p e ∷ BelievesBelieves p (record_of fs e).first (record_of fs e).second ∷ []) (opened fs p (record_of fs e).second)
  record6 : (p e : ℕ) → (record_of fs e).kind ≡ 4 → RuleOn fs 6 (Sees p e ∷ []) (Sees p (record_of fs e).first)
  record7 : (p e : ℕ) → (record_of fs e).kind ≡ 4 → RuleOn fs 7 (Sees p e ∷ []) (Sees p (record_of fs e).second)
  record8 : (p e : ℕ) → (record_of fs e).kind ≡ 7 → RuleOn fs 8 (Sees p e ∷ []) (Sees p (record_of fs e).first)
  record9 : (p q y e : ℕ) → (record_of fs y).kind ≡ 8 → (record_of fs e).kind ≡ 5 → (record_of fs y).second ≡ (record_of fs e).second
      → Ends p q (record_of fs y).first (record_of fs y).third → (record_of fs e).third ≢ p
      → RuleOn fs 9 (Believes p y ∷ Sees p e ∷ []) (Sees p (record_of fs e).first)
  record10 : (p y e : ℕ) → (record_of fs y).kind ≡ 9 → (record_of fs e).kind ≡ 5 → (record_of fs y).first ≡ (record_of fs e).second
      → (record_of fs y).second ≡ p → (record_of fs e).third ≢ p
      → RuleOn fs 10 (Believes p y ∷ Sees p e ∷ []) (Sees p (record_of fs e).first)
  record11 : (p y e : ℕ) → (record_of fs y).kind ≡ 9 → (record_of fs e).kind ≡ 6 → (record_of fs y).first ≡ (record_of fs e).second
      → (record_of fs e).third ≢ p
      → RuleOn fs 11 (Believes p y ∷ Sees p e ∷ []) (Sees p (record_of fs e).first)
  record12 : (p e : ℕ) → (record_of fs e).kind ≡ 4 → Closed fs e → RuleOn fs 12 (BelievesFresh p (record_of fs e).first ∷ []) (BelievesFresh p e)
  record13 : (p e : ℕ) → (record_of fs e).kind ≡ 4 → Closed fs e → RuleOn fs 13 (BelievesFresh p (record_of fs e).second ∷ []) (BelievesFresh p e)
  record14 : (p q e : ℕ) → (record_of fs e).kind ≡ 4 → RuleOn fs 14 (BelievesSaid p q e ∷ []) (BelievesSaid p q (record_of fs e).first)
  record15 : (p q e : ℕ) → (record_of fs e).kind ≡ 4 → RuleOn fs 15 (BelievesSaid p q e ∷ []) (BelievesSaid p q (record_of fs e).second)
  record16 : (p q e : ℕ) → (record_of fs e).kind ≡ 4 → RuleOn fs 16 (BelievesBelieves p q e ∷ []) (BelievesBelieves p q (record_of fs e).first)
  record17 : (p q e : ℕ) → (record_of fs e).kind ≡ 4 → RuleOn fs 17 (BelievesBelieves p q e ∷ []) (BelievesBelieves p q (record_of fs e).second)
  record18 : (p e : ℕ) → (record_of fs e).kind ≡ 4 → RuleOn fs 18 (Believes p e ∷ []) (opened fs p (record_of fs e).first)
  record19 : (p e : ℕ) → (record_of fs e).kind ≡ 4 → RuleOn fs 19 (Believes p e ∷ []) (opened fs p (record_of fs e).second)
  record20 : (p e : ℕ) → (record_of fs e).kind ≡ 4 → Closed fs e
      → RuleOn fs 20 (opened fs p (record_of fs e).first ∷ opened fs p (record_of fs e).second ∷ []) (Believes p e)
  record21 : (p d x : ℕ) → (record_of fs d).kind ≡ 17 → InstanceOn fs (record_of fs d).first (record_of fs (record_of fs d).second).second x
      → RuleOn fs 21 (Believes p d ∷ BelievesBelieves p (record_of fs (record_of fs d).second).first x ∷ []) (opened fs p x)
  record22 : (p d c : ℕ) → (record_of fs d).kind ≡ 17 → (record_of fs c).kind ≡ 15 → InstanceOn fs (record_of fs d).first (record_of fs d).second c
      → RuleOn fs 22 (Believes p d ∷ []) (Believes p c)

module _ (fs : List Record) (ok : Formulas fs) where
  -- the three fields of record x
  abbrev first : ℕ → ℕ
  first x = (record_of fs x).first

  abbrev second : ℕ → ℕ
  second x = (record_of fs x).second

  abbrev third : ℕ → ℕ
  third x = (record_of fs x).third

  -- an end of a shared key or secret is a principal
  ends_principal : (p q a b : ℕ) → Ends p q a b → IsPrincipal fs a → IsPrincipal fs b → IsPrincipal fs q
  ends_principal p q a b (inl e) i j = rw e.1 j
  ends_principal p q a b (inr e) i j = rw e.1 i

  -- principals that differ have different names, and the ends of a key have the names of its ends
  other_name_lem : (p r : ℕ) → IsPrincipal fs p → IsPrincipal fs r → r ≢ p → name_of fs r ≢ name_of fs p
  other_name_lem p r i j n e = n (same_principal fs ok r p j i e)

  ends_names : (p q a b : ℕ) → Ends p q a b → Ends (name_of fs p) (name_of fs q) (name_of fs a) (name_of fs b)
  ends_names p q a b (inl e) = inl (ap (name_of fs) e.0, ap (name_of fs) e.1)
  ends_names p q a b (inr e) = inr (ap (name_of fs) e.0, ap (name_of fs) e.1)

  -- the parts of a conjunction are formulas
  pair : (e : ℕ) → (record_of fs e).kind ≡ 4
      → IsFormula fs (first e) × IsFormula fs (second e) × (tree_of fs e ≡ conjunction (tree_of fs (first e)) (tree_of fs (second e)))
  unfolding body_of bodies
  pair e k =
      let h = fields fs ok e 4 k (λ z. omega arith) in
      (form_of fs (first e) h.0, form_of fs (second e) h.1, conjunction_is fs ok e k)

  -- what is in a formula without loose variables has none
  inner : (e x : ℕ) (l : List ℕ) → loose (tree_of fs e) ≡ loose (tree_of fs x) ++ l → Closed fs e → Closed fs x
  inner e x l d c = no_left (loose (tree_of fs x)) l (sym d ∙ c)

  -- the formula that is encrypted, signed or combined with a secret
  sealed : (e k : ℕ) → (record_of fs e).kind ≡ k → (k ≡ 5) ⊎ ((k ≡ 6) ⊎ (k ≡ 7)) → IsSentence fs e → IsSentence fs (first e)
  unfolding body_of bodies
  sealed e k d (inl z) s =
      let m = d ∙ z in
      (form_of fs (first e) (fields fs ok e 5 m (λ z. omega arith)).0, inner e (first e) _ (ap loose (encrypted_is fs ok e m)) s.1)
  sealed e k d (inr (inl z)) s =
      let m = d ∙ z in
      (form_of fs (first e) (fields fs ok e 6 m (λ z. omega arith)).0, inner e (first e) _ (ap loose (signed_is fs ok e m)) s.1)
  sealed e k d (inr (inr z)) s =
      let m = d ∙ z in
      (form_of fs (first e) (fields fs ok e 7 m (λ z. omega arith)).0, inner e (first e) _ (ap loose (combined_is fs ok e m)) s.1)

  -- the parts of a conjunction
  pub halves : (e : ℕ) → (record_of fs e).kind ≡ 4 → IsSentence fs e → IsSentence fs (first e) × IsSentence fs (second e)
  halves e k s =
      let h = pair e k in
      let c : loose (tree_of fs (first e)) ++ loose (tree_of fs (second e)) ≡ [] = ap loose (sym h.2) ∙ s.1 in
      ((h.0, no_left (loose (tree_of fs (first e))) _ c), (h.1, no_right (loose (tree_of fs (first e))) _ c))

  -- a kind 17 and the formula under it
  pub delegation : (d : ℕ) → (record_of fs d).kind ≡ 17
      → ((record_of fs (second d)).kind ≡ 15)
      × (tree_of fs d ≡ for_every (name_of fs (first d)) (controls (name_of fs (first (second d))) (tree_of fs (second (second d)))))
  unfolding body_of bodies
  delegation d k =
      let h = fields fs ok d 17 k (λ z. omega arith) in
      (h.1, for_every_is fs ok d k ∙ ap (for_every (name_of fs (first d))) (controls_is fs ok (second d) h.1))

  -- the belief in a formula, opened, means the belief in its tree, opened
  means : (p x : ℕ) → IsFormula fs x → meaning fs (opened fs p x) ≡ belief (name_of fs p) (tree_of fs x)
  means p x f = opened_is fs ok p x (formula_in_lem fs x f)

  -- EACH INSTANCE ON RECORDS between facts that can be written is an instance of the rule over trees, and its conclusion can be written
  pub raised : {n : ℕ} {gs : List (Fact ℕ)} {g : Fact ℕ} → RuleOn fs n gs g → All (Valid fs) gs
      → Valid fs g × Rule n (map (meaning fs) gs) (meaning fs g)
  unfolding body_of bodies
  raised (record1 p q y e ky ke k ends other) v =
      let h = fields fs ok y 8 ky (λ z. omega arith) in
      let f = fields fs ok e 5 ke (λ z. omega arith) in (
        (v.0.0, ends_principal p q (first y) (third y) ends h.0 h.2, sealed e 5 ke (inl refl) v.1.0.1),
        rw (shared_key_is fs ok y ky, encrypted_is fs ok e ke, k)
            (rule1 _ _ _ _ _ _ _ (ends_names p q (first y) (third y) ends) (other_name_lem p (third e) v.0.0 f.2 other)),
      )
  raised (record2 p y e ky ke k other) v =
      let h = fields fs ok y 9 ky (λ z. omega arith) in
      let f = fields fs ok e 6 ke (λ z. omega arith) in (
        (v.0.0, h.1, sealed e 6 ke (inr (inl refl)) v.1.0.1),
        rw (public_key_is fs ok y ky, signed_is fs ok e ke, k) (rule2 _ _ _ _ _ (other_name_lem p (third e) v.0.0 f.2 other)),
      )
  raised (record3 p q y e ky ke k ends) v =
      let h = fields fs ok y 10 ky (λ z. omega arith) in (
        (v.0.0, ends_principal p q (first y) (third y) ends h.0 h.2, sealed e 7 ke (inr (inr refl)) v.1.0.1),
        rw (shared_secret_is fs ok y ky, combined_is fs ok e ke, k) (rule3 _ _ _ _ _ _ (ends_names p q (first y) (third y) ends)),
      )
  raised (record4 p q x is_clear) v = (v.1.0, rule4 _ _ _ is_clear)
  raised (record5 p e k) v =
      let f = v.1.0.2 in
      (opened_valid fs ok p (second e) v.0.0 f, rw (controls_is fs ok e k, means p (second e) f.0) (rule5 _ _ _))
  raised (record6 p e k) v = ((v.0.0, (halves e k v.0.1).0), rw (pair e k).2 (rule6 _ _ _))
  raised (record7 p e k) v = ((v.0.0, (halves e k v.0.1).1), rw (pair e k).2 (rule7 _ _ _))
  raised (record8 p e k) v = ((v.0.0, sealed e 7 k (inr (inr refl)) v.0.1), rw (combined_is fs ok e k) (rule8 _ _ _))
  raised (record9 p q y e ky ke k ends other) v =
      let f = fields fs ok e 5 ke (λ z. omega arith) in (
        (v.0.0, sealed e 5 ke (inl refl) v.1.0.1),
        rw (shared_key_is fs ok y ky, encrypted_is fs ok e ke, k)
            (rule9 _ (name_of fs q) _ _ _ _ _ (ends_names p q (first y) (third y) ends) (other_name_lem p (third e) v.0.0 f.2 other)),
      )
  raised (record10 p y e ky ke k own other) v =
      let f = fields fs ok e 5 ke (λ z. omega arith) in (
        (v.0.0, sealed e 5 ke (inl refl) v.1.0.1),
        rw (public_key_is fs ok y ky, encrypted_is fs ok e ke, k, own) (rule10 _ _ _ _ (other_name_lem p (third e) v.0.0 f.2 other)),
      )
  raised (record11 p y e ky ke k other) v =
      let f = fields fs ok e 6 ke (λ z. omega arith) in (
        (v.0.0, sealed e 6 ke (inr (inl refl)) v.1.0.1),
        rw (public_key_is fs ok y ky, signed_is fs ok e ke, k) (rule11 _ _ _ _ _ (other_name_lem p (third e) v.0.0 f.2 other)),
      )
  raised (record12 p e k c) v = ((v.0.0, (rw k tt, c)), rw (conjunction_is fs ok e k) (rule12 _ _ _))
  raised (record13 p e k c) v = ((v.0.0, (rw k tt, c)), rw (conjunction_is fs ok e k) (rule13 _ _ _))
  raised (record14 p q e k) v = ((v.0.0, v.0.1, (halves e k v.0.2).0), rw (pair e k).2 (rule14 _ _ _ _))
  raised (record15 p q e k) v = ((v.0.0, v.0.1, (halves e k v.0.2).1), rw (pair e k).2 (rule15 _ _ _ _))
  raised (record16 p q e k) v = ((v.0.0, v.0.1, (halves e k v.0.2).0), rw (pair e k).2 (rule16 _ _ _ _))
  raised (record17 p q e k) v = ((v.0.0, v.0.1, (halves e k v.0.2).1), rw (pair e k).2 (rule17 _ _ _ _))
  raised (record18 p e k) v =
      let h = pair e k in
      (opened_valid fs ok p (first e) v.0.0 (halves e k v.0.1).0, rw (means p (first e) h.0, h.2) (rule18 _ _ _))
  raised (record19 p e k) v =
      let h = pair e k in
      (opened_valid fs ok p (second e) v.0.0 (halves e k v.0.1).1, rw (means p (second e) h.1, h.2) (rule19 _ _ _))
  raised (record20 p e k c) v =
      let h = pair e k in (
        (opened_principal fs ok p (first e) v.0, (rw k tt, c), rw k tt),
        rw (means p (first e) h.0, means p (second e) h.1, h.2) (rule20 _ _ _),
      )
  raised (record21 p d x k i) v =
      let f = v.1.0.2 in
      (opened_valid fs ok p x v.0.0 f, rw ((delegation d k).1, means p x f.0) (rule21 _ _ _ _ _ i))
  raised (record22 p d c k kc (n, e)) v =
      let h = delegation d k in
      let z = controls_is fs ok (second d) h.0 in
      let t = e ∙ ap (put (name_of fs (first d)) n) z in
      let u = allowed_closed (name_of fs (first d)) n (tree_of fs (second d)) (ok.delegations d (is_record fs d (λ z. omega arith)) k) in
      ((v.0.0, (rw kc tt, ap loose e ∙ u), rw kc tt), rw (h.1, t) (rule22 _ _ _ _ _ (n, refl)))
