-- Each instance of a rule whose premises and conclusion can be written is an instance on records.
use Prim.Native.Nat.{ℕ}
use mathlib.Core.Path.{◌≡◌, refl, sym, ◌∙◌, ap, ap₂, subst₂}
use mathlib.Core.Logic.{inl, inr, ◌≢◌, ◌↔◌}
use mathlib.Core.List.{List, [], ◌∷◌, map}
use native.Mathlib.Omega.{arith}
use Rattle.logic.specs.declared.Record.{Record}
use Rattle.logic.specs.Kind.{body_of, bodies}
use Rattle.logic.specs.Book.{All}
use Rattle.logic.specs.Formula.{KeyField, Tree, loose, record_of, name_of, tree_of}
use Rattle.logic.specs.Formula.Tree.{conjunction, encrypted, signed, shared_key, public_key, controls, for_every}
use Rattle.logic.specs.Fact.{Fact, belief}
use Rattle.logic.specs.Fact.Fact.{Sees, Believes, BelievesFresh, BelievesSaid, BelievesBelieves}
use Rattle.logic.specs.Rule.{Rule, Ends}
use Rattle.logic.specs.Rule.Rule.{rule1, rule2, rule3, rule4, rule5, rule6, rule7, rule8, rule9, rule10, rule11, rule12, rule13, rule14, rule15, rule16, rule17, rule18, rule19, rule20, rule21, rule22}
use Rattle.logic.specs.Written.{meaning, opened}
use Rattle.logic.proofs.Formulas.{Formulas}
use Rattle.logic.proofs.Closure.{formula_of}
use Rattle.logic.proofs.Holder.{holder}
use Rattle.logic.proofs.Meaning.{IsPrincipal, IsFormula, IsSentence, Valid, formula_in_lem, form_of, same_principal, same_key, same_formula, meaning_once}
use Rattle.logic.proofs.ByKind.{fields, opened_is, opened_valid, conjunction_at, encrypted_at, signed_at, combined_at, shared_key_at, public_key_at, shared_secret_at, controls_at, for_every_at}
use Rattle.logic.proofs.RuleOn.{RuleOn, halves, delegation, raised}
use Rattle.logic.proofs.RuleOn.RuleOn.{record1, record2, record3, record4, record5, record6, record7, record8, record9, record10, record11, record12, record13, record14, record15, record16, record17, record18, record19, record20, record21, record22}

-- The numbers of a written fact that means a fact about P and X, or about P, Q and X.
pub record Numbers (fs : List Record) (P : ℕ) (X : Tree) : Type 0 where
  pub p : ℕ
  pub x : ℕ
  pub principal : IsPrincipal fs p
  pub sentence : IsSentence fs x
  pub name : name_of fs p ≡ P
  pub tree : tree_of fs x ≡ X

pub record Numbers₂ (fs : List Record) (P Q : ℕ) (X : Tree) : Type 0 where
  pub p : ℕ
  pub q : ℕ
  pub x : ℕ
  pub principal : IsPrincipal fs p
  pub other : IsPrincipal fs q
  pub sentence : IsSentence fs x
  pub name : name_of fs p ≡ P
  pub other_name : name_of fs q ≡ Q
  pub tree : tree_of fs x ≡ X

numbers : (fs : List Record) (g : Fact ℕ) {f : Fact Tree} → Valid fs g → meaning fs g ≡ f → Numbers fs (holder f) (formula_of f)
numbers fs (Sees p x) v e = record { p = p; x = x; principal = v.0; sentence = v.1; name = ap holder e; tree = ap formula_of e }
numbers fs (Believes p x) v e = record { p = p; x = x; principal = v.0; sentence = v.1; name = ap holder e; tree = ap formula_of e }
numbers fs (BelievesFresh p x) v e = record { p = p; x = x; principal = v.0; sentence = v.1; name = ap holder e; tree = ap formula_of e }
numbers fs (BelievesSaid p q x) v e = record { p = p; x = x; principal = v.0; sentence = v.2; name = ap holder e; tree = ap formula_of e }
numbers fs (BelievesBelieves p q x) v e = record { p = p; x = x; principal = v.0; sentence = v.2; name = ap holder e; tree = ap formula_of e }

said_numbers : (fs : List Record) (g : Fact ℕ) {P Q : ℕ} {X : Tree} → Valid fs g → meaning fs g ≡ BelievesSaid P Q X → Numbers₂ fs P Q X
said_numbers fs (Sees p x) v e = absurd (let z : ◌≡◌ {A = ℕ} 0 1 = cc in omega arith)
said_numbers fs (Believes p x) v e = absurd (let z : ◌≡◌ {A = ℕ} 0 1 = cc in omega arith)
said_numbers fs (BelievesFresh p x) v e = absurd (let z : ◌≡◌ {A = ℕ} 0 1 = cc in omega arith)
said_numbers fs (BelievesSaid p q x) v e = record { p = p; q = q; x = x; principal = v.0; other = v.1; sentence = v.2; name = (cc); other_name = (cc); tree = (cc) }
said_numbers fs (BelievesBelieves p q x) v e = absurd (let z : ◌≡◌ {A = ℕ} 0 1 = cc in omega arith)

believed_numbers : (fs : List Record) (g : Fact ℕ) {P Q : ℕ} {X : Tree} → Valid fs g → meaning fs g ≡ BelievesBelieves P Q X → Numbers₂ fs P Q X
believed_numbers fs (Sees p x) v e = absurd (let z : ◌≡◌ {A = ℕ} 0 1 = cc in omega arith)
believed_numbers fs (Believes p x) v e = absurd (let z : ◌≡◌ {A = ℕ} 0 1 = cc in omega arith)
believed_numbers fs (BelievesFresh p x) v e = absurd (let z : ◌≡◌ {A = ℕ} 0 1 = cc in omega arith)
believed_numbers fs (BelievesSaid p q x) v e = absurd (let z : ◌≡◌ {A = ℕ} 0 1 = cc in omega arith)
believed_numbers fs (BelievesBelieves p q x) v e = record { p = p; q = q; x = x; principal = v.0; other = v.1; sentence = v.2; name = (cc); other_name = (cc); tree = (cc) }

-- written facts that mean one fact, or two
one : (fs : List Record) (gs : List (Fact ℕ)) {f : Fact Tree} → All (Valid fs) gs → map (meaning fs) gs ≡ f ∷ []
    → (g : Fact ℕ) × Valid fs g × (meaning fs g ≡ f)
one fs [] v e = absurd (let z : ◌≡◌ {A = ℕ} 0 1 = cc in omega arith)
one fs (g ∷ gs) v e = (g, v.0, (cc))

two : (fs : List Record) (gs : List (Fact ℕ)) {f f' : Fact Tree} → All (Valid fs) gs → map (meaning fs) gs ≡ f ∷ f' ∷ []
    → ((g : Fact ℕ) × Valid fs g × (meaning fs g ≡ f)) × ((g : Fact ℕ) × Valid fs g × (meaning fs g ≡ f'))
two fs [] v e = absurd (let z : ◌≡◌ {A = ℕ} 0 1 = cc in omega arith)
two fs (g ∷ []) v e = absurd (let z : ◌≡◌ {A = ℕ} 0 1 = cc in omega arith)
two fs (g ∷ h ∷ gs) v e = ((g, v.0, (cc)), (h, v.1.0, (cc)))

one_numbers : (fs : List Record) (gs : List (Fact ℕ)) {f : Fact Tree} → All (Valid fs) gs → map (meaning fs) gs ≡ f ∷ [] → Numbers fs (holder f) (formula_of f)
one_numbers fs gs v e = let h = one fs gs v e in numbers fs h.0 h.1 h.2

-- the numbers of a key or secret that is believed, and of a formula that is seen
believed_and_seen : (fs : List Record) (gs : List (Fact ℕ)) {P : ℕ} {Y Z : Tree} → All (Valid fs) gs
    → map (meaning fs) gs ≡ Believes P Y ∷ Sees P Z ∷ [] → Numbers fs P Y × Numbers fs P Z
believed_and_seen fs gs {P} {Y} {Z} v e =
    let h = two fs gs v e in
    (numbers fs h.0.0 h.0.1 h.0.2, numbers fs h.1.0 h.1.1 h.1.2)

module _ (fs : List Record) (ok : Formulas fs) where
  -- lists of written facts that mean the same are the same
  pub meanings_once : (gs hs : List (Fact ℕ)) → All (Valid fs) gs → All (Valid fs) hs
      → map (meaning fs) gs ≡ map (meaning fs) hs → gs ≡ hs
  meanings_once [] [] v u e = refl
  meanings_once [] (h ∷ hs) v u e = cc
  meanings_once (g ∷ gs) [] v u e = cc
  meanings_once (g ∷ gs) (h ∷ hs) v u e =
      ap₂ (λ s t. s ∷ t) (meaning_once fs ok g h v.0 u.0 (cc)) (meanings_once gs hs v.1 u.1 (cc))

  -- the ends of a key by their names
  ends_numbers : (p q a b P Q A B : ℕ) → IsPrincipal fs p → IsPrincipal fs q → IsPrincipal fs a → IsPrincipal fs b
      → name_of fs p ≡ P → name_of fs q ≡ Q → name_of fs a ≡ A → name_of fs b ≡ B → Ends P Q A B → Ends p q a b
  ends_numbers p q a b P Q A B i j k l e f g h (inl (m, n)) =
      inl (same_principal fs ok p a i k (cc), same_principal fs ok q b j l (cc))
  ends_numbers p q a b P Q A B i j k l e f g h (inr (m, n)) =
      inr (same_principal fs ok p b i l (cc), same_principal fs ok q a j k (cc))

  -- the other end, where only one is known
  other_end : (p a b P Q A B : ℕ) → IsPrincipal fs p → IsPrincipal fs a → IsPrincipal fs b
      → name_of fs p ≡ P → name_of fs a ≡ A → name_of fs b ≡ B → Ends P Q A B → (q : ℕ) × Ends p q a b
  other_end p a b P Q A B i k l e g h (inl (m, n)) = (b, inl (same_principal fs ok p a i k (cc), refl))
  other_end p a b P Q A B i k l e g h (inr (m, n)) = (a, inr (same_principal fs ok p b i l (cc), refl))

  other_number : (p r P R : ℕ) → name_of fs p ≡ P → name_of fs r ≡ R → R ≢ P → r ≢ p
  other_number p r P R e f n d = n (sym f ∙ (ap (name_of fs) d ∙ e))

  -- an instance on records between written facts that mean the same as gs and g is one between gs and g
  settled : {n : ℕ} {hs gs : List (Fact ℕ)} {h g : Fact ℕ} → All (Valid fs) gs → Valid fs g → RuleOn fs n hs h → All (Valid fs) hs
      → map (meaning fs) hs ≡ map (meaning fs) gs → meaning fs h ≡ meaning fs g → RuleOn fs n gs g
  settled {n} {hs} {gs} {h} {g} vs v r us d e =
      subst₂ (RuleOn fs n) (meanings_once hs gs us vs d) (meaning_once fs ok h g (raised fs ok r us).0 v e) r

  -- the numbers in a key that P shares and a section under it
  shared : (A : ℕ) (K : KeyField) (B R P : ℕ) (X : Tree) (a : Numbers fs P (shared_key A K B)) (b : Numbers fs P (encrypted X K R)) → R ≢ P
      → ((record_of fs a.x).kind ≡ 8) × ((record_of fs b.x).kind ≡ 5) × ((record_of fs a.x).second ≡ (record_of fs b.x).second)
      × ((record_of fs b.x).third ≢ a.p) × (tree_of fs (record_of fs b.x).first ≡ X)
  unfolding body_of bodies
  shared A K B R P X a b other =
      let k = shared_key_at fs ok a.x A K B a.sentence.0 a.tree in
      let m = encrypted_at fs ok b.x X K R b.sentence.0 b.tree in
      let s = fields fs ok a.x 8 k.0 (λ z. omega arith) in
      let t = fields fs ok b.x 5 m.0 (λ z. omega arith) in (
        k.0,
        m.0,
        same_key fs ok (record_of fs a.x).second (record_of fs b.x).second s.1 t.1 (k.2 ∙ sym m.2),
        other_number a.p (record_of fs b.x).third P R a.name m.3 other,
        m.1,
      )

  -- the numbers in a public key and what is signed under its inverse
  signing : (K : KeyField) (Q R P : ℕ) (X : Tree) (a : Numbers fs P (public_key K Q)) (b : Numbers fs P (signed X K R)) → R ≢ P
      → ((record_of fs a.x).kind ≡ 9) × ((record_of fs b.x).kind ≡ 6) × ((record_of fs a.x).first ≡ (record_of fs b.x).second)
      × ((record_of fs b.x).third ≢ a.p) × (name_of fs (record_of fs a.x).second ≡ Q) × (tree_of fs (record_of fs b.x).first ≡ X)
  unfolding body_of bodies
  signing K Q R P X a b other =
      let k = public_key_at fs ok a.x K Q a.sentence.0 a.tree in
      let m = signed_at fs ok b.x X K R b.sentence.0 b.tree in
      let s = fields fs ok a.x 9 k.0 (λ z. omega arith) in
      let t = fields fs ok b.x 6 m.0 (λ z. omega arith) in (
        k.0,
        m.0,
        same_key fs ok (record_of fs a.x).first (record_of fs b.x).second s.0 t.1 (k.1 ∙ sym m.2),
        other_number a.p (record_of fs b.x).third P R a.name m.3 other,
        k.2,
        m.1,
      )

  -- the parts of a conjunction without loose variables are such formulas, and their beliefs are opened as those of their trees
  record Pair (e : ℕ) (X Y : Tree) : Type 0 where
    pub kind : (record_of fs e).kind ≡ 4
    pub left : tree_of fs (record_of fs e).first ≡ X
    pub right : tree_of fs (record_of fs e).second ≡ Y
    pub left_sentence : IsSentence fs (record_of fs e).first
    pub right_sentence : IsSentence fs (record_of fs e).second

  pair : (e : ℕ) (X Y : Tree) → IsSentence fs e → tree_of fs e ≡ conjunction X Y → Pair e X Y
  pair e X Y f t =
      let m = conjunction_at fs ok e X Y f.0 t in
      let h = halves fs ok e m.0 f in
      record { kind = m.0; left = m.1; right = m.2; left_sentence = h.0; right_sentence = h.1 }

  means : (p x : ℕ) {P : ℕ} {X : Tree} → name_of fs p ≡ P → IsFormula fs x → tree_of fs x ≡ X → meaning fs (opened fs p x) ≡ belief P X
  means p x n f t = opened_is fs ok p x (formula_in_lem fs x f) ∙ rw (n, t)

  -- a kind 17 over "Q controls X", and its parts
  record Delegated (d w Q : ℕ) (X : Tree) : Type 0 where
    pub kind : (record_of fs d).kind ≡ 17
    pub variable : name_of fs (record_of fs d).first ≡ w
    pub control : tree_of fs (record_of fs d).second ≡ controls Q X
    pub principal : IsPrincipal fs (record_of fs (record_of fs d).second).first
    pub name : name_of fs (record_of fs (record_of fs d).second).first ≡ Q
    pub formula : tree_of fs (record_of fs (record_of fs d).second).second ≡ X

  delegated : (d w Q : ℕ) (X : Tree) → IsFormula fs d → tree_of fs d ≡ for_every w (controls Q X) → Delegated d w Q X
  unfolding body_of bodies
  delegated d w Q X f t =
      let m = for_every_at fs ok d w (controls Q X) f t in
      let k = (delegation fs ok d m.0).0 in
      let z = controls_at fs ok (record_of fs d).second Q X (rw k tt) m.2 in
      record {
        kind = m.0;
        variable = m.1;
        control = m.2;
        principal = (fields fs ok (record_of fs d).second 15 k (λ z. omega arith)).0;
        name = z.1;
        formula = z.2;
      }

  -- EACH RULE INSTANCE over trees between written facts is an instance on records, with just these facts
  pub lowered : {n : ℕ} {ps : List (Fact Tree)} {f : Fact Tree} → Rule n ps f → (gs : List (Fact ℕ)) (g : Fact ℕ) → All (Valid fs) gs → Valid fs g
      → map (meaning fs) gs ≡ ps → meaning fs g ≡ f → RuleOn fs n gs g
  unfolding body_of bodies
  lowered (rule1 P Q A B K R X ends other) gs g vs v ps c =
      let h = believed_and_seen fs gs vs ps in
      let a = h.0 in
      let b = h.1 in
      let k = shared_key_at fs ok a.x A K B a.sentence.0 a.tree in
      let s = fields fs ok a.x 8 k.0 (λ z. omega arith) in
      let m = shared A K B R P X a b other in
      let d = said_numbers fs g v c in
      let en = ends_numbers a.p d.q (record_of fs a.x).first (record_of fs a.x).third P Q A B a.principal d.other s.0 s.2 a.name d.other_name k.1 k.3 ends in
      settled vs v (record1 a.p d.q a.x b.x m.0 m.1 m.2 en m.3) ((a.principal, a.sentence, rw k.0 tt), ((a.principal, b.sentence), tt))
      (rw (a.name, a.tree, b.tree, ps)) (rw (a.name, d.other_name, m.4, c))
  lowered (rule9 P Q A B K R X ends other) gs g vs v ps c =
      let h = believed_and_seen fs gs vs ps in
      let a = h.0 in
      let b = h.1 in
      let k = shared_key_at fs ok a.x A K B a.sentence.0 a.tree in
      let s = fields fs ok a.x 8 k.0 (λ z. omega arith) in
      let m = shared A K B R P X a b other in
      let en = other_end a.p (record_of fs a.x).first (record_of fs a.x).third P Q A B a.principal s.0 s.2 a.name k.1 k.3 ends in
      settled vs v (record9 a.p en.0 a.x b.x m.0 m.1 m.2 en.1 m.3) ((a.principal, a.sentence, rw k.0 tt), ((a.principal, b.sentence), tt))
      (rw (a.name, a.tree, b.tree, ps)) (rw (a.name, m.4, c))
  lowered (rule2 P Q K R X other) gs g vs v ps c =
      let h = believed_and_seen fs gs vs ps in
      let a = h.0 in
      let b = h.1 in
      let m = signing K Q R P X a b other in
      settled vs v (record2 a.p a.x b.x m.0 m.1 m.2 m.3) ((a.principal, a.sentence, rw m.0 tt), ((a.principal, b.sentence), tt))
      (rw (a.name, a.tree, b.tree, ps)) (rw (a.name, m.4, m.5, c))
  lowered (rule11 P Q K R X other) gs g vs v ps c =
      let h = believed_and_seen fs gs vs ps in
      let a = h.0 in
      let b = h.1 in
      let m = signing K Q R P X a b other in
      settled vs v (record11 a.p a.x b.x m.0 m.1 m.2 m.3) ((a.principal, a.sentence, rw m.0 tt), ((a.principal, b.sentence), tt))
      (rw (a.name, a.tree, b.tree, ps)) (rw (a.name, m.5, c))
  lowered (rule3 P Q A B X Y ends) gs g vs v ps c =
      let h = believed_and_seen fs gs vs ps in
      let a = h.0 in
      let b = h.1 in
      let y = a.x in
      let e = b.x in
      let k = shared_secret_at fs ok y A Y B a.sentence.0 a.tree in
      let m = combined_at fs ok e X Y b.sentence.0 b.tree in
      let s = fields fs ok y 10 k.0 (λ z. omega arith) in
      let t = fields fs ok e 7 m.0 (λ z. omega arith) in
      let d = said_numbers fs g v c in
      let kk = same_formula fs ok (record_of fs y).second (record_of fs e).second (form_of fs (record_of fs y).second s.1) (form_of fs (record_of fs e).second t.1) (k.2 ∙ sym m.2) in
      let en = ends_numbers a.p d.q (record_of fs y).first (record_of fs y).third P Q A B a.principal d.other s.0 s.2 a.name d.other_name k.1 k.3 ends in
      settled vs v (record3 a.p d.q y e k.0 m.0 kk en) ((a.principal, a.sentence, rw k.0 tt), ((a.principal, b.sentence), tt))
      (rw (a.name, a.tree, b.tree, ps)) (rw (a.name, d.other_name, m.1, c))
  lowered (rule10 P K R X other) gs g vs v ps c =
      let h = believed_and_seen fs gs vs ps in
      let a = h.0 in
      let b = h.1 in
      let y = a.x in
      let e = b.x in
      let k = public_key_at fs ok y K P a.sentence.0 a.tree in
      let m = encrypted_at fs ok e X K R b.sentence.0 b.tree in
      let s = fields fs ok y 9 k.0 (λ z. omega arith) in
      let t = fields fs ok e 5 m.0 (λ z. omega arith) in
      let kk = same_key fs ok (record_of fs y).first (record_of fs e).second s.0 t.1 (k.1 ∙ sym m.2) in
      let own = same_principal fs ok (record_of fs y).second a.p s.1 a.principal (k.2 ∙ sym a.name) in
      settled vs v (record10 a.p y e k.0 m.0 kk own (other_number a.p (record_of fs e).third P R a.name m.3 other))
      ((a.principal, a.sentence, rw k.0 tt), ((a.principal, b.sentence), tt)) (rw (a.name, a.tree, b.tree, ps)) (rw (a.name, m.1, c))
  lowered (rule4 P Q X is_clear) gs g vs v ps c =
      let h = two fs gs vs ps in
      let a = said_numbers fs h.1.0 h.1.1 h.1.2 in
      settled vs v (record4 a.p a.q a.x (rw a.tree is_clear)) ((a.principal, a.sentence), ((a.principal, a.other, a.sentence), tt))
      (rw (a.name, a.other_name, a.tree, ps)) (rw (a.name, a.other_name, a.tree, c))
  lowered (rule5 P Q X) gs g vs v ps c =
      let h = two fs gs vs ps in
      let a = numbers fs h.0.0 h.0.1 h.0.2 in
      let e = a.x in
      let m = controls_at fs ok e Q X a.sentence.0 a.tree in
      let t = fields fs ok e 15 m.0 (λ z. omega arith) in
      let b = believed_numbers fs h.1.0 h.1.1 h.1.2 in
      let f = form_of fs (record_of fs e).second t.1 in
      let u = ap loose (m.2 ∙ sym b.tree) ∙ b.sentence.1 in
      settled vs v (record5 a.p e m.0) ((a.principal, a.sentence, rw m.0 tt), ((a.principal, t.0, (f, u)), tt))
      (rw (a.name, a.tree, m.1, m.2, ps)) (means a.p (record_of fs e).second a.name f m.2 ∙ sym c)
  lowered (rule6 P X Y) gs g vs v ps c =
      let a = one_numbers fs gs vs ps in
      let m = pair a.x X Y a.sentence a.tree in
      settled vs v (record6 a.p a.x m.kind) ((a.principal, a.sentence), tt) (rw (a.name, a.tree, ps)) (rw (a.name, m.left, c))
  lowered (rule7 P X Y) gs g vs v ps c =
      let a = one_numbers fs gs vs ps in
      let m = pair a.x X Y a.sentence a.tree in
      settled vs v (record7 a.p a.x m.kind) ((a.principal, a.sentence), tt) (rw (a.name, a.tree, ps)) (rw (a.name, m.right, c))
  lowered (rule14 P Q X Y) gs g vs v ps c =
      let h = one fs gs vs ps in
      let a = said_numbers fs h.0 h.1 h.2 in
      let m = pair a.x X Y a.sentence a.tree in
      settled vs v (record14 a.p a.q a.x m.kind) ((a.principal, a.other, a.sentence), tt)
      (rw (a.name, a.other_name, a.tree, ps)) (rw (a.name, a.other_name, m.left, c))
  lowered (rule15 P Q X Y) gs g vs v ps c =
      let h = one fs gs vs ps in
      let a = said_numbers fs h.0 h.1 h.2 in
      let m = pair a.x X Y a.sentence a.tree in
      settled vs v (record15 a.p a.q a.x m.kind) ((a.principal, a.other, a.sentence), tt)
      (rw (a.name, a.other_name, a.tree, ps)) (rw (a.name, a.other_name, m.right, c))
  lowered (rule16 P Q X Y) gs g vs v ps c =
      let h = one fs gs vs ps in
      let a = believed_numbers fs h.0 h.1 h.2 in
      let m = pair a.x X Y a.sentence a.tree in
      settled vs v (record16 a.p a.q a.x m.kind) ((a.principal, a.other, a.sentence), tt)
      (rw (a.name, a.other_name, a.tree, ps)) (rw (a.name, a.other_name, m.left, c))
  lowered (rule17 P Q X Y) gs g vs v ps c =
      let h = one fs gs vs ps in
      let a = believed_numbers fs h.0 h.1 h.2 in
      let m = pair a.x X Y a.sentence a.tree in
      settled vs v (record17 a.p a.q a.x m.kind) ((a.principal, a.other, a.sentence), tt)
      (rw (a.name, a.other_name, a.tree, ps)) (rw (a.name, a.other_name, m.right, c))
  lowered (rule8 P X Y) gs g vs v ps c =
      let a = one_numbers fs gs vs ps in
      let m = combined_at fs ok a.x X Y a.sentence.0 a.tree in
      settled vs v (record8 a.p a.x m.0) ((a.principal, a.sentence), tt) (rw (a.name, a.tree, ps)) (rw (a.name, m.1, c))
  lowered (rule12 P X Y) gs g vs v ps c =
      let a = numbers fs g v c in
      let m = pair a.x X Y a.sentence a.tree in
      settled vs v (record12 a.p a.x m.kind a.sentence.1) ((a.principal, m.left_sentence), tt) (rw (a.name, m.left, ps)) (rw (a.name, a.tree, c))
  lowered (rule13 P X Y) gs g vs v ps c =
      let a = numbers fs g v c in
      let m = pair a.x X Y a.sentence a.tree in
      settled vs v (record13 a.p a.x m.kind a.sentence.1) ((a.principal, m.right_sentence), tt) (rw (a.name, m.right, ps)) (rw (a.name, a.tree, c))
  lowered (rule18 P X Y) gs g vs v ps c =
      let a = one_numbers fs gs vs ps in
      let m = pair a.x X Y a.sentence a.tree in
      settled vs v (record18 a.p a.x m.kind) ((a.principal, a.sentence, rw m.kind tt), tt)
      (rw (a.name, a.tree, ps)) (means a.p (record_of fs a.x).first a.name m.left_sentence.0 m.left ∙ sym c)
  lowered (rule19 P X Y) gs g vs v ps c =
      let a = one_numbers fs gs vs ps in
      let m = pair a.x X Y a.sentence a.tree in
      settled vs v (record19 a.p a.x m.kind) ((a.principal, a.sentence, rw m.kind tt), tt)
      (rw (a.name, a.tree, ps)) (means a.p (record_of fs a.x).second a.name m.right_sentence.0 m.right ∙ sym c)
  lowered (rule20 P X Y) gs g vs v ps c =
      let a = numbers fs g v c in
      let m = pair a.x X Y a.sentence a.tree in
      settled vs v (record20 a.p a.x m.kind a.sentence.1)
      (opened_valid fs ok a.p (record_of fs a.x).first a.principal m.left_sentence, (opened_valid fs ok a.p (record_of fs a.x).second a.principal m.right_sentence, tt))
      (ap₂ (λ s t. s ∷ t ∷ []) (means a.p (record_of fs a.x).first a.name m.left_sentence.0 m.left) (means a.p (record_of fs a.x).second a.name m.right_sentence.0 m.right) ∙ sym ps) (rw (a.name, a.tree, c))
  lowered (rule21 P Q w X X' i) gs g vs v ps c =
      let h = two fs gs vs ps in
      let a = numbers fs h.0.0 h.0.1 h.0.2 in
      let b = believed_numbers fs h.1.0 h.1.1 h.1.2 in
      let m = delegated a.x w Q X a.sentence.0 a.tree in
      settled vs v (record21 a.p a.x b.x m.kind (i.0, b.tree ∙ (i.1 ∙ rw (m.variable, m.formula))))
      ((a.principal, a.sentence, rw m.kind tt), ((a.principal, m.principal, b.sentence), tt))
      (rw (a.name, a.tree, m.name, b.tree, ps)) (means a.p b.x a.name b.sentence.0 b.tree ∙ sym c)
  lowered (rule22 P Q w X X' i) gs g vs v ps c =
      let a = one_numbers fs gs vs ps in
      let b = numbers fs g v c in
      let m = delegated a.x w Q X a.sentence.0 a.tree in
      let z = controls_at fs ok b.x Q X' b.sentence.0 b.tree in
      settled vs v (record22 a.p a.x b.x m.kind z.0 (i.0, b.tree ∙ (ap (controls Q) i.1 ∙ rw (m.variable, m.control))))
      ((a.principal, a.sentence, rw m.kind tt), tt) (rw (a.name, a.tree, ps)) (rw (a.name, b.tree, c))

  -- RULE n over trees between written facts is rule n on records
  pub rule_iff : (n : ℕ) (gs : List (Fact ℕ)) (g : Fact ℕ) → All (Valid fs) gs → Valid fs g
      → Rule n (map (meaning fs) gs) (meaning fs g) ↔ RuleOn fs n gs g
  rule_iff n gs g vs v = ((λ r. lowered r gs g vs v refl refl), (λ r. (raised fs ok r vs).1))
