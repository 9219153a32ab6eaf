-- Records suffice. A derivation may go through trees that are no record, of any size. Still, a set of facts about records that
-- holds the given facts, and is closed under the rule instances whose facts are about records, holds every fact about a record
-- that any derivation ends in. This file knows no book: Rec is any set of trees that has the parts of its members, and derivations
-- have their leaves there.
use Prim.Native.Nat.{ℕ}
use mathlib.Core.Path.{refl, sym, subst}
use mathlib.Core.List.{List, []}
use Rattle.logic.specs.Book.{All}
use Rattle.logic.specs.Formula.{Tree, Sentence}
use Rattle.logic.specs.Formula.Tree.{principal, key, datum, conjunction, encrypted, signed, combined, shared_key, public_key, shared_secret, fresh, believes, sees, said, controls, variable, for_every}
use Rattle.logic.specs.Instance.{IsInstance}
use Rattle.logic.specs.Fact.{Fact, belief, IsFact}
use Rattle.logic.specs.Fact.Fact.{Sees, Believes, BelievesFresh, BelievesSaid, BelievesBelieves}
use Rattle.logic.specs.Rule.{Rule}
use Rattle.logic.specs.Rule.Rule.{rule1, rule2, rule3, rule4, rule5, rule6, rule7, rule8, rule9, rule10, rule11, rule12, rule13, rule14, rule15, rule16, rule17, rule18, rule19, rule20, rule21, rule22}
use Rattle.logic.specs.Derivation.{Among, DerivationBehind, EndsIn}
use Rattle.logic.proofs.Member.{all_imp}
use Rattle.logic.proofs.Induction.{at_end, kept}
use Rattle.logic.proofs.Parts.{parts}
use Rattle.logic.proofs.Loose.{left_sentence, right_sentence}

-- what a fact is about: X
abbrev pub formula_of : {Formula : Type 0} → Fact Formula → Formula
formula_of (Sees P X) = X
formula_of (Believes P X) = X
formula_of (BelievesFresh P X) = X
formula_of (BelievesSaid P Q X) = X
formula_of (BelievesBelieves P Q X) = X

-- the parts of a record are records, the facts of S are facts about records, and S is closed under the rules there
pub record Closed (Rec : Tree → Type 0) (S : Fact Tree → Type 0) : Type 0 where
  pub down : (t : Tree) → Rec t → All Rec (parts t)
  pub about : (f : Fact Tree) → S f → IsFact Rec f × Rec (formula_of f)
  pub follow : {n : ℕ} {ps : List (Fact Tree)} {f : Fact Tree} → Rule n ps f → All S ps → IsFact Rec f → Rec (formula_of f) → S f

-- Good facts. A conjunction is fresh if S says so or a part is fresh in this sense; it is believed if S says so or both parts,
-- opened, are believed in this sense; and "Q controls X'" is believed, too, if S says that it is believed for every key and X' is an
-- instance, record or not. Of every other fact S decides.
data GoodFresh (S : Fact Tree → Type 0) (P : ℕ) : Tree → Type 0 where
  known : {X : Tree} → S (BelievesFresh P X) → GoodFresh S P X
  left : {X Y : Tree} → GoodFresh S P X → GoodFresh S P (conjunction X Y)
  right : {X Y : Tree} → GoodFresh S P Y → GoodFresh S P (conjunction X Y)

data GoodBelief (S : Fact Tree → Type 0) (P : ℕ) : Tree → Type 0 where
  held : {X : Tree} → S (belief P X) → GoodBelief S P X
  vouched : {X : Tree} → GoodFresh S P X → GoodBelief S P (fresh X)
  both : {X Y : Tree} → GoodBelief S P X → GoodBelief S P Y → GoodBelief S P (conjunction X Y)
  delegated : {Q v : ℕ} {X X' : Tree} → S (Believes P (for_every v (controls Q X))) → IsInstance v X X' → GoodBelief S P (controls Q X')

module _ (S : Fact Tree → Type 0) where
  abbrev Good : Fact Tree → Type 0
  Good (Sees P X) = S (Sees P X)
  Good (Believes P X) = GoodBelief S P X
  Good (BelievesFresh P X) = GoodFresh S P X
  Good (BelievesSaid P Q X) = S (BelievesSaid P Q X)
  Good (BelievesBelieves P Q X) = S (BelievesBelieves P Q X)

  -- opening changes nothing of this
  from_belief : (P : ℕ) (X : Tree) → Good (belief P X) → GoodBelief S P X
  from_belief P (principal n) h = h
  from_belief P (key n) h = h
  from_belief P (datum n) h = h
  from_belief P (conjunction X Y) h = h
  from_belief P (encrypted X K R) h = h
  from_belief P (signed X K R) h = h
  from_belief P (combined X Y) h = h
  from_belief P (shared_key A K B) h = h
  from_belief P (public_key K Q) h = h
  from_belief P (shared_secret A X B) h = h
  from_belief P (fresh X) h = vouched h
  from_belief P (believes Q X) h = held h
  from_belief P (sees Q X) h = h
  from_belief P (said Q X) h = held h
  from_belief P (controls Q X) h = h
  from_belief P (variable v) h = h
  from_belief P (for_every v Z) h = h

  to_belief : (P : ℕ) (X : Tree) → GoodBelief S P X → Good (belief P X)
  to_belief P (principal n) h = h
  to_belief P (key n) h = h
  to_belief P (datum n) h = h
  to_belief P (conjunction X Y) h = h
  to_belief P (encrypted X K R) h = h
  to_belief P (signed X K R) h = h
  to_belief P (combined X Y) h = h
  to_belief P (shared_key A K B) h = h
  to_belief P (public_key K Q) h = h
  to_belief P (shared_secret A X B) h = h
  to_belief P (fresh X) (held h) = known h
  to_belief P (fresh X) (vouched h) = h
  to_belief P (believes Q X) (held h) = h
  to_belief P (sees Q X) h = h
  to_belief P (said Q X) (held h) = h
  to_belief P (controls Q X) h = h
  to_belief P (variable v) h = h
  to_belief P (for_every v Z) h = h

  -- what S says is good
  good_in : (Leaf : Tree → Type 0) (f : Fact Tree) → IsFact Leaf f → S f → Good f
  good_in Leaf (Sees P X) p h = h
  good_in Leaf (Believes P X) p h = held (subst S (sym p.2) h)
  good_in Leaf (BelievesFresh P X) p h = known h
  good_in Leaf (BelievesSaid P Q X) p h = h
  good_in Leaf (BelievesBelieves P Q X) p h = h

  module _ (Rec : Tree → Type 0) (k : Closed Rec S) where
    -- what is good and about a record is in S
    fresh_out : (P : ℕ) (X : Tree) → Rec (principal P) → Sentence Rec X → Rec X → GoodFresh S P X → S (BelievesFresh P X)
    fresh_out P X p w r (known h) = h
    fresh_out P (conjunction X Y) p w r (left g) =
        k.follow (rule12 P X Y) (fresh_out P X p (left_sentence Rec X Y w) (k.down (conjunction X Y) r).0 g, tt) (p, w) r
    fresh_out P (conjunction X Y) p w r (right g) =
        k.follow (rule13 P X Y) (fresh_out P Y p (right_sentence Rec X Y w) (k.down (conjunction X Y) r).1.0 g, tt) (p, w) r

    belief_out : (P : ℕ) (X : Tree) → Rec (principal P) → Sentence Rec X → Rec X → GoodBelief S P X → S (belief P X)
    belief_out P X p w r (held h) = h
    belief_out P (fresh X) p w r (vouched g) = fresh_out P X p w (k.down (fresh X) r).0 g
    belief_out P (conjunction X Y) p w r (both g h) =
        let d = k.down (conjunction X Y) r in
        let u = left_sentence Rec X Y w in
        let v = right_sentence Rec X Y w in
        k.follow (rule20 P X Y) (belief_out P X p u d.0 g, (belief_out P Y p v d.1.0 h, tt)) (p, w, refl) r
    belief_out P (controls Q X') p w r (delegated {v = v} {X = X} d i) = k.follow (rule22 P Q v X X' i) (d, tt) (p, w, refl) r

    good_out : (f : Fact Tree) → IsFact Rec f → Rec (formula_of f) → Good f → S f
    good_out (Sees P X) p r h = h
    good_out (Believes P X) p r h = subst S p.2 (belief_out P X p.0 p.1 r h)
    good_out (BelievesFresh P X) p r h = fresh_out P X p.0 p.1 r h
    good_out (BelievesSaid P Q X) p r h = h
    good_out (BelievesBelieves P Q X) p r h = h

    -- the belief in a record is about a record, opened too
    on_belief : (P : ℕ) (X : Tree) → Rec X → Rec (formula_of (belief P X))
    on_belief P (principal n) r = r
    on_belief P (key n) r = r
    on_belief P (datum n) r = r
    on_belief P (conjunction X Y) r = r
    on_belief P (encrypted X K R) r = r
    on_belief P (signed X K R) r = r
    on_belief P (combined X Y) r = r
    on_belief P (shared_key A K B) r = r
    on_belief P (public_key K Q) r = r
    on_belief P (shared_secret A X B) r = r
    on_belief P (fresh X) r = (k.down (fresh X) r).0
    on_belief P (believes Q X) r = (k.down (believes Q X) r).1.0
    on_belief P (sees Q X) r = r
    on_belief P (said Q X) r = (k.down (said Q X) r).1.0
    on_belief P (controls Q X) r = r
    on_belief P (variable v) r = r
    on_belief P (for_every v Z) r = r

    -- a belief that is in S is good
    believed : (P : ℕ) (X : Tree) → S (belief P X) → Good (belief P X)
    believed P X h = to_belief P X (held h)

    -- the formula of a fact of S, and its parts, are records
    part : (f : Fact Tree) → S f → All Rec (parts (formula_of f))
    part f h = k.down (formula_of f) (k.about f h).1

    -- each rule takes good premises to a good conclusion
    step : {n : ℕ} {ps : List (Fact Tree)} {f : Fact Tree} → Rule n ps f → IsFact Rec f → All Good ps → Good f
    step (rule1 P Q A B K R X ends other) i (held b, (s, u)) =
        k.follow (rule1 P Q A B K R X ends other) (b, (s, tt)) i (part (Sees P (encrypted X K R)) s).0
    step (rule2 P Q K R X other) i (held b, (s, u)) =
        k.follow (rule2 P Q K R X other) (b, (s, tt)) i (part (Sees P (signed X K R)) s).0
    step (rule3 P Q A B X Y ends) i (held b, (s, u)) =
        k.follow (rule3 P Q A B X Y ends) (b, (s, tt)) i (part (Sees P (combined X Y)) s).0
    step (rule4 P Q X is_clear) i (f, (s, u)) =
        let r = (k.about (BelievesSaid P Q X) s).1 in
        k.follow (rule4 P Q X is_clear) (fresh_out P X i.0 i.2 r f, (s, tt)) i r
    step (rule5 P Q X) i (held c, (s, u)) =
        believed P X (k.follow (rule5 P Q X) (c, (s, tt)) i (on_belief P X (part (Believes P (controls Q X)) c).1.0))
    -- "Q controls X" may be no record; but X is one, since Q is believed to believe it
    step (rule5 P Q X) i (delegated {v = v} {X = Y} d a, (s, u)) =
        believed P X (k.follow (rule21 P Q v Y X a) (d, (s, tt)) i (on_belief P X (k.about (BelievesBelieves P Q X) s).1))
    step (rule6 P X Y) i (s, u) = k.follow (rule6 P X Y) (s, tt) i (part (Sees P (conjunction X Y)) s).0
    step (rule7 P X Y) i (s, u) = k.follow (rule7 P X Y) (s, tt) i (part (Sees P (conjunction X Y)) s).1.0
    step (rule8 P X Y) i (s, u) = k.follow (rule8 P X Y) (s, tt) i (part (Sees P (combined X Y)) s).0
    step (rule9 P Q A B K R X ends other) i (held b, (s, u)) =
        k.follow (rule9 P Q A B K R X ends other) (b, (s, tt)) i (part (Sees P (encrypted X K R)) s).0
    step (rule10 P K R X other) i (held b, (s, u)) =
        k.follow (rule10 P K R X other) (b, (s, tt)) i (part (Sees P (encrypted X K R)) s).0
    step (rule11 P Q K R X other) i (held b, (s, u)) =
        k.follow (rule11 P Q K R X other) (b, (s, tt)) i (part (Sees P (signed X K R)) s).0
    step (rule12 P X Y) i (f, u) = left f
    step (rule13 P X Y) i (f, u) = right f
    step (rule14 P Q X Y) i (s, u) = k.follow (rule14 P Q X Y) (s, tt) i (part (BelievesSaid P Q (conjunction X Y)) s).0
    step (rule15 P Q X Y) i (s, u) = k.follow (rule15 P Q X Y) (s, tt) i (part (BelievesSaid P Q (conjunction X Y)) s).1.0
    step (rule16 P Q X Y) i (s, u) = k.follow (rule16 P Q X Y) (s, tt) i (part (BelievesBelieves P Q (conjunction X Y)) s).0
    step (rule17 P Q X Y) i (s, u) = k.follow (rule17 P Q X Y) (s, tt) i (part (BelievesBelieves P Q (conjunction X Y)) s).1.0
    step (rule18 P X Y) i (held b, u) =
        believed P X (k.follow (rule18 P X Y) (b, tt) i (on_belief P X (part (Believes P (conjunction X Y)) b).0))
    step (rule18 P X Y) i (both g h, u) = to_belief P X g
    step (rule19 P X Y) i (held b, u) =
        believed P Y (k.follow (rule19 P X Y) (b, tt) i (on_belief P Y (part (Believes P (conjunction X Y)) b).1.0))
    step (rule19 P X Y) i (both g h, u) = to_belief P Y h
    step (rule20 P X Y) i (g, (h, u)) = both (from_belief P X g) (from_belief P Y h)
    step (rule21 P Q v X X' a) i (held d, (s, u)) =
        believed P X' (k.follow (rule21 P Q v X X' a) (d, (s, tt)) i (on_belief P X' (k.about (BelievesBelieves P Q X') s).1))
    step (rule22 P Q v X X' a) i (held d, u) = delegated d a

    -- THE THEOREM: a fact about a record that a derivation ends in is in S
    pub complete : (given : List (Fact Tree)) → ((f : Fact Tree) → Among f given → S f)
        → (l : List (Fact Tree)) → DerivationBehind Rec given [] l
        → (f : Fact Tree) → EndsIn f l → Rec (formula_of f) → S f
    complete given h l d f e r =
        let M : Fact Tree → Type 0 = λ g. IsFact Rec g × Good g in
        let m = at_end M f l
        (kept Rec given M (λ g p a. (p, good_in Rec g p (h g a)))
        (λ n ps g r p a. (p, step r p (all_imp M Good (λ g x. x.1) ps a))) [] l tt d) e in
        good_out f m.0 r m.1
