-- "Slips my students make": what no rule does, and that no fact has two writings.
use Prim.Native.Nat.{ℕ}
use mathlib.Core.Path.{◌≡◌, refl, subst}
use mathlib.Core.Logic.{◌≢◌}
use mathlib.Core.List.{List, [], ◌∷◌}
use mathlib.Core.Bool.{false}
use native.Mathlib.Omega.{arith}
use lib.Dec.{T}
use Rattle.logic.specs.Book.{All}
use Rattle.logic.specs.Formula.{KeyField, Tree, clear}
use Rattle.logic.specs.Formula.KeyField.{by_name, by_variable}
use Rattle.logic.specs.Formula.Tree.{principal, key, datum, conjunction, encrypted, signed, combined, shared_key, public_key, shared_secret, fresh, believes, sees, said, controls, variable, for_every}
use Rattle.logic.specs.Instance.{IsInstance}
use Rattle.logic.specs.Fact.{Fact, belief}
use Rattle.logic.specs.Fact.Fact.{Sees, Believes, BelievesFresh, BelievesSaid, BelievesBelieves}
use Rattle.logic.specs.Rule.{Rule}
use Rattle.logic.specs.Rule.Rule.{rule1, rule2, rule3, rule4, rule5, rule6, rule7, rule8, rule9, rule10, rule11, rule12, rule13, rule14, rule15, rule16, rule17, rule18, rule19, rule20, rule21, rule22}
use Rattle.logic.specs.Derivation.{Among}
use Rattle.logic.proofs.Tests.{T_and, eqb_same}
use Rattle.logic.proofs.Member.{all_at}
use Rattle.logic.proofs.Derivable.{Following, follows_least}

-- what another said
abbrev pub Saying : Fact Tree → Type 0
Saying (Sees P X) = ⊥
Saying (Believes P X) = ⊥
Saying (BelievesFresh P X) = ⊥
Saying (BelievesSaid P Q X) = Unit
Saying (BelievesBelieves P Q X) = ⊥

-- what is seen
abbrev pub Sight : Fact Tree → Type 0
Sight (Sees P X) = Unit
Sight (Believes P X) = ⊥
Sight (BelievesFresh P X) = ⊥
Sight (BelievesSaid P Q X) = ⊥
Sight (BelievesBelieves P Q X) = ⊥

no_sight : (P : ℕ) (X : Tree) → Sight (belief P X) → ⊥
no_sight P (principal n) h = h
no_sight P (key n) h = h
no_sight P (datum n) h = h
no_sight P (conjunction X Y) h = h
no_sight P (encrypted X K R) h = h
no_sight P (signed X K R) h = h
no_sight P (combined X Y) h = h
no_sight P (shared_key A K B) h = h
no_sight P (public_key K Q) h = h
no_sight P (shared_secret A X B) h = h
no_sight P (fresh X) h = h
no_sight P (believes Q X) h = h
no_sight P (sees Q X) h = h
no_sight P (said Q X) h = h
no_sight P (controls Q X) h = h
no_sight P (variable v) h = h
no_sight P (for_every v Z) h = h

-- what another believes
abbrev pub Second : Fact Tree → Type 0
Second (Sees P X) = ⊥
Second (Believes P X) = ⊥
Second (BelievesFresh P X) = ⊥
Second (BelievesSaid P Q X) = ⊥
Second (BelievesBelieves P Q X) = Unit

-- ONE'S OWN MESSAGE, and what rules take apart: of what P sees they use conjunctions, combinations, and sealed formulas that are
-- from somebody else.
abbrev pub Usable : ℕ → Tree → Type 0
Usable P (principal n) = ⊥
Usable P (key n) = ⊥
Usable P (datum n) = ⊥
Usable P (conjunction X Y) = Unit
Usable P (encrypted X K R) = R ≢ P
Usable P (signed X K R) = R ≢ P
Usable P (combined X Y) = Unit
Usable P (shared_key A K B) = ⊥
Usable P (public_key K Q) = ⊥
Usable P (shared_secret A X B) = ⊥
Usable P (fresh X) = ⊥
Usable P (believes Q X) = ⊥
Usable P (sees Q X) = ⊥
Usable P (said Q X) = ⊥
Usable P (controls Q X) = ⊥
Usable P (variable v) = ⊥
Usable P (for_every v Z) = ⊥

abbrev pub Used : Fact Tree → Type 0
Used (Sees P X) = Usable P X
Used (Believes P X) = Unit
Used (BelievesFresh P X) = Unit
Used (BelievesSaid P Q X) = Unit
Used (BelievesBelieves P Q X) = Unit

used_belief : (P : ℕ) (X : Tree) → Used (belief P X)
used_belief P (principal n) = tt
used_belief P (key n) = tt
used_belief P (datum n) = tt
used_belief P (conjunction X Y) = tt
used_belief P (encrypted X K R) = tt
used_belief P (signed X K R) = tt
used_belief P (combined X Y) = tt
used_belief P (shared_key A K B) = tt
used_belief P (public_key K Q) = tt
used_belief P (shared_secret A X B) = tt
used_belief P (fresh X) = tt
used_belief P (believes Q X) = tt
used_belief P (sees Q X) = tt
used_belief P (said Q X) = tt
used_belief P (controls Q X) = tt
used_belief P (variable v) = tt
used_belief P (for_every v Z) = tt

-- What every rule keeps to: from sights alone it concludes a sight, from sayings alone not that another believes something, and of what P
-- sees it uses what is usable.
pub record Kept (ps : List (Fact Tree)) (f : Fact Tree) : Type 0 where
  pub seen : All Sight ps → Sight f
  pub said : All Saying ps → Second f → ⊥
  pub uses : All Used ps

abbrev keeping : {ps : List (Fact Tree)} {f : Fact Tree} → (All Sight ps → Sight f) → (All Saying ps → Second f → ⊥) → All Used ps → Kept ps f
keeping s t u = record { seen = s; said = t; uses = u }

kept : {n : ℕ} {ps : List (Fact Tree)} {f : Fact Tree} → Rule n ps f → Kept ps f
kept (rule1 P Q A B K R X ends other) = keeping (λ h. absurd h.0) (λ h i. h.0) (tt, (other, tt))
kept (rule2 P Q K R X other) = keeping (λ h. absurd h.0) (λ h i. h.0) (tt, (other, tt))
kept (rule3 P Q A B X Y ends) = keeping (λ h. absurd h.0) (λ h i. h.0) (tt, (tt, tt))
kept (rule4 P Q X is_clear) = keeping (λ h. absurd h.0) (λ h i. h.0) (tt, (tt, tt))
kept (rule5 P Q X) = keeping (λ h. absurd h.0) (λ h i. h.0) (tt, (tt, tt))
kept (rule6 P X Y) = keeping (λ h. tt) (λ h i. h.0) (tt, tt)
kept (rule7 P X Y) = keeping (λ h. tt) (λ h i. h.0) (tt, tt)
kept (rule8 P X Y) = keeping (λ h. tt) (λ h i. h.0) (tt, tt)
kept (rule9 P Q A B K R X ends other) = keeping (λ h. absurd h.0) (λ h i. h.0) (tt, (other, tt))
kept (rule10 P K R X other) = keeping (λ h. absurd h.0) (λ h i. h.0) (tt, (other, tt))
kept (rule11 P Q K R X other) = keeping (λ h. absurd h.0) (λ h i. h.0) (tt, (other, tt))
kept (rule12 P X Y) = keeping (λ h. absurd h.0) (λ h i. h.0) (tt, tt)
kept (rule13 P X Y) = keeping (λ h. absurd h.0) (λ h i. h.0) (tt, tt)
kept (rule14 P Q X Y) = keeping (λ h. absurd h.0) (λ h i. i) (tt, tt)
kept (rule15 P Q X Y) = keeping (λ h. absurd h.0) (λ h i. i) (tt, tt)
kept (rule16 P Q X Y) = keeping (λ h. absurd h.0) (λ h i. h.0) (tt, tt)
kept (rule17 P Q X Y) = keeping (λ h. absurd h.0) (λ h i. h.0) (tt, tt)
kept (rule18 P X Y) = keeping (λ h. absurd h.0) (λ h i. h.0) (tt, tt)
kept (rule19 P X Y) = keeping (λ h. absurd h.0) (λ h i. h.0) (tt, tt)
kept (rule20 P X Y) = keeping (λ h. absurd (no_sight P X h.0)) (λ h i. i) (used_belief P X, (used_belief P Y, tt))
kept (rule21 P Q v X X' i) = keeping (λ h. absurd h.0) (λ h i. h.0) (tt, (tt, tt))
kept (rule22 P Q v X X' i) = keeping (λ h. absurd h.0) (λ h i. h.0) (tt, tt)

-- TWO THINGS SEPARATELY SEEN ARE NOT JOINED: no rule has two sights for premises.
two_sights : {n : ℕ} {a b f : Fact Tree} → Rule n (a ∷ b ∷ []) f → Sight a → Sight b → ⊥
two_sights (rule1 P Q A B K R X ends other) s t = s
two_sights (rule2 P Q K R X other) s t = s
two_sights (rule3 P Q A B X Y ends) s t = s
two_sights (rule4 P Q X is_clear) s t = s
two_sights (rule5 P Q X) s t = s
two_sights (rule9 P Q A B K R X ends other) s t = s
two_sights (rule10 P K R X other) s t = s
two_sights (rule11 P Q K R X other) s t = s
two_sights (rule20 P X Y) s t = no_sight P X s
two_sights (rule21 P Q v X X' i) s t = s

pub not_joined_seen : {n : ℕ} (P : ℕ) (Z Z' : Tree) {f : Fact Tree} → Rule n (Sees P Z ∷ Sees P Z' ∷ []) f → ⊥
not_joined_seen P Z Z' r = two_sights r tt tt

-- TWO THINGS SEPARATELY SAID ARE NOT JOINED.
two_sayings : {n : ℕ} {a b f : Fact Tree} → Rule n (a ∷ b ∷ []) f → Saying a → Saying b → Saying f → ⊥
two_sayings (rule1 P Q A B K R X ends other) s t u = s
two_sayings (rule2 P Q K R X other) s t u = s
two_sayings (rule3 P Q A B X Y ends) s t u = s
two_sayings (rule4 P Q X is_clear) s t u = s
two_sayings (rule5 P Q X) s t u = s
two_sayings (rule9 P Q A B K R X ends other) s t u = s
two_sayings (rule10 P K R X other) s t u = s
two_sayings (rule11 P Q K R X other) s t u = s
two_sayings (rule20 P X Y) s t u = u
two_sayings (rule21 P Q v X X' i) s t u = s

pub not_joined_said : {n : ℕ} (P Q : ℕ) (Z Z' W : Tree) → Rule n (BelievesSaid P Q Z ∷ BelievesSaid P Q Z' ∷ []) (BelievesSaid P Q W) → ⊥
not_joined_said P Q Z Z' W r = two_sayings r tt tt tt

-- SEES IS NOT BELIEVES. From what is seen alone only more that is seen follows: who was only shown things believes nothing.
pub only_seen : (Leaf : Tree → Type 0) (given : List (Fact Tree)) → All Sight given → (f : Fact Tree) → Following Leaf given f → Sight f
only_seen Leaf given h f d = follows_least Leaf given Sight (λ g i m. all_at Sight g given h m) (λ n ps g r i a. (kept r).seen a) f d

-- no rule takes up what P has encrypted or signed himself
pub not_own_encrypted : {n : ℕ} {ps : List (Fact Tree)} {f : Fact Tree} → Rule n ps f → (P : ℕ) (K : KeyField) (X : Tree) → Among (Sees P (encrypted X K P)) ps → ⊥
not_own_encrypted {n} {ps} r P K X m = all_at Used (Sees P (encrypted X K P)) ps (kept r).uses m refl

pub not_own_signed : {n : ℕ} {ps : List (Fact Tree)} {f : Fact Tree} → Rule n ps f → (P : ℕ) (K : KeyField) (X : Tree) → Among (Sees P (signed X K P)) ps → ⊥
not_own_signed {n} {ps} r P K X m = all_at Used (Sees P (signed X K P)) ps (kept r).uses m refl

-- FRESHNESS DOES NOT VOUCH FOR A SEALED PART. From "P believes fresh X" and "P believes Q said X" it follows that Q believes X
-- only for a clear X.
by_freshness : {n : ℕ} {a b f : Fact Tree} → Rule n (a ∷ b ∷ []) f → (P' Q' : ℕ) (Z : Tree) → a ≡ BelievesFresh P' Z → Saying b → Second f → T (clear Z)
by_freshness (rule1 P Q A B K R X ends other) P' Q' Z e t u = absurd u
by_freshness (rule2 P Q K R X other) P' Q' Z e t u = absurd u
by_freshness (rule3 P Q A B X Y ends) P' Q' Z e t u = absurd u
by_freshness (rule4 P Q X is_clear) P' Q' Z e t u = let z : X ≡ Z = cc in subst (λ t. T (clear t)) z is_clear
by_freshness (rule5 P Q X) P' Q' Z e t u = absurd t
by_freshness (rule9 P Q A B K R X ends other) P' Q' Z e t u = absurd u
by_freshness (rule10 P K R X other) P' Q' Z e t u = absurd u
by_freshness (rule11 P Q K R X other) P' Q' Z e t u = absurd u
by_freshness (rule20 P X Y) P' Q' Z e t u = absurd u
by_freshness (rule21 P Q v X X' i) P' Q' Z e t u = absurd t

pub only_clear : {n : ℕ} (P Q : ℕ) (Z : Tree) → Rule n (BelievesFresh P Z ∷ BelievesSaid P Q Z ∷ []) (BelievesBelieves P Q Z) → T (clear Z)
only_clear P Q Z r = by_freshness r P Q Z refl tt tt

-- a conjunction with a sealed part is not clear
pub sealed_part : (X Y : Tree) (K : KeyField) (R : ℕ) → T (clear (conjunction X (encrypted Y K R))) → ⊥
sealed_part X Y K R t = (T_and (clear X) false t).1

-- SAID IS NOT BELIEVES. From what others said alone no rule concludes that they believe something.
pub said_not_believed : {n : ℕ} {ps : List (Fact Tree)} (P Q : ℕ) (Z : Tree) → Rule n ps (BelievesBelieves P Q Z) → All Saying ps → ⊥
said_not_believed P Q Z r h = (kept r).said h tt

-- NO FACT HAS TWO WRITINGS: a record "Q said X" that P believes is the fact of mode 4, and so with fresh and believes.
pub opened_said : (P Q : ℕ) (X : Tree) → belief P (said Q X) ≡ BelievesSaid P Q X
opened_said P Q X = refl

pub opened_fresh : (P : ℕ) (X : Tree) → belief P (fresh X) ≡ BelievesFresh P X
opened_fresh P X = refl

pub opened_believes : (P Q : ℕ) (X : Tree) → belief P (believes Q X) ≡ BelievesBelieves P Q X
opened_believes P Q X = refl

-- ONE KEY THROUGHOUT: of an instance every place of the variable has the same key.
pub one_key : (v A B n m : ℕ)
    → IsInstance v (conjunction (public_key (by_variable v) A) (public_key (by_variable v) B)) (conjunction (public_key (by_name n) A) (public_key (by_name m) B))
    → n ≡ m
one_key v A B n m (k, e) = let d = rw (eqb_same v) at e in (cc)

-- NO RENAMING OF V: from "for every v, Z" no rule with one premise concludes "for every w, Z'".
pub not_renamed : {n : ℕ} (P v w : ℕ) (Z Z' : Tree) → Rule n (Believes P (for_every v Z) ∷ []) (Believes P (for_every w Z')) → ⊥
not_renamed P v w Z Z' r = by_delegation r refl refl
  where
    by_delegation : {n : ℕ} {a f : Fact Tree} → Rule n (a ∷ []) f → a ≡ Believes P (for_every v Z) → f ≡ Believes P (for_every w Z') → ⊥
    by_delegation (rule6 P X Y) d e = let z : ◌≡◌ {A = ℕ} 0 1 = cc in omega arith
    by_delegation (rule7 P X Y) d e = let z : ◌≡◌ {A = ℕ} 0 1 = cc in omega arith
    by_delegation (rule8 P X Y) d e = let z : ◌≡◌ {A = ℕ} 0 1 = cc in omega arith
    by_delegation (rule12 P X Y) d e = let z : ◌≡◌ {A = ℕ} 0 1 = cc in omega arith
    by_delegation (rule13 P X Y) d e = let z : ◌≡◌ {A = ℕ} 0 1 = cc in omega arith
    by_delegation (rule14 P Q X Y) d e = let z : ◌≡◌ {A = ℕ} 0 1 = cc in omega arith
    by_delegation (rule15 P Q X Y) d e = let z : ◌≡◌ {A = ℕ} 0 1 = cc in omega arith
    by_delegation (rule16 P Q X Y) d e = let z : ◌≡◌ {A = ℕ} 0 1 = cc in omega arith
    by_delegation (rule17 P Q X Y) d e = let z : ◌≡◌ {A = ℕ} 0 1 = cc in omega arith
    by_delegation (rule18 P X Y) d e = let z : ◌≡◌ {A = ℕ} 0 1 = cc in omega arith
    by_delegation (rule19 P X Y) d e = let z : ◌≡◌ {A = ℕ} 0 1 = cc in omega arith
    by_delegation (rule22 P Q v X X' i) d e = let z : ◌≡◌ {A = ℕ} 0 1 = cc in omega arith

-- NOTHING IS PUT FOR V UNDER ANOTHER'S BELIEF: that Q believes "for every v, Z" is a premise alone of no rule, and as the first of two
-- it is only joined.
pub not_under_belief : {n : ℕ} (P Q v : ℕ) (Z : Tree) {f : Fact Tree} → Rule n (BelievesBelieves P Q (for_every v Z) ∷ []) f → ⊥
not_under_belief P Q v Z r = alone r refl
  where
    alone : {n : ℕ} {a f : Fact Tree} → Rule n (a ∷ []) f → a ≡ BelievesBelieves P Q (for_every v Z) → ⊥
    alone (rule6 P X Y) d = let z : ◌≡◌ {A = ℕ} 0 1 = cc in omega arith
    alone (rule7 P X Y) d = let z : ◌≡◌ {A = ℕ} 0 1 = cc in omega arith
    alone (rule8 P X Y) d = let z : ◌≡◌ {A = ℕ} 0 1 = cc in omega arith
    alone (rule12 P X Y) d = let z : ◌≡◌ {A = ℕ} 0 1 = cc in omega arith
    alone (rule13 P X Y) d = let z : ◌≡◌ {A = ℕ} 0 1 = cc in omega arith
    alone (rule14 P Q X Y) d = let z : ◌≡◌ {A = ℕ} 0 1 = cc in omega arith
    alone (rule15 P Q X Y) d = let z : ◌≡◌ {A = ℕ} 0 1 = cc in omega arith
    alone (rule16 P Q X Y) d = let z : ◌≡◌ {A = ℕ} 0 1 = cc in omega arith
    alone (rule17 P Q X Y) d = let z : ◌≡◌ {A = ℕ} 0 1 = cc in omega arith
    alone (rule18 P X Y) d = let z : ◌≡◌ {A = ℕ} 0 1 = cc in omega arith
    alone (rule19 P X Y) d = let z : ◌≡◌ {A = ℕ} 0 1 = cc in omega arith
    alone (rule22 P Q v X X' i) d = let z : ◌≡◌ {A = ℕ} 0 1 = cc in omega arith

pub only_joined : {n : ℕ} (P Q v : ℕ) (Z : Tree) {g f : Fact Tree} → Rule n (BelievesBelieves P Q (for_every v Z) ∷ g ∷ []) f → n ≡ 20
only_joined P Q v Z r = first r refl
  where
    first : {n : ℕ} {a g f : Fact Tree} → Rule n (a ∷ g ∷ []) f → a ≡ BelievesBelieves P Q (for_every v Z) → n ≡ 20
    first (rule1 P Q A B K R X ends other) d = absurd (let z : ◌≡◌ {A = ℕ} 0 1 = cc in omega arith)
    first (rule2 P Q K R X other) d = absurd (let z : ◌≡◌ {A = ℕ} 0 1 = cc in omega arith)
    first (rule3 P Q A B X Y ends) d = absurd (let z : ◌≡◌ {A = ℕ} 0 1 = cc in omega arith)
    first (rule4 P Q X is_clear) d = absurd (let z : ◌≡◌ {A = ℕ} 0 1 = cc in omega arith)
    first (rule5 P Q X) d = absurd (let z : ◌≡◌ {A = ℕ} 0 1 = cc in omega arith)
    first (rule9 P Q A B K R X ends other) d = absurd (let z : ◌≡◌ {A = ℕ} 0 1 = cc in omega arith)
    first (rule10 P K R X other) d = absurd (let z : ◌≡◌ {A = ℕ} 0 1 = cc in omega arith)
    first (rule11 P Q K R X other) d = absurd (let z : ◌≡◌ {A = ℕ} 0 1 = cc in omega arith)
    first (rule20 P X Y) d = refl
    first (rule21 P Q v X X' i) d = absurd (let z : ◌≡◌ {A = ℕ} 0 1 = cc in omega arith)
