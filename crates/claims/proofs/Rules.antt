-- The checker's tests are the rules: facts pass the test of rule r just if they are an instance of r on records. Assumes nothing.
use Prim.Native.Nat.{ℕ, zero, suc, ◌+◌, ◌<◌, ◌≤◌}
use native.Mathlib.Omega.{arith}
use native.Mathlib.Nat.{add-zero, add-suc, suc-add}
use mathlib.Core.Path.{◌≡◌, refl, sym, ap, ap₂, subst, subst₂, ◌∙◌}
use mathlib.Core.Logic.{◌⊎◌, inl, inr, ⊎_elim, ◌≢◌}
use mathlib.Core.List.{List, [], ◌∷◌}
use mathlib.Core.Bool.{Bool, true, false, ◌&&◌, ◌||◌}
use lib.ListN.{length, get_or, take}
use lib.Dec.{T, eqb, eqb→eq, T_not}
use borrow.Author.Tests.{eq-eqb, ne_eqb}
use Rattle.logic.specs.declared.Record.{Record}
use Rattle.logic.specs.Kind.{body_of, bodies}
use Rattle.logic.specs.Book.{All}
use Rattle.logic.specs.Formula.{clear, record_of, tree_of}
use Rattle.logic.specs.Fact.{Fact}
use Rattle.logic.specs.Fact.Fact.{Sees, Believes, BelievesFresh, BelievesSaid, BelievesBelieves}
use Rattle.logic.specs.Rule.{Ends}
use Rattle.logic.specs.Step.{premises_in}
use Rattle.logic.specs.Written.{opened}
use Rattle.logic.proofs.Tests.{T_and, T_true, true_T, eqb_same}
use Rattle.logic.proofs.Closure.{formula_of}
use Rattle.logic.proofs.Holder.{holder}
use Rattle.logic.proofs.Meaning.{Valid, formula_in_lem, form_of}
use Rattle.logic.proofs.ByKind.{fields}
use Rattle.logic.proofs.Formulas.{Formulas, is_record}
use Rattle.logic.proofs.RuleOn.{RuleOn}
use Rattle.logic.proofs.RuleOn.RuleOn.{record1, record2, record3, record4, record5, record6, record7, record8, record9, record10, record11, record12, record13, record14, record15, record16, record17, record18, record19, record20, record21, record22}
use Rattle.claims.specs.declared.Claim.{Claim}
use Rattle.claims.specs.Claim.{claim, same_claim, opened_claim}
use Rattle.claims.specs.Follow.{are_ends, is_under, from_other, follows1, follows2, follows3, follows4, follows5, follows9, follows10, follows11, follows20, follows21, follows22, is_delegated, is_seen_part, is_fresh_whole, is_held_part, is_believed_part, rule_tests}
use Rattle.claims.proofs.Claims.{mode_of, partner, claim_of, fact_once, is_sees, is_believes, is_fresh, is_said, is_believed, same_claim_lem, claim_same, formula_of_in, closed_of, opened_claim_lem}
use Rattle.matching.proofs.InstanceOverTrees.{instance_if, instance_only}

-- Parts of the tests.

either_T : (a b : Bool) → T (a || b) → T a ⊎ T b
either_T true b t = inl tt
either_T false b t = inr t

or_true : (a : Bool) → (a || true) ≡ true
or_true true = refl
or_true false = refl

ends_of : (p q : ℕ) (y : Record) → T (are_ends p q y) → Ends p q y.first y.third
ends_of p q y t =
    ⊎_elim
    (λ h. let u = T_and (eqb p y.first) _ h in inl (eqb→eq p y.first u.0, eqb→eq q y.third u.1))
    (λ h. let u = T_and (eqb p y.third) _ h in inr (eqb→eq p y.third u.0, eqb→eq q y.first u.1))
    (either_T (eqb p y.first && eqb q y.third) _ t)

of_ends : (p q : ℕ) (y : Record) → Ends p q y.first y.third → are_ends p q y ≡ true
of_ends p q y (inl (e, f)) = rw (eq-eqb p y.first e, eq-eqb q y.third f)
of_ends p q y (inr (e, f)) = rw (eq-eqb p y.third e, eq-eqb q y.first f) (or_true (eqb p y.first && eqb q y.third))

-- one end, with the other
end_of : (p : ℕ) (y : Record) → T (eqb p y.first || eqb p y.third) → (q : ℕ) × Ends p q y.first y.third
end_of p y t =
    ⊎_elim (λ h. (y.third, inl (eqb→eq p y.first h, refl))) (λ h. (y.first, inr (eqb→eq p y.third h, refl)))
    (either_T (eqb p y.first) (eqb p y.third) t)

of_end : (p q : ℕ) (y : Record) → Ends p q y.first y.third → (eqb p y.first || eqb p y.third) ≡ true
of_end p q y (inl (e, f)) = rw (eq-eqb p y.first e)
of_end p q y (inr (e, f)) = rw (eq-eqb p y.third e) (or_true (eqb p y.first))

from_other_lem : (e : Record) (a : Claim) → T (from_other e a) → e.third ≢ a.p
from_other_lem e a t h = T_not (eqb e.third a.p) t (true_T (eqb e.third a.p) (eq-eqb e.third a.p h))

-- P believes y and sees e
record Under (i j key : ℕ) (y e : Record) (a b : Fact ℕ) : Type 0 where
  believes : a ≡ Believes (holder a) (formula_of a)
  sees : b ≡ Sees (holder a) (formula_of b)
  kind_y : y.kind ≡ i
  kind_e : e.kind ≡ j
  keys : key ≡ e.second

under : (i j key : ℕ) (y e : Record) (a b : Fact ℕ) → T (is_under i j key y e (claim_of a) (claim_of b)) → Under i j key y e a b
under i j key y e a b t =
    let u = T_and (eqb (mode_of a) 2 && (eqb (mode_of b) 1 && eqb (holder b) (holder a))) _ t in
    let v = T_and (eqb (mode_of a) 2) _ u.0 in
    let w = T_and (eqb (mode_of b) 1) _ v.1 in
    let x = T_and (eqb y.kind i) _ u.1 in
    let z = T_and (eqb e.kind j) _ x.1 in
    record {
      believes = is_believes a (eqb→eq (mode_of a) 2 v.0);
      sees = is_sees b (eqb→eq (mode_of b) 1 w.0) ∙ ap (λ p. Sees p (formula_of b)) (eqb→eq (holder b) (holder a) w.1);
      kind_y = eqb→eq y.kind i x.0;
      kind_e = eqb→eq e.kind j z.0;
      keys = eqb→eq key e.second z.1;
    }

of_under : (i j key p : ℕ) (x z : ℕ) (y e : Record) → y.kind ≡ i → e.kind ≡ j → key ≡ e.second
    → is_under i j key y e (claim 2 p 0 x) (claim 1 p 0 z) ≡ true
of_under i j key p x z y e f g h = rw (eqb_same p, eq-eqb y.kind i f, eq-eqb e.kind j g, eq-eqb key e.second h)

-- a mode and a kind
mode_kind : (m i k j : ℕ) → T (eqb m i && eqb k j) → (m ≡ i) × (k ≡ j)
mode_kind m i k j t = let u = T_and (eqb m i) _ t in (eqb→eq m i u.0, eqb→eq k j u.1)

two : {a b c d : Fact ℕ} → a ≡ c → b ≡ d → a ∷ b ∷ [] ≡ c ∷ d ∷ []
two e f = ap₂ (λ s t. s ∷ t ∷ []) e f

one : {a c : Fact ℕ} → a ≡ c → a ∷ [] ≡ c ∷ []
one e = ap (λ s. s ∷ []) e

-- an instance between equal facts
between : {fs : List Record} {n : ℕ} {hs gs : List (Fact ℕ)} {h g : Fact ℕ} → RuleOn fs n hs h → hs ≡ gs → h ≡ g → RuleOn fs n gs g
between {fs} {n} r p c = subst₂ (RuleOn fs n) p c r

-- Each test gives an instance, and each instance passes its test. is_clear says which formulas are clear.
module _ (fs : List Record) (ok : Formulas fs) (few : length fs ≤ 256) (is_clear : ℕ → Bool) (clear_is : (x : ℕ) → x < length fs → is_clear x ≡ clear (tree_of fs x)) where
  abbrev R : ℕ → Record
  R x = record_of fs x

  -- a kind 17, d: its variable, and the records of "Q controls X" and of X
  record Delegates (d : ℕ) : Type 0 where
    variable : (R (R d).first).kind ≡ 16
    control : (R d).second < length fs
    inner : (R (R d).second).second < length fs

  delegates : (d : ℕ) → (R d).kind ≡ 17 → Delegates d
  unfolding body_of bodies
  delegates d k =
      let h = fields fs ok d 17 k (λ z. omega arith) in
      let c = h.1 in
      record {
        variable = h.0;
        control = is_record fs (R d).second (λ z. omega arith);
        inner = formula_in_lem fs _ (form_of fs _ (fields fs ok (R d).second 15 c (λ z. omega arith)).1);
      }

  is_opened : (g : Fact ℕ) (p x : ℕ) → T (same_claim (claim_of g) (opened_claim (R x) p x)) → opened fs p x ≡ g
  is_opened g p x t = sym (fact_once g (opened fs p x) (same_claim_lem (claim_of g) (opened_claim (R x) p x) t ∙ sym (opened_claim_lem fs p x)))

  module _ (a b g : Fact ℕ) where
    abbrev y : Record
    y = R (formula_of a)

    abbrev e : Record
    e = R (formula_of b)

    abbrev z : Record
    z = R (formula_of g)

    gives1 : T (follows1 y e (claim_of a) (claim_of b) (claim_of g)) → RuleOn fs 1 (a ∷ b ∷ []) g
    gives1 t =
        let t₁ = T_and (is_under 8 5 y.second y e (claim_of a) (claim_of b)) _ t in
        let t₂ = T_and (from_other e (claim_of a)) _ t₁.1 in
        let t₃ = T_and (are_ends (holder a) (partner g) y) _ t₂.1 in
        let u = under 8 5 y.second y e a b t₁.0 in
        between (record1 (holder a) (partner g) (formula_of a) (formula_of b) u.kind_y u.kind_e u.keys (ends_of (holder a) (partner g) y t₃.0) (from_other_lem e (claim_of a) t₂.0))
        (two (sym u.believes) (sym u.sees)) (sym (fact_once g (BelievesSaid (holder a) (partner g) e.first) (same_claim_lem (claim_of g) _ t₃.1)))

    gives2 : T (follows2 y e (claim_of a) (claim_of b) (claim_of g)) → RuleOn fs 2 (a ∷ b ∷ []) g
    gives2 t =
        let t₁ = T_and (is_under 9 6 y.first y e (claim_of a) (claim_of b)) _ t in
        let t₂ = T_and (from_other e (claim_of a)) _ t₁.1 in
        let u = under 9 6 y.first y e a b t₁.0 in
        between (record2 (holder a) (formula_of a) (formula_of b) u.kind_y u.kind_e u.keys (from_other_lem e (claim_of a) t₂.0))
        (two (sym u.believes) (sym u.sees)) (sym (fact_once g (BelievesSaid (holder a) y.second e.first) (same_claim_lem (claim_of g) _ t₂.1)))

    gives3 : T (follows3 y e (claim_of a) (claim_of b) (claim_of g)) → RuleOn fs 3 (a ∷ b ∷ []) g
    gives3 t =
        let t₁ = T_and (is_under 10 7 y.second y e (claim_of a) (claim_of b)) _ t in
        let t₃ = T_and (are_ends (holder a) (partner g) y) _ t₁.1 in
        let u = under 10 7 y.second y e a b t₁.0 in
        between (record3 (holder a) (partner g) (formula_of a) (formula_of b) u.kind_y u.kind_e u.keys (ends_of (holder a) (partner g) y t₃.0))
        (two (sym u.believes) (sym u.sees)) (sym (fact_once g (BelievesSaid (holder a) (partner g) e.first) (same_claim_lem (claim_of g) _ t₃.1)))

    gives4 : Valid fs b → T (follows4 (is_clear (formula_of b)) (claim_of a) (claim_of b) (claim_of g)) → RuleOn fs 4 (a ∷ b ∷ []) g
    gives4 v t =
        let t₁ = T_and (is_clear (formula_of b)) _ t in
        let t₂ = T_and (eqb (mode_of b) 4) _ t₁.1 in
        let t₃ = T_and (same_claim (claim_of a) (claim 3 (holder b) 0 (formula_of b))) _ t₂.1 in
        between (record4 (holder b) (partner b) (formula_of b) (rw (clear_is (formula_of b) (formula_of_in fs b v)) at t₁.0))
        (two (sym (fact_once a (BelievesFresh (holder b) (formula_of b)) (same_claim_lem (claim_of a) _ t₃.0))) (sym (is_said b (eqb→eq (mode_of b) 4 t₂.0)))) (sym (fact_once g (BelievesBelieves (holder b) (partner b) (formula_of b)) (same_claim_lem (claim_of g) _ t₃.1)))

    gives5 : T (follows5 R y (claim_of a) (claim_of b) (claim_of g)) → RuleOn fs 5 (a ∷ b ∷ []) g
    gives5 t =
        let t₁ = T_and (eqb (mode_of a) 2 && eqb y.kind 15) _ t in
        let k = mode_kind (mode_of a) 2 y.kind 15 t₁.0 in
        let t₂ = T_and (same_claim (claim_of b) (claim 5 (holder a) y.first y.second)) _ t₁.1 in
        between (record5 (holder a) (formula_of a) k.1)
        (two (sym (is_believes a k.0)) (sym (fact_once b (BelievesBelieves (holder a) y.first y.second) (same_claim_lem (claim_of b) _ t₂.0)))) (is_opened g (holder a) y.second t₂.1)

    -- rules 6, 7, 8
    seen : (k x : ℕ) → T (is_seen_part k x y (claim_of a) (claim_of g)) → (y.kind ≡ k) × (Sees (holder a) (formula_of a) ≡ a) × (Sees (holder a) x ≡ g)
    seen k x t =
        let t₁ = T_and (eqb (mode_of a) 1 && eqb y.kind k) _ t in
        let h = mode_kind (mode_of a) 1 y.kind k t₁.0 in
        (h.1, sym (is_sees a h.0), sym (fact_once g (Sees (holder a) x) (same_claim_lem (claim_of g) _ t₁.1)))

    gives6 : T (is_seen_part 4 y.first y (claim_of a) (claim_of g)) → RuleOn fs 6 (a ∷ []) g
    gives6 t = let h = seen 4 y.first t in between (record6 (holder a) (formula_of a) h.0) (one h.1) h.2

    gives7 : T (is_seen_part 4 y.second y (claim_of a) (claim_of g)) → RuleOn fs 7 (a ∷ []) g
    gives7 t = let h = seen 4 y.second t in between (record7 (holder a) (formula_of a) h.0) (one h.1) h.2

    gives8 : T (is_seen_part 7 y.first y (claim_of a) (claim_of g)) → RuleOn fs 8 (a ∷ []) g
    gives8 t = let h = seen 7 y.first t in between (record8 (holder a) (formula_of a) h.0) (one h.1) h.2

    gives9 : T (follows9 y e (claim_of a) (claim_of b) (claim_of g)) → RuleOn fs 9 (a ∷ b ∷ []) g
    gives9 t =
        let t₁ = T_and (is_under 8 5 y.second y e (claim_of a) (claim_of b)) _ t in
        let t₂ = T_and (from_other e (claim_of a)) _ t₁.1 in
        let t₃ = T_and (eqb (holder a) y.first || eqb (holder a) y.third) _ t₂.1 in
        let u = under 8 5 y.second y e a b t₁.0 in
        let q = end_of (holder a) y t₃.0 in
        between (record9 (holder a) q.0 (formula_of a) (formula_of b) u.kind_y u.kind_e u.keys q.1 (from_other_lem e (claim_of a) t₂.0))
        (two (sym u.believes) (sym u.sees)) (sym (fact_once g (Sees (holder a) e.first) (same_claim_lem (claim_of g) _ t₃.1)))

    gives10 : T (follows10 y e (claim_of a) (claim_of b) (claim_of g)) → RuleOn fs 10 (a ∷ b ∷ []) g
    gives10 t =
        let t₁ = T_and (is_under 9 5 y.first y e (claim_of a) (claim_of b)) _ t in
        let t₂ = T_and (from_other e (claim_of a)) _ t₁.1 in
        let t₃ = T_and (eqb y.second (holder a)) _ t₂.1 in
        let u = under 9 5 y.first y e a b t₁.0 in
        between (record10 (holder a) (formula_of a) (formula_of b) u.kind_y u.kind_e u.keys (eqb→eq y.second (holder a) t₃.0) (from_other_lem e (claim_of a) t₂.0))
        (two (sym u.believes) (sym u.sees)) (sym (fact_once g (Sees (holder a) e.first) (same_claim_lem (claim_of g) _ t₃.1)))

    gives11 : T (follows11 y e (claim_of a) (claim_of b) (claim_of g)) → RuleOn fs 11 (a ∷ b ∷ []) g
    gives11 t =
        let t₁ = T_and (is_under 9 6 y.first y e (claim_of a) (claim_of b)) _ t in
        let t₂ = T_and (from_other e (claim_of a)) _ t₁.1 in
        let u = under 9 6 y.first y e a b t₁.0 in
        between (record11 (holder a) (formula_of a) (formula_of b) u.kind_y u.kind_e u.keys (from_other_lem e (claim_of a) t₂.0))
        (two (sym u.believes) (sym u.sees)) (sym (fact_once g (Sees (holder a) e.first) (same_claim_lem (claim_of g) _ t₂.1)))

    -- rules 12, 13
    whole : (x : ℕ) → T (is_fresh_whole x z (claim_of a) (claim_of g)) → (z.kind ≡ 4) × (BelievesFresh (holder g) x ≡ a) × (BelievesFresh (holder g) (formula_of g) ≡ g)
    whole x t =
        let t₁ = T_and (eqb (mode_of g) 3 && eqb z.kind 4) _ t in
        let h = mode_kind (mode_of g) 3 z.kind 4 t₁.0 in
        (h.1, sym (fact_once a (BelievesFresh (holder g) x) (same_claim_lem (claim_of a) _ t₁.1)), sym (is_fresh g h.0))

    gives12 : Valid fs g → T (is_fresh_whole z.first z (claim_of a) (claim_of g)) → RuleOn fs 12 (a ∷ []) g
    gives12 v t = let h = whole z.first t in between (record12 (holder g) (formula_of g) h.0 (closed_of fs g v)) (one h.1) h.2

    gives13 : Valid fs g → T (is_fresh_whole z.second z (claim_of a) (claim_of g)) → RuleOn fs 13 (a ∷ []) g
    gives13 v t = let h = whole z.second t in between (record13 (holder g) (formula_of g) h.0 (closed_of fs g v)) (one h.1) h.2

    -- rules 14 to 17
    held : (i x : ℕ) → T (is_held_part i x y (claim_of a) (claim_of g)) → (y.kind ≡ 4) × (mode_of a ≡ i) × (claim_of g ≡ claim i (holder a) (partner a) x)
    held i x t =
        let t₁ = T_and (eqb (mode_of a) i && eqb y.kind 4) _ t in
        let h = mode_kind (mode_of a) i y.kind 4 t₁.0 in
        (h.1, h.0, same_claim_lem (claim_of g) _ t₁.1)

    gives14 : T (is_held_part 4 y.first y (claim_of a) (claim_of g)) → RuleOn fs 14 (a ∷ []) g
    gives14 t =
        let h = held 4 y.first t in
        between (record14 (holder a) (partner a) (formula_of a) h.0) (one (sym (is_said a h.1))) (sym (fact_once g (BelievesSaid (holder a) (partner a) y.first) h.2))

    gives15 : T (is_held_part 4 y.second y (claim_of a) (claim_of g)) → RuleOn fs 15 (a ∷ []) g
    gives15 t =
        let h = held 4 y.second t in
        between (record15 (holder a) (partner a) (formula_of a) h.0) (one (sym (is_said a h.1))) (sym (fact_once g (BelievesSaid (holder a) (partner a) y.second) h.2))

    gives16 : T (is_held_part 5 y.first y (claim_of a) (claim_of g)) → RuleOn fs 16 (a ∷ []) g
    gives16 t =
        let h = held 5 y.first t in
        between (record16 (holder a) (partner a) (formula_of a) h.0) (one (sym (is_believed a h.1))) (sym (fact_once g (BelievesBelieves (holder a) (partner a) y.first) h.2))

    gives17 : T (is_held_part 5 y.second y (claim_of a) (claim_of g)) → RuleOn fs 17 (a ∷ []) g
    gives17 t =
        let h = held 5 y.second t in
        between (record17 (holder a) (partner a) (formula_of a) h.0) (one (sym (is_believed a h.1))) (sym (fact_once g (BelievesBelieves (holder a) (partner a) y.second) h.2))

    -- rules 18, 19
    believed : (x : ℕ) → T (is_believed_part R x y (claim_of a) (claim_of g)) → (y.kind ≡ 4) × (Believes (holder a) (formula_of a) ≡ a) × (opened fs (holder a) x ≡ g)
    believed x t =
        let t₁ = T_and (eqb (mode_of a) 2 && eqb y.kind 4) _ t in
        let h = mode_kind (mode_of a) 2 y.kind 4 t₁.0 in
        (h.1, sym (is_believes a h.0), is_opened g (holder a) x t₁.1)

    gives18 : T (is_believed_part R y.first y (claim_of a) (claim_of g)) → RuleOn fs 18 (a ∷ []) g
    gives18 t = let h = believed y.first t in between (record18 (holder a) (formula_of a) h.0) (one h.1) h.2

    gives19 : T (is_believed_part R y.second y (claim_of a) (claim_of g)) → RuleOn fs 19 (a ∷ []) g
    gives19 t = let h = believed y.second t in between (record19 (holder a) (formula_of a) h.0) (one h.1) h.2

    gives20 : Valid fs g → T (follows20 R z (claim_of a) (claim_of b) (claim_of g)) → RuleOn fs 20 (a ∷ b ∷ []) g
    gives20 v t =
        let t₁ = T_and (eqb (mode_of g) 2 && eqb z.kind 4) _ t in
        let h = mode_kind (mode_of g) 2 z.kind 4 t₁.0 in
        let t₂ = T_and (same_claim (claim_of a) (opened_claim (R z.first) (holder g) z.first)) _ t₁.1 in
        between (record20 (holder g) (formula_of g) h.1 (closed_of fs g v))
        (two (is_opened a (holder g) z.first t₂.0) (is_opened b (holder g) z.second t₂.1)) (sym (is_believes g h.0))

    -- rules 21, 22
    gives21 : Valid fs b → T (follows21 R y e (claim_of a) (claim_of b) (claim_of g)) → RuleOn fs 21 (a ∷ b ∷ []) g
    gives21 v t =
        let t₁ = T_and (is_delegated y (claim_of a) && (same_claim (claim_of b) (claim 5 (holder a) (R y.second).first (formula_of b)) && same_claim (claim_of g) (opened_claim e (holder a) (formula_of b)))) _ t in
        let t₂ = T_and (is_delegated y (claim_of a)) _ t₁.0 in
        let t₃ = T_and (same_claim (claim_of b) (claim 5 (holder a) (R y.second).first (formula_of b))) _ t₂.1 in
        let h = mode_kind (mode_of a) 2 y.kind 17 t₂.0 in
        let d = delegates (formula_of a) h.1 in
        let i = instance_if fs ok few y.first d.variable (R y.second).second (formula_of b) d.inner (formula_of_in fs b v) t₁.1 in
        between (record21 (holder a) (formula_of a) (formula_of b) h.1 i)
        (two (sym (is_believes a h.0)) (sym (fact_once b (BelievesBelieves (holder a) (R y.second).first (formula_of b)) (same_claim_lem (claim_of b) _ t₃.0)))) (is_opened g (holder a) (formula_of b) t₃.1)

    gives22 : Valid fs g → T (follows22 R y z (claim_of a) (claim_of g)) → RuleOn fs 22 (a ∷ []) g
    gives22 v t =
        let t₁ = T_and (is_delegated y (claim_of a) && (eqb z.kind 15 && same_claim (claim_of g) (claim 2 (holder a) 0 (formula_of g)))) _ t in
        let t₂ = T_and (is_delegated y (claim_of a)) _ t₁.0 in
        let t₃ = T_and (eqb z.kind 15) _ t₂.1 in
        let h = mode_kind (mode_of a) 2 y.kind 17 t₂.0 in
        let d = delegates (formula_of a) h.1 in
        let i = instance_if fs ok few y.first d.variable y.second (formula_of g) d.control (formula_of_in fs g v) t₁.1 in
        between (record22 (holder a) (formula_of a) (formula_of g) h.1 (eqb→eq z.kind 15 t₃.0) i)
        (one (sym (is_believes a h.0))) (sym (fact_once g (Believes (holder a) (formula_of g)) (same_claim_lem (claim_of g) _ t₃.1)))

    -- the premises that rule r takes of a and b
    abbrev taken : ℕ → List (Fact ℕ)
    taken r = take (premises_in r) (a ∷ b ∷ [])

    -- each test of a list that counts from r gives an instance of its number
    abbrev Gives : ℕ → List Bool → Type 0
    Gives r [] = Unit
    Gives r (t ∷ l) = (T t → RuleOn fs r (taken r) g) × Gives (suc r) l

    given_at : (r : ℕ) (l : List Bool) → Gives r l → (k : ℕ) → T (get_or l k false) → RuleOn fs (r + k) (taken (r + k)) g
    given_at r [] h k t = absurd t
    given_at r (x ∷ l) h zero t = rw add-zero (h.0 t)
    given_at r (x ∷ l) h (suc k) t = rw (add-suc, ← suc-add r k) (given_at (suc r) l h.1 k t)

    gives : Valid fs b → Valid fs g → Gives 1 (rule_tests R is_clear (claim_of a) (claim_of b) (claim_of g))
    unfolding rule_tests
    gives v w = (gives1, (gives2, (gives3, (gives4 v, (gives5, (gives6, (gives7, (gives8, (gives9, (gives10, (gives11, (gives12 w, (gives13 w, (gives14, (gives15, (gives16, (gives17, (gives18, (gives19, (gives20 w, (gives21 v, (gives22 w, tt))))))))))))))))))))))

    -- WHAT PASSES TEST r is an instance of rule r
    pub passed_instance : Valid fs b → Valid fs g → (r : ℕ) → T (get_or (rule_tests R is_clear (claim_of a) (claim_of b) (claim_of g)) r false) → RuleOn fs (1 + r) (taken (1 + r)) g
    passed_instance v w r t = given_at 1 (rule_tests R is_clear (claim_of a) (claim_of b) (claim_of g)) (gives v w) r t

  -- an instance passes the test of its number; b stands for a second premise where the rule has none
  abbrev Passes : (r : ℕ) (gs : List (Fact ℕ)) (b g : Fact ℕ) → Type 0
  Passes r gs b g = T (get_or (false ∷ rule_tests R is_clear (claim_of (get_or gs 0 (Sees 0 0))) (claim_of (get_or gs 1 b)) (claim_of g)) r false)

  opened_same : (p x : ℕ) → same_claim (claim_of (opened fs p x)) (opened_claim (R x) p x) ≡ true
  opened_same p x =
      subst (λ (c : Claim). same_claim c (opened_claim (R x) p x) ≡ true) (sym (opened_claim_lem fs p x)) (claim_same (opened_claim (R x) p x))

  -- AN INSTANCE OF RULE r passes test r
  pub passes : (b : Fact ℕ) {r : ℕ} {gs : List (Fact ℕ)} {g : Fact ℕ} → RuleOn fs r gs g → All (Valid fs) gs → Passes r gs b g
  unfolding rule_tests
  passes b (record1 p q y e ky ke k ends other) v = rw (of_under 8 5 (R y).second p y e (R y) (R e) ky ke k, ne_eqb (R e).third p other, of_ends p q (R y) ends, claim_same (claim 4 p q (R e).first)) tt
  passes b (record2 p y e ky ke k other) v = rw (of_under 9 6 (R y).first p y e (R y) (R e) ky ke k, ne_eqb (R e).third p other, claim_same (claim 4 p (R y).second (R e).first)) tt
  passes b (record3 p q y e ky ke k ends) v = rw (of_under 10 7 (R y).second p y e (R y) (R e) ky ke k, of_ends p q (R y) ends, claim_same (claim 4 p q (R e).first)) tt
  passes b (record4 p q x is_clear) v = rw (clear_is x (formula_in_lem fs x v.0.1.0), T_true (clear (tree_of fs x)) is_clear, claim_same (claim 3 p 0 x), claim_same (claim 5 p q x)) tt
  passes b (record5 p e k) v = rw (k, claim_same (claim 5 p (R e).first (R e).second), opened_same p (R e).second) tt
  passes b (record6 p e k) v = rw (k, claim_same (claim 1 p 0 (R e).first)) tt
  passes b (record7 p e k) v = rw (k, claim_same (claim 1 p 0 (R e).second)) tt
  passes b (record8 p e k) v = rw (k, claim_same (claim 1 p 0 (R e).first)) tt
  passes b (record9 p q y e ky ke k ends other) v = rw (of_under 8 5 (R y).second p y e (R y) (R e) ky ke k, ne_eqb (R e).third p other, of_end p q (R y) ends, claim_same (claim 1 p 0 (R e).first)) tt
  passes b (record10 p y e ky ke k own other) v = rw (of_under 9 5 (R y).first p y e (R y) (R e) ky ke k, ne_eqb (R e).third p other, eq-eqb (R y).second p own, claim_same (claim 1 p 0 (R e).first)) tt
  passes b (record11 p y e ky ke k other) v = rw (of_under 9 6 (R y).first p y e (R y) (R e) ky ke k, ne_eqb (R e).third p other, claim_same (claim 1 p 0 (R e).first)) tt
  passes b (record12 p e k c) v = rw (k, claim_same (claim 3 p 0 (R e).first)) tt
  passes b (record13 p e k c) v = rw (k, claim_same (claim 3 p 0 (R e).second)) tt
  passes b (record14 p q e k) v = rw (k, claim_same (claim 4 p q (R e).first)) tt
  passes b (record15 p q e k) v = rw (k, claim_same (claim 4 p q (R e).second)) tt
  passes b (record16 p q e k) v = rw (k, claim_same (claim 5 p q (R e).first)) tt
  passes b (record17 p q e k) v = rw (k, claim_same (claim 5 p q (R e).second)) tt
  passes b (record18 p e k) v = rw (k, opened_same p (R e).first) tt
  passes b (record19 p e k) v = rw (k, opened_same p (R e).second) tt
  passes b (record20 p e k c) v = rw (k, opened_same p (R e).first, opened_same p (R e).second) tt
  passes b (record21 p d x k i) v =
      let h = delegates d k in
      let t = instance_only fs ok few (R d).first h.variable (R (R d).second).second x h.inner (formula_in_lem fs x v.1.0.2.0) i in
      rw (k, claim_same (claim 5 p (R (R d).second).first x), opened_same p x) t
  passes b (record22 p d c k kc i) v =
      let h = delegates d k in
      let t = instance_only fs ok few (R d).first h.variable (R d).second c h.control (is_record fs c (λ z. omega arith)) i in
      rw (k, kc, claim_same (claim 2 p 0 c)) t
