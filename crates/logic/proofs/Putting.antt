-- Putting a key for a variable, seen by the parts of a formula: a tree is known by its kind, its name and its parts, what is put goes to the
-- parts, and a key that was put somewhere is a part of a record, and so a record. Assumes nothing.
use Prim.Native.Nat.{ℕ, ◌≤◌}
use mathlib.Core.Path.{◌≡◌, refl, sym, ◌∙◌}
use mathlib.Core.Bool.{Bool, true, false, cond, not, ◌&&◌, ◌||◌}
use mathlib.Core.Logic.{◌⊎◌, inl, inr, ⊎_elim}
use mathlib.Core.List.{List, [], ◌∷◌, ◌++◌, map}
use native.Mathlib.Omega.{arith}
use lib.ListN.{get_or}
use lib.Dec.{T, eqb, eqb→eq}
use Rattle.logic.specs.declared.Record.{Record}
use Rattle.logic.specs.Book.{All}
use Rattle.logic.specs.Formula.{KeyField, Tree, loose_field, loose, delegates, every, may_delegate, no_tree, built, Recorded}
use Rattle.logic.specs.Formula.KeyField.{by_name, by_variable}
use Rattle.logic.specs.Formula.Tree.{principal, key, datum, conjunction, encrypted, signed, combined, shared_key, public_key, shared_secret, fresh, believes, sees, said, controls, variable, for_every}
use Rattle.logic.specs.Instance.{put_field, put}
use Rattle.logic.proofs.Tests.{T_and, and_T, T_nor, T_true}
use Rattle.logic.proofs.Parts.{key_leaf, parts, kind_of, leaf_name}
use Rattle.logic.proofs.Formulas.{Formulas, down}

-- A TREE BY ITS KIND, ITS NAME AND ITS PARTS
rebuilt : (k m : ℕ) → List Tree → Tree
rebuilt k m ps =
    built (λ x. get_or ps x no_tree) (λ x. record { kind = kind_of (get_or ps x no_tree); first = leaf_name (get_or ps x no_tree); second = 0; third = 0 })
    (record { kind = k; first = m; second = 1; third = 2 })

rebuilds : (X : Tree) → rebuilt (kind_of X) (leaf_name X) (parts X) ≡ X
unfolding rebuilt built
rebuilds (principal n) = refl
rebuilds (key n) = refl
rebuilds (datum n) = refl
rebuilds (conjunction X Y) = refl
rebuilds (encrypted X (by_name n) R) = refl
rebuilds (encrypted X (by_variable v) R) = refl
rebuilds (signed X (by_name n) R) = refl
rebuilds (signed X (by_variable v) R) = refl
rebuilds (combined X Y) = refl
rebuilds (shared_key P (by_name n) Q) = refl
rebuilds (shared_key P (by_variable v) Q) = refl
rebuilds (public_key (by_name n) Q) = refl
rebuilds (public_key (by_variable v) Q) = refl
rebuilds (shared_secret P X Q) = refl
rebuilds (fresh X) = refl
rebuilds (believes P X) = refl
rebuilds (sees P X) = refl
rebuilds (said P X) = refl
rebuilds (controls P X) = refl
rebuilds (variable v) = refl
rebuilds (for_every v Z) = refl

pub same_parts : (X Y : Tree) → kind_of X ≡ kind_of Y → leaf_name X ≡ leaf_name Y → parts X ≡ parts Y → X ≡ Y
same_parts X Y e f g = sym (rebuilds X) ∙ rw (e, f, g) (rebuilds Y)

-- KINDS 4 TO 15: formulas that have parts, but for kind 17
abbrev pub Inner : ℕ → Type 0
Inner k = (4 ≤ k) × (k ≤ 15)

pub no_name : (X : Tree) → Inner (kind_of X) → leaf_name X ≡ 0
no_name (principal n) i = absurd (omega (arith, i.0))
no_name (key n) i = absurd (omega (arith, i.0))
no_name (datum n) i = absurd (omega (arith, i.0))
no_name (conjunction X Y) i = refl
no_name (encrypted X K R) i = refl
no_name (signed X K R) i = refl
no_name (combined X Y) i = refl
no_name (shared_key P K Q) i = refl
no_name (public_key K Q) i = refl
no_name (shared_secret P X Q) i = refl
no_name (fresh X) i = refl
no_name (believes P X) i = refl
no_name (sees P X) i = refl
no_name (said P X) i = refl
no_name (controls P X) i = refl
no_name (variable v) i = absurd (omega (arith, i.1))
no_name (for_every v Z) i = refl

module _ (v n : ℕ) where
  pub put_kind : (X : Tree) → Inner (kind_of X) → kind_of (put v n X) ≡ kind_of X
  put_kind (principal m) i = refl
  put_kind (key m) i = refl
  put_kind (datum m) i = refl
  put_kind (conjunction X Y) i = refl
  put_kind (encrypted X K R) i = refl
  put_kind (signed X K R) i = refl
  put_kind (combined X Y) i = refl
  put_kind (shared_key P K Q) i = refl
  put_kind (public_key K Q) i = refl
  put_kind (shared_secret P X Q) i = refl
  put_kind (fresh X) i = refl
  put_kind (believes P X) i = refl
  put_kind (sees P X) i = refl
  put_kind (said P X) i = refl
  put_kind (controls P X) i = refl
  put_kind (variable w) i = absurd (omega (arith, i.1))
  put_kind (for_every w Z) i = refl

  put_leaf : (K : KeyField) → key_leaf (put_field v n K) ≡ put v n (key_leaf K)
  put_leaf (by_name m) = refl
  put_leaf (by_variable w) = go (eqb w v)
    where
      go : (b : Bool) → key_leaf (cond b (by_name n) (by_variable w)) ≡ cond b (key n) (variable w)
      go true = refl
      go false = refl

  pub put_parts : (X : Tree) → Inner (kind_of X) → parts (put v n X) ≡ map (put v n) (parts X)
  put_parts (principal m) i = refl
  put_parts (key m) i = refl
  put_parts (datum m) i = refl
  put_parts (conjunction X Y) i = refl
  put_parts (encrypted X K R) i = rw (put_leaf K)
  put_parts (signed X K R) i = rw (put_leaf K)
  put_parts (combined X Y) i = refl
  put_parts (shared_key P K Q) i = rw (put_leaf K)
  put_parts (public_key K Q) i = rw (put_leaf K)
  put_parts (shared_secret P X Q) i = refl
  put_parts (fresh X) i = refl
  put_parts (believes P X) i = refl
  put_parts (sees P X) i = refl
  put_parts (said P X) i = refl
  put_parts (controls P X) i = refl
  put_parts (variable w) i = absurd (omega (arith, i.1))
  put_parts (for_every w Z) i = absurd (omega (arith, i.1))

-- WHAT IS ALLOWED UNDER v: so are its parts
every_both : (p : ℕ → Bool) (k l : List ℕ) → T (every p (k ++ l)) → T (every p k) × T (every p l)
every_both p [] l t = (tt, t)
every_both p (n ∷ k) l t =
    let h = T_and (p n) (every p (k ++ l)) t in
    let g = every_both p k l h.1 in
    (and_T (p n) (every p k) h.0 g.0, g.1)

module _ (v : ℕ) where
  abbrev only : ℕ → Bool
  only w = eqb w v

  leaf_allowed : (K : KeyField) → T (every only (loose_field K)) → T (may_delegate v (key_leaf K))
  leaf_allowed (by_name n) t = tt
  leaf_allowed (by_variable w) t = t

  -- of two parts, and of one and a key
  two_allowed : (a b : Bool) (k l : List ℕ) → T (not (a || b) && every only (k ++ l)) → T (not a && every only k) × T (not b && every only l)
  two_allowed a b k l t =
      let h = T_and (not (a || b)) (every only (k ++ l)) t in
      let d = T_nor a b h.0 in
      let e = every_both only k l h.1 in
      (and_T (not a) (every only k) d.0 e.0, and_T (not b) (every only l) d.1 e.1)

  sealed_allowed : (X : Tree) (K : KeyField) → T (not (delegates X) && every only (loose X ++ loose_field K)) → T (may_delegate v X) × T (may_delegate v (key_leaf K))
  sealed_allowed X K t =
      let h = T_and (not (delegates X)) (every only (loose X ++ loose_field K)) t in
      let e = every_both only (loose X) (loose_field K) h.1 in
      (and_T (not (delegates X)) (every only (loose X)) h.0 e.0, leaf_allowed K e.1)

  pub parts_allowed : (X : Tree) → T (may_delegate v X) → All (λ P. T (may_delegate v P)) (parts X)
  parts_allowed (principal n) t = tt
  parts_allowed (key n) t = tt
  parts_allowed (datum n) t = tt
  parts_allowed (conjunction X Y) t = let h = two_allowed (delegates X) (delegates Y) (loose X) (loose Y) t in (h.0, (h.1, tt))
  parts_allowed (encrypted X K R) t = let h = sealed_allowed X K t in (h.0, (h.1, (tt, tt)))
  parts_allowed (signed X K R) t = let h = sealed_allowed X K t in (h.0, (h.1, (tt, tt)))
  parts_allowed (combined X Y) t = let h = two_allowed (delegates X) (delegates Y) (loose X) (loose Y) t in (h.0, (h.1, tt))
  parts_allowed (shared_key P K Q) t = (tt, (leaf_allowed K t, (tt, tt)))
  parts_allowed (public_key K Q) t = (leaf_allowed K t, (tt, tt))
  parts_allowed (shared_secret P X Q) t = (tt, (t, (tt, tt)))
  parts_allowed (fresh X) t = (t, tt)
  parts_allowed (believes P X) t = (tt, (t, tt))
  parts_allowed (sees P X) t = (tt, (t, tt))
  parts_allowed (said P X) t = (tt, (t, tt))
  parts_allowed (controls P X) t = (tt, (t, tt))
  parts_allowed (variable w) t = tt
  parts_allowed (for_every w Z) t = absurd t

-- LEAVES have no variable, and a variable that is allowed under v is v
pub leaf_closed : (X : Tree) → kind_of X ≤ 3 → loose X ≡ []
leaf_closed (principal n) l = refl
leaf_closed (key n) l = refl
leaf_closed (datum n) l = refl
leaf_closed (conjunction X Y) l = absurd (omega arith)
leaf_closed (encrypted X K R) l = absurd (omega arith)
leaf_closed (signed X K R) l = absurd (omega arith)
leaf_closed (combined X Y) l = absurd (omega arith)
leaf_closed (shared_key P K Q) l = absurd (omega arith)
leaf_closed (public_key K Q) l = absurd (omega arith)
leaf_closed (shared_secret P X Q) l = absurd (omega arith)
leaf_closed (fresh X) l = absurd (omega arith)
leaf_closed (believes P X) l = absurd (omega arith)
leaf_closed (sees P X) l = absurd (omega arith)
leaf_closed (said P X) l = absurd (omega arith)
leaf_closed (controls P X) l = absurd (omega arith)
leaf_closed (variable v) l = absurd (omega arith)
leaf_closed (for_every v Z) l = absurd (omega arith)

pub own_name : (v w : ℕ) → T (may_delegate v (variable w)) → w ≡ v
own_name v w t = eqb→eq w v (T_and (eqb w v) true t).0

-- THE KEY THAT WAS PUT: where the variable stands, the key is a part of what comes of it
two_lists : (k l : List ℕ) → (k ++ l ≡ [] → ⊥) → (k ≡ [] → ⊥) ⊎ (l ≡ [] → ⊥)
two_lists [] l n = inr n
two_lists (x ∷ k) l n = inl (λ e. let z : ◌≡◌ {A = ℕ} 0 1 = cc in omega arith)

module _ (fs : List Record) (ok : Formulas fs) (v n : ℕ) where
  leaf_key : (K : KeyField) → (loose_field K ≡ [] → ⊥) → T (may_delegate v (key_leaf K)) → Recorded fs (key_leaf (put_field v n K)) → Recorded fs (key n)
  leaf_key (by_name m) l t r = absurd (l refl)
  leaf_key (by_variable w) l t r = rw (T_true (eqb w v) (T_and (eqb w v) true t).0) at r

  pub put_key : (X : Tree) → (loose X ≡ [] → ⊥) → T (may_delegate v X) → Recorded fs (put v n X) → Recorded fs (key n)
  put_key (principal m) l t r = absurd (l refl)
  put_key (key m) l t r = absurd (l refl)
  put_key (datum m) l t r = absurd (l refl)
  put_key (conjunction X Y) l t r =
      let h = two_allowed v (delegates X) (delegates Y) (loose X) (loose Y) t in
      let d = down fs ok _ r in
      ⊎_elim (λ a. put_key X a h.0 d.0) (λ b. put_key Y b h.1 d.1.0) (two_lists (loose X) (loose Y) l)
  put_key (encrypted X K R) l t r =
      let h = sealed_allowed v X K t in
      let d = down fs ok _ r in
      ⊎_elim (λ a. put_key X a h.0 d.0) (λ b. leaf_key K b h.1 d.1.0) (two_lists (loose X) (loose_field K) l)
  put_key (signed X K R) l t r =
      let h = sealed_allowed v X K t in
      let d = down fs ok _ r in
      ⊎_elim (λ a. put_key X a h.0 d.0) (λ b. leaf_key K b h.1 d.1.0) (two_lists (loose X) (loose_field K) l)
  put_key (combined X Y) l t r =
      let h = two_allowed v (delegates X) (delegates Y) (loose X) (loose Y) t in
      let d = down fs ok _ r in
      ⊎_elim (λ a. put_key X a h.0 d.0) (λ b. put_key Y b h.1 d.1.0) (two_lists (loose X) (loose Y) l)
  put_key (shared_key P K Q) l t r = leaf_key K l (leaf_allowed v K t) (down fs ok _ r).1.0
  put_key (public_key K Q) l t r = leaf_key K l (leaf_allowed v K t) (down fs ok _ r).0
  put_key (shared_secret P X Q) l t r = put_key X l t (down fs ok _ r).1.0
  put_key (fresh X) l t r = put_key X l t (down fs ok _ r).0
  put_key (believes P X) l t r = put_key X l t (down fs ok _ r).1.0
  put_key (sees P X) l t r = put_key X l t (down fs ok _ r).1.0
  put_key (said P X) l t r = put_key X l t (down fs ok _ r).1.0
  put_key (controls P X) l t r = put_key X l t (down fs ok _ r).1.0
  put_key (variable w) l t r = rw (T_true (eqb w v) (T_and (eqb w v) true t).0) at r
  put_key (for_every w Z) l t r = absurd t
