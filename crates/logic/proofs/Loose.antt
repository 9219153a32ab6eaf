-- Loose variables: which parts of a formula without them have none, and what putting a key for a variable leaves of them.
use Prim.Native.Nat.{ℕ}
use mathlib.Core.Path.{◌≡◌, refl, ap, ap₂}
use mathlib.Core.Bool.{Bool, true, not}
use mathlib.Core.List.{List, [], ◌∷◌, ◌++◌}
use native.Mathlib.Omega.{arith}
use lib.Dec.{T, eqb}
use Rattle.logic.specs.Formula.{KeyField, Tree, loose_field, loose, is_empty, delegates, every, may_delegate, Sentence}
use Rattle.logic.specs.Formula.KeyField.{by_name, by_variable}
use Rattle.logic.specs.Formula.Tree.{principal, key, datum, conjunction, encrypted, signed, combined, shared_key, public_key, shared_secret, fresh, believes, sees, said, controls, variable, for_every}
use Rattle.logic.specs.Instance.{put_field, put}
use Rattle.logic.proofs.Tests.{T_and, and_T, T_true}

-- the test and the statement
pub empty_T : (l : List ℕ) → T (is_empty l) → l ≡ []
empty_T [] t = refl
empty_T (v ∷ l) t = absurd t

-- two lists that are empty together
pub no_left : (k l : List ℕ) → k ++ l ≡ [] → k ≡ []
no_left [] l e = refl
no_left (n ∷ k) l e = absurd (let z : ◌≡◌ {A = ℕ} 0 1 = cc in omega arith)

pub no_right : (k l : List ℕ) → k ++ l ≡ [] → l ≡ []
no_right [] l e = e
no_right (n ∷ k) l e = absurd (let z : ◌≡◌ {A = ℕ} 0 1 = cc in omega arith)

-- the parts of a conjunction without loose variables have none
pub left_sentence : (Leaf : Tree → Type 0) (X Y : Tree) → Sentence Leaf (conjunction X Y) → Sentence Leaf X
left_sentence Leaf X Y w = (w.0.0, no_left (loose X) (loose Y) w.1)

pub right_sentence : (Leaf : Tree → Type 0) (X Y : Tree) → Sentence Leaf (conjunction X Y) → Sentence Leaf Y
right_sentence Leaf X Y w = (w.0.1, no_right (loose X) (loose Y) w.1)

-- PUTTING A KEY FOR V. The variables of a formula that is allowed under V are just V, so none is left.
every_left : (p : ℕ → Bool) (k l : List ℕ) → T (every p (k ++ l)) → T (every p k)
every_left p [] l t = tt
every_left p (n ∷ k) l t =
    let h = T_and (p n) (every p (k ++ l)) t in
    and_T (p n) (every p k) h.0 (every_left p k l h.1)

every_right : (p : ℕ → Bool) (k l : List ℕ) → T (every p (k ++ l)) → T (every p l)
every_right p [] l t = t
every_right p (n ∷ k) l t = every_right p k l (T_and (p n) (every p (k ++ l)) t).1

none_joined : (k l : List ℕ) → k ≡ [] → l ≡ [] → k ++ l ≡ []
none_joined k l d e = rw (d, e) refl

field_closed : (v n : ℕ) (K : KeyField) → T (every (λ w. eqb w v) (loose_field K)) → loose_field (put_field v n K) ≡ []
field_closed v n (by_name m) t = refl
field_closed v n (by_variable w) t = rw (T_true (eqb w v) (T_and (eqb w v) true t).0) refl

pub put_closed : (v n : ℕ) (X : Tree) → T (every (λ w. eqb w v) (loose X)) → loose (put v n X) ≡ []
put_closed v n (principal m) t = refl
put_closed v n (key m) t = refl
put_closed v n (datum m) t = refl
put_closed v n (conjunction X Y) t =
    none_joined (loose (put v n X)) (loose (put v n Y))
    (put_closed v n X (every_left (λ w. eqb w v) (loose X) (loose Y) t)) (put_closed v n Y (every_right (λ w. eqb w v) (loose X) (loose Y) t))
put_closed v n (encrypted X K R) t =
    none_joined (loose (put v n X)) (loose_field (put_field v n K))
    (put_closed v n X (every_left (λ w. eqb w v) (loose X) (loose_field K) t)) (field_closed v n K (every_right (λ w. eqb w v) (loose X) (loose_field K) t))
put_closed v n (signed X K R) t =
    none_joined (loose (put v n X)) (loose_field (put_field v n K))
    (put_closed v n X (every_left (λ w. eqb w v) (loose X) (loose_field K) t)) (field_closed v n K (every_right (λ w. eqb w v) (loose X) (loose_field K) t))
put_closed v n (combined X Y) t =
    none_joined (loose (put v n X)) (loose (put v n Y))
    (put_closed v n X (every_left (λ w. eqb w v) (loose X) (loose Y) t)) (put_closed v n Y (every_right (λ w. eqb w v) (loose X) (loose Y) t))
put_closed v n (shared_key P K Q) t = field_closed v n K t
put_closed v n (public_key K Q) t = field_closed v n K t
put_closed v n (shared_secret P X Q) t = put_closed v n X t
put_closed v n (fresh X) t = put_closed v n X t
put_closed v n (believes P X) t = put_closed v n X t
put_closed v n (sees P X) t = put_closed v n X t
put_closed v n (said P X) t = put_closed v n X t
put_closed v n (controls P X) t = put_closed v n X t
put_closed v n (variable w) t = rw (T_true (eqb w v) (T_and (eqb w v) true t).0) refl
put_closed v n (for_every w Z) t = refl

pub allowed_closed : (v n : ℕ) (Z : Tree) → T (may_delegate v Z) → loose (put v n Z) ≡ []
allowed_closed v n Z t = put_closed v n Z (T_and (not (delegates Z)) (every (λ w. eqb w v) (loose Z)) t).1

-- WHERE V DOES NOT STAND, nothing is put
field_same : (v n : ℕ) (K : KeyField) → loose_field K ≡ [] → put_field v n K ≡ K
field_same v n (by_name m) e = refl
field_same v n (by_variable w) e = absurd (let z : ◌≡◌ {A = ℕ} 0 1 = cc in omega arith)

pub put_same : (v n : ℕ) (X : Tree) → loose X ≡ [] → put v n X ≡ X
put_same v n (principal m) e = refl
put_same v n (key m) e = refl
put_same v n (datum m) e = refl
put_same v n (conjunction X Y) e =
    ap₂ conjunction (put_same v n X (no_left (loose X) (loose Y) e)) (put_same v n Y (no_right (loose X) (loose Y) e))
put_same v n (encrypted X K R) e =
    ap₂ (λ x k. encrypted x k R) (put_same v n X (no_left (loose X) (loose_field K) e)) (field_same v n K (no_right (loose X) (loose_field K) e))
put_same v n (signed X K R) e =
    ap₂ (λ x k. signed x k R) (put_same v n X (no_left (loose X) (loose_field K) e)) (field_same v n K (no_right (loose X) (loose_field K) e))
put_same v n (combined X Y) e =
    ap₂ combined (put_same v n X (no_left (loose X) (loose Y) e)) (put_same v n Y (no_right (loose X) (loose Y) e))
put_same v n (shared_key P K Q) e = ap (λ k. shared_key P k Q) (field_same v n K e)
put_same v n (public_key K Q) e = ap (λ k. public_key k Q) (field_same v n K e)
put_same v n (shared_secret P X Q) e = ap (λ x. shared_secret P x Q) (put_same v n X e)
put_same v n (fresh X) e = ap fresh (put_same v n X e)
put_same v n (believes P X) e = ap (believes P) (put_same v n X e)
put_same v n (sees P X) e = ap (sees P) (put_same v n X e)
put_same v n (said P X) e = ap (said P) (put_same v n X e)
put_same v n (controls P X) e = ap (controls P) (put_same v n X e)
put_same v n (variable w) e = absurd (let z : ◌≡◌ {A = ℕ} 0 1 = cc in omega arith)
put_same v n (for_every w Z) e = refl
