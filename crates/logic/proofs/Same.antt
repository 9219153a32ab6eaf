-- The test of two records for equality, and the place of a record in a list.
use Prim.Native.Nat.{suc, ◌≤◌, ◌<◌, zero-le, suc-le-suc}
use native.Mathlib.Nat.{not-suc-le-zero, le_of_suc-le-suc}
use mathlib.Core.Path.{◌≡◌, refl, sym, ap, subst}
use mathlib.Core.Bool.{Bool, true, false, cond}
use mathlib.Core.List.{List, [], ◌∷◌}
use lib.ListN.{length, get_or}
use lib.Dec.{T, eqb, eqb→eq}
use Rattle.logic.specs.declared.Record.{Record}
use Rattle.logic.specs.Record.{same, no_record}
use Rattle.logic.specs.Count.{position_of}
use Rattle.logic.specs.Book.{All}
use Rattle.logic.proofs.Tests.{T_and, eqb_same}
use Rattle.logic.proofs.Bytes.{record_path}

pub same_path : (r q : Record) → T (same r q) → r ≡ q
same_path r q t =
    let k = T_and (eqb r.kind q.kind) _ t in
    let a = T_and (eqb r.first q.first) _ k.1 in
    let b = T_and (eqb r.second q.second) _ a.1 in
    record_path r q (eqb→eq _ _ k.0) (eqb→eq _ _ a.0) (eqb→eq _ _ b.0) (eqb→eq _ _ b.1)

pub same_self : (r : Record) → T (same r r)
same_self r = simp eqb_same tt

pub path_same : (r q : Record) → r ≡ q → T (same r q)
path_same r q e = subst (λ (x : Record). T (same r x)) e (same_self r)

pub place_le : (r : Record) (fs : List Record) → position_of r fs ≤ length fs
unfolding position_of
place_le r [] = zero-le
place_le r (q ∷ fs) = go (same r q) (place_le r fs)
  where
    go : (b : Bool) → position_of r fs ≤ length fs → cond b 0 (suc (position_of r fs)) ≤ suc (length fs)
    go true l = zero-le
    go false l = suc-le-suc l

-- a record that is found is the one at its place
pub place_found_lem : (r : Record) (fs : List Record) → position_of r fs < length fs → get_or fs (position_of r fs) no_record ≡ r
unfolding position_of
place_found_lem r [] l = absurd (not-suc-le-zero l)
place_found_lem r (q ∷ fs) l = go (same r q) (same_path r q) (place_found_lem r fs) l
  where
    go : (b : Bool) → (T b → r ≡ q) → (position_of r fs < length fs → get_or fs (position_of r fs) no_record ≡ r)
        → cond b 0 (suc (position_of r fs)) < suc (length fs) → get_or (q ∷ fs) (cond b 0 (suc (position_of r fs))) no_record ≡ r
    go true e h l = sym (e tt)
    go false e h l = h (le_of_suc-le-suc l)

-- a record that is not found is none of them
pub place_new : (r : Record) (fs : List Record) → length fs ≤ position_of r fs → All (λ q. r ≡ q → ⊥) fs
unfolding position_of
place_new r [] l = tt
place_new r (q ∷ fs) l = go (same r q) (path_same r q) (place_new r fs) l
  where
    go : (b : Bool) → (r ≡ q → T b) → (length fs ≤ position_of r fs → All (λ q. r ≡ q → ⊥) fs)
        → suc (length fs) ≤ cond b 0 (suc (position_of r fs)) → (r ≡ q → ⊥) × All (λ q. r ≡ q → ⊥) fs
    go true e h l = absurd (not-suc-le-zero l)
    go false e h l = (e, h (le_of_suc-le-suc l))

pub new_place : (r : Record) (fs : List Record) → All (λ q. r ≡ q → ⊥) fs → position_of r fs ≡ length fs
unfolding position_of
new_place r [] a = refl
new_place r (q ∷ fs) a = go (same r q) (same_path r q) (new_place r fs a.1)
  where
    go : (b : Bool) → (T b → r ≡ q) → position_of r fs ≡ length fs → cond b 0 (suc (position_of r fs)) ≡ suc (length fs)
    go true e h = absurd (a.0 (e tt))
    go false e h = ap suc h
