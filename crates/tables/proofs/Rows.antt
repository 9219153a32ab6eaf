-- What is used stays used: a table of users only grows. Assumes nothing.
use Prim.Native.Nat.{ℕ, zero, suc, ◌+◌, ◌*◌, ◌/◌, ◌%◌, ◌^◌, ◌<◌, ◌≤◌}
use native.Mathlib.Omega.{arith}
use native.Mathlib.Decide.{ℕ_discrete}
use mathlib.Core.Path.{◌≡◌, refl, sym, ◌∙◌, subst}
use mathlib.Core.Logic.{inl, inr}
use mathlib.Core.List.{List, [], ◌∷◌}
use mathlib.Core.Bool.{Bool, true, false, cond}
use lib.ListN.{length, get_or}
use Rattle.logic.specs.Derivation.{Among}
use Rattle.lanes.proofs.Sets.{Uses}
use Rattle.lanes.proofs.Bits.{put_in, Grows, grows_same, grows_then, or_grows, bit_in_lem}
use Rattle.tables.specs.Links.{is_statement, about_of}
use Rattle.tables.specs.Users.{used, used_in, asked, entered_upto, taken_over, row_upto, shared_one, shared_upto}

-- USERS ONE BY ONE
pub used_grows : (u : List ℕ) (x r : ℕ) → Grows u (used u x r)
unfolding used
used_grows u x r = or_grows u (x * 4 + r / 64) (2 ^ (r % 64))

pub used_uses : (u : List ℕ) (x r : ℕ) → length u ≡ 1024 → x < 256 → r < 256 → Uses (used u x r) x r
unfolding used
used_uses u x r wide lx lr = bit_in_lem u x r (omega arith)

pub in_grows : (u : List ℕ) (r : ℕ) (xs : List ℕ) → Grows u (used_in u r xs)
unfolding used_in
in_grows u r [] = grows_same u
in_grows u r (x ∷ xs) = grows_then u (used u x r) (used_in (used u x r) r xs) (used_grows u x r) (in_grows (used u x r) r xs)

pub in_uses : (u : List ℕ) (x r : ℕ) (xs : List ℕ) → length u ≡ 1024 → x < 256 → r < 256 → Among x xs → Uses (used_in u r xs) x r
unfolding used_in
in_uses u x r [] wide lx lr x6 = elim x6 [ ]
in_uses u x r (y ∷ xs) wide lx lr (inl e) =
    (in_grows (used u y r) r xs).stay x r (subst (λ k. Uses (used u k r) x r) e (used_uses u x r wide lx lr))
in_uses u x r (y ∷ xs) wide lx lr (inr m) = in_uses (used u y r) x r xs ((used_grows u y r).long ∙ wide) lx lr m

module _ (b u : List ℕ) where
  pub entered_long : (n : ℕ) → length (entered_upto b n u) ≡ length u
  unfolding entered_upto
  entered_long zero = refl
  entered_long (suc n) = (in_grows (entered_upto b n u) n (asked b n)).long ∙ entered_long n

  -- each record uses what its rules ask about
  pub entered_uses : (n x r : ℕ) → length u ≡ 1024 → n ≤ 256 → r < n → x < 256 → Among x (asked b r) → Uses (entered_upto b n u) x r
  unfolding entered_upto
  entered_uses zero x r wide ln l lx m = absurd (omega arith)
  entered_uses (suc n) x r wide ln l lx m = elim (ℕ_discrete r n) [
    | yes e ↦
        let a : Among x (asked b n) = subst (λ k. Among x (asked b k)) e m in
        subst (λ k. Uses (used_in (entered_upto b n u) n (asked b n)) x k) (sym e) (in_uses (entered_upto b n u) x n (asked b n) (entered_long n ∙ wide) lx (omega arith) a)
    | no d ↦ (in_grows (entered_upto b n u) n (asked b n)).stay x r (entered_uses n x r wide (omega arith) (omega arith) lx m)
  ]

-- ROWS TAKEN OVER
pub over_grows : (u : List ℕ) (t k j : ℕ) → Grows u (taken_over u t k j)
unfolding taken_over
over_grows u t k j = or_grows u (t * 4 + j) (get_or u (k * 4 + j) 0)

pub over_uses : (u : List ℕ) (t k r : ℕ) → length u ≡ 1024 → t < 256 → r < 256 → Uses u k r → Uses (taken_over u t k (r / 64)) t r
unfolding taken_over
over_uses u t k r wide lt lr h = put_in u (t * 4 + r / 64) (get_or u (k * 4 + r / 64) 0) (r % 64) (omega arith) h

module _ (u : List ℕ) (t k : ℕ) where
  pub row_grows : (m : ℕ) → Grows u (row_upto u t k m)
  unfolding row_upto
  row_grows zero = grows_same u
  row_grows (suc j) = grows_then u (row_upto u t k j) (taken_over (row_upto u t k j) t k j) (row_grows j) (over_grows (row_upto u t k j) t k j)

  pub row_uses : (m r : ℕ) → length u ≡ 1024 → t < 256 → r < 256 → r / 64 < m → Uses u k r → Uses (row_upto u t k m) t r
  unfolding row_upto
  row_uses zero r wide lt lr l h = absurd (omega arith)
  row_uses (suc j) r wide lt lr l h = elim (ℕ_discrete (r / 64) j) [
    | yes e ↦
        subst (λ i. Uses (taken_over (row_upto u t k j) t k i) t r) e
        (over_uses (row_upto u t k j) t k r ((row_grows j).long ∙ wide) lt lr ((row_grows j).stay k r h))
    | no d ↦ (over_grows (row_upto u t k j) t k j).stay t r (row_uses j r wide lt lr (omega arith) h)
  ]

module _ (b : List ℕ) where
  pub one_grows : (t : ℕ) (u : List ℕ) → Grows u (shared_one b t u)
  unfolding shared_one
  one_grows t u = go (is_statement b t)
    where
      go : (v : Bool) → Grows u (cond v (row_upto u t (about_of b t) 4) u)
      go true = row_grows u t (about_of b t) 4
      go false = grows_same u

  pub shared_grows : (n : ℕ) (u : List ℕ) → Grows u (shared_upto b n u)
  unfolding shared_upto
  shared_grows zero u = grows_same u
  shared_grows (suc t) u = grows_then u (shared_upto b t u) (shared_one b t (shared_upto b t u)) (shared_grows t u) (one_grows t (shared_upto b t u))

  -- the users of a key or a secret use each statement about it
  pub one_uses : (u : List ℕ) (t r : ℕ) → length u ≡ 1024 → t < 256 → r < 256 → true ≡ is_statement b t → Uses u (about_of b t) r → Uses (shared_one b t u) t r
  unfolding shared_one
  one_uses u t r wide lt lr s h = rw (← s) (row_uses u t (about_of b t) 4 r wide lt lr (omega arith) h)

  pub shared_uses : (n : ℕ) (u : List ℕ) (t r : ℕ) → length u ≡ 1024 → n ≤ 256 → t < n → r < 256 → true ≡ is_statement b t → Uses u (about_of b t) r
      → Uses (shared_upto b n u) t r
  unfolding shared_upto
  shared_uses zero u t r wide ln l lr s h = absurd (omega arith)
  shared_uses (suc n) u t r wide ln l lr s h = elim (ℕ_discrete t n) [
    | yes e ↦
        subst (λ k. Uses (shared_one b k (shared_upto b n u)) t r) e
        (one_uses (shared_upto b n u) t r ((shared_grows n u).long ∙ wide) (omega arith) lr s ((shared_grows n u).stay (about_of b t) r h))
    | no d ↦ (one_grows n (shared_upto b n u)).stay t r (shared_uses n u t r wide (omega arith) (omega arith) lr s h)
  ]
