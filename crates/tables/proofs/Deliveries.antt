-- What the list of deliveries has. Assumes nothing.
use Prim.Native.Nat.{ℕ, zero, suc, ◌<◌, ◌≤◌}
use native.Mathlib.Omega.{arith}
use native.Mathlib.Decide.{ℕ_discrete}
use mathlib.Core.Path.{◌≡◌, refl, sym, ◌∙◌, subst}
use mathlib.Core.List.{List}
use lib.ListN.{length, get_or, set, replicate, length-set}
use lib.Seq.{get_or-set_same, get_or-set_other, get_or-take, length-take-le}
use borrow.Author.Tests.{le-leb}
use Rattle.tables.specs.Deliveries.{delivery_at, delivered_upto, deliveries_of, listed}

module _ (b ds : List ℕ) where
  upto_length : (n : ℕ) → length (delivered_upto b n ds) ≡ length ds
  unfolding delivered_upto
  upto_length zero = refl
  upto_length (suc n) = length-set (delivered_upto b n ds) n (delivery_at b n) ∙ upto_length n

  upto_has : (n m : ℕ) → m < n → n ≤ length ds → get_or (delivered_upto b n ds) m 0 ≡ delivery_at b m
  unfolding delivered_upto
  upto_has zero m l h = absurd (omega arith)
  upto_has (suc n) m l h = elim (ℕ_discrete m n) [
    | yes e ↦
        subst (λ k. get_or (set (delivered_upto b n ds) n (delivery_at b n)) k 0 ≡ delivery_at b k) (sym e)
        (get_or-set_same (delivered_upto b n ds) n (delivery_at b n) 0 (rw (upto_length n) h))
    | no e ↦ get_or-set_other (delivered_upto b n ds) n m (delivery_at b n) 0 e ∙ upto_has n m (omega arith) (omega arith)
  ]

-- THE DELIVERIES of the first n messages: there are n, each what it should be
pub listed_length : (b : List ℕ) (n : ℕ) → n ≤ 16 → length (listed b n) ≡ n
unfolding deliveries_of
listed_length b n l = rw (le-leb n 16 l) (length-take-le n (delivered_upto b n (replicate 16 0)) (rw (upto_length b (replicate 16 0) n) l))

pub listed_has : (b : List ℕ) (n m : ℕ) → n ≤ 16 → m < n → get_or (listed b n) m 0 ≡ delivery_at b m
unfolding deliveries_of
listed_has b n m l h = rw (le-leb n 16 l) (get_or-take n (delivered_upto b n (replicate 16 0)) m 0 h ∙ upto_has b (replicate 16 0) n m h l)

-- the table has room for them
pub listed_room : (b : List ℕ) (n : ℕ) {ds : List ℕ} → n ≤ 16 → ds ≡ deliveries_of b n (replicate 16 0) → n ≤ length ds
unfolding deliveries_of
listed_room b n l e = rw (e, le-leb n 16 l, upto_length b (replicate 16 0) n) l
