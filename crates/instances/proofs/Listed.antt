-- The formulas with just one variable, listed upwards: each stands at the place that counts those before it. Assumes nothing.
use Prim.Native.Nat.{ℕ, zero, suc, ◌+◌, ◌<◌, ◌≤◌}
use native.Mathlib.Omega.{arith}
use native.Mathlib.Decide.{ℕ_discrete}
use mathlib.Core.Path.{◌≡◌, refl, sym, ap, ◌∙◌, subst}
use mathlib.Core.List.{List}
use mathlib.Core.Bool.{Bool, true, false}
use lib.ListN.{length, get_or, set}
use lib.Seq.{get_or-set_same, get_or-set_other}
use Rattle.instances.specs.Images.{has_just, count_just, list_just}
use Rattle.instances.proofs.Laws.{count_below, listed_length}

module _ (t : List ℕ) (v : ℕ) where
  -- how many there are before y, where y is one of them
  pub count_more : (n : ℕ) → has_just t v n ≡ true → count_just t v (suc n) ≡ count_just t v n + 1
  unfolding count_just
  count_more n e = rw e

  count_stays : (n : ℕ) → has_just t v n ≡ false → count_just t v (suc n) ≡ count_just t v n
  unfolding count_just
  count_stays n e = rw e

  count_up : (n : ℕ) → count_just t v n ≤ count_just t v (suc n)
  count_up n = go (has_just t v n) refl
    where
      go : (b : Bool) → has_just t v n ≡ b → count_just t v n ≤ count_just t v (suc n)
      go true e = omega (arith, count_more n e)
      go false e = omega (arith, count_stays n e)

  pub count_rises : (y n : ℕ) → y < n → has_just t v y ≡ true → count_just t v y < count_just t v n
  count_rises y zero l e = absurd (omega arith)
  count_rises y (suc n) l e = elim (ℕ_discrete y n) [
    | yes d ↦ subst (λ k. count_just t v k < count_just t v (suc n)) (sym d) (omega (arith, count_more n (subst (λ k. has_just t v k ≡ true) d e)))
    | no d ↦ omega (arith, count_rises y n (omega arith) e, count_up n)
  ]

  module _ (a : List ℕ) (wide : length a ≡ 256) where
    listed_here : (n : ℕ) → has_just t v n ≡ true → list_just t v (suc n) a ≡ set (list_just t v n a) (count_just t v n) n
    unfolding list_just
    listed_here n e = rw e

    listed_stays : (n : ℕ) → has_just t v n ≡ false → list_just t v (suc n) a ≡ list_just t v n a
    unfolding list_just
    listed_stays n e = rw e

    room : (n : ℕ) → n < 256 → count_just t v n < length (list_just t v n a)
    room n l = omega (arith, count_below t v n, listed_length t v a n, wide)

    -- each of them is listed, at its place
    pub listed_at : (y n : ℕ) → n ≤ 256 → y < n → has_just t v y ≡ true → get_or (list_just t v n a) (count_just t v y) 0 ≡ y
    listed_at y zero s l e = absurd (omega arith)
    listed_at y (suc n) s l e = elim (ℕ_discrete y n) [
      | yes d ↦
          let h : has_just t v n ≡ true = subst (λ k. has_just t v k ≡ true) d e in
          subst (λ k. get_or (list_just t v (suc n) a) (count_just t v k) 0 ≡ k) (sym d)
          (rw (listed_here n h) (get_or-set_same (list_just t v n a) (count_just t v n) n 0 (room n (omega arith))))
      | no d ↦ go (has_just t v n) refl (listed_at y n (omega arith) (omega arith) e) (count_rises y n (omega arith) e)
    ]
      where
        go : (b : Bool) → has_just t v n ≡ b → get_or (list_just t v n a) (count_just t v y) 0 ≡ y → count_just t v y < count_just t v n
            → get_or (list_just t v (suc n) a) (count_just t v y) 0 ≡ y
        go true h f r = rw (listed_here n h) (get_or-set_other (list_just t v n a) (count_just t v n) (count_just t v y) n 0 (λ z. omega arith) ∙ f)
        go false h f r = rw (listed_stays n h) f

    -- and what is listed is one of them
    pub record Member (n i y : ℕ) : Type 0 where
      pub below : y < n
      pub has : has_just t v y ≡ true
      pub place : count_just t v y ≡ i

    more : (n i y : ℕ) → Member n i y → Member (suc n) i y
    more n i y m = record { below = (let l = m.below in omega arith); has = m.has; place = m.place }

    pub listed_one : (n i : ℕ) → n ≤ 256 → i < count_just t v n → Member n i (get_or (list_just t v n a) i 0)
    listed_one zero i s l = absurd (omega (arith, count_below t v 0))
    listed_one (suc n) i s l = go (has_just t v n) refl (listed_one n i (omega arith))
      where
        go : (b : Bool) → has_just t v n ≡ b → (i < count_just t v n → Member n i (get_or (list_just t v n a) i 0)) → Member (suc n) i (get_or (list_just t v (suc n) a) i 0)
        go true h f = elim (ℕ_discrete i (count_just t v n)) [
          | yes d ↦
              let e : get_or (list_just t v (suc n) a) i 0 ≡ n =
              rw (listed_here n h, d) (get_or-set_same (list_just t v n a) (count_just t v n) n 0 (room n (omega arith))) in
              subst (Member (suc n) i) (sym e) (record { below = omega arith; has = h; place = sym d })
          | no d ↦
              let e : get_or (list_just t v (suc n) a) i 0 ≡ get_or (list_just t v n a) i 0 =
              rw (listed_here n h) (get_or-set_other (list_just t v n a) (count_just t v n) i n 0 d) in
              subst (Member (suc n) i) (sym e) (more n i _ (f (omega (arith, count_more n h))))
        ]
        go false h f =
            subst (Member (suc n) i) (sym (ap (λ b. get_or b i 0) (listed_stays n h))) (more n i _ (f (omega (arith, count_stays n h))))
