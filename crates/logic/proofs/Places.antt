-- Places and facts: each fact about a principal and a formula record has its own place below F, and each place below F has its
-- own such fact.
use Prim.Native.Nat.{ℕ, zero, suc, ◌+◌, ◌-◌, ◌*◌, ◌/◌, ◌%◌, ◌<◌}
use mathlib.Core.Path.{◌≡◌, refl, sym, ◌∙◌, ap}
use mathlib.Core.List.{List, [], ◌∷◌}
use mathlib.Core.Bool.{Bool, true, false, cond}
use native.Mathlib.Omega.{arith}
use native.Mathlib.Nat.{mul-add-div_right, mul-add-mod_self_right, mod-eq_of_lt, div-eq_of_lt, mul-le-mul_right, suc-mul}
use lib.ListN.{length, take}
use lib.Dec.{eqb, ltb}
use borrow.Author.Tests.{eqb-true, eqb-false, ltb-true, ltb-false, eq-eqb, ne_eqb, lt-ltb, le-ltb}
use Rattle.logic.specs.declared.Record.{Record}
use Rattle.logic.specs.Count.{of_kind, principals}
use Rattle.logic.specs.Formula.{record_of}
use Rattle.logic.specs.Fact.{Fact}
use Rattle.logic.specs.Fact.Fact.{Sees, Believes, BelievesFresh, BelievesSaid, BelievesBelieves}
use Rattle.logic.specs.Place.{principal_count, formula_count, F, rank, place_with, place, ranked, fact_of, fact_at}
use Rattle.logic.proofs.Meaning.{IsPrincipal}

-- Ranks.

-- one record more
pub rank_next : (fs : List Record) (x : ℕ) → rank fs (suc x) ≡ rank fs x + cond (eqb (record_of fs x).kind 1) 1 0
unfolding rank of_kind
rank_next [] zero = refl
rank_next [] (suc x) = refl
rank_next (r ∷ fs) zero = go (eqb r.kind 1)
  where
    go : (b : Bool) → length (cond b (r ∷ []) []) ≡ 0 + cond b 1 0
    go true = refl
    go false = refl
rank_next (r ∷ fs) (suc x) = go (eqb r.kind 1) (rank_next fs x)
  where
    go : (b : Bool) → length (principals (take (suc x) fs)) ≡ length (principals (take x fs)) + cond (eqb (record_of fs x).kind 1) 1 0
        → length (cond b (r ∷ principals (take (suc x) fs)) (principals (take (suc x) fs)))
        ≡ length (cond b (r ∷ principals (take x fs)) (principals (take x fs))) + cond (eqb (record_of fs x).kind 1) 1 0
    go true h = ap suc h ∙ omega arith
    go false h = h

-- a principal has a rank, and is the principal of that rank
pub rank_below : (fs : List Record) (x : ℕ) → IsPrincipal fs x → rank fs x < principal_count fs
unfolding rank of_kind
rank_below [] x e = absurd (omega arith)
rank_below (r ∷ fs) zero e = rw (eq-eqb r.kind 1 e) (omega arith)
rank_below (r ∷ fs) (suc x) e = go (eqb r.kind 1) (rank_below fs x e)
  where
    go : (b : Bool) → length (principals (take x fs)) < length (principals fs)
        → length (cond b (r ∷ principals (take x fs)) (principals (take x fs))) < length (cond b (r ∷ principals fs) (principals fs))
    go true h = omega arith
    go false h = h

pub ranked_rank : (fs : List Record) (x : ℕ) → IsPrincipal fs x → ranked fs (rank fs x) ≡ x
unfolding rank ranked of_kind
ranked_rank [] x e = absurd (omega arith)
ranked_rank (r ∷ fs) zero e = rw (eq-eqb r.kind 1 e)
ranked_rank (r ∷ fs) (suc x) e = go (eqb r.kind 1) refl (ranked_rank fs x e)
  where
    behind : (a : ℕ) → eqb r.kind 1 ≡ false → ranked (r ∷ fs) a ≡ suc (ranked fs a)
    behind zero k = rw k
    behind (suc a) k = rw k

    go : (b : Bool) → eqb r.kind 1 ≡ b → ranked fs (length (principals (take x fs))) ≡ x
        → ranked (r ∷ fs) (length (cond b (r ∷ principals (take x fs)) (principals (take x fs)))) ≡ suc x
    go true k h = rw k (ap suc h)
    go false k h = behind (length (principals (take x fs))) k ∙ ap suc h

-- each rank below p is that of a principal
pub ranked_principal : (fs : List Record) (a : ℕ) → a < principal_count fs → IsPrincipal fs (ranked fs a)
unfolding ranked of_kind
ranked_principal [] a l = absurd (omega arith)
ranked_principal (r ∷ fs) zero l = go (eqb r.kind 1) refl l (ranked_principal fs zero)
  where
    go : (b : Bool) → eqb r.kind 1 ≡ b → zero < length (cond b (r ∷ principals fs) (principals fs))
        → (zero < length (principals fs) → IsPrincipal fs (ranked fs zero)) → IsPrincipal (r ∷ fs) (cond b 0 (suc (ranked fs zero)))
    go true k l h = eqb-true r.kind 1 k
    go false k l h = h l
ranked_principal (r ∷ fs) (suc a) l = go (eqb r.kind 1) l (ranked_principal fs a) (ranked_principal fs (suc a))
  where
    go : (b : Bool) → suc a < length (cond b (r ∷ principals fs) (principals fs))
        → (a < length (principals fs) → IsPrincipal fs (ranked fs a)) → (suc a < length (principals fs) → IsPrincipal fs (ranked fs (suc a)))
        → IsPrincipal (r ∷ fs) (suc (ranked fs (cond b a (suc a))))
    go true l h i = h (omega arith)
    go false l h i = i l

pub rank_ranked : (fs : List Record) (a : ℕ) → a < principal_count fs → rank fs (ranked fs a) ≡ a
unfolding rank ranked of_kind
rank_ranked [] a l = absurd (omega arith)
rank_ranked (r ∷ fs) zero l = go (eqb r.kind 1) refl l (rank_ranked fs zero)
  where
    go : (b : Bool) → eqb r.kind 1 ≡ b → zero < length (cond b (r ∷ principals fs) (principals fs))
        → (zero < length (principals fs) → length (principals (take (ranked fs zero) fs)) ≡ zero)
        → length (principals (take (cond b 0 (suc (ranked fs zero))) (r ∷ fs))) ≡ zero
    go true k l h = refl
    go false k l h = rw k (h l)
rank_ranked (r ∷ fs) (suc a) l = go (eqb r.kind 1) l (rank_ranked fs a) (rank_ranked fs (suc a))
  where
    go : (b : Bool) → suc a < length (cond b (r ∷ principals fs) (principals fs))
        → (a < length (principals fs) → length (principals (take (ranked fs a) fs)) ≡ a)
        → (suc a < length (principals fs) → length (principals (take (ranked fs (suc a)) fs)) ≡ suc a)
        → length (cond b (r ∷ principals (take (ranked fs (cond b a (suc a))) fs)) (principals (take (ranked fs (cond b a (suc a))) fs))) ≡ suc a
    go true l h i = ap suc (h (omega arith))
    go false l h i = i l

-- Rows and columns: the place is (a × n + x) × w + m with x below n and m below w.

pub quotient : (q w m : ℕ) → m < w → (q * w + m) / w ≡ q
quotient q w m l =
    let e = mul-add-div_right {m = w} (omega arith) q m in
    let d = div-eq_of_lt {n = m} {m = w} l in
    omega arith

pub remainder : (q w m : ℕ) → m < w → (q * w + m) % w ≡ m
remainder q w m l = mul-add-mod_self_right q w m ∙ mod-eq_of_lt l

pub row_below : (a n x p : ℕ) → a < p → x < n → a * n + x < p * n
row_below a n x p l h = omega (arith, mul-le-mul_right {m = suc a} {n = p} n l, suc-mul a n)

module _ (fs : List Record) where
  -- a fact about principals and a formula record
  abbrev pub Placed : Fact ℕ → Type 0
  Placed (Sees P x) = IsPrincipal fs P × (x < length fs)
  Placed (Believes P x) = IsPrincipal fs P × (x < length fs)
  Placed (BelievesFresh P x) = IsPrincipal fs P × (x < length fs)
  Placed (BelievesSaid P Q x) = IsPrincipal fs P × IsPrincipal fs Q × (x < length fs)
  Placed (BelievesBelieves P Q x) = IsPrincipal fs P × IsPrincipal fs Q × (x < length fs)

  at_below : (a x m : ℕ) → a < principal_count fs → x < formula_count fs → m < 3 + 2 * principal_count fs → place_with fs a x m < F fs
  unfolding F
  at_below a x m l h k = row_below (a * formula_count fs + x) (3 + 2 * principal_count fs) m (principal_count fs * formula_count fs) (row_below a (formula_count fs) x (principal_count fs) l h) k

  fact_of_at : (a x m : ℕ) → x < formula_count fs → m < 3 + 2 * principal_count fs → fact_at fs (place_with fs a x m) ≡ fact_of fs (ranked fs a) x m
  unfolding fact_at
  fact_of_at a x m h k =
      rw (quotient (a * formula_count fs + x) (3 + 2 * principal_count fs) m k, remainder (a * formula_count fs + x) (3 + 2 * principal_count fs) m k, quotient a (formula_count fs) x h, remainder a (formula_count fs) x h)

  -- the fact with the number 3 + b, and with the number 3 + p + b
  fact_said : (P x b : ℕ) → b < principal_count fs → fact_of fs P x (3 + b) ≡ BelievesSaid P (ranked fs b) x
  unfolding fact_of
  fact_said P x b l =
      let e : 3 + b - 3 ≡ b = omega arith in
      rw (
        ne_eqb (3 + b) 0 (λ z. omega arith),
        ne_eqb (3 + b) 1 (λ z. omega arith),
        ne_eqb (3 + b) 2 (λ z. omega arith),
        lt-ltb (3 + b) (3 + principal_count fs) (omega arith),
        e,
      )

  fact_believes : (P x b : ℕ) → fact_of fs P x (3 + principal_count fs + b) ≡ BelievesBelieves P (ranked fs b) x
  unfolding fact_of
  fact_believes P x b =
      let c = 3 + principal_count fs + b in
      let e : c - (3 + principal_count fs) ≡ b = omega arith in
      rw (ne_eqb c 0 (λ z. omega arith), ne_eqb c 1 (λ z. omega arith), ne_eqb c 2 (λ z. omega arith), le-ltb c (3 + principal_count fs) (omega arith), e)

  -- THE FACT OF THE PLACE OF A FACT is that fact
  pub fact_at_place : (g : Fact ℕ) → Placed g → fact_at fs (place fs g) ≡ g
  unfolding place fact_of
  fact_at_place (Sees P x) v = fact_of_at (rank fs P) x 0 v.1 (omega arith) ∙ rw (ranked_rank fs P v.0)
  fact_at_place (Believes P x) v = fact_of_at (rank fs P) x 1 v.1 (omega arith) ∙ rw (ranked_rank fs P v.0)
  fact_at_place (BelievesFresh P x) v = fact_of_at (rank fs P) x 2 v.1 (omega arith) ∙ rw (ranked_rank fs P v.0)
  fact_at_place (BelievesSaid P Q x) v =
      let b = rank_below fs Q v.1 in
      fact_of_at (rank fs P) x (3 + rank fs Q) v.2 (omega arith)
      ∙ fact_said (ranked fs (rank fs P)) x (rank fs Q) b
      ∙ rw (ranked_rank fs P v.0, ranked_rank fs Q v.1)
  fact_at_place (BelievesBelieves P Q x) v =
      let b = rank_below fs Q v.1 in
      fact_of_at (rank fs P) x (3 + principal_count fs + rank fs Q) v.2 (omega arith)
      ∙ fact_believes (ranked fs (rank fs P)) x (rank fs Q)
      ∙ rw (ranked_rank fs P v.0, ranked_rank fs Q v.1)

  -- PLACES ARE BELOW F
  pub place_below : (g : Fact ℕ) → Placed g → place fs g < F fs
  unfolding place
  place_below (Sees P x) v = at_below (rank fs P) x 0 (rank_below fs P v.0) v.1 (omega arith)
  place_below (Believes P x) v = at_below (rank fs P) x 1 (rank_below fs P v.0) v.1 (omega arith)
  place_below (BelievesFresh P x) v = at_below (rank fs P) x 2 (rank_below fs P v.0) v.1 (omega arith)
  place_below (BelievesSaid P Q x) v =
      let b = rank_below fs Q v.1 in
      at_below (rank fs P) x (3 + rank fs Q) (rank_below fs P v.0) v.2 (omega arith)
  place_below (BelievesBelieves P Q x) v =
      let b = rank_below fs Q v.1 in
      at_below (rank fs P) x (3 + principal_count fs + rank fs Q) (rank_below fs P v.0) v.2 (omega arith)

  -- AND DISTINCT for distinct facts
  pub place_once : (g h : Fact ℕ) → Placed g → Placed h → place fs g ≡ place fs h → g ≡ h
  place_once g h v u e = sym (fact_at_place g v) ∙ (ap (fact_at fs) e ∙ fact_at_place h u)

  -- Each place below F is that of its fact.
  place_of_fact : (a x m : ℕ) → a < principal_count fs → x < formula_count fs → m < 3 + 2 * principal_count fs
      → Placed (fact_of fs (ranked fs a) x m) × (place fs (fact_of fs (ranked fs a) x m) ≡ place_with fs a x m)
  unfolding fact_of place
  place_of_fact a x m l h k =
      go (eqb m 0) (eqb m 1) (eqb m 2) (ltb m (3 + principal_count fs)) refl refl refl refl
    where
      P : ℕ
      P = ranked fs a

      i : IsPrincipal fs P
      i = ranked_principal fs a l

      e : rank fs P ≡ a
      e = rank_ranked fs a l

      go : (s t u v : Bool) → eqb m 0 ≡ s → eqb m 1 ≡ t → eqb m 2 ≡ u → ltb m (3 + principal_count fs) ≡ v
          → Placed (cond s (Sees P x) (cond t (Believes P x) (cond u (BelievesFresh P x)
          (cond v (BelievesSaid P (ranked fs (m - 3)) x) (BelievesBelieves P (ranked fs (m - (3 + principal_count fs))) x)))))
          × (place fs (cond s (Sees P x) (cond t (Believes P x) (cond u (BelievesFresh P x)
          (cond v (BelievesSaid P (ranked fs (m - 3)) x) (BelievesBelieves P (ranked fs (m - (3 + principal_count fs))) x)))))
          ≡ place_with fs a x m)
      go true t u v c d f g = ((i, h), rw (e, eqb-true m 0 c))
      go false true u v c d f g = ((i, h), rw (e, eqb-true m 1 d))
      go false false true v c d f g = ((i, h), rw (e, eqb-true m 2 f))
      go false false false true c d f g =
          let c' = eqb-false m 0 c in
          let d' = eqb-false m 1 d in
          let f' = eqb-false m 2 f in
          let g' = ltb-true m (3 + principal_count fs) g in
          let b : m - 3 < principal_count fs = omega arith in
          let j : 3 + (m - 3) ≡ m = omega arith in
          ((i, ranked_principal fs (m - 3) b, h), rw (e, rank_ranked fs (m - 3) b, j))
      go false false false false c d f g =
          let g' = ltb-false m (3 + principal_count fs) g in
          let b : m - (3 + principal_count fs) < principal_count fs = omega arith in
          let j : 3 + principal_count fs + (m - (3 + principal_count fs)) ≡ m = omega arith in
          ((i, ranked_principal fs (m - (3 + principal_count fs)) b, h), rw (e, rank_ranked fs (m - (3 + principal_count fs)) b, j))
