-- Row 256 + x of the table has just the records of kind 17 that let somebody control a formula with x in its row. The rows of instances before it stay
-- as they are. Assumes nothing.
use Prim.Native.Nat.{ℕ, zero, suc, ◌+◌, ◌*◌, ◌/◌, ◌%◌, ◌^◌, ◌<◌, ◌≤◌}
use native.Mathlib.Omega.{arith}
use native.Mathlib.Decide.{ℕ_discrete}
use mathlib.Core.Path.{◌≡◌, refl, sym, ◌∙◌, subst}
use mathlib.Core.Logic.{◌⊎◌, inl, inr, ⊎_elim}
use mathlib.Core.List.{List}
use mathlib.Core.Bool.{Bool, true, false, cond}
use lib.ListN.{length}
use lib.Dec.{eqb, leb}
use borrow.Author.Tests.{le-leb, eqb-true, eqb-false}
use Rattle.logic.proofs.Bytes.{Bytes}
use Rattle.lanes.proofs.Sets.{apart}
use Rattle.lanes.proofs.Bits.{or_grows, bit_in_lem, bit_alone}
use Rattle.flat.specs.Layout.{field_at, kind_at}
use Rattle.rules.specs.Rules.{row_has, scope_of}
use Rattle.tables.specs.Users.{used}
use Rattle.tables.specs.Delegations.{under_one, under_upto, delegated_one, delegated_upto, delegations_of}

-- HOW LONG
under_long : (y d : ℕ) (u : List ℕ) (x : ℕ) → length (under_upto u y d x) ≡ length u
unfolding under_upto under_one used
under_long y d u zero = refl
under_long y d u (suc x) = go (row_has (under_upto u y d x) y x) (under_long y d u x)
  where
    go : (v : Bool) → length (under_upto u y d x) ≡ length u → length (cond v (used (under_upto u y d x) (256 + x) d) (under_upto u y d x)) ≡ length u
    go true e = (or_grows (under_upto u y d x) ((256 + x) * 4 + d / 64) (2 ^ (d % 64))).long ∙ e
    go false e = e

delegated_long : (b u : List ℕ) (d : ℕ) → length (delegated_upto b d u) ≡ length u
unfolding delegated_upto delegated_one
delegated_long b u zero = refl
delegated_long b u (suc d) = go (eqb (kind_at b d) 17) (delegated_long b u d)
  where
    go : (v : Bool) → length (delegated_upto b d u) ≡ length u → length (cond v (under_upto (delegated_upto b d u) (scope_of b d) d 256) (delegated_upto b d u)) ≡ length u
    go true e = under_long (scope_of b d) d (delegated_upto b d u) 256 ∙ e
    go false e = e

pub delegations_long : (b : List ℕ) (n : ℕ) (u : List ℕ) → length (delegations_of b n u) ≡ length u
unfolding delegations_of
delegations_long b n u = go (leb n 256)
  where
    go : (v : Bool) → length (cond v (delegated_upto b n u) u) ≡ length u
    go true = delegated_long b u n
    go false = refl

-- The table u has the instances of r, and d in the row of x behind them just where P says so.
record Shows (r u : List ℕ) (P : (x d : ℕ) → Type 0) : Type 0 where
  long : length u ≡ 2048
  kept : (y x : ℕ) → y < 256 → x < 256 → row_has u y x ≡ row_has r y x
  back : (x d : ℕ) → x < 256 → d < 256 → row_has u (256 + x) d ≡ true → P x d
  forth : (x d : ℕ) → x < 256 → d < 256 → P x d → row_has u (256 + x) d ≡ true

shows_as : (r u : List ℕ) (P Q : (x d : ℕ) → Type 0) → ((x d : ℕ) → P x d → Q x d) → ((x d : ℕ) → x < 256 → Q x d → P x d) → Shows r u P → Shows r u Q
shows_as r u P Q f g s = record {
  long = s.long;
  kept = s.kept;
  back = λ x d lx ld h. f x d (s.back x d lx ld h);
  forth = λ x d lx ld q. s.forth x d lx ld (g x d lx q);
}

same_test : (a b : Bool) → (true ≡ a → true ≡ b) → (true ≡ b → true ≡ a) → a ≡ b
same_test true b f g = f refl
same_test false true f g = sym (g refl)
same_test false false f g = refl

-- ONE BIT MORE
module _ (u : List ℕ) (x d : ℕ) (long : length u ≡ 2048) (lx : x < 256) (ld : d < 256) where
  used_in_lem : row_has (used u (256 + x) d) (256 + x) d ≡ true
  unfolding used row_has
  used_in_lem = sym (bit_in_lem u (256 + x) d (omega arith))

  used_stays : (a c : ℕ) → row_has u a c ≡ true → row_has (used u (256 + x) d) a c ≡ true
  unfolding used row_has
  used_stays a c h = sym ((or_grows u ((256 + x) * 4 + d / 64) (2 ^ (d % 64))).stay a c (sym h))

  used_only : (a c : ℕ) → c < 256 → row_has (used u (256 + x) d) a c ≡ true → (row_has u a c ≡ true) ⊎ ((a ≡ 256 + x) × (c ≡ d))
  unfolding used row_has
  used_only a c lc h = ⊎_elim (λ e. inl (sym e)) inr (bit_alone u (256 + x) d (omega arith) ld a c lc (sym h))

  used_long : length (used u (256 + x) d) ≡ 2048
  unfolding used
  used_long = (or_grows u ((256 + x) * 4 + d / 64) (2 ^ (d % 64))).long ∙ long

module _ (r : List ℕ) where
  module _ (y d : ℕ) (ly : y < 256) (ld : d < 256) where
    -- d for x, if x is in row y
    abbrev Also : ((x d : ℕ) → Type 0) → ℕ → (x d : ℕ) → Type 0
    Also P x z c = P z c ⊎ ((z ≡ x) × (c ≡ d) × (row_has r y x ≡ true))

    one_shows : (u : List ℕ) (P : (x d : ℕ) → Type 0) (x : ℕ) → x < 256 → Shows r u P → Shows r (under_one u y d x) (Also P x)
    unfolding under_one
    one_shows u P x lx s = go (row_has u y x) refl
      where
        go : (v : Bool) → row_has u y x ≡ v → Shows r (cond v (used u (256 + x) d) u) (Also P x)
        go false e = record {
          long = s.long;
          kept = s.kept;
          back = λ z c lz lc h. inl (s.back z c lz lc h);
          forth = λ z c lz lc p. ⊎_elim (s.forth z c lz lc) (λ q. apart (sym q.2 ∙ sym (s.kept y x ly lx) ∙ e)) p;
        }
        go true e = record {
          long = used_long u x d s.long lx ld;
          kept = λ a c la lc.
              same_test (row_has (used u (256 + x) d) a c) (row_has u a c)
              (λ h. ⊎_elim sym (λ q. absurd (let z = q.0 in omega arith)) (used_only u x d s.long lx ld a c lc (sym h)))
              (λ h. sym (used_stays u x d s.long lx ld a c (sym h)))
              ∙ s.kept a c la lc;
          back = λ z c lz lc h.
              ⊎_elim (λ k. inl (s.back z c lz lc k)) (λ q. inr ((let w = q.0 in omega arith), q.1, sym (s.kept y x ly lx) ∙ e))
              (used_only u x d s.long lx ld (256 + z) c lc h);
          forth = λ z c lz lc p.
              ⊎_elim (λ k. used_stays u x d s.long lx ld (256 + z) c (s.forth z c lz lc k))
              (λ q. rw (q.0, q.1) (used_in_lem u x d s.long lx ld)) p;
        }

    -- d for each x below m that is in row y
    abbrev Below : ((x d : ℕ) → Type 0) → ℕ → (x d : ℕ) → Type 0
    Below P m z c = P z c ⊎ ((z < m) × (c ≡ d) × (row_has r y z ≡ true))

    upto_shows : (u : List ℕ) (P : (x d : ℕ) → Type 0) → Shows r u P → (m : ℕ) → m ≤ 256 → Shows r (under_upto u y d m) (Below P m)
    unfolding under_upto
    upto_shows u P s zero l = shows_as r u P (Below P zero) (λ z c p. inl p) (λ z c l p. ⊎_elim (λ q. q) (λ q. absurd (let w = q.0 in omega arith)) p) s
    upto_shows u P s (suc m) l =
        shows_as r (under_one (under_upto u y d m) y d m) (Also (Below P m) m) (Below P (suc m)) to from
        (one_shows (under_upto u y d m) (Below P m) m (omega arith) (upto_shows u P s m (omega arith)))
      where
        to : (z c : ℕ) → Also (Below P m) m z c → Below P (suc m) z c
        to z c (inl (inl p)) = inl p
        to z c (inl (inr (w, e, h))) = inr (omega arith, e, h)
        to z c (inr (w, e, h)) = inr (omega arith, e, rw w h)

        from : (z c : ℕ) → z < 256 → Below P (suc m) z c → Also (Below P m) m z c
        from z c k (inl p) = inl (inl p)
        from z c lz (inr (w, e, h)) = elim (ℕ_discrete z m) [ yes k ↦ inr (k, e, subst (λ x. row_has r y x ≡ true) k h) | no k ↦ inl (inr (omega arith, e, h)) ]

  -- ALL RECORDS OF KIND 17
  module _ (b : List ℕ) (bytes : Bytes b) where
    abbrev Lets : ℕ → (x d : ℕ) → Type 0
    Lets n x d = (d < n) × (kind_at b d ≡ 17) × (row_has r (scope_of b d) x ≡ true)

    scope_small : (d : ℕ) → scope_of b d < 256
    unfolding field_at
    scope_small d = bytes _

    all_shows : (u : List ℕ) → Shows r u (λ x d. ⊥) → (n : ℕ) → n ≤ 256 → Shows r (delegated_upto b n u) (Lets n)
    unfolding delegated_upto delegated_one
    all_shows u s zero l = shows_as r u (λ x d. ⊥) (Lets zero) (λ x d p. absurd p) (λ x d lx p. absurd (let w = p.0 in omega arith)) s
    all_shows u s (suc n) l = go (eqb (kind_at b n) 17) refl (all_shows u s n (omega arith))
      where
        go : (v : Bool) → eqb (kind_at b n) 17 ≡ v → Shows r (delegated_upto b n u) (Lets n) → Shows r (cond v (under_upto (delegated_upto b n u) (scope_of b n) n 256) (delegated_upto b n u)) (Lets (suc n))
        go false e h =
            shows_as r (delegated_upto b n u) (Lets n) (Lets (suc n)) (λ x d p. let w = p.0 in (omega arith, p.1, p.2))
            (λ x d lx p. elim (ℕ_discrete d n) [
              | yes k ↦ absurd (eqb-false (kind_at b n) 17 e (subst (λ z. kind_at b z ≡ 17) k p.1))
              | no k ↦ let w = p.0 in (omega arith, p.1, p.2)
            ]) h
        go true e h =
            shows_as r (under_upto (delegated_upto b n u) (scope_of b n) n 256) (Below (scope_of b n) n (scope_small n) (omega arith) (Lets n) 256) (Lets (suc n))
            (λ x d p. ⊎_elim (λ q. let w = q.0 in (omega arith, q.1, q.2))
            (λ q. let w = q.1 in (omega arith, rw w (eqb-true (kind_at b n) 17 e), rw w q.2)) p)
            (λ x d lx p. elim (ℕ_discrete d n) [
              | yes k ↦ inr (lx, k, subst (λ z. row_has r (scope_of b z) x ≡ true) k p.2)
              | no k ↦ let w = p.0 in inl (omega arith, p.1, p.2)
            ])
            (upto_shows (scope_of b n) n (scope_small n) (omega arith) (delegated_upto b n u) (Lets n) h 256 (omega arith))

-- THE TABLE OF DELEGATIONS, where the rows behind the instances were empty
module _ (b : List ℕ) (bytes : Bytes b) (n : ℕ) (ln : n ≤ 256) (r : List ℕ) (long : length r ≡ 2048)
    (none : (x d : ℕ) → x < 256 → d < 256 → row_has r (256 + x) d ≡ true → ⊥) where
  shows : Shows r (delegations_of b n r) (Lets r b bytes n)
  unfolding delegations_of
  shows = rw (le-leb n 256 ln) (all_shows r b bytes r (record { long = long; kept = λ y x ly lx. refl; back = none; forth = λ x d lx ld p. absurd p }) n ln)

  pub rows_kept : (y x : ℕ) → y < 256 → x < 256 → row_has (delegations_of b n r) y x ≡ row_has r y x
  rows_kept = shows.kept

  pub let_by : (x d : ℕ) → x < 256 → d < 256 → row_has (delegations_of b n r) (256 + x) d ≡ true → (d < n) × (kind_at b d ≡ 17) × (row_has (delegations_of b n r) (scope_of b d) x ≡ true)
  let_by x d lx ld h =
      let p = shows.back x d lx ld h in
      (p.0, p.1, rows_kept (scope_of b d) x (scope_small r b bytes d) lx ∙ p.2)

  pub lets_all : (x d : ℕ) → x < 256 → d < n → kind_at b d ≡ 17 → row_has (delegations_of b n r) (scope_of b d) x ≡ true → row_has (delegations_of b n r) (256 + x) d ≡ true
  lets_all x d lx ld k h = shows.forth x d lx (omega arith) (ld, k, sym (rows_kept (scope_of b d) x (scope_small r b bytes d) lx) ∙ h)
