-- Laws that the proofs of this crate cite, over plain variables. Assumes nothing.
use Prim.Native.Nat.{ℕ, ◌+◌, ◌%◌, ◌<◌, ◌≤◌}
use native.Mathlib.Omega.{arith}
use native.Mathlib.Decide.{dec_lt}
use native.Mathlib.Nat.{mod-lt}
use mathlib.Core.Logic.{◌≢◌}
use mathlib.Core.Path.{◌≡◌, refl, sym, ◌∙◌}
use mathlib.Core.Bool.{Bool, true, false, cond, not, ◌&&◌, ◌||◌}
use lib.Dec.{leb, ltb, eqb}
use borrow.Author.Tests.{eq-eqb, ne_eqb, lt-ltb, le-leb, lt-leb, leb-true}
use Rattle.logic.specs.declared.Sort.{Sort}
use Rattle.logic.specs.declared.Body.{Body}
use Rattle.logic.specs.declared.Record.{Record}
use Rattle.logic.specs.declared.Counts.{Counts}
use Rattle.logic.specs.Kind.{bodies, body_of, is_formula_record}
use Rattle.logic.specs.Record.{each_field}
use Rattle.logic.specs.Reading.{out_of_order, over_limit, has_loose}
use Rattle.format.specs.Variables.{joined_low, joined, field_variables, variables_of}
use Rattle.format.proofs.Laws.{none_above, other_kind, low_small}

-- The first of several faults: a test t that equals x holds, or does not.
module _ {A : Type 0} (t x : Bool) (n y : A) (e : t ≡ x) where
  pub stop : t ≡ true → n ≡ cond x n y
  stop h = rw (← e, h)

  pub skip : {r : A} → t ≡ false → r ≡ y → r ≡ cond x n y
  skip h k = rw (← e, h) k

-- Refusal 22 by kind: which fields refer to formulas.
module _ (is_open : ℕ → Bool) (r : Record) where
  pub loose_first : r.kind ≡ 32 → {t : Bool} → t ≡ is_open r.first → t ≡ has_loose is_open r
  unfolding has_loose body_of bodies
  loose_first k e = e ∙ rw k (go (is_open r.first))
    where
      go : (b : Bool) → b ≡ not (not b && (true && true))
      go true = refl
      go false = refl

  pub loose_each : r.kind ≡ 33 → {t : Bool} → t ≡ (is_open r.first || (is_open r.second || is_open r.third)) → t ≡ has_loose is_open r
  unfolding has_loose body_of bodies
  loose_each k g = g ∙ rw k (go (is_open r.first) (is_open r.second) (is_open r.third))
    where
      go : (p q u : Bool) → (p || (q || u)) ≡ not (not p && (not q && not u))
      go true q u = refl
      go false true u = refl
      go false false true = refl
      go false false false = refl

  pub loose_second : r.kind ≡ 34 → {t : Bool} → t ≡ is_open r.second → t ≡ has_loose is_open r
  unfolding has_loose body_of bodies
  loose_second k e = e ∙ rw k (go (is_open r.second))
    where
      go : (b : Bool) → b ≡ not (true && (not b && true))
      go true = refl
      go false = refl

  pub loose_none : (r.kind ≡ 32 → ⊥) → (r.kind ≡ 33 → ⊥) → (r.kind ≡ 34 → ⊥) → false ≡ has_loose is_open r
  unfolding has_loose
  loose_none a m g =
      elim (dec_lt r.kind 32) [
        | yes l ↦ rw (lt-leb 32 r.kind l) refl
        | no n ↦ rw (le-leb 32 r.kind (omega arith), ← other_kind r.kind (none_above r.kind 1 17 (omega arith)) a m g) refl
      ]

-- The variables of two parts together, and of a record.
pub low_fits : (a b : ℕ) {v : ℕ} → v ≡ joined_low (a % 512) (b % 512) → 512 + v < 18446744073709551616
low_fits a b e =
    let l = low_small (a % 512) (b % 512) (mod-lt a (omega arith)) (mod-lt b (omega arith)) in
    rw e (omega arith)

pub variables_fields : (at : ℕ → ℕ) (n : ℕ) (r : Record) (b : Body) → r.kind ≢ 16 → r.kind ≢ 17 → b ≡ body_of r.kind → {x y z u v : ℕ}
    → x ≡ field_variables at b.first r.first → y ≡ field_variables at b.second r.second → z ≡ field_variables at b.third r.third
    → u ≡ joined y z → v ≡ joined x u → v ≡ variables_of at n r
unfolding variables_of
variables_fields at n r b s t e ex ey ez eu ev = ev ∙ rw (eu, ex, ey, ez, e, ne_eqb r.kind 16 s, ne_eqb r.kind 17 t) refl

-- A test on each field of a record, where b is the body of its kind.
module _ (p : Sort → ℕ → Bool) (r : Record) (b : Body) (e : b ≡ body_of r.kind) where
  pub on_fields : {x y z t : Bool} → x ≡ p b.first r.first → y ≡ p b.second r.second → z ≡ p b.third r.third
      → t ≡ not (x && (y && z)) → t ≡ not (each_field p r)
  on_fields ex ey ez et = et ∙ rw (ex, ey, ez, e)

-- A kind is a formula record, or an assumption, message or goal.
module _ (k : ℕ) where
  module _ (h : is_formula_record k ≡ true) where
    small : k ≤ 17
    small = go (leb 1 k) (leb k 17) refl h
      where
        go : (x y : Bool) → leb k 17 ≡ y → (x && y) ≡ true → k ≤ 17
        go true true q p = leb-true k 17 q
        go true false q p = absurd (let z : ◌≡◌ {A = ℕ} 0 1 = cc in omega arith)
        go false y q p = absurd (let z : ◌≡◌ {A = ℕ} 0 1 = cc in omega arith)

    pub not_32 : eqb k 32 ≡ false
    not_32 = ne_eqb k 32 (λ e. let l = small in omega arith)

    pub not_33 : eqb k 33 ≡ false
    not_33 = ne_eqb k 33 (λ e. let l = small in omega arith)

    pub not_34 : eqb k 34 ≡ false
    not_34 = ne_eqb k 34 (λ e. let l = small in omega arith)

or_false : (x : Bool) → (x || false) ≡ x
or_false true = refl
or_false false = refl

module _ (n : Counts) (k : ℕ) where
  -- an assumption behind a message; an assumption, or a message, behind a goal; any other kind
  pub order_messages : k ≡ 32 → 0 < n.messages → true ≡ out_of_order n k
  unfolding out_of_order
  order_messages e l = rw (eq-eqb k 32 e, lt-ltb 0 (n.messages + n.goals) (omega arith))

  pub order_assumption : k ≡ 32 → n.messages ≤ 0 → ltb 0 n.goals ≡ out_of_order n k
  unfolding out_of_order
  order_assumption e l =
      let z : n.messages + n.goals ≡ n.goals = omega arith in
      rw (eq-eqb k 32 e, ne_eqb k 33 (λ g. omega arith), z) (sym (or_false _))

  pub order_message : k ≡ 33 → ltb 0 n.goals ≡ out_of_order n k
  unfolding out_of_order
  order_message e = rw (ne_eqb k 32 (λ g. omega arith), eq-eqb k 33 e)

  pub order_other : (k ≡ 32 → ⊥) → (k ≡ 33 → ⊥) → false ≡ out_of_order n k
  unfolding out_of_order
  order_other a m = rw (ne_eqb k 32 a, ne_eqb k 33 m)

  module _ (h : is_formula_record k ≡ true) where
    pub limit_formulas : 256 ≤ n.formulas → true ≡ over_limit n k
    unfolding over_limit
    limit_formulas l = rw (h, borrow.Author.Tests.le-leb 256 n.formulas l)

    pub limit_principals : n.formulas < 256 → k ≡ 1 → leb 8 n.principals ≡ over_limit n k
    unfolding over_limit
    limit_principals l e = rw (h, borrow.Author.Tests.lt-leb 256 n.formulas l, not_32 k h, not_33 k h, not_34 k h, eq-eqb k 1 e) (sym (or_false _))

    pub limit_other : n.formulas < 256 → (k ≡ 1 → ⊥) → false ≡ over_limit n k
    unfolding over_limit
    limit_other l e = rw (h, borrow.Author.Tests.lt-leb 256 n.formulas l, not_32 k h, not_33 k h, not_34 k h, ne_eqb k 1 e)

  module _ (h : is_formula_record k ≡ false) where
    no_principal : eqb k 1 ≡ false
    no_principal = ne_eqb k 1 (λ e. let z : is_formula_record 1 ≡ false = rw e at h in let y : ◌≡◌ {A = ℕ} 0 1 = cc in omega arith)

    pub limit_assumptions : k ≡ 32 → leb 64 n.assumptions ≡ over_limit n k
    unfolding over_limit
    limit_assumptions e = rw (h, no_principal, eq-eqb k 32 e, ne_eqb k 33 (λ g. omega arith), ne_eqb k 34 (λ g. omega arith)) (sym (or_false _))

    pub limit_messages : k ≡ 33 → leb 16 n.messages ≡ over_limit n k
    unfolding over_limit
    limit_messages e = rw (h, no_principal, ne_eqb k 32 (λ g. omega arith), eq-eqb k 33 e, ne_eqb k 34 (λ g. omega arith)) (sym (or_false _))

    pub limit_goals : k ≡ 34 → leb 32 n.goals ≡ over_limit n k
    unfolding over_limit
    limit_goals e = rw (h, no_principal, ne_eqb k 32 (λ g. omega arith), ne_eqb k 33 (λ g. omega arith), eq-eqb k 34 e)

    pub limit_none : (k ≡ 32 → ⊥) → (k ≡ 33 → ⊥) → (k ≡ 34 → ⊥) → false ≡ over_limit n k
    unfolding over_limit
    limit_none a m g = rw (h, no_principal, ne_eqb k 32 a, ne_eqb k 33 m, ne_eqb k 34 g)
