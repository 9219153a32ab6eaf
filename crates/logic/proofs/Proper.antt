-- A record is without fault exactly when it may stand where it stands: the tests of Reading.antt against the
-- statements of Book.antt.
use Prim.Native.Nat.{ℕ, suc, ◌+◌, ◌≤◌, ◌<◌}
use native.Mathlib.Omega.{arith}
use mathlib.Core.Path.{◌≡◌, refl, ap}
use mathlib.Core.Bool.{Bool, true, false, not, cond, ◌&&◌, ◌||◌}
use mathlib.Core.List.{List, [], ◌∷◌}
use lib.ListN.{length}
use lib.Dec.{T, leb, ltb, eqb, leb→le, le→leb, ltb→lt, lt→ltb, eqb→eq, nleb→lt, nltb→le, T_not, not_T}
use Rattle.logic.specs.declared.Sort.{Sort}
use Rattle.logic.specs.declared.Sort.TheVariants.{Absent, Name, Principal, Key, Formula, Variable, Control, Statement, Message}
use Rattle.logic.specs.declared.Body.{Body}
use Rattle.logic.specs.declared.Record.{Record}
use Rattle.logic.specs.Kind.{bodies, body_of, is_field, is_formula_record, refers, fits, states, keeps_to}
use Rattle.logic.specs.Record.{each_field}
use Rattle.logic.specs.Count.{formulas, messages, goals, counts_of, formula_at, position_of}
use Rattle.logic.specs.Reading.{out_of_order, over_limit, is_dangling, is_misfit, is_not_rising, is_wrong_delegation, is_to_sender, is_no_statement, has_loose, is_after_last, is_repeated, allows_in, is_open_in, fault_of, fault}
use Rattle.logic.specs.Book.{EachField, Whole, MayBe, Closed, Proper}
use Rattle.logic.specs.Formula.{loose, is_closed, tree_of}
use Rattle.logic.proofs.Tests.{T_and, and_T, T_nor, nor_T, T_nand, nand_T, T_if, if_T, T_not_not, not_not_T, eq_T}
use Rattle.logic.proofs.Loose.{empty_T}
use Rattle.logic.proofs.KindTests.{formula_T, T_formula, either_T, T_either}
use Rattle.logic.proofs.Table.{at_each_kind, at_each_kind_if}
use Rattle.logic.proofs.Same.{place_new, new_place}

-- the tests from 3 on all fail
pub record Sound (past : List Record) (r : Record) : Type 0 where
  pub ordered : T (not (out_of_order (counts_of past) r.kind))
  pub limited : T (not (over_limit (counts_of past) r.kind))
  pub tied : T (not (is_dangling (counts_of past) r))
  pub fitting : T (not (is_misfit (formula_at past) r))
  pub risen : T (not (is_not_rising (formula_at past) r))
  pub delegated : T (not (is_wrong_delegation (allows_in (formulas past)) r))
  pub apart : T (not (is_to_sender r))
  pub stated : T (not (is_no_statement (formula_at past) r))
  pub closed : T (not (has_loose (is_open_in (formulas past)) r))
  pub reached : T (not (is_after_last (counts_of past) r))
  pub fresh : T (not (is_repeated past r))

pub cond_zero : (b : Bool) (n m : ℕ) → cond b (suc n) m ≡ 0 → T (not b) × (m ≡ 0)
cond_zero true n m e = absurd (omega arith)
cond_zero false n m e = (tt, e)

pub zero_cond : (b : Bool) (n m : ℕ) → T (not b) → m ≡ 0 → cond b n m ≡ 0
zero_cond true n m t e = absurd t
zero_cond false n m t e = e

pub fault_sound : (past : List Record) (r : Record) → fault past r ≡ 0 → Sound past r
unfolding fault fault_of
fault_sound past r e =
    let a = cond_zero (out_of_order (counts_of past) r.kind) 2 _ e in
    let b = cond_zero (over_limit (counts_of past) r.kind) 8 _ a.1 in
    let c = cond_zero (is_dangling (counts_of past) r) 3 _ b.1 in
    let d = cond_zero (is_misfit (formula_at past) r) 4 _ c.1 in
    let f = cond_zero (is_not_rising (formula_at past) r) 5 _ d.1 in
    let w = cond_zero (is_wrong_delegation (allows_in (formulas past)) r) 22 _ f.1 in
    let g = cond_zero (is_to_sender r) 6 _ w.1 in
    let h = cond_zero (is_no_statement (formula_at past) r) 9 _ g.1 in
    let l = cond_zero (has_loose (is_open_in (formulas past)) r) 21 _ h.1 in
    let i = cond_zero (is_after_last (counts_of past) r) 10 _ l.1 in
    let j = cond_zero (is_repeated past r) 7 _ i.1 in
    record {
      ordered = a.0;
      limited = b.0;
      tied = c.0;
      fitting = d.0;
      risen = f.0;
      delegated = w.0;
      apart = g.0;
      stated = h.0;
      closed = l.0;
      reached = i.0;
      fresh = j.0;
    }

pub sound_fault : (past : List Record) (r : Record) → Sound past r → fault past r ≡ 0
unfolding fault fault_of
sound_fault past r s =
    zero_cond (out_of_order (counts_of past) r.kind) 3 _ s.ordered
    (zero_cond (over_limit (counts_of past) r.kind) 9 _ s.limited
    (zero_cond (is_dangling (counts_of past) r) 4 _ s.tied
    (zero_cond (is_misfit (formula_at past) r) 5 _ s.fitting
    (zero_cond (is_not_rising (formula_at past) r) 6 _ s.risen
    (zero_cond (is_wrong_delegation (allows_in (formulas past)) r) 23 _ s.delegated
    (zero_cond (is_to_sender r) 7 _ s.apart
    (zero_cond (is_no_statement (formula_at past) r) 10 _ s.stated
    (zero_cond (has_loose (is_open_in (formulas past)) r) 22 _ s.closed
    (zero_cond (is_after_last (counts_of past) r) 11 _ s.reached
    (zero_cond (is_repeated past r) 8 _ s.fresh refl))))))))))

-- a test of each field, and a statement about each
pub each_field_lem : (p : Sort → ℕ → Bool) (P : Sort → ℕ → Type 0) → ((s : Sort) (x : ℕ) → T (p s x) → P s x)
    → (r : Record) → T (not (not (each_field p r))) → EachField P r
each_field_lem p P f r t =
    let a = T_and (p (body_of r.kind).first r.first) _ (T_not_not (each_field p r) t) in
    let b = T_and (p (body_of r.kind).second r.second) _ a.1 in
    (f _ _ a.0, f _ _ b.0, f _ _ b.1)

pub field_each : (p : Sort → ℕ → Bool) (P : Sort → ℕ → Type 0) → ((s : Sort) (x : ℕ) → P s x → T (p s x))
    → (r : Record) → EachField P r → T (not (not (each_field p r)))
field_each p P f r w =
    not_not_T (each_field p r)
    (and_T (p (body_of r.kind).first r.first) _ (f _ _ w.0)
    (and_T (p (body_of r.kind).second r.second) _ (f _ _ w.1) (f _ _ w.2)))

pub both_fields : (P Q R : Sort → ℕ → Type 0) → ((s : Sort) (x : ℕ) → P s x → Q s x → R s x)
    → (r : Record) → EachField P r → EachField Q r → EachField R r
both_fields P Q R f r v w = (f _ _ v.0 w.0, f _ _ v.1 w.1, f _ _ v.2 w.2)

-- references

pub refers_T : (n : ℕ) (s : Sort) (x : ℕ) → T (not (refers s) || ltb x n) → T (refers s) → x < n
refers_T n s x t u = ltb→lt x n (T_if (refers s) _ t u)

pub T_refers : (n : ℕ) (s : Sort) (x : ℕ) → (T (refers s) → x < n) → T (not (refers s) || ltb x n)
T_refers n s x f = if_T (refers s) _ (λ t. lt→ltb x n (f t))

-- what refusals 5 and 10 leave is what a field may refer to
pub fits_T : (s : Sort) (k : ℕ) → T (fits s k) → T (states s k) → MayBe s k
fits_T Absent k t u = tt
fits_T Name k t u = tt
fits_T Principal k t u = eqb→eq k 1 t
fits_T Key k t u = either_T k 2 16 t
fits_T Formula k t u = formula_T k t
fits_T Variable k t u = eqb→eq k 16 t
fits_T Control k t u = eqb→eq k 15 t
fits_T Statement k t u = either_T k 12 13 u
fits_T Message k t u = tt

pub T_fits : (s : Sort) (k : ℕ) → MayBe s k → T (fits s k)
T_fits Absent k m = tt
T_fits Name k m = tt
T_fits Principal k m = eq_T k 1 m
T_fits Key k m = T_either k 2 16 m
T_fits Formula k m = T_formula k m
T_fits Variable k m = eq_T k 16 m
T_fits Control k m = eq_T k 15 m
T_fits Statement k m = tt
T_fits Message k m = tt

pub T_states : (s : Sort) (k : ℕ) → MayBe s k → T (states s k)
T_states Absent k m = tt
T_states Name k m = tt
T_states Principal k m = tt
T_states Key k m = tt
T_states Formula k m = tt
T_states Variable k m = tt
T_states Control k m = tt
T_states Statement k m = T_either k 12 13 m
T_states Message k m = tt

-- a formula without loose variables

closed_T : (fs : List Record) (s : Sort) (x : ℕ) → T (not (refers s) || not (is_open_in fs x)) → T (refers s) → Closed fs x
closed_T fs s x t u = empty_T (loose (tree_of fs x)) (T_not_not (is_closed (tree_of fs x)) (T_if (refers s) _ t u))

T_closed : (fs : List Record) (s : Sort) (x : ℕ) → (T (refers s) → Closed fs x) → T (not (refers s) || not (is_open_in fs x))
T_closed fs s x f = if_T (refers s) _ (λ t. not_not_T (is_closed (tree_of fs x)) (rw (f t) tt))

-- only a goal has a message number, and it is the first field
is_message : Sort → Bool
is_message Absent = false
is_message Name = false
is_message Principal = false
is_message Key = false
is_message Formula = false
is_message Variable = false
is_message Control = false
is_message Statement = false
is_message Message = true

pub keeps_T : (k m x : ℕ) → k ≡ 34 → T (keeps_to m (body_of k).first x) → x ≤ m
unfolding body_of bodies
keeps_T k m x e t = leb→le x m (rw e at t)

T_keeps : (m : ℕ) (s : Sort) (x : ℕ) → (T (is_message s) → x ≤ m) → T (keeps_to m s x)
unfolding is_message
T_keeps m Absent x f = tt
T_keeps m Name x f = tt
T_keeps m Principal x f = tt
T_keeps m Key x f = tt
T_keeps m Formula x f = tt
T_keeps m Variable x f = tt
T_keeps m Control x f = tt
T_keeps m Statement x f = tt
T_keeps m Message x f = le→leb x m (f tt)

keeps_all : (m : ℕ) (r : Record) → (r.kind ≡ 34 → r.first ≤ m) → T (each_field (keeps_to m) r)
unfolding is_message body_of bodies
keeps_all m r f =
    and_T (keeps_to m b.first r.first) _
    (T_keeps m b.first r.first (λ t. f (eqb→eq r.kind 34
    (at_each_kind_if (λ k b. is_message b.first) (λ k b. eqb k 34) tt (λ k. tt) r.kind t))))
    (and_T (keeps_to m b.second r.second) _
    (T_keeps m b.second r.second (λ t. absurd
    (T_not (is_message b.second) (at_each_kind (λ k b. not (is_message b.second)) tt (λ k. tt) r.kind) t)))
    (T_keeps m b.third r.third (λ t. absurd
    (T_not (is_message b.third) (at_each_kind (λ k b. not (is_message b.third)) tt (λ k. tt) r.kind) t))))
  where
    b : Body
    b = body_of r.kind

-- order: the counts of messages and goals before a record, and their lists

none_T : (n : ℕ) → n ≡ 0 → T (not (ltb 0 n))
none_T n e = rw e tt

T_none : (n : ℕ) → T (not (ltb 0 n)) → n ≡ 0
T_none n t = let l = nltb→le 0 n t in omega arith

empty : (l : List Record) → length l ≡ 0 → l ≡ []
empty [] e = refl
empty (r ∷ l) e = absurd (omega arith)

-- nothing of the later classes stands before a record of kind k
abbrev pub InOrder : List Record → ℕ → Type 0
InOrder past k = (k ≡ 32 → (messages past ≡ []) × (goals past ≡ [])) × (k ≡ 33 → goals past ≡ [])

pub ordered_T : (past : List Record) (k : ℕ) → T (not (out_of_order (counts_of past) k)) → InOrder past k
unfolding out_of_order
ordered_T past k t =
    let n = counts_of past in
    let a = T_nor (eqb k 32 && ltb 0 (n.messages + n.goals)) (eqb k 33 && ltb 0 n.goals) t in (
      (λ e. let z = T_none (n.messages + n.goals) (T_nand (eqb k 32) _ a.0 (eq_T k 32 e)) in
          (empty (messages past) (omega arith), empty (goals past) (omega arith))),
      (λ e. empty (goals past) (T_none n.goals (T_nand (eqb k 33) _ a.1 (eq_T k 33 e)))),
    )

pub T_ordered : (past : List Record) (k : ℕ) → InOrder past k → T (not (out_of_order (counts_of past) k))
unfolding out_of_order
T_ordered past k h =
    let n = counts_of past in
    nor_T (eqb k 32 && ltb 0 (n.messages + n.goals)) (eqb k 33 && ltb 0 n.goals)
    (nand_T (eqb k 32) _ (λ t.
    let e = h.0 (eqb→eq k 32 t) in
    let x = ap length e.0 in
    let y = ap length e.1 in
    none_T (n.messages + n.goals) (omega arith)))
    (nand_T (eqb k 33) _ (λ t. none_T n.goals (ap length (h.1 (eqb→eq k 33 t)))))

pub sound_proper : (past : List Record) (r : Record) → T (is_field (body_of r.kind).first) → EachField Whole r
    → fault past r ≡ 0 → Proper past r
unfolding over_limit is_dangling is_misfit is_not_rising is_wrong_delegation is_to_sender is_no_statement has_loose is_after_last is_repeated formula_at
sound_proper past r k w e =
    let s = fault_sound past r e in
    let n = counts_of past in
    let a = T_nor (is_formula_record r.kind && leb 256 n.formulas) _ s.limited in
    let b = T_nor (eqb r.kind 1 && leb 8 n.principals) _ a.1 in
    let c = T_nor (eqb r.kind 32 && leb 64 n.assumptions) _ b.1 in
    let d = T_nor (eqb r.kind 33 && leb 16 n.messages) _ c.1 in
    let o = ordered_T past r.kind s.ordered in
    record {
      known = k;
      whole = w;
      assumptions_first = o.0;
      goals_last = o.1;
      formula_limit = λ t. nleb→lt 256 _ (T_nand (is_formula_record r.kind) _ a.0 t);
      principal_limit = λ t. nleb→lt 8 _ (T_nand (eqb r.kind 1) _ b.0 (eq_T r.kind 1 t));
      assumption_limit = λ t. nleb→lt 64 _ (T_nand (eqb r.kind 32) _ c.0 (eq_T r.kind 32 t));
      message_limit = λ t. nleb→lt 16 _ (T_nand (eqb r.kind 33) _ d.0 (eq_T r.kind 33 t));
      goal_limit = λ t. nleb→lt 32 _ (T_nand (eqb r.kind 34) _ d.1 (eq_T r.kind 34 t));
      earlier = each_field_lem (λ s x. not (refers s) || ltb x n.formulas) (λ s x. T (refers s) → x < n.formulas) (refers_T n.formulas) r s.tied;
      sorts =
          both_fields _ _ (λ s x. MayBe s (formula_at past x).kind) (λ s x. fits_T s (formula_at past x).kind) r
          (each_field_lem (λ s x. fits s (formula_at past x).kind) (λ s x. T (fits s (formula_at past x).kind)) (λ s x t. t) r s.fitting)
          (each_field_lem (λ s x. states s (formula_at past x).kind) (λ s x. T (states s (formula_at past x).kind)) (λ s x t. t) r s.stated);
      rising = λ t. nleb→lt _ _ (T_nand (eqb r.kind 8 || eqb r.kind 10) _ s.risen (T_either r.kind 8 10 t));
      delegation = λ t. T_not_not (allows_in (formulas past) r.first r.second) (T_nand (eqb r.kind 17) _ s.delegated (eq_T r.kind 17 t));
      to_another = λ t p. T_not (eqb r.first r.second) (T_nand (eqb r.kind 33) _ s.apart (eq_T r.kind 33 t)) (eq_T r.first r.second p);
      closed = λ l.
          each_field_lem (λ s x. not (refers s) || not (is_open_in (formulas past) x)) (λ s x. T (refers s) → Closed (formulas past) x)
          (closed_T (formulas past)) r (T_nand (leb 32 r.kind) _ s.closed (le→leb 32 r.kind l));
      goal_after = λ t. keeps_T r.kind _ r.first t (each_field_lem (keeps_to n.messages) (λ s x. T (keeps_to n.messages s x)) (λ s x t. t) r s.reached).0;
      new = λ t. place_new r (formulas past) (nltb→le _ _ (T_nand (is_formula_record r.kind) _ s.fresh t));
    }

-- a count below its limit does not pass the test for the limit
below_T : (n m : ℕ) → n < m → T (not (leb m n))
below_T n m l = not_T (leb m n) (λ t. let h = leb→le m n t in omega arith)

pub proper_tests : (past : List Record) (r : Record) → Proper past r → Sound past r
unfolding over_limit is_dangling is_misfit is_not_rising is_wrong_delegation is_to_sender is_no_statement has_loose is_after_last is_repeated formula_at
proper_tests past r h =
    let n = counts_of past in
    let k = r.kind in
    record {
      ordered = T_ordered past k (h.assumptions_first, h.goals_last);
      limited =
          nor_T (is_formula_record k && leb 256 n.formulas) _
          (nand_T (is_formula_record k) _ (λ t. below_T n.formulas 256 (h.formula_limit t)))
          (nor_T (eqb k 1 && leb 8 n.principals) _
          (nand_T (eqb k 1) _ (λ t. below_T n.principals 8 (h.principal_limit (eqb→eq k 1 t))))
          (nor_T (eqb k 32 && leb 64 n.assumptions) _
          (nand_T (eqb k 32) _ (λ t. below_T n.assumptions 64 (h.assumption_limit (eqb→eq k 32 t))))
          (nor_T (eqb k 33 && leb 16 n.messages) _
          (nand_T (eqb k 33) _ (λ t. below_T n.messages 16 (h.message_limit (eqb→eq k 33 t))))
          (nand_T (eqb k 34) _ (λ t. below_T n.goals 32 (h.goal_limit (eqb→eq k 34 t)))))));
      tied = field_each (λ s x. not (refers s) || ltb x n.formulas) _ (T_refers n.formulas) r h.earlier;
      fitting = field_each (λ s x. fits s (formula_at past x).kind) _ (λ s x. T_fits s (formula_at past x).kind) r h.sorts;
      risen =
          nand_T (eqb k 8 || eqb k 10) _
          (λ t. below_T (formula_at past r.first).first (formula_at past r.third).first (h.rising (either_T k 8 10 t)));
      delegated = nand_T (eqb k 17) _ (λ t. not_not_T (allows_in (formulas past) r.first r.second) (h.delegation (eqb→eq k 17 t)));
      apart = nand_T (eqb k 33) _ (λ t. not_T (eqb r.first r.second) (λ e. h.to_another (eqb→eq k 33 t) (eqb→eq r.first r.second e)));
      stated = field_each (λ s x. states s (formula_at past x).kind) _ (λ s x. T_states s (formula_at past x).kind) r h.sorts;
      closed =
          nand_T (leb 32 k) _
          (λ t. field_each (λ s x. not (refers s) || not (is_open_in (formulas past) x)) (λ s x. T (refers s) → Closed (formulas past) x)
          (T_closed (formulas past)) r (h.closed (leb→le 32 k t)));
      reached = not_not_T (each_field (keeps_to n.messages) r) (keeps_all n.messages r h.goal_after);
      fresh =
          nand_T (is_formula_record k) _
          (λ t. not_T (ltb (position_of r (formulas past)) n.formulas) (λ l.
          let a = ltb→lt (position_of r (formulas past)) n.formulas l in
          let b = new_place r (formulas past) (h.new t) in
          omega arith));
    }

pub proper_sound : (past : List Record) (r : Record) → Proper past r → fault past r ≡ 0
proper_sound past r h = sound_fault past r (proper_tests past r h)
