-- Assumptions, messages and goals keep their order among themselves: without its formula records, an accepted book has first all
-- assumptions, then all messages, then all goals.
use Prim.Native.Nat.{ℕ}
use mathlib.Core.Path.{◌≡◌, refl, subst}
use mathlib.Core.Bool.{not}
use mathlib.Core.List.{List, [], ◌∷◌, ◌++◌, append-nil, append_assoc}
use lib.Seq.{append_snoc}
use lib.Dec.{T, eqb, eqb→eq, T_not, not_T}
use Rattle.logic.specs.declared.Record.{Record}
use Rattle.logic.specs.Kind.{is_formula_record}
use Rattle.logic.specs.Count.{of_kind, others, assumptions, messages, goals}
use Rattle.logic.specs.Book.{Proper, Follows, Book}
use Rattle.logic.proofs.Tests.{eq_T, not_not_T}
use Rattle.logic.proofs.Table.{kinds}
use Rattle.logic.proofs.Table.Kinds.{formula, assumption, message, goal}
use Rattle.logic.proofs.Follows.{of_kind_more, of_kind_other}

abbrev InRuns : List Record → Type 0
InRuns rs = others rs ≡ assumptions rs ++ (messages rs ++ goals rs)

-- the test of a kind, and of formulas, on another kind
other_kind : (k c n : ℕ) → k ≡ n → T (not (eqb n c)) → T (not (eqb k c))
other_kind k c n e t = rw e t

no_formula : (k n : ℕ) → k ≡ n → T (not (is_formula_record n)) → T (not (is_formula_record k))
no_formula k n e t = rw e t

not_formula : (k c : ℕ) → T (is_formula_record k) → T (not (is_formula_record c)) → T (not (eqb k c))
not_formula k c f t = not_T (eqb k c) (λ e. T_not (is_formula_record c) t (subst (λ n. T (is_formula_record n)) (eqb→eq k c e) f))

-- one record more
runs_more : (past : List Record) (r : Record) → Proper past r → InRuns past → InRuns (past ++ (r ∷ []))
runs_more past r p h =
    elim (kinds r.kind p.known) [
      | formula f ↦
          rw (
            of_kind_other (λ k. not (is_formula_record k)) past r (not_not_T (is_formula_record r.kind) f),
            of_kind_other (λ k. eqb k 32) past r (not_formula r.kind 32 f tt),
            of_kind_other (λ k. eqb k 33) past r (not_formula r.kind 33 f tt),
            of_kind_other (λ k. eqb k 34) past r (not_formula r.kind 34 f tt),
          ) h
      | assumption e ↦
          let n = p.assumptions_first e in
          rw (
            of_kind_more (λ k. not (is_formula_record k)) past r (no_formula r.kind 32 e tt),
            of_kind_more (λ k. eqb k 32) past r (eq_T r.kind 32 e),
            of_kind_other (λ k. eqb k 33) past r (other_kind r.kind 33 32 e tt),
            of_kind_other (λ k. eqb k 34) past r (other_kind r.kind 34 32 e tt),
            h,
            n.0,
            n.1,
            append-nil,
            append-nil,
          )
      | message e ↦
          rw (
            of_kind_more (λ k. not (is_formula_record k)) past r (no_formula r.kind 33 e tt),
            of_kind_other (λ k. eqb k 32) past r (other_kind r.kind 32 33 e tt),
            of_kind_more (λ k. eqb k 33) past r (eq_T r.kind 33 e),
            of_kind_other (λ k. eqb k 34) past r (other_kind r.kind 34 33 e tt),
            h,
            p.goals_last e,
            append-nil,
            append-nil,
            append_assoc,
          )
      | goal e ↦
          rw (
            of_kind_more (λ k. not (is_formula_record k)) past r (no_formula r.kind 34 e tt),
            of_kind_other (λ k. eqb k 32) past r (other_kind r.kind 32 34 e tt),
            of_kind_other (λ k. eqb k 33) past r (other_kind r.kind 33 34 e tt),
            of_kind_more (λ k. eqb k 34) past r (eq_T r.kind 34 e),
            h,
            append_assoc,
            append_assoc,
          )
    ]

runs_kept : (past rs : List Record) → Follows past rs → InRuns past → InRuns (past ++ rs)
runs_kept past [] f h = rw append-nil h
runs_kept past (r ∷ rs) f h = subst InRuns (append_snoc past r rs) (runs_kept (past ++ (r ∷ [])) rs f.1 (runs_more past r f.0 h))

-- "assumptions, messages and goals keep their order among themselves"
pub in_order : (rs : List Record) → Book rs → others rs ≡ assumptions rs ++ (messages rs ++ goals rs)
unfolding of_kind
in_order rs b = runs_kept [] rs b refl
