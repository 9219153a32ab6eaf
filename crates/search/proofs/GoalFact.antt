-- The fact that a goal asks for, over formula numbers, and where it is kept. Assumes nothing.
use Prim.Native.Nat.{ℕ, ◌+◌, ◌*◌, ◌<◌, ◌≤◌}
use native.Mathlib.Nat.{mul_assoc, mul-le-mul_right, one-mul}
use native.Mathlib.Omega.{arith}
use mathlib.Core.Path.{◌≡◌, sym, ap₂, subst, ◌∙◌}
use mathlib.Core.Logic.{◌⊎◌}
use mathlib.Core.List.{List}
use lib.ListN.{length}
use lib.Dec.{T, eqb, eqb→eq}
use Rattle.logic.specs.declared.Record.{Record}
use Rattle.logic.specs.Kind.{body_of, bodies}
use Rattle.logic.specs.Record.{no_record}
use Rattle.logic.specs.Count.{formulas, messages, goals}
use Rattle.logic.specs.Book.{Closed, Book}
use Rattle.logic.specs.Formula.{record_of}
use Rattle.logic.specs.Fact.{Fact, goal_fact}
use Rattle.logic.specs.Written.{goal_fact_on}
use Rattle.logic.specs.Place as place
use Rattle.logic.specs.Step.{goal_of}
use Rattle.logic.proofs.Contents.{contents, Fitting, Unloose, among_at}
use Rattle.logic.proofs.Follows.{all_at, all_of_kind, of_kind_all}
use Rattle.logic.proofs.Holder.{holder}
use Rattle.logic.proofs.Initial.{Means, asks}
use Rattle.logic.proofs.Meaning.{IsPrincipal}
use Rattle.logic.proofs.Places.{rank_below}
use Rattle.facts.specs.declared.Cell.{Cell}
use Rattle.facts.proofs.Block.{Fit}
use Rattle.flat.specs.Layout.{first_at, stated_at}
use Rattle.flat.proofs.Cells.{ranked_fact, cell_of, fact_of_cell, cell_fits}
use Rattle.layout.proofs.FlatBook.{Laid}
use Rattle.search.proofs.FlatRepresents.{ranking}
use Rattle.search.proofs.Starts.{stated, second_formula}
use Rattle.search.proofs.StageState.{holder_principal}

module _ (rs : List Record) (book : Book rs) (b : List ℕ) (laid : Laid rs b) (g : ℕ) (lg : g < length (goals rs)) where
  abbrev pub fs : List Record
  fs = formulas rs

  -- the goal's message number and formula
  abbrev pub m : ℕ
  m = (goal_of rs g).first

  abbrev pub f : ℕ
  f = (goal_of rs g).second

  is_goal : (goal_of rs g).kind ≡ 34
  is_goal = eqb→eq (goal_of rs g).kind 34 (all_at (λ r. T (eqb r.kind 34)) (goals rs) g no_record (of_kind_all (λ k. eqb k 34) rs) lg)

  pub in_time : m ≤ length (messages rs)
  in_time =
      all_at (λ r. r.kind ≡ 34 → r.first ≤ length (messages rs)) (goals rs) g no_record
      (all_of_kind (λ r. r.kind ≡ 34 → r.first ≤ length (messages rs)) (λ k. eqb k 34) rs (contents rs book).goal_after) lg is_goal

  pub goal_formula : (f < length fs) × (((record_of fs f).kind ≡ 12) ⊎ ((record_of fs f).kind ≡ 13))
  unfolding body_of bodies
  goal_formula =
      let h = all_at (Fitting fs) (goals rs) g no_record (all_of_kind (Fitting fs) (λ k. eqb k 34) rs (contents rs book).fitting) lg in
      let k = rw is_goal at h in
      (k.1.0 tt, k.1.1)

  goal_closed : Closed fs f
  unfolding body_of bodies
  goal_closed =
      let h = all_at (Unloose fs) (goals rs) g no_record (all_of_kind (Unloose fs) (λ k. eqb k 34) rs (contents rs book).closed) lg (let e = is_goal in omega arith) in
      let k = rw is_goal at h in
      k.1 tt

  -- the goal's fact, over formula numbers
  abbrev pub fact : Fact ℕ
  fact = goal_fact_on fs (goal_of rs g)

  pub means : Means fs fact (goal_fact fs (goal_of rs g))
  means = asks rs (contents rs book) (goal_of rs g) (among_at (goals rs) g lg)

  pub at_fact : (first_at b f ≡ holder fact) × (stated_at b f ≡ cell_of (ranking rs book) fact)
  unfolding goal_fact_on
  at_fact = stated rs book b laid f goal_formula.0 goal_formula.1 goal_closed (second_formula rs book b laid f goal_formula.0 goal_formula.1)

  abbrev pub P : ℕ
  P = first_at b f

  abbrev pub q : Cell
  q = stated_at b f

  pub ip : IsPrincipal fs P
  ip = subst (IsPrincipal fs) (sym at_fact.0) (holder_principal fs fact means.0)

  pub fits : Fit (length fs) (place.principal_count fs) q
  unfolding ranking
  fits = subst (Fit (length fs) (place.principal_count fs)) (sym at_fact.1) (cell_fits (ranking rs book) fact means.0)

  pub fact_is : ranked_fact (ranking rs book) P q ≡ fact
  fact_is = ap₂ (ranked_fact (ranking rs book)) at_fact.0 at_fact.1 ∙ fact_of_cell (ranking rs book) fact means.0

  pub few : place.principal_count fs ≤ 8
  unfolding ranking
  few = (ranking rs book).few

  -- one block has no more places than all
  pub one_block : length (formulas rs) * (3 + 2 * place.principal_count (formulas rs)) ≤ place.F fs
  unfolding place.F
  one_block =
      let l = rank_below fs P ip in
      let e = mul_assoc (place.principal_count fs) (length fs) (3 + 2 * place.principal_count fs) in
      let w = length (formulas rs) * (3 + 2 * place.principal_count (formulas rs)) in
      let h = mul-le-mul_right {m = 1} {n = place.principal_count fs} w (omega arith) in
      let k = one-mul w in
      omega arith
