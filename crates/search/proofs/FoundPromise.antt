-- What the prover finds is what demand 3 asks for. Taken are the book's tables, its survey, and that what is held is about the book's
-- formulas and principals (`AllInside`).
use Prim.Native.Nat.{ℕ, ◌+◌, ◌*◌, ◌<◌, ◌≤◌}
use native.Mathlib.Omega.{arith}
use mathlib.Core.Path.{◌≡◌, refl, sym, ap, subst, subst₂, ◌∙◌}
use mathlib.Core.List.{List}
use mathlib.Core.Bool.{Bool, true, false}
use lib.ListN.{length, length-map}
use borrow.Author.Tests.{eq-eqb, ne_eqb, le-leb}
use Rattle.logic.specs.declared.Record.{Record}
use Rattle.logic.specs.Count.{formulas, assumptions, messages, goals}
use Rattle.logic.specs.Refusal.{Outcome}
use Rattle.logic.specs.Refusal.Outcome.{accepted}
use Rattle.logic.specs.Book.{All, Book}
use Rattle.logic.specs.Fact.{goal_fact, initial}
use Rattle.logic.specs.Derivation.{Among}
use Rattle.logic.specs.Written.{meaning}
use Rattle.logic.specs.Place as place
use Rattle.logic.specs.Step.{goal_of}
use Rattle.logic.specs.Survey.{IsSurvey}
use Rattle.logic.specs.Proof.{Answer, Reached, HeldFor, Promises}
use Rattle.logic.proofs.Contents.{contents}
use Rattle.logic.proofs.Follows.{formula_limit_lem, assumption_limit_lem, message_limit_lem}
use Rattle.logic.proofs.Meaning.{Valid}
use Rattle.logic.proofs.Member.{all_imp}
use Rattle.facts.specs.Facts.{bit_at}
use Rattle.facts.proofs.Block.{Fit}
use Rattle.facts.proofs.History.{Entry, found}
use Rattle.flat.specs.Layout.{first_at, rank_at, message_at, stated_at}
use Rattle.derive.specs.Steps as steps
use Rattle.derive.specs.Steps.{table_size, derivation, Writes}
use Rattle.derive.proofs.NeededEntries.{places_fit}
use Rattle.derive.proofs.StepsProve.{Linked}
use Rattle.derive.proofs.Entries.{Logged}
use Rattle.derive.proofs.Promise.{buffer_proves, some_step, nothing_written}
use Rattle.layout.proofs.FlatBook.{Laid}
use Rattle.lanes.specs.Lanes.{State, lane}
use Rattle.lanes.proofs.Sets.{Proper, apart}
use Rattle.lanes.proofs.Fires.{Held}
use Rattle.lanes.proofs.History.{Recorded}
use Rattle.stamps.proofs.Places.{Inside}
use Rattle.rules.specs.Close.{Closes}
use Rattle.rules.proofs.Tables.{Chained, Instanced}
use Rattle.rules.proofs.Entries.{Below}
use Rattle.rules.proofs.Closing as closing
use Rattle.rules.proofs.RulesSized.{fit_proper}
use Rattle.tables.specs.Deliveries.{listed}
use Rattle.tables.proofs.Deliveries.{listed_length}
use Rattle.stages.specs.Stages.{held_in, FindsAll, Finds}
use Rattle.search.specs.Laid.{every_assumption}
use Rattle.search.proofs.Starts.{starts}
use Rattle.search.specs.Answers.{names_of, answer_of}
use Rattle.search.specs.Found.{FoundIs}
use Rattle.search.proofs.Laws.{block_small}
use Rattle.search.proofs.FlatRepresents.{ranking, represented}
use Rattle.search.proofs.PrincipalNames.{named}
use Rattle.search.proofs.GoalFact as goal
use Rattle.search.proofs.BookGiven.{given_to, small_messages, is_given_lem}
use Rattle.search.proofs.FoundFacts.{follows_held}
use Rattle.search.proofs.FoundLinks.{same_fact, linked}
use Rattle.search.proofs.FoundCount.{found_count}

-- where a book keeps to the limits all is found
pub by_limits : (b links rows u : List ℕ) (k n a m : ℕ) (l l' : List ℕ) (count held : ℕ) → n ≤ 256 → a ≤ 64 → m ≤ 16
    → Finds b links rows u (listed b m) k n every_assumption a l l' count held → FindsAll b links rows u (listed b m) k n every_assumption a l l' count held
by_limits b links rows u k n a m l l' count held ln la lm h =
    let i = listed_length b m lm in
    let j : length (listed b m) ≤ 254 = omega arith in
    rw (le-leb n 256 ln, le-leb a 64 la, le-leb (length (listed b m)) 254 j) at h

module _ (rs : List Record) (book : Book rs) (b : List ℕ) (laid : Laid rs b) (g : ℕ) (lg : g < length (goals rs)) (links rows u : List ℕ) (below : Below links 256)
    (chained : Chained b links (length (formulas rs))) (instanced : Instanced (formulas rs) b rows) (tables : closing.Laid b links rows u (length (formulas rs)))
    (t : List ℕ) (survey : IsSurvey (formulas rs) (initial rs) t) where
  abbrev fs : List Record
  fs = formulas rs

  abbrev m : ℕ
  m = (goal_of rs g).first

  abbrev f : ℕ
  f = (goal_of rs g).second

  abbrev P : ℕ
  P = first_at b f

  abbrev rank : ℕ
  rank = place.rank (formulas rs) P

  in_time : m ≤ length (messages rs)
  in_time = goal.in_time rs book b laid g lg

  small_formulas : (j : ℕ) → j < m → message_at b j < 256
  small_formulas j l =
      small_messages (ranking rs book) b _ _ (starts rs book b laid) (formula_limit_lem rs book) j (rw length-map (let h = in_time in omega arith))

  own_rank : rank_at b P ≡ place.rank fs P
  unfolding ranking
  own_rank = (represented rs book b laid).ranks P (goal.ip rs book b laid g lg)

  abbrev names : List ℕ
  names = names_of b (length (formulas rs))

  asks_goal : meaning fs (steps.cell_fact names P (stated_at b f)) ≡ goal_fact fs (goal_of rs g)
  asks_goal =
      ap (meaning fs) (same_fact rs book b laid P (goal.ip rs book b laid g lg) names (named rs book b laid) (stated_at b f) (goal.fits rs book b laid g lg)
      ∙ goal.fact_is rs book b laid g lg) ∙ (goal.means rs book b laid g lg).1

  module _ (log : List ℕ) (long : length (formulas rs) * (3 + 2 * place.principal_count (formulas rs)) * 8 ≤ length log)
      (s : State) (c : Closes b links rows u rank (given_to b u rank (length (assumptions rs)) m log) s)
      (inside : Inside s.words (length (formulas rs)) (place.principal_count (formulas rs))) where
    history : (h : List Entry) × Recorded rank s h × (s.count ≤ length (formulas rs) * (3 + 2 * place.principal_count (formulas rs)))
        × All (λ e. Linked rs m names P e.by) h
    history = linked rs book b laid P (goal.ip rs book b laid g lg) names (named rs book b laid) links rows u below chained instanced tables m in_time log long s c

    logged : Logged s.log s.count history.0
    logged = let r = history.1 in record { number = r.number; bytes = r.bytes; proper = r.proper }

    small : s.count < 65536
    small =
        let w = block_small (length fs) (place.principal_count fs) (formula_limit_lem rs book) (goal.few rs book b laid g lg) in
        let v = history.2 in
        omega arith

    there : Proper (stated_at b f)
    there = fit_proper (length fs) (place.principal_count fs) (stated_at b f) (formula_limit_lem rs book) (goal.few rs book b laid g lg) (goal.fits rs book b laid g lg)

    -- the goal is held when it is reached
    reached_held : Reached rs g → Held rank s (stated_at b f)
    unfolding ranking
    reached_held d =
        follows_held rs book b laid links rows u below chained instanced tables m in_time rank log s c P (goal.ip rs book b laid g lg) (stated_at b f) (goal.fits rs book b laid g lg)
        (subst (Valid fs) (sym (goal.fact_is rs book b laid g lg)) (goal.means rs book b laid g lg).0)
        (rw (goal.fact_is rs book b laid g lg, (goal.means rs book b laid g lg).1) d)

    held_for : HeldFor rs g (held_in s.words (length fs))
    held_for = (t, survey, found_count rs book b laid links rows u below chained instanced tables m in_time rank log s c inside t survey)

    -- what was written, from the log
    answered : (d d' : List ℕ) (k l : ℕ) → place.F fs * 12 ≤ length d
        → Writes (derivation (table_size (length fs) (place.principal_count fs)) (place.principal_count fs) names P (stated_at b f) s.log s.count) d d' k l
        → Promises rs g d d' (answer_of k l (held_in s.words (length fs)))
    answered d d' k l wide written = go (bit_at (lane s.words (stated_at b f)) rank) refl
      where
        h : List Entry
        h = history.0

        table : ℕ
        table = table_size (length fs) (place.principal_count fs)

        fit : length fs * (3 + 2 * place.principal_count fs) ≤ table_size (length fs) (place.principal_count fs)
        fit = places_fit (length fs) (place.principal_count fs) (formula_limit_lem rs book) (goal.few rs book b laid g lg)

        go : (z : Bool) → bit_at (lane s.words (stated_at b f)) rank ≡ z → Promises rs g d d' (answer_of k l (held_in s.words (length fs)))
        go true e =
            let a = history.1.logged (stated_at b f) there (sym e) in
            let ok = (contents rs book).formulas_ok in
            let all = goal.one_block rs book b laid g lg in
            let size = history.2 in
            let few = goal.few rs book b laid g lg in
            let w = buffer_proves rs ok few table fit g names (named rs book b laid) P (stated_at b f) asks_goal s.log s.count h logged history.3 a small
            d d' k l (omega arith) written in
            let n = some_step rs ok few table fit g names (named rs book b laid) P (stated_at b f) asks_goal s.log s.count h logged history.3 a small in
            rw (ne_eqb k 0 (λ z. omega (arith, written.count))) (w.0, w.1, w.2, w.3, w.4, held_for)
        go false e =
            let n : Among (stated_at b f) (found h) → ⊥ = λ a. apart ((history.1.held (stated_at b f) a).1 ∙ e) in
            let w = nothing_written (place.principal_count fs) (goal.few rs book b laid g lg) (length fs) table fit names P (stated_at b f)
            (goal.fits rs book b laid g lg) s.log s.count h logged
            (all_imp (λ e. Linked rs m names P e.by) (λ e. Fit (length fs) (place.principal_count fs) e.by.gives) (λ e k. k.fits) h history.3) n
            d d' k l written in
            rw (eq-eqb k 0 w.0) ((λ r. apart (reached_held r ∙ e)), w.1, held_for)

  -- what is held in any state that is found is about the book's formulas and principals
  abbrev pub AllInside : List ℕ → Type 0
  AllInside log =
      (s : State) → Closes b links rows u (place.rank (formulas rs) (first_at b (goal_of rs g).second))
      (given_to b u (place.rank (formulas rs) (first_at b (goal_of rs g).second)) (length (assumptions rs)) (goal_of rs g).first log) s
      → Inside s.words (length (formulas rs)) (place.principal_count (formulas rs))

  -- THE PROMISES
  pub found_promised : (log : List ℕ) → length (formulas rs) * (3 + 2 * place.principal_count (formulas rs)) * 8 ≤ length log → AllInside log
      → (d d' : List ℕ) (o : Outcome Answer) → place.F (formulas rs) * 12 ≤ length d
      → FoundIs b links rows u (listed b (goal_of rs g).first) (length (formulas rs)) (place.principal_count (formulas rs)) (length (assumptions rs)) (goal_of rs g).second log d d' o
      → (a : Answer) × (o ≡ accepted a) × Promises rs g d d' a
  found_promised log long inside d d' o wide p =
      let late : m ≤ 16 = omega (arith, message_limit_lem rs book, in_time) in
      let w = by_limits b links rows u (rank_at b P) (length fs) (length (assumptions rs)) m log p.log' p.count p.held (formula_limit_lem rs book) (assumption_limit_lem rs book)
      late p.finds in
      let s = w.0 in
      let given = is_given_lem b m late small_formulas u (rank_at b P) (length (assumptions rs)) log (assumption_limit_lem rs book) in
      let c = subst (λ (k : ℕ). Closes b links rows u k (given_to b u k (length (assumptions rs)) m log) s) own_rank (subst (λ (x : State). Closes b links rows u (rank_at b P) x s) given w.1.0) in
      let written = subst₂ (λ (x : List ℕ) (y : ℕ). Writes (derivation (table_size (length fs) (place.principal_count fs)) (place.principal_count fs) names P (stated_at b f) x y) d d' p.steps p.bytes) w.1.1.0 w.1.1.1.0 p.writes in
      let a = answered log long s c (inside s c) d d' p.steps p.bytes wide written in (
        answer_of p.steps p.bytes p.held,
        p.answers,
        subst (λ (z : ℕ). Promises rs g d d' (answer_of p.steps p.bytes z)) (sym w.1.1.1.1) a,
      )
