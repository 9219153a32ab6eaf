-- PROVER AND CHECKER AGREE. For an accepted book and a goal that is there: the prover answers reached if and only if the checker
-- accepts some derivation, if and only if a derivation over trees exists. Both are here what their definitions say: `Proved` and
-- `Checked` are what the functions `prove` and `check` ensure. And every accepted book has exactly one survey. That what is sought
-- exists is seen from how the search works: closing comes to an end, and the log of the goal's principal gives the derivation.
use Prim.Native.Nat.{ℕ, ◌+◌, ◌*◌, ◌<◌, ◌≤◌}
use native.Mathlib.Omega.{arith}
use mathlib.Core.Path.{◌≡◌, sym, ap, ◌∙◌, subst}
use mathlib.Core.Logic.{⊎_elim, inr, ◌↔◌}
use mathlib.Core.List.{List}
use lib.ListN.{length, replicate, length-replicate}
use Rattle.logic.specs.declared.Record.{Record}
use Rattle.logic.specs.Fact.{initial, goal_fact}
use Rattle.logic.specs.Count.{formulas, assumptions, goals}
use Rattle.logic.specs.Refusal.{Outcome}
use Rattle.logic.specs.Refusal.Outcome.{accepted, refused}
use Rattle.logic.specs.Reading.{reading}
use Rattle.logic.specs.Book.{Book}
use Rattle.logic.specs.Written.{meaning}
use Rattle.logic.specs.Place.{principal_count, rank}
use Rattle.logic.specs.Step.{goal_of, Verdict, Checked}
use Rattle.logic.specs.Survey.{IsSurvey}
use Rattle.logic.specs.Proof.{Answer, Reached, Proved}
use Rattle.logic.proofs.Bytes.{Bytes}
use Rattle.logic.proofs.BookRead.{accepted_is_book}
use Rattle.logic.proofs.Contents.{contents}
use Rattle.logic.proofs.Follows.{formula_limit_lem}
use Rattle.logic.proofs.Meaning.{Valid}
use Rattle.logic.proofs.Steps.{derivation_bytes}
use Rattle.logic.proofs.Surveys.{survey_once}
use Rattle.logic.proofs.Verdict.{accepted_reached}
use Rattle.logic.proofs.ProverAnswer.{IsReached, reached_exactly}
use Rattle.layout.proofs.FlatBook.{Laid}
use Rattle.layout.proofs.FlatBytes.{Whole}
use Rattle.flat.specs.Layout.{first_at, stated_at}
use Rattle.derive.specs.Steps.{cell_fact, table_size, derivation}
use Rattle.derive.proofs.NeededEntries.{places_fit}
use Rattle.derive.proofs.Entries.{Logged}
use Rattle.derive.proofs.Promise.{steps_prove}
use Rattle.rules.proofs.RulesSized.{fit_proper}
use Rattle.rules.proofs.Tables.{Instanced}
use Rattle.stages.proofs.Exists.{closed_up}
use Rattle.search.specs.Answers.{names_of}
use Rattle.search.proofs.Laws.{block_small}
use Rattle.search.proofs.BookTables.{links, users, chains_linked, links_below, tables_laid}
use Rattle.search.proofs.GoalFact as goal
use Rattle.search.proofs.PrincipalNames.{named}
use Rattle.search.proofs.BookGiven.{given_to}
use Rattle.search.proofs.FoundFacts.{follows_held}
use Rattle.search.proofs.FoundLinks.{same_fact, linked}
use Rattle.search.proofs.SurveyOf.{closed_after, flat_of, flat_laid, flat_whole, rows_of, rows_laid, table_of, table_surveys}

module _ (rs : List Record) (book : Book rs) where
  abbrev fs : List Record
  fs = formulas rs

  abbrev flat : List ℕ
  flat = flat_of rs

  abbrev is_laid : Laid rs (flat_of rs)
  is_laid = flat_laid rs book

  abbrev is_whole : Whole (flat_of rs) (length (formulas rs))
  is_whole = flat_whole rs book

  abbrev rows : List ℕ
  rows = rows_of rs

  abbrev instanced : Instanced (formulas rs) (flat_of rs) (rows_of rs)
  instanced = rows_laid rs book

  -- EXACTLY ONE SURVEY for each accepted book
  pub one_survey : (t : List ℕ) × (IsSurvey (formulas rs) (initial rs) t × ((u : List ℕ) → IsSurvey (formulas rs) (initial rs) u → u ≡ t))
  one_survey =
      let s = table_surveys rs book in
      (table_of rs, (s, λ u v. survey_once fs (initial rs) u (table_of rs) v s))

  -- What the prover would find for goal g.
  module _ (g : ℕ) (there : g < length (goals rs)) where
    abbrev m : ℕ
    m = (goal_of rs g).first

    abbrev f : ℕ
    f = (goal_of rs g).second

    abbrev P : ℕ
    P = first_at (flat_of rs) (goal_of rs g).second

    abbrev names : List ℕ
    names = names_of (flat_of rs) (length (formulas rs))

    -- a log with room for one principal
    log : List ℕ
    log = replicate 38912 0

    small : length fs * (3 + 2 * principal_count fs) ≤ 4864
    small = block_small (length fs) (principal_count fs) (formula_limit_lem rs book) (goal.few rs book flat is_laid g there)

    long : length fs * (3 + 2 * principal_count fs) * 8 ≤ length log
    unfolding log
    long = subst (λ (z : ℕ). length fs * (3 + 2 * principal_count fs) * 8 ≤ z) (sym (length-replicate {A = ℕ} 38912 0)) (let l = small in omega arith)

    asks : meaning fs (cell_fact names P (stated_at flat f)) ≡ goal_fact fs (goal_of rs g)
    asks =
        ap (meaning fs) (same_fact rs book flat is_laid P (goal.ip rs book flat is_laid g there) names (named rs book flat is_laid) (stated_at flat f)
        (goal.fits rs book flat is_laid g there) ∙ goal.fact_is rs book flat is_laid g there)
        ∙ (goal.means rs book flat is_laid g there).1

    -- WHAT IS REACHED IS ACCEPTED: the log has the goal's fact, and so there are bytes that the checker accepts
    reached_accepted : Reached rs g → (s : List ℕ) × Verdict rs g s (accepted tt)
    reached_accepted d =
        let lk = links rs book flat is_laid is_whole in
        let us = users rs book flat is_laid is_whole rows instanced in
        let below = links_below rs book flat is_laid is_whole in
        let chained = chains_linked rs book flat is_laid is_whole in
        let tables = tables_laid rs book flat is_laid is_whole rows instanced in
        let ip = goal.ip rs book flat is_laid g there in
        let fits = goal.fits rs book flat is_laid g there in
        let few = goal.few rs book flat is_laid g there in
        let in_time = goal.in_time rs book flat is_laid g there in
        let k = rank fs P in
        let s = closed_up flat lk rows us k (given_to flat us k (length (assumptions rs)) m log) in
        let c = closed_after rs book flat is_laid is_whole rows instanced k m log in
        let h = linked rs book flat is_laid P ip names (named rs book flat is_laid) lk rows us below chained instanced tables m in_time log long s c in
        let held = follows_held rs book flat is_laid lk rows us below chained instanced tables m in_time k log s c P ip (stated_at flat f) fits
        (subst (Valid fs) (sym (goal.fact_is rs book flat is_laid g there)) (goal.means rs book flat is_laid g there).0)
        (rw (goal.fact_is rs book flat is_laid g there, (goal.means rs book flat is_laid g there).1) d) in
        let r = h.1 in
        let entry = r.logged (stated_at flat f) (fit_proper (length fs) (principal_count fs) (stated_at flat f) (formula_limit_lem rs book) few fits) held in
        let logged : Logged s.log s.count h.0 = record { number = r.number; bytes = r.bytes; proper = r.proper } in
        let short : s.count < 65536 = omega (arith, h.2, small) in
        let size = table_size (length fs) (principal_count fs) in
        let fit = places_fit (length fs) (principal_count fs) (formula_limit_lem rs book) few in (
          derivation_bytes (derivation size (principal_count fs) names P (stated_at flat f) s.log s.count),
          (steps_prove rs (contents rs book).formulas_ok few size fit g names (named rs book flat is_laid) P (stated_at flat f) asks
              s.log s.count h.0 logged h.3 entry short).accepts,
        )

    -- REACHED IF AND ONLY IF SOME BYTES ARE ACCEPTED
    pub reached_iff : Reached rs g ↔ ((s : List ℕ) × Verdict rs g s (accepted tt))
    reached_iff = (reached_accepted, λ h. accepted_reached rs book g h.0 h.1)

no_refusal : (f i : ℕ) → ◌≡◌ {A = Outcome Unit} (accepted tt) (refused f i) → ⊥
no_refusal f i e = let z : ◌≡◌ {A = ℕ} 0 1 = cc in omega arith

module _ (x : List ℕ) (bytes : Bytes x) (rs : List Record) (read : reading x ≡ accepted rs) (g : ℕ) (there : g < length (goals rs)) where
  -- the checker accepts some bytes
  abbrev pub SomeChecked : Type 0
  SomeChecked = (s : List ℕ) × Checked x g s (accepted tt)

  verdict : (s : List ℕ) → Checked x g s (accepted tt) → Verdict rs g s (accepted tt)
  verdict s c = ⊎_elim (λ z. absurd (no_refusal 13 g z.1)) (λ z. z.1) (rw read at c)

  checked : (s : List ℕ) → Verdict rs g s (accepted tt) → Checked x g s (accepted tt)
  checked s v = rw read (inr (there, v))

  -- CHECKED IF AND ONLY IF DERIVED
  pub checked_iff : SomeChecked ↔ Reached rs g
  checked_iff =
      let i = reached_iff rs (accepted_is_book x rs bytes read).1 g there in (
        (λ c. i.1 (c.0, verdict c.0 c.1)),
        (λ r. let v = i.0 r in (v.0, checked v.0 v.1)),
      )

  -- REACHED IF AND ONLY IF CHECKED
  pub prover_and_checker : (work work' d d' : List ℕ) (a : Answer) → Proved x g work work' d d' (accepted a) → IsReached a ↔ SomeChecked
  prover_and_checker work work' d d' a p =
      let r = reached_exactly x bytes rs read g there work work' d d' a p in (
        (λ u. checked_iff.1 (r.0 u)),
        (λ c. r.1 (checked_iff.0 c)),
      )
