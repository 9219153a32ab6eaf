-- The survey's answer, from the index of a book that was read. Assumes nothing.
use Prim.Native.Nat.{ℕ, ◌+◌, ◌*◌, ◌<◌, ◌≤◌}
use native.Mathlib.Nat.{mul_assoc, mul-le-mul}
use native.Mathlib.Omega.{arith}
use mathlib.Core.Path.{◌≡◌, refl, sym, ap, subst, ◌∙◌}
use mathlib.Core.Logic.{inl, inr}
use mathlib.Core.List.{List, [], ◌++◌}
use lib.ListN.{length, take, drop, replicate, length-replicate}
use lib.Seq.{length-take-le}
use lib.Dec.{lit≤}
use borrow.Author.Tests.{le-leb}
use Rattle.logic.specs.declared.Record.{Record}
use Rattle.logic.specs.declared.Counts.{Counts}
use Rattle.logic.specs.Count.{formulas, principals, assumptions, messages, counts_of}
use Rattle.logic.specs.Refusal.Outcome.{accepted, refused}
use Rattle.logic.specs.Reading.{reading}
use Rattle.logic.specs.Book.{Book}
use Rattle.format.specs.Index.{index_size, filled}
use Rattle.logic.specs.Place as place
use Rattle.logic.specs.Survey.{Surveyed}
use Rattle.logic.proofs.Follows.{formula_limit_lem, principal_limit_lem, assumption_limit_lem, message_limit_lem}
use Rattle.logic.proofs.Limits.{principals_of}
use Rattle.layout.proofs.FlatBook.{Laid, laid}
use Rattle.layout.proofs.FlatBytes.{Whole, whole}
use Rattle.lanes.specs.Lanes.{State}
use Rattle.rules.proofs.Tables.{Instanced}
use Rattle.search.proofs.BookRows.{instanced_rows}
use Rattle.tables.specs.Links.{linked}
use Rattle.tables.specs.Users.{users_of}
use Rattle.tables.specs.Deliveries.{listed}
use Rattle.tables.proofs.Deliveries.{listed_length}
use Rattle.stages.specs.Stages.{Staged, StagesEnd, Surveys}
use Rattle.search.specs.Laid.{laid_flat, laid_links, laid_rows, laid_users, laid_deliveries, every_assumption, SurveyIs}
use Rattle.search.proofs.StagedSurvey.{staged_survey}

-- within the limits of a book all stages are gone through
surveyed_stages : {b links rows u : List ℕ} (m : ℕ) {n p f : ℕ} (a : ℕ) {t t' : List ℕ} {h : ℕ} → a ≤ 64 → m ≤ 16 → Surveys b links rows u (listed b m) n p f a t t' h
    → (s : State) × ((d : List ℕ) × Staged b links rows u (listed b m) n p f a t m s d t' h)
surveyed_stages {b} {links} {rows} {u} m {n} {p} {f} a {t} {t'} {h} l k e =
    let i = listed_length b m k in
    let j : length (listed b m) ≤ 254 = omega arith in
    let w : StagesEnd b links rows u (listed b m) n p f a t t' h = rw (le-leb a 64 l, le-leb (length (listed b m)) 254 j) at e in
    (w.0, (w.1.0, subst (λ x. Staged b links rows u (listed b m) n p f a t x w.0 w.1.0 t' h) i w.1.1))

pub answer_refused : (x t : List ℕ) (f i : ℕ) → reading x ≡ refused f i → Surveyed x t t (refused f i)
answer_refused x t f i e = rw e (refl, refl)

module _ (x t₀ ix : List ℕ) (room₀ : index_size ≤ length t₀) (n : Counts) (rs : List Record) (read : reading x ≡ accepted rs) (book : Book rs)
    (en : n ≡ counts_of rs) (et : ix ≡ filled t₀ [] rs) where
  pub limits : (n.formulas ≤ 256) × (n.principals ≤ 8) × (n.assumptions ≤ 64) × (n.messages ≤ 16)
  limits = rw en (formula_limit_lem rs book, principal_limit_lem rs book, assumption_limit_lem rs book, message_limit_lem rs book)

  pub ranks : place.principal_count (formulas rs) ≡ length (principals rs)
  ranks = ap length (principals_of rs)

  -- the size that is asked for is that of the survey
  pub size_is : n.principals * (n.formulas * (3 + 2 * n.principals)) ≡ place.F (formulas rs)
  unfolding place.F
  size_is =
      let e = mul_assoc (length (principals rs)) (length (formulas rs)) (3 + 2 * length (principals rs)) in
      rw (en, ranks) (sym e)

  pub answer_short : (t : List ℕ) (size : ℕ) → size ≡ n.principals * (n.formulas * (3 + 2 * n.principals)) → length t < size → Surveyed x t t (refused 14 0)
  answer_short t size e l = rw read (inl ((let g = size_is in omega arith), refl, refl))

  pub flat_laid : Laid rs (laid_flat ix n)
  flat_laid =
      rw (en, et) (laid rs book t₀ room₀ (replicate 2144 0) (rw length-replicate (lit≤ tt)))

  pub flat_whole : Whole (laid_flat ix n) (length (formulas rs))
  flat_whole = subst (λ (k : ℕ). Whole (laid_flat ix n) k) (ap (λ (m : Counts). m.formulas) en) (whole ix n 2144)

  pub rows_laid : Instanced (formulas rs) (laid_flat ix n) (laid_rows ix n)
  rows_laid = rw (en, et) (instanced_rows t₀ rs room₀ book _ (rw (← en, ← et) flat_laid) (rw (← en, ← et) flat_whole))

  -- the stages of the index are those of the book
  same_stages : (k : ℕ) → k ≡ place.F (formulas rs) → (s : State) (f u : List ℕ) (r : ℕ)
      → Staged (laid_flat ix n) (laid_links ix n) (laid_rows ix n) (laid_users ix n) (laid_deliveries ix n) n.formulas n.principals every_assumption n.assumptions (replicate k 0) n.messages s f u r
      ≡ Staged (laid_flat ix n) (linked (laid_flat ix n) (length (formulas rs)) (replicate 512 0)) (laid_rows ix n) (users_of (laid_flat ix n) (length (formulas rs)) (replicate 1024 0))
      (listed (laid_flat ix n) (length (messages rs))) (length (formulas rs)) (place.principal_count (formulas rs)) every_assumption (length (assumptions rs))
      (replicate (place.F (formulas rs)) 0) (length (messages rs)) s f u r
  same_stages k e s f u r = rw (en, e, ranks) refl

  pub answer_held : (t u : List ℕ) (size r : ℕ) → size ≡ n.principals * (n.formulas * (3 + 2 * n.principals)) → size ≤ length t
      → SurveyIs ix n (take size t) u r → Surveyed x t (u ++ drop size t) (accepted r)
  answer_held t u size r e l a =
      let f : size ≡ place.F (formulas rs) = e ∙ size_is in
      let d = surveyed_stages n.messages n.assumptions limits.2 limits.3 a in
      let v = staged_survey rs book (laid_flat ix n) flat_laid flat_whole (laid_rows ix n) rows_laid (subst (λ (T : Type 0). T) (same_stages (length (take size t)) (length-take-le size t l ∙ f) d.0 d.1.0 u r) d.1.1) in
      rw read (inr (
        (let g = size_is in omega arith),
        (u, v.0, ap (λ (z : ℕ). accepted z) v.1, rw f refl),
      ))

pub size_small : (p k : ℕ) → p ≤ 8 → k ≤ 4864 → p * k ≤ 38912
size_small p k b l = mul-le-mul {n₁ = p} {m₁ = k} {n₂ = 8} {m₂ = 4864} b l
