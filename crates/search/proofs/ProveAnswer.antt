-- The prover's answer, from the index of a book that was read. Assumes nothing.
use Prim.Native.Nat.{ℕ, ◌+◌, ◌*◌, ◌<◌, ◌≤◌}
use native.Mathlib.Omega.{arith}
use mathlib.Core.Path.{◌≡◌, refl, ap, ◌∙◌}
use mathlib.Core.Logic.{◌⊎◌, inl, inr}
use mathlib.Core.List.{List, []}
use lib.ListN.{length}
use Rattle.logic.specs.declared.Record.{Record}
use Rattle.logic.specs.declared.Counts.{Counts}
use Rattle.logic.specs.Count.{formulas, goals, counts_of}
use Rattle.logic.specs.Refusal.{Outcome}
use Rattle.logic.specs.Refusal.Outcome.{accepted, refused}
use Rattle.logic.specs.Reading.{reading}
use Rattle.logic.specs.Book.{Book}
use Rattle.format.specs.Index.{index_size, filled, goal_in}
use Rattle.logic.specs.Place as place
use Rattle.logic.specs.Step.{goal_of}
use Rattle.logic.specs.Proof.{Answer, Proved}
use Rattle.logic.proofs.Follows.{formula_limit_lem, principal_limit_lem, assumption_limit_lem, message_limit_lem}
use Rattle.format.proofs.Indexing.{book_indexed, goal_shown}
use Rattle.search.specs.Laid.{laid_flat}
use Rattle.search.proofs.Answer.{size_is, flat_laid}
use Rattle.search.proofs.GoalFact.{in_time}

pub prove_refused : (x : List ℕ) (g : ℕ) (w d : List ℕ) (f i : ℕ) → reading x ≡ refused f i → Proved x g w w d d (refused f i)
prove_refused x g w d f i e = rw e (refl, (refl, refl))

module _ (x t₀ ix : List ℕ) (room₀ : index_size ≤ length t₀) (n : Counts) (rs : List Record) (read : reading x ≡ accepted rs) (book : Book rs)
    (en : n ≡ counts_of rs) (et : ix ≡ filled t₀ [] rs) (g : ℕ) where
  goals_are : n.goals ≡ length (goals rs)
  goals_are = ap (λ (c : Counts). c.goals) en

  pub no_goal : (w d : List ℕ) → n.goals ≤ g → Proved x g w w d d (refused 13 g)
  no_goal w d l = let e = goals_are in rw read (inl (omega arith, refl, (refl, refl)))

  module _ (lg : g < n.goals) (size : ℕ) (es : size ≡ n.principals * (n.formulas * (3 + 2 * n.principals))) where
    present : g < length (goals rs)
    present = let e = goals_are in omega arith

    places : size ≡ place.F (formulas rs)
    places = es ∙ size_is x t₀ ix room₀ n rs read book en et

    pub too_short : (w d : List ℕ) (o : Outcome Answer) → (length w < size * 8) ⊎ (length d < size * 12) → o ≡ refused 14 0 → Proved x g w w d d o
    too_short w d o l e = rw read (inr (present, inl (rw (← places) l, e, (refl, refl))))

    -- the goal's record
    module _ (asked : Record) (ea : asked ≡ goal_in ix g) where
      goal_is : asked ≡ goal_of rs g
      goal_is = ea ∙ rw et (goal_shown t₀ (filled t₀ [] rs) rs (book_indexed t₀ rs room₀ book) book g present)

      pub goal_limits : (n.formulas ≤ 256) × (n.principals ≤ 8) × (n.assumptions ≤ 64) × (asked.first ≤ 16)
      goal_limits =
          let t = in_time rs book (laid_flat ix n) (flat_laid x t₀ ix room₀ n rs read book en et) g present in
          let m = message_limit_lem rs book in
          rw (en, goal_is) (formula_limit_lem rs book, principal_limit_lem rs book, assumption_limit_lem rs book, omega arith)
