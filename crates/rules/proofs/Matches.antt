-- What it is that an instance of a list is an instance of a rule on records: the step kind is 65 + its number, and premises and conclusion
-- are its facts, in order. Assumes nothing.
use Prim.Native.Nat.{ℕ, ◌+◌}
use mathlib.Core.Path.{◌≡◌, ap, ◌∙◌, subst}
use mathlib.Core.Logic.{◌⊎◌}
use mathlib.Core.List.{List, [], ◌∷◌}
use mathlib.Core.Bool.{false}
use lib.ListN.{length}
use Rattle.logic.specs.declared.Record.{Record}
use Rattle.logic.specs.Fact.{Fact}
use Rattle.logic.specs.Written.{opened}
use Rattle.logic.proofs.Formulas.{Formulas}
use Rattle.logic.proofs.Meaning.{IsPrincipal, IsSentence}
use Rattle.logic.proofs.ByKind.{opened_valid}
use Rattle.logic.proofs.RuleOn.{RuleOn}
use Rattle.logic.proofs.Holder.{holder_opened}
use Rattle.facts.specs.declared.Instance.{Instance}
use Rattle.facts.specs.Facts.{is_given}
use Rattle.facts.proofs.Block.{Fit}
use Rattle.flat.specs.Layout.{opened_at}
use Rattle.flat.proofs.Cells.{Ranking, cell_of, ranked_fact, fact_of_cell, Represents}

-- The instance i of principal a's block is an instance of a rule on records.
pub record Matches {fs : List Record} (ρ : Ranking fs) (a : ℕ) (i : Instance) : Type 0 where
  pub number : ℕ
  pub premises : List (Fact ℕ)
  pub conclusion : Fact ℕ
  pub rule : RuleOn fs number premises conclusion
  pub kind : 65 + number ≡ i.kind
  -- one premise stands twice
  pub asks : (premises ≡ ranked_fact ρ a i.first ∷ ranked_fact ρ a i.second ∷ [])
      ⊎ ((premises ≡ ranked_fact ρ a i.first ∷ []) × (i.first ≡ i.second))
  pub concludes : conclusion ≡ ranked_fact ρ a i.gives
  pub inside : Fit (length fs) ρ.principals i.gives

-- it gives nothing without premises, and among places of the block it is an instance of a rule
abbrev pub Listed : {fs : List Record} → Ranking fs → ℕ → Instance → Type 0
Listed {fs} ρ a i =
    (is_given i.kind ≡ false) × (Fit (length fs) ρ.principals i.first → Fit (length fs) ρ.principals i.second → Matches ρ a i)

module _ (fs : List Record) (ok : Formulas fs) (ρ : Ranking fs) (b : List ℕ) (rep : Represents ρ b) (a : ℕ) (ia : IsPrincipal fs a) where
  -- the opened belief in a formula
  pub fact_opened : (x : ℕ) → IsSentence fs x → ranked_fact ρ a (opened_at b x) ≡ opened fs a x
  fact_opened x f =
      ap (ranked_fact ρ a) (rep.opens a x f.0)
      ∙ subst (λ z. ranked_fact ρ z (cell_of ρ (opened fs a x)) ≡ opened fs a x) (holder_opened fs a x) (fact_of_cell ρ (opened fs a x) (opened_valid fs ok a x ia f))
