-- The index of an accepted book gives its formula records back, so what is said of the index is said of the book.
-- Assumes nothing.
use Prim.Native.Nat.{ℕ, ◌≤◌, ◌<◌}
use native.Mathlib.Omega.{arith}
use mathlib.Core.Path.{◌≡◌, refl, sym, ap, ◌∙◌, subst}
use mathlib.Core.List.{List}
use mathlib.Core.Bool.{not}
use lib.ListN.{length}
use Rattle.logic.specs.declared.Record.{Record}
use Rattle.logic.specs.declared.Audience.{Audience}
use Rattle.logic.specs.declared.Counts.{Counts}
use Rattle.logic.specs.Count.{formulas}
use Rattle.logic.specs.Refusal.{Outcome}
use Rattle.logic.specs.Refusal.Outcome.{refused}
use Rattle.logic.specs.Reading.{reading}
use Rattle.format.specs.Index.{index_size}
use Rattle.logic.specs.Formula.{is_closed, tree_of}
use Rattle.logic.specs.Text.{text_among, text_for, length_told, at_front, texting, texted}
use Rattle.logic.proofs.Follows.{formula_limit_lem}
use Rattle.format.specs.Variables.{loose_in}
use Rattle.format.proofs.Variables.{loose_shown}
use Rattle.logic.proofs.Formulas.{Formulas}
use Rattle.logic.proofs.Contents.{contents}
use Rattle.book.proofs.OpenBook.{Opened}
use Rattle.written.specs.Stated.{records_in, Noted}
use Rattle.written.proofs.Records.{records_is}

-- The book x was read into the table t, at first t₀, and n counts its records.
module _ (x t₀ t : List ℕ) (n : Counts) (room : index_size ≤ length t₀) (h : Opened x t₀ t n) where
  pub records_here : records_in n.formulas t ≡ formulas h.records
  records_here = rw (h.counts, h.table) (records_is t₀ h.records room h.proper)

  pub formulas_here_lem : Formulas (records_in n.formulas t)
  formulas_here_lem = subst (λ (fs : List Record). Formulas fs) (sym records_here) (contents h.records h.proper).formulas_ok

  count_here : n.formulas ≡ length (formulas h.records)
  count_here = ap (λ (m : Counts). m.formulas) h.counts

  pub length_here : n.formulas ≡ length (records_in n.formulas t)
  length_here = count_here ∙ ap length (sym records_here)

  pub few_here : n.formulas ≤ 256
  few_here = omega (arith, count_here, formula_limit_lem h.records h.proper)

  -- and tells of each which has a variable outside kind 17
  pub noted_here : Noted n.formulas t
  noted_here y l =
      let m : y < length (formulas h.records) = subst (λ (fs : List Record). y < length fs) records_here l in
      ap (λ (u : List ℕ). loose_in u y) h.table
      ∙ loose_shown t₀ h.records room h.proper y m
      ∙ ap (λ (fs : List Record). not (is_closed (tree_of fs y))) (sym records_here)

  -- what is answered by the index is answered by the book
  pub answered : (a : Audience) (s b : List ℕ) {o : Outcome ℕ} {b' : List ℕ} → (o ≡ length_told (text_among a (records_in n.formulas t) s (length b))) × (b' ≡ at_front (text_among a (records_in n.formulas t) s (length b)) b)
      → (o ≡ texting a x s b) × (b' ≡ texted a x s b)
  unfolding texting texted text_for
  answered a s b g = rw (h.read, ← records_here) g

-- a refused book
pub answered_refused : (a : Audience) (x s b : List ℕ) (i j : ℕ) → reading x ≡ refused i j → (refused i j ≡ texting a x s b) × (b ≡ texted a x s b)
unfolding texting texted text_for
answered_refused a x s b i j e = rw e (refl, refl)
