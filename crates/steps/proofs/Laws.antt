-- How many numbers a step has, by spans of kinds, and where the step behind another starts. Assumes nothing.
use Prim.Native.Nat.{ℕ, zero, suc, ◌+◌, ◌-◌, ◌<◌, ◌≤◌, zero-le}
use native.Mathlib.Nat.{zero-add, suc-add, le_refl}
use native.Mathlib.Numerals.{add-one}
use native.Mathlib.Omega.{arith}
use mathlib.Core.Path.{◌≡◌, sym, ap, ◌∙◌}
use mathlib.Core.List.{List, []}
use lib.ListN.{length, get_or, drop, drop_of_length-le}
use lib.Seq.{get_or-drop, drop-drop, drop-length, drop-nil}
use lib.Dec.{T, eqb, eqb→eq}
use borrow.Author.Tests.{ne_eqb}
use Rattle.logic.specs.Step.{numbers_in, step_size}
use Rattle.logic.specs.Explained.{behind_step, behind_steps}
use Rattle.logic.proofs.Spans.{each, within, outside}

pub span : (v lo n : ℕ) → T (each (λ j. eqb v (numbers_in j)) lo n) → (k : ℕ) → lo ≤ k → k < lo + n → v ≤ 2 → (v ≡ numbers_in k) × (v ≤ 2)
span v lo n h k l m z = (eqb→eq v (numbers_in k) (within (λ j. eqb v (numbers_in j)) lo n h k l m), z)

-- the kinds above the last
pub above : (k : ℕ) → 87 < k → (0 ≡ numbers_in k) × (0 ≤ 2)
unfolding numbers_in
above k l = (rw (ne_eqb k 64 (λ e. omega arith), ne_eqb k 65 (λ e. omega arith), outside 66 87 k (λ m h. omega arith)), zero-le)

module _ (d : List ℕ) (at : ℕ) where
  first : get_or (drop at d) 0 0 ≡ get_or d at 0
  first = get_or-drop at d 0 0 ∙ ap (λ (k : ℕ). get_or d k 0) (let e : at + 0 ≡ at = omega arith in e)

  next_is : behind_step (drop at d) ≡ drop (at + step_size (get_or d at 0)) d
  next_is = ap (λ (k : ℕ). drop (step_size k) (drop at d)) first ∙ drop-drop (step_size (get_or d at 0)) at d

  at_end : {k : ℕ} → length d ≤ k → (drop k d ≡ behind_step (drop at d)) → (drop (length d) d ≡ behind_step (drop at d)) × (length d ≤ length d)
  at_end {k} l e = (drop-length d ∙ sym (drop_of_length-le d l) ∙ e, le_refl (length d))

  pub behind_none : length d ≤ at → (drop (length d) d ≡ behind_step (drop at d)) × (length d ≤ length d)
  behind_none l = at_end {k = at + step_size (get_or d at 0)} (omega arith) (sym next_is)

  pub behind_cut : {k : ℕ} → k ≡ step_size (get_or d at 0) → length d - at < k → (drop (length d) d ≡ behind_step (drop at d)) × (length d ≤ length d)
  behind_cut e m = at_end {k = at + step_size (get_or d at 0)} (omega arith) (sym next_is)

  pub behind_one : {k : ℕ} → k ≡ step_size (get_or d at 0) → at < length d → k ≤ length d - at → (drop (at + k) d ≡ behind_step (drop at d)) × (at + k ≤ length d)
  behind_one {k} e l m = (ap (λ (n : ℕ). drop (at + n) d) e ∙ sym next_is, omega arith)

-- behind the end there is nothing
none_behind : (d : List ℕ) (i n : ℕ) → behind_steps n d ≡ [] → behind_steps (i + n) d ≡ []
unfolding behind_steps
none_behind d zero n e = ap (λ (k : ℕ). behind_steps k d) (zero-add n) ∙ e
none_behind d (suc i) n e =
    ap (λ (k : ℕ). behind_steps k d) (suc-add i n) ∙ ap behind_step (none_behind d i n e) ∙ drop-nil (step_size 0)

pub ends : (d : List ℕ) (at n i : ℕ) → drop at d ≡ behind_steps n d → length d ≤ at → n ≤ i → (drop (length d) d ≡ behind_steps i d) × (length d ≤ length d)
ends d at n i e l m =
    let z : i - n + n ≡ i = omega arith in
    let g = none_behind d (i - n) n (sym e ∙ drop_of_length-le d l) in
    (drop-length d ∙ sym g ∙ ap (λ (k : ℕ). behind_steps k d) z, le_refl (length d))

pub one_more_lem : (d : List ℕ) (at r n : ℕ) → drop at d ≡ behind_steps n d → drop r d ≡ behind_step (drop at d) → drop r d ≡ behind_steps (n + 1) d
unfolding behind_steps
one_more_lem d at r n e h = h ∙ ap behind_step e ∙ ap (λ (k : ℕ). behind_steps k d) (sym (add-one n))
