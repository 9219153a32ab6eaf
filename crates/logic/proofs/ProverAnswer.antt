-- THE PROVER'S ANSWER. For an accepted book and a goal that is there: what meets the prover's contract (`Proved` is what the function `prove`
-- ensures) answers reached if and only if a derivation over trees exists; and it leaves no choice but which derivation it is.
use Prim.Native.Nat.{ℕ, ◌*◌, ◌<◌, ◌≤◌}
use native.Mathlib.Omega.{arith}
use mathlib.Core.Path.{◌≡◌, refl, sym, ap, subst, ◌∙◌}
use mathlib.Core.Logic.{◌⊎◌, inl, inr, ⊎_elim, ◌↔◌}
use mathlib.Core.List.{List}
use lib.ListN.{length, take}
use Rattle.logic.specs.declared.Record.{Record}
use Rattle.logic.specs.Fact.{initial}
use Rattle.logic.specs.Count.{formulas, goals}
use Rattle.logic.specs.Refusal.{Outcome}
use Rattle.logic.specs.Refusal.Outcome.{accepted, refused}
use Rattle.logic.specs.Reading.{reading}
use Rattle.logic.specs.Book.{Book}
use Rattle.logic.specs.Place.{F}
use Rattle.logic.specs.Step.{goal_of}
use Rattle.logic.specs.Survey.{held_after}
use Rattle.logic.specs.Proof.{Answer, Reached, HeldFor, Promises, ProvedFor, ProvedAfter, Proved}
use Rattle.logic.specs.Proof.Answer.{reached, not_reached}
use Rattle.logic.proofs.Bytes.{Bytes}
use Rattle.logic.proofs.BookRead.{accepted_is_book}
use Rattle.logic.proofs.Verdict.{accepted_reached}
use Rattle.logic.proofs.Surveys.{survey_once}

-- the answer is reached
abbrev pub IsReached : Answer → Type 0
IsReached (reached k l h) = Unit
IsReached (not_reached h) = ⊥

-- the answer is the one that was given
same_answer : (a c : Answer) → ◌≡◌ {A = Outcome Answer} (accepted a) (accepted c) → a ≡ c
same_answer a c e = cc

not_refused : (a : Answer) (f i : ℕ) → ◌≡◌ {A = Outcome Answer} (accepted a) (refused f i) → ⊥
not_refused a f i e = let z : ◌≡◌ {A = ℕ} 0 1 = cc in omega arith

module _ (x : List ℕ) (bytes : Bytes x) (rs : List Record) (read : reading x ≡ accepted rs) (g : ℕ) (there : g < length (goals rs)) where
  book : Book rs
  book = (accepted_is_book x rs bytes read).1

  module _ (work work' d d' : List ℕ) (a : Answer) (proved : Proved x g work work' d d' (accepted a)) where
    promises : Promises rs g d d' a
    promises = ⊎_elim (λ z. absurd (not_refused a 13 g z.1)) (λ z. go z.1) (rw read at proved)
      where
        go : ProvedFor rs g work work' d d' (accepted a) → Promises rs g d d' a
        go (inl z) = absurd (not_refused a 14 0 z.1)
        go (inr z) = subst (Promises rs g d d') (sym (same_answer a z.4.0 z.4.1)) z.4.2

    -- REACHED IF AND ONLY IF DERIVED
    pub reached_exactly : IsReached a ↔ Reached rs g
    reached_exactly = go a promises
      where
        go : (c : Answer) → Promises rs g d d' c → IsReached c ↔ Reached rs g
        go (reached k l h) p = ((λ u. accepted_reached rs book g (take l d') p.0.accepts), (λ r. tt))
        go (not_reached h) p = ((λ u. absurd u), (λ r. p.0 r))

-- THE PROVER'S ANSWER IS ONE. Two calls for the same book and goal, with work and derivation buffers of the same lengths, have the same
-- refusal, or are both reached or both not reached, with the same number of facts held. So only which derivation it is was left free.

abbrev pub SameAnswer : Answer → Answer → Type 0
SameAnswer (reached k l h) (reached k' l' h') = h ≡ h'
SameAnswer (reached k l h) (not_reached h') = ⊥
SameAnswer (not_reached h) (reached k' l' h') = ⊥
SameAnswer (not_reached h) (not_reached h') = h ≡ h'

abbrev pub SameOutcome : Outcome Answer → Outcome Answer → Type 0
SameOutcome (refused f i) (refused f' i') = (f ≡ f') × (i ≡ i')
SameOutcome (refused f i) (accepted a') = ⊥
SameOutcome (accepted a) (refused f' i') = ⊥
SameOutcome (accepted a) (accepted a') = SameAnswer a a'

same_outcome : {a c o u : Outcome Answer} → o ≡ a → u ≡ c → SameOutcome a c → SameOutcome o u
same_outcome {a} {c} {o} {u} e e' s = subst (λ z. SameOutcome z u) (sym e) (subst (λ z. SameOutcome a z) (sym e') s)

held_once : (rs : List Record) (g h h' : ℕ) → HeldFor rs g h → HeldFor rs g h' → h ≡ h'
held_once rs g h h' (t, s, e) (t', s', e') = e ∙ (ap (held_after (goal_of rs g).first) (survey_once (formulas rs) (initial rs) t t' s s') ∙ sym e')

module _ (work work₂ d d₂ : List ℕ) (same_work : length work ≡ length work₂) (same_derivation : length d ≡ length d₂) where
  promises_once : (rs : List Record) → Book rs → (g : ℕ) (d' d₂' : List ℕ) (a c : Answer) → Promises rs g d d' a → Promises rs g d₂ d₂' c
      → SameAnswer a c
  promises_once rs b g d' d₂' (reached k l h) (reached k' l' h') p q = held_once rs g h h' p.5 q.5
  promises_once rs b g d' d₂' (reached k l h) (not_reached h') p q = q.0 (accepted_reached rs b g (take l d') p.0.accepts)
  promises_once rs b g d' d₂' (not_reached h) (reached k l h') p q = p.0 (accepted_reached rs b g (take l d₂') q.0.accepts)
  promises_once rs b g d' d₂' (not_reached h) (not_reached h') p q = held_once rs g h h' p.2 q.2

  -- buffers of the same lengths are both short, or neither
  as_short : (n m : ℕ) → (length work < n) ⊎ (length d < m) → n ≤ length work₂ → m ≤ length d₂ → ⊥
  as_short n m (inl l) i j = omega arith
  as_short n m (inr l) i j = omega arith

  as_long : (n m : ℕ) → (length work₂ < n) ⊎ (length d₂ < m) → n ≤ length work → m ≤ length d → ⊥
  as_long n m (inl l) i j = omega arith
  as_long n m (inr l) i j = omega arith

  proved_for_once : (rs : List Record) → Book rs → (g : ℕ) (work' work₂' d' d₂' : List ℕ) (o u : Outcome Answer)
      → ProvedFor rs g work work' d d' o → ProvedFor rs g work₂ work₂' d₂ d₂' u → SameOutcome o u
  proved_for_once rs b g work' work₂' d' d₂' o u (inl (s, x, y)) (inl (s', x', y')) = same_outcome x x' (refl, refl)
  proved_for_once rs b g work' work₂' d' d₂' o u (inl (s, x, y)) (inr (i, j, k, l, z)) = absurd (as_short (F (formulas rs) * 8) (F (formulas rs) * 12) s i j)
  proved_for_once rs b g work' work₂' d' d₂' o u (inr (i, j, k, l, z)) (inl (s, x, y)) = absurd (as_long (F (formulas rs) * 8) (F (formulas rs) * 12) s i j)
  proved_for_once rs b g work' work₂' d' d₂' o u (inr (i, j, k, l, (a, x, p))) (inr (i', j', k', l', (c, y, q))) =
      same_outcome x y (promises_once rs b g d' d₂' a c p q)

  pub proved_once : (x : List ℕ) → Bytes x → (g : ℕ) (work' work₂' d' d₂' : List ℕ) (o u : Outcome Answer)
      → Proved x g work work' d d' o → Proved x g work₂ work₂' d₂ d₂' u → SameOutcome o u
  proved_once x bytes g work' work₂' d' d₂' o u = go (reading x) refl
    where
      go : (r : Outcome (List Record)) → reading x ≡ r → ProvedAfter r g work work' d d' o → ProvedAfter r g work₂ work₂' d₂ d₂' u → SameOutcome o u
      go (refused f i) r p q = same_outcome p.0 q.0 (refl, refl)
      go (accepted rs) r (inl (l, y, z)) (inl (l', y', z')) = same_outcome y y' (refl, refl)
      go (accepted rs) r (inl (l, y, z)) (inr (l', y')) = absurd (omega arith)
      go (accepted rs) r (inr (l, y)) (inl (l', y', z')) = absurd (omega arith)
      go (accepted rs) r (inr (l, p)) (inr (l', q)) =
          proved_for_once rs (accepted_is_book x rs bytes r).1 g work' work₂' d' d₂' o u p q
