-- The loop over the turns. Assumes nothing.
use Prim.Native.Nat.{ℕ, ◌+◌, ◌≤◌}
use native.Mathlib.Omega.{arith}
use mathlib.Core.Path.{◌≡◌, refl, sym, subst}
use mathlib.Core.List.{List, []}
use lib.ListN.{length, replicate, length-replicate}
use Rattle.lanes.specs.Lanes.{State}
use Rattle.stamps.specs.Stamps as stamps
use Rattle.rules.specs.Close.{Closes}
use Rattle.stages.specs.Stages.{nothing, none_stamped, assumed_in, IsTurn, stamped_with, StageIs, TurnIs, Staged, StagesEnd}
use Rattle.stages.specs.Stages.IsTurn.{none, more}
use Rattle.stages.specs.Stages.Staged.{begun, turn}

pub nothing_words : (s : State) → s ≡ nothing [] → (length s.words ≡ 1024) × (length s.pending ≡ 4)
nothing_words s e = rw e (length-replicate {A = ℕ} 1024 0, refl)

-- a turn stays within the deliveries
turn_inside : (ds : List ℕ) (m c : ℕ) → m ≤ length ds → IsTurn ds m c → m + c ≤ length ds
turn_inside ds m _ l none = omega arith
turn_inside ds m _ l (more c i h e) = omega arith

module _ (b links rows u ds : List ℕ) (n p force a : ℕ) where
  -- where the stages stand now, if they stood so at the loop's begin: for any table t₀ at first
  abbrev pub Goes : (s₀ : State) (f₀ u₀ : List ℕ) (h₀ m₀ : ℕ) (m : ℕ) (s : State) (f t : List ℕ) (held : ℕ) → Type 0
  Goes s₀ f₀ u₀ h₀ m₀ m s f t held = (t₀ : List ℕ) → Staged b links rows u ds n p force a t₀ m₀ s₀ f₀ u₀ h₀ → Staged b links rows u ds n p force a t₀ m s f t held

  pub goes_on_lem : (s₀ : State) (f₀ u₀ : List ℕ) (h₀ m₀ m next : ℕ) (s s' : State) (f f' t t' : List ℕ) (held h : ℕ) → Goes s₀ f₀ u₀ h₀ m₀ m s f t held
      → TurnIs b links rows u ds s s' m next n p f t (stamps.state f' t' h) → Goes s₀ f₀ u₀ h₀ m₀ next s' f' t' (held + h)
  goes_on_lem s₀ f₀ u₀ h₀ m₀ m next s s' f f' t t' held h g (c, en, i, (cl, z, l, w, d)) t₀ e =
      turn m c next s s' f t held (stamps.state f' t' h) (g t₀ e) en i cl z

  pub next_inside : (m next : ℕ) (s s' : State) (f t : List ℕ) (z : stamps.State) → m ≤ length ds → TurnIs b links rows u ds s s' m next n p f t z → next ≤ length ds
  next_inside m next s s' f t z l (c, en, i, r) = rw en (turn_inside ds m c l i)

  pub first_stage : (t₀ : List ℕ) (s₀ s : State) (f₀ f t : List ℕ) (held m : ℕ) → s₀ ≡ nothing [] → f₀ ≡ none_stamped
      → StageIs b links rows u (assumed_in b u 8 force a s₀) s (replicate 8 1) n p f₀ t₀ (stamps.state f t held) → m ≡ 0 → Staged b links rows u ds n p force a t₀ m s f t held
  first_stage t₀ s₀ s f₀ f t held m es ef (c, z, l, w, d) em =
      subst (λ x. Staged b links rows u ds n p force a t₀ x s f t held) (sym em)
      (begun s (stamps.state f t held) (subst (λ x. Closes b links rows u 8 (assumed_in b u 8 force a x) s) es c) (subst (λ x. stamps.state f t held ≡ stamped_with s.words (replicate 8 1) n p x t₀) ef z))

  pub stages_end : (t₀ : List ℕ) (m : ℕ) (s : State) (f t : List ℕ) (held : ℕ) → m ≤ length ds → length ds ≤ m → Staged b links rows u ds n p force a t₀ m s f t held → StagesEnd b links rows u ds n p force a t₀ t held
  stages_end t₀ m s f t held l h r = let e : m ≡ length ds = omega arith in (s, (f, subst (λ x. Staged b links rows u ds n p force a t₀ x s f t held) e r))
