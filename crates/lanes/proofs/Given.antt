-- What entering a fact for a set of principals does: as an instance at work that asks for nothing. Assumes nothing.
use Prim.Native.Nat.{ℕ, ◌<◌}
use mathlib.Core.Path.{◌≡◌, refl, sym, subst}
use mathlib.Core.Logic.{◌⊎◌, inl, inr, ⊎_elim}
use mathlib.Core.List.{List}
use mathlib.Core.Bool.{Bool, true, false, cond}
use Rattle.facts.specs.declared.Cell.{Cell}
use Rattle.facts.specs.declared.Instance.{Instance}
use Rattle.facts.specs.Facts.{bit_at}
use Rattle.lanes.specs.Lanes.{lane, State, Common, common, is_held, entered, ready, fired}
use Rattle.lanes.proofs.Sets.{Proper, Uses, Pending}
use Rattle.lanes.proofs.Fires.{Held, Wide, Sized, fired_grows, fired_gives, fired_only, fired_wide, fired_stays, fired_marks}

-- a fact that is given to a set
bare : ℕ → Cell → Common
bare who q = common who (record { kind = 64; first = q; second = q; gives = q })

module _ (u : List ℕ) (k who : ℕ) (i : Instance) (s : State) where
  -- words and pending records are as with the bare fact
  picked : {A : Type 0} (f : State → A) → (v : Bool) (x y z : State) → f y ≡ f z → f (cond v x y) ≡ f (cond v x z)
  picked f true x y z e = refl
  picked f false x y z e = e

  same_words : (fired u k s (bare who i.gives)).words ≡ (entered u k who i s).words
  unfolding fired ready entered bare
  same_words = picked (λ t. t.words) (is_held s.words who i.gives) s _ _ refl

  same_pending : (fired u k s (bare who i.gives)).pending ≡ (entered u k who i s).pending
  unfolding fired ready entered bare
  same_pending = picked (λ t. t.pending) (is_held s.words who i.gives) s _ _ refl

  as_held : (P : ℕ) (q : Cell) → Held P (fired u k s (bare who i.gives)) q → Held P (entered u k who i s) q
  as_held P q h = subst (λ ws. true ≡ bit_at (lane ws q) P) same_words h

  held_as : (P : ℕ) (q : Cell) → Held P (entered u k who i s) q → Held P (fired u k s (bare who i.gives)) q
  held_as P q h = subst (λ ws. true ≡ bit_at (lane ws q) P) (sym same_words) h

  module _ (w : Wide s) (l : who < 256) (p : Proper i.gives) where
    bare_sized : Sized (bare who i.gives)
    unfolding bare
    bare_sized = record { may = l; first = p; second = p; gives = p }

    pub entered_wide : Wide (entered u k who i s)
    entered_wide =
        let f = fired_wide u k s (bare who i.gives) w bare_sized in
        record { words = rw (← same_words) f.words; pending = rw (← same_pending) f.pending }

    pub entered_grows : (P : ℕ) (q : Cell) → Proper q → Held P s q → Held P (entered u k who i s) q
    entered_grows P q y h = as_held P q (fired_grows u k s (bare who i.gives) w bare_sized P q y h)

    -- the members of the set hold it
    pub entered_gives : (P : ℕ) → true ≡ bit_at who P → Held P (entered u k who i s) i.gives
    unfolding bare
    entered_gives P m = as_held P i.gives (fired_gives u k s (bare who i.gives) w bare_sized P (m, tt))

    -- and nothing else is new
    pub entered_only : (P : ℕ) (q : Cell) → Proper q → Held P (entered u k who i s) q → Held P s q ⊎ ((i.gives ≡ q) × (true ≡ bit_at who P))
    unfolding bare
    entered_only P q y h = ⊎_elim inl (λ f. inr (f.0, f.1.0)) (fired_only u k s (bare who i.gives) w bare_sized P q y (held_as P q h))

    pub entered_stays : (r : ℕ) → r < 256 → Pending s.pending r → Pending (entered u k who i s).pending r
    entered_stays r m h = subst (λ d. Pending d r) same_pending (fired_stays u k s (bare who i.gives) w bare_sized r m h)

    pub entered_marks : (P : ℕ) (q : Cell) → Proper q → Held P (entered u k who i s) q
        → Held P s q ⊎ ((r : ℕ) → r < 256 → Uses u q.formula r → Pending (entered u k who i s).pending r)
    entered_marks P q y h =
        ⊎_elim inl (λ f. inr (λ r m v. subst (λ d. Pending d r) same_pending (f r m v)))
        (fired_marks u k s (bare who i.gives) w bare_sized P q y (held_as P q h))
