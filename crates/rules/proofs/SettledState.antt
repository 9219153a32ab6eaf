-- The state of all principals, seen by one of them: giving facts and looking at pending records until none is left makes what he holds
-- just what follows from the given facts.
use Prim.Native.Nat.{ℕ, ◌<◌}
use mathlib.Core.Path.{◌≡◌, sym, ◌∙◌, subst}
use mathlib.Core.Logic.{inl, inr, ⊎_elim}
use mathlib.Core.List.{List, [], ◌∷◌, ◌++◌}
use mathlib.Core.Bool.{true}
use lib.ListN.{length, replicate}
use Rattle.logic.specs.declared.Record.{Record}
use Rattle.logic.specs.Book.{All}
use Rattle.logic.specs.Fact.{Fact}
use Rattle.logic.proofs.Formulas.{Formulas}
use Rattle.logic.proofs.Meaning.{IsPrincipal, Valid}
use Rattle.logic.proofs.Holder.{holder}
use Rattle.facts.specs.declared.Cell.{Cell}
use Rattle.facts.specs.declared.Instance.{Instance}
use Rattle.facts.specs.Facts.{bit_at}
use Rattle.lanes.specs.Lanes.{State, entered}
use Rattle.lanes.proofs.Sets.{Proper}
use Rattle.lanes.proofs.Fires.{Held, Wide}
use Rattle.lanes.proofs.Given.{entered_grows, entered_gives, entered_only}
use Rattle.flat.proofs.Cells.{Ranking, cell_of, Represents}
use Rattle.rules.specs.Close.{Closes}
use Rattle.rules.proofs.Tables.{Chained, Instanced}
use Rattle.rules.proofs.Entries.{Below}
use Rattle.rules.proofs.Closing.{Laid, Clean, none_held, reaches_grows, reaches_sound, closes_closed}
use Rattle.rules.proofs.Settled.{Consequence, consequence_closed, rules_lead, Entered, Settled, entered_grown, entered_own, entered_other, entered_none, cell_proper}

module _ (fs : List Record) (ok : Formulas fs) (ρ : Ranking fs) (b : List ℕ) (rep : Represents ρ b) (links rows : List ℕ) (below : Below links 256)
    (chained : Chained b links (length fs)) (instanced : Instanced fs b rows) (a : ℕ) (ia : IsPrincipal fs a) where
  -- what principal a holds in a state
  abbrev pub Holds : State → Cell → Type 0
  Holds s = Held (ρ.rank a) s

  abbrev pub EnteredIn : List (Fact ℕ) → State → Type 0
  EnteredIn given s = Entered fs ok ρ b rep links rows below chained instanced a ia given (Holds s)

  abbrev pub SettledIn : List (Fact ℕ) → State → Type 0
  SettledIn given s = Settled fs ok ρ b rep links rows below chained instanced a ia given (Holds s)

  -- nothing is given at the start
  pub start_entered : (s : State) → s.words ≡ replicate 1024 0 → EnteredIn [] s
  start_entered s e = entered_none fs ok ρ b rep links rows below chained instanced a ia (Holds s) (λ q p h. none_held s e (ρ.rank a) q h)

  module _ (u : List ℕ) (k : ℕ) (laid : Laid b links rows u (length fs)) (given : List (Fact ℕ)) (valid : All (Valid fs) given) (s : State) (w : Wide s)
      (h : EnteredIn given s) where
    -- CLOSING SETTLES
    pub closes_settled : Clean b links rows (length fs) s → (t : State) → Closes b links rows u k s t → SettledIn given t
    closes_settled clean t c = record {
      entered = entered_grown fs ok ρ b rep links rows below chained instanced a ia given (Holds s) (Holds t) laid.few valid h
          (reaches_grows b links rows u k (length fs) laid s w t c.reached (ρ.rank a))
          (reaches_sound b links rows u k (length fs) laid s w t c.reached (ρ.rank a) _
          (rules_lead fs ok ρ b rep links rows below chained instanced a ia (Consequence fs ok ρ b rep links rows below chained instanced a ia given) (consequence_closed fs ok ρ b rep links rows below chained instanced a ia given)) h.sound);
      closed = λ r l d m y x. closes_closed b links rows u k (length fs) laid s w clean t c r l d m (ρ.rank a) (y, x);
    }

    -- A FACT IS GIVEN to the principals of a set
    module _ (g : Fact ℕ) (v : Valid fs g) (who : ℕ) (l : who < 256) (i : Instance) (e : i.gives ≡ cell_of ρ g) where
      there : Proper i.gives
      there = subst Proper (sym e) (cell_proper fs ok ρ b rep links rows below chained instanced a ia laid.few g v)

      -- to a: it is his
      pub given_own : holder g ≡ a → true ≡ bit_at who (ρ.rank a) → EnteredIn (given ++ (g ∷ [])) (entered u k who i s)
      given_own o m =
          entered_own fs ok ρ b rep links rows below chained instanced a ia given (Holds s) h g v (Holds (entered u k who i s)) laid.few valid o
          (entered_grows u k who i s w l there (ρ.rank a))
          (subst (Holds (entered u k who i s)) e (entered_gives u k who i s w l there (ρ.rank a) m))
          (λ q p y. ⊎_elim inl (λ f. inr (sym e ∙ f.0)) (entered_only u k who i s w l there (ρ.rank a) q p y))

      -- to others: it is no fact of his
      pub given_other : (holder g ≡ a → ⊥) → (true ≡ bit_at who (ρ.rank a) → ⊥) → EnteredIn (given ++ (g ∷ [])) (entered u k who i s)
      given_other o m =
          entered_other fs ok ρ b rep links rows below chained instanced a ia given (Holds (entered u k who i s))
          (entered_grown fs ok ρ b rep links rows below chained instanced a ia given (Holds s) (Holds (entered u k who i s)) laid.few valid h (entered_grows u k who i s w l there (ρ.rank a))
          (λ q p y. ⊎_elim (h.sound q p) (λ f. absurd (m f.1)) (entered_only u k who i s w l there (ρ.rank a) q p y)))
          g v o
