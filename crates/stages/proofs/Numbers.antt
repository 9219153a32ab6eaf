-- What is given is a list of instances, fired one after the other: so the numbers of a call are those of all that is fired in it. Assumes
-- nothing.
use Prim.Native.Nat.{ℕ, zero, suc}
use native.Mathlib.Nat.{zero-add}
use mathlib.Core.Path.{◌≡◌, refl, sym, ap, ◌∙◌}
use mathlib.Core.List.{List, [], ◌∷◌, ◌++◌}
use mathlib.Core.Bool.{Bool, true, false, cond}
use lib.ListN.{length}
use Rattle.facts.specs.Facts.{bit_at}
use Rattle.lanes.specs.Lanes.{State, run}
use Rattle.lanes.proofs.Runs.{run_append, given_runs}
use Rattle.stages.specs.Stages.{nothing, assumed, assumed_in, delivered, delivered_from, given_all}
use Rattle.stages.specs.Numbers.{assumption_of, delivery, assumptions_in, deliveries_in}

module _ (u : List ℕ) (k : ℕ) where
  assumptions_run : (b : List ℕ) (force a : ℕ) (s : State) → run u k s (assumptions_in b force a) ≡ assumed_in b u k force a s
  unfolding assumptions_in assumed_in assumed run
  assumptions_run b force zero s = refl
  assumptions_run b force (suc a) s =
      run_append u k (assumptions_in b force a) (cond (bit_at force a) (assumption_of b a ∷ []) []) s
      ∙ (ap (λ t. run u k t (cond (bit_at force a) (assumption_of b a ∷ []) [])) (assumptions_run b force a s) ∙ go (bit_at force a) (assumed_in b u k force a s))
    where
      go : (v : Bool) (t : State) → run u k t (cond v (assumption_of b a ∷ []) []) ≡ cond v (assumed b u k a t) t
      go true t = given_runs u k (assumption_of b a).may (assumption_of b a).by t refl
      go false t = refl

  deliveries_run : (ds : List ℕ) (m : ℕ) (s : State) → run u k s (deliveries_in ds m) ≡ delivered_from ds u k 0 m s
  unfolding deliveries_in delivered_from delivered run
  deliveries_run ds zero s = refl
  deliveries_run ds (suc m) s =
      run_append u k (deliveries_in ds m) (delivery ds m ∷ []) s
      ∙ (ap (λ t. run u k t (delivery ds m ∷ [])) (deliveries_run ds m s)
      ∙ (given_runs u k (delivery ds m).may (delivery ds m).by (delivered_from ds u k 0 m s) refl
      ∙ ap (λ j. delivered ds u k j (delivered_from ds u k 0 m s)) (sym (zero-add m))))

  -- ALL THAT IS GIVEN
  pub given_run : (b ds : List ℕ) (force a : ℕ) (l : List ℕ)
      → run u k (nothing l) (assumptions_in b force a ++ deliveries_in ds (length ds)) ≡ given_all b u ds k force a l
  given_run b ds force a l =
      run_append u k (assumptions_in b force a) (deliveries_in ds (length ds)) (nothing l)
      ∙ (ap (λ t. run u k t (deliveries_in ds (length ds))) (assumptions_run b force a (nothing l)) ∙ deliveries_run ds (length ds) (assumed_in b u k force a (nothing l)))
