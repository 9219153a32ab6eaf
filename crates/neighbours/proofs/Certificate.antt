-- The certificate of document 01, to see the definitions at work: its trees, its initial facts and places, and that the checker accepts
-- the nine steps. Assumes nothing.
use Prim.Native.Nat.{ℕ}
use mathlib.Core.Path.{◌≡◌, refl}
use mathlib.Core.Logic.{inl, inr}
use mathlib.Core.List.{List, [], ◌∷◌}
use native.Mathlib.Omega.{arith}
use lib.ListN.{length}
use lib.Dec.{T, ltb, lit<, lit≤}
use Rattle.logic.specs.Record.{word}
use Rattle.logic.specs.Count.{of_kind, formulas}
use Rattle.logic.specs.Formula.{Tree, built, trees_behind, tree_of}
use Rattle.logic.specs.Formula.KeyField.{by_name}
use Rattle.logic.specs.Formula.Tree.{datum, conjunction, public_key}
use Rattle.logic.specs.Fact.{Fact, assumed, delivered, goal_fact}
use Rattle.logic.specs.Fact.Fact.{Sees, Believes, BelievesFresh, BelievesSaid, BelievesBelieves}
use Rattle.logic.specs.Refusal.Outcome.{accepted}
use Rattle.logic.specs.Rule.Rule.{rule2, rule4, rule5, rule13, rule16}
use Rattle.logic.specs.Written.{fact_bytes, fact_in, is_malformed}
use Rattle.logic.specs.Step.{Step, numbers_in, goal_of, Verdict}
use Rattle.logic.proofs.Steps.{Shaped, SoundBehind, step_bytes, derivation_bytes, accepts_steps}
use Rattle.neighbours.specs.Rows.{certificate, nine}

-- K1 of P2, and what P3 signs
abbrev key_of : Tree
key_of = public_key (by_name 1) 2

pub goal_fact_lem : goal_fact (formulas certificate) (goal_of certificate 0) ≡ Believes 1 key_of
unfolding of_kind built trees_behind tree_of goal_fact
goal_fact_lem = refl

-- NINE STEPS SUFFICE. What each of them states, and the numbers that it names.

abbrev step : (k : ℕ) → Fact ℕ → List ℕ → Step
step k g ns = record { kind = k; fact = fact_bytes g; numbers = ns }

abbrev nine_steps : List Step
nine_steps =
    step 64 (Believes 0 9) (0 ∷ [])
    ∷ step 65 (Sees 0 8) (1 ∷ [])
    ∷ step 67 (BelievesSaid 0 2 7) (0 ∷ 1 ∷ [])
    ∷ step 64 (BelievesFresh 0 5) (1 ∷ [])
    ∷ step 78 (BelievesFresh 0 7) (3 ∷ [])
    ∷ step 69 (BelievesBelieves 0 2 7) (4 ∷ 2 ∷ [])
    ∷ step 81 (BelievesBelieves 0 2 6) (5 ∷ [])
    ∷ step 64 (Believes 0 13) (2 ∷ [])
    ∷ step 70 (Believes 0 6) (7 ∷ 6 ∷ [])
    ∷ []

shaped : (k : ℕ) (g : Fact ℕ) (ns : List ℕ) → T (ltb 0 (numbers_in k)) → length ns ≡ numbers_in k → Shaped (step k g ns)
shaped k (Sees P x) ns t e = record { known = lit< t; seven = refl; enough = e }
shaped k (Believes P x) ns t e = record { known = lit< t; seven = refl; enough = e }
shaped k (BelievesFresh P x) ns t e = record { known = lit< t; seven = refl; enough = e }
shaped k (BelievesSaid P Q x) ns t e = record { known = lit< t; seven = refl; enough = e }
shaped k (BelievesBelieves P Q x) ns t e = record { known = lit< t; seven = refl; enough = e }

nine_sound : SoundBehind certificate 1 [] nine_steps
unfolding of_kind built trees_behind tree_of assumed delivered word fact_in is_malformed numbers_in
nine_sound = (
  record { shaped = shaped 64 (Believes 0 9) (0 ∷ []) tt refl; formed = tt; earlier = tt; follows = inl (refl, (lit< tt, refl)) },
  (
    record { shaped = shaped 65 (Sees 0 8) (1 ∷ []) tt refl; formed = tt; earlier = tt; follows = inr (inl (refl, (lit≤ tt, lit≤ tt, lit≤ tt, refl))) },
    (
      record { shaped = shaped 67 (BelievesSaid 0 2 7) (0 ∷ 1 ∷ []) tt refl; formed = tt; earlier = (lit< tt, (lit< tt, tt)); follows = inr (inr (2, refl, rule2 1 3 (by_name 2) 3 (conjunction key_of (datum 1)) (λ e. omega arith))) },
      (
        record { shaped = shaped 64 (BelievesFresh 0 5) (1 ∷ []) tt refl; formed = tt; earlier = tt; follows = inl (refl, (lit< tt, refl)) },
        (
          record { shaped = shaped 78 (BelievesFresh 0 7) (3 ∷ []) tt refl; formed = tt; earlier = (lit< tt, tt); follows = inr (inr (13, refl, rule13 1 key_of (datum 1))) },
          (
            record { shaped = shaped 69 (BelievesBelieves 0 2 7) (4 ∷ 2 ∷ []) tt refl; formed = tt; earlier = (lit< tt, (lit< tt, tt)); follows = inr (inr (4, refl, rule4 1 3 (conjunction key_of (datum 1)) tt)) },
            (
              record { shaped = shaped 81 (BelievesBelieves 0 2 6) (5 ∷ []) tt refl; formed = tt; earlier = (lit< tt, tt); follows = inr (inr (16, refl, rule16 1 3 key_of (datum 1))) },
              (
                record { shaped = shaped 64 (Believes 0 13) (2 ∷ []) tt refl; formed = tt; earlier = tt; follows = inl (refl, (lit< tt, refl)) },
                (
                  record { shaped = shaped 70 (Believes 0 6) (7 ∷ 6 ∷ []) tt refl; formed = tt; earlier = (lit< tt, (lit< tt, tt)); follows = inr (inr (5, refl, rule5 1 3 key_of)) },
                  tt,
                ),
              ),
            ),
          ),
        ),
      ),
    ),
  ),
)

-- the checker accepts their bytes
pub nine_accepted : Verdict certificate 0 nine (accepted tt)
unfolding of_kind built trees_behind tree_of goal_fact word fact_in step_bytes derivation_bytes
nine_accepted = accepts_steps certificate 0 nine_steps nine_sound (lit≤ tt) refl
