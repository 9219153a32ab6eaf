-- Different places of a block are at most as many as the block has; so a history has no more entries. Assumes nothing.
use Prim.Native.Nat.{ℕ, ◌+◌, ◌*◌, ◌<◌, ◌≤◌}
use native.Mathlib.Omega.{arith}
use mathlib.Core.Path.{◌≡◌, sym, ap, ◌∙◌}
use mathlib.Core.List.{List, [], ◌∷◌, map}
use lib.ListN.{length, length-map}
use Rattle.logic.specs.Book.{All}
use Rattle.logic.specs.Derivation.{Among}
use Rattle.logic.specs.Proof.{Distinct}
use Rattle.logic.proofs.Member.{all_at, all_of, all_map}
use Rattle.facts.specs.declared.Cell.{Cell}
use Rattle.facts.specs.Block.{place_in, cell_at}
use Rattle.facts.proofs.Block.{Fit, fact_place, place_below}
use Rattle.facts.proofs.History.{Entry, found, Proper}
use Rattle.facts.proofs.NoRepeats.{few_below, distinct_map}

-- no fact is entered twice
pub proper_distinct : (h : List Entry) → Proper h → Distinct (found h)
proper_distinct [] r = tt
proper_distinct (e ∷ h) r = (r.1, proper_distinct h r.2)

module _ (n p : ℕ) (few : p ≤ 8) where
  pub few_cells : (l : List Cell) → Distinct l → All (Fit n p) l → length l ≤ n * (3 + 2 * p)
  few_cells l d a =
      let g : (q r : Cell) → Among q l → Among r l → place_in p q ≡ place_in p r → q ≡ r =
      λ q r m k e. sym (fact_place p few q (all_at (Fit n p) q l a m).1) ∙ (ap (cell_at p) e ∙ fact_place p few r (all_at (Fit n p) r l a k).1) in
      let b = few_below (n * (3 + 2 * p)) (map (place_in p) l) (distinct_map (place_in p) l g d)
      (all_map (place_in p) (λ k. k < n * (3 + 2 * p)) l (all_of (λ q. place_in p q < n * (3 + 2 * p)) l (λ q m. place_below p few n q (all_at (Fit n p) q l a m)))) in
      omega (arith, b, length-map l (place_in p))

  -- A HISTORY HAS AT MOST AS MANY ENTRIES AS THE BLOCK HAS PLACES
  pub few_entries : (h : List Entry) → Proper h → All (Fit n p) (found h) → length h ≤ n * (3 + 2 * p)
  few_entries h r a = omega (arith, few_cells (found h) (proper_distinct h r) a, length-map h (λ e. e.by.gives))
