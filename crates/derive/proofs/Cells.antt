-- The facts of a principal's block: each has its own writing, and its place in a survey is its place in the block, behind the blocks
-- of the principals before. Assumes nothing.
use Prim.Native.Nat.{ℕ, ◌+◌, ◌*◌, ◌-◌, ◌≤◌, ◌<◌}
use native.Mathlib.Nat.{add-mul, add_assoc}
use native.Mathlib.Omega.{arith}
use mathlib.Core.Path.{◌≡◌, refl, sym, ap, ◌∙◌}
use mathlib.Core.Logic.{inl, inr}
use mathlib.Core.List.{List}
use mathlib.Core.Bool.{Bool, true, false, cond}
use lib.ListN.{get_or}
use lib.Dec.{eqb, ltb}
use borrow.Author.Tests.{eqb-true, eqb-false, ltb-true, ltb-false, lt-ltb, le-ltb}
use Rattle.logic.specs.declared.Record.{Record}
use Rattle.logic.specs.Fact.{Fact}
use Rattle.logic.specs.Fact.Fact.{Sees, Believes, BelievesFresh, BelievesSaid, BelievesBelieves}
use Rattle.logic.specs.Written.{fact_bytes, fact_in}
use Rattle.logic.specs.Place as place
use Rattle.logic.proofs.Places.{rank_ranked}
use Rattle.logic.proofs.FactBytes as writing
use Rattle.facts.specs.declared.Cell.{Cell}
use Rattle.facts.specs.Block.{mode_of, place_in, cell_at}
use Rattle.facts.proofs.Block.{IsBit, fact_place}
use Rattle.derive.specs.Steps.{cell_fact}

-- `names` are the formula numbers of the principals by rank
abbrev pub Names : List Record → List ℕ → Type 0
Names fs names = (b : ℕ) → b < place.principal_count fs → get_or names b 0 ≡ place.ranked fs b

-- where the block of principal P begins
abbrev pub block_of : List Record → ℕ → ℕ
block_of fs P = place.rank fs P * place.formula_count fs * (3 + 2 * place.principal_count fs)

-- the rank of Q in a bit of what he said, or believes
said_below : (p b : ℕ) → p ≤ 8 → IsBit p b → 3 ≤ b → b < 11 → b - 3 < p
said_below p b few (inl l) h k = omega arith
said_below p b few (inr l) h k = absurd (omega (arith, l.0))

believed_below : (p b : ℕ) → p ≤ 8 → IsBit p b → 11 ≤ b → b - 11 < p
believed_below p b few (inl l) h = absurd (omega arith)
believed_below p b few (inr l) h = omega (arith, l.1)

in_block : (a n x w : ℕ) {m k : ℕ} → m ≡ k → (a * n + x) * w + m ≡ a * n * w + (x * w + k)
in_block a n x w {m} {k} e = rw (e, add-mul (a * n) x w) (add_assoc (a * n * w) (x * w) k)

module _ (fs : List Record) (few : place.principal_count fs ≤ 8) (names : List ℕ) (ranks : Names fs names) (P : ℕ) where
  -- what holds of the facts of the five modes holds of a place's fact
  pub by_mode : (G : Fact ℕ → Type 0) (q : Cell) → IsBit (place.principal_count fs) q.bit
      → (q.bit ≡ 0 → G (Sees P q.formula)) → (q.bit ≡ 1 → G (Believes P q.formula)) → (q.bit ≡ 2 → G (BelievesFresh P q.formula))
      → ((b : ℕ) → b < place.principal_count fs → q.bit ≡ 3 + b → G (BelievesSaid P (place.ranked fs b) q.formula))
      → ((b : ℕ) → b < place.principal_count fs → q.bit ≡ 11 + b → G (BelievesBelieves P (place.ranked fs b) q.formula))
      → G (cell_fact names P q)
  unfolding cell_fact
  by_mode G q i sees believes fresh said believed = go (eqb q.bit 0) (eqb q.bit 1) (eqb q.bit 2) (ltb q.bit 11) refl refl refl refl
    where
      x : ℕ
      x = q.formula

      go : (s t u v : Bool) → eqb q.bit 0 ≡ s → eqb q.bit 1 ≡ t → eqb q.bit 2 ≡ u → ltb q.bit 11 ≡ v
          → G (cond s (Sees P x) (cond t (Believes P x) (cond u (BelievesFresh P x)
          (cond v (BelievesSaid P (get_or names (q.bit - 3) 0) x) (BelievesBelieves P (get_or names (q.bit - 11) 0) x)))))
      go true t u v c d e f = sees (eqb-true q.bit 0 c)
      go false true u v c d e f = believes (eqb-true q.bit 1 d)
      go false false true v c d e f = fresh (eqb-true q.bit 2 e)
      go false false false true c d e f =
          let c' = eqb-false q.bit 0 c in
          let d' = eqb-false q.bit 1 d in
          let e' = eqb-false q.bit 2 e in
          let l : q.bit - 3 < place.principal_count fs = said_below (place.principal_count fs) q.bit few i (omega arith) (ltb-true q.bit 11 f) in
          rw (ranks (q.bit - 3) l) (said (q.bit - 3) l (omega arith))
      go false false false false c d e f =
          let h = ltb-false q.bit 11 f in
          let l : q.bit - 11 < place.principal_count fs = believed_below (place.principal_count fs) q.bit few i h in
          rw (ranks (q.bit - 11) l) (believed (q.bit - 11) l (omega arith))

  -- THE PLACE in the survey of the fact of a place in the block
  pub place_of_lem : (q : Cell) → IsBit (place.principal_count fs) q.bit → place.place fs (cell_fact names P q) ≡ block_of fs P + place_in (place.principal_count fs) q
  unfolding place.place place_in mode_of
  place_of_lem q i =
      by_mode (λ g. place.place fs g ≡ block_of fs P + (q.formula * (3 + 2 * place.principal_count fs) + cond (ltb q.bit 11) q.bit (q.bit - 11 + (3 + place.principal_count fs)))) q i
      (λ e. rw e (at_mode refl))
      (λ e. rw e (at_mode refl))
      (λ e. rw e (at_mode refl))
      (λ b l e. rw (e, rank_ranked fs b l, lt-ltb (3 + b) 11 (omega arith)) (at_mode refl))
      (λ b l e. rw (e, rank_ranked fs b l, le-ltb (11 + b) 11 (omega arith)) (at_mode (omega arith)))
    where
      at_mode : {m k : ℕ} → m ≡ k
          → place.place_with fs (place.rank fs P) q.formula m ≡ block_of fs P + (q.formula * (3 + 2 * place.principal_count fs) + k)
      at_mode e = in_block (place.rank fs P) (place.formula_count fs) q.formula (3 + 2 * place.principal_count fs) e

  -- two places of the block have two facts, with different bytes
  pub one_fact : (q r : Cell) → IsBit (place.principal_count fs) q.bit → IsBit (place.principal_count fs) r.bit → fact_bytes (cell_fact names P q) ≡ fact_bytes (cell_fact names P r) → q ≡ r
  one_fact q r i j e =
      let g : cell_fact names P q ≡ cell_fact names P r = sym (writing.read_back (cell_fact names P q)) ∙ (ap fact_in e ∙ writing.read_back (cell_fact names P r)) in
      let d : block_of fs P + place_in (place.principal_count fs) q ≡ block_of fs P + place_in (place.principal_count fs) r = sym (place_of_lem q i) ∙ (ap (place.place fs) g ∙ place_of_lem r j) in
      let h : place_in (place.principal_count fs) q ≡ place_in (place.principal_count fs) r = omega arith in
      sym (fact_place (place.principal_count fs) few q i) ∙ (ap (cell_at (place.principal_count fs)) h ∙ fact_place (place.principal_count fs) few r j)
