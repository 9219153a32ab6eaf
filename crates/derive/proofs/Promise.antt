-- WHAT IS WRITTEN PROVES THE GOAL: the derivation taken from a log that is a history, each entry of which is linked to the book, has
-- no more steps than the log has entries, at most twelve bytes to each, and the checker's definition accepts it, with no fact twice and
-- every step before the last used. Assumes nothing.
use Prim.Native.Nat.{ℕ, ◌+◌, ◌*◌, ◌≤◌, ◌<◌}
use native.Mathlib.Nat.{zero-add}
use native.Mathlib.Omega.{arith}
use mathlib.Core.Path.{◌≡◌, ap, ◌∙◌}
use mathlib.Core.Logic.{⊎_elim}
use mathlib.Core.List.{List, [], ◌∷◌, ◌++◌}
use lib.ListN.{length, take, drop, length-map}
use lib.Seq.{sets, sets-eq, length-sets, take-append_seam, drop-append_seam}
use Rattle.logic.specs.declared.Record.{Record}
use Rattle.logic.specs.Count.{formulas}
use Rattle.logic.specs.Refusal.{Outcome}
use Rattle.logic.specs.Refusal.Outcome.{accepted, refused}
use Rattle.logic.specs.Book.{All}
use Rattle.logic.specs.Fact.{goal_fact}
use Rattle.logic.specs.Derivation.{Among}
use Rattle.logic.specs.Written.{meaning}
use Rattle.logic.specs.Place as place
use Rattle.logic.specs.Step.{Step, steps_in, goal_of}
use Rattle.logic.specs.Proof.{Proves}
use Rattle.logic.proofs.Member.{all_map}
use Rattle.logic.proofs.Formulas.{Formulas}
use Rattle.logic.proofs.Steps.{Shaped, derivation_bytes, all_shaped, steps_back, sizes}
use Rattle.facts.specs.declared.Cell.{Cell}
use Rattle.facts.specs.declared.Instance.{Instance}
use Rattle.facts.proofs.Block.{Fit}
use Rattle.facts.proofs.History.{Entry, found}
use Rattle.derive.specs.Steps.{needed, cell_fact, steps_of, derivation, Writes}
use Rattle.derive.proofs.NeededEntries.{Chosen, chosen, needed_length, needed_all, unneeded}
use Rattle.derive.proofs.Numbers.{steps_length}
use Rattle.derive.proofs.Entries.{by, Logged, logged_instances, found_on, on_found, proper_on}
use Rattle.derive.proofs.Cells.{Names}
use Rattle.derive.proofs.StepsProve.{Linked, fit_all, all_sound, proves}

different : ◌≡◌ {A = Outcome Unit} (accepted tt) (refused 20 0) → ⊥
different e = let z : ◌≡◌ {A = ℕ} 0 1 = cc in omega arith

-- bytes at the front of a buffer
front : (d v : List ℕ) → length v ≤ length d → (take (length v) (sets d 0 v) ≡ v) × (drop (length v) (sets d 0 v) ≡ drop (length v) d)
front d v l =
    let e : sets d 0 v ≡ v ++ drop (length v) d = sets-eq v d 0 (omega arith) ∙ ap (λ n. v ++ drop n d) (zero-add (length v)) in
    (ap (take (length v)) e ∙ take-append_seam v (drop (length v) d), ap (drop (length v)) e ∙ drop-append_seam v (drop (length v) d))

module _ (rs : List Record) (ok : Formulas (formulas rs)) (few : place.principal_count (formulas rs) ≤ 8) (size : ℕ) (room : length (formulas rs) * (3 + 2 * place.principal_count (formulas rs)) ≤ size)
    (g : ℕ) (names : List ℕ) (ranks : Names (formulas rs) names) (P : ℕ) (goal : Cell)
    (asks : meaning (formulas rs) (cell_fact names P goal) ≡ goal_fact (formulas rs) (goal_of rs g))
    (log : List ℕ) (count : ℕ) (h : List Entry) (r : Logged log count h) (linked : All (λ e. Linked rs (goal_of rs g).first names P e.by) h)
    (reached : Among goal (found h)) (short : count < 65536) where
  -- the derivation of the goal from the log
  abbrev pub steps : List Step
  steps = derivation size (place.principal_count (formulas rs)) names P goal log count

  entries : List Instance
  entries = needed size (place.principal_count (formulas rs)) goal (by h)

  steps_are : steps ≡ steps_of size (place.principal_count (formulas rs)) names P entries
  unfolding derivation entries
  steps_are = ap (λ l. steps_of size (place.principal_count (formulas rs)) names P (needed size (place.principal_count (formulas rs)) goal l)) (logged_instances log count h r)

  links : All (Linked rs (goal_of rs g).first names P) (by h)
  links = all_map (λ e. e.by) (Linked rs (goal_of rs g).first names P) h linked

  entry_links : All (Linked rs (goal_of rs g).first names P) entries
  unfolding entries
  entry_links = needed_all (place.principal_count (formulas rs)) (Linked rs (goal_of rs g).first names P) size goal (by h) links

  few_entries : length entries ≤ count
  unfolding entries
  few_entries = omega (arith, needed_length (place.principal_count (formulas rs)) size goal (by h), length-map h (λ e. e.by), r.number)

  are_chosen : Chosen (place.principal_count (formulas rs)) few (length (formulas rs)) size room goal entries
  unfolding entries
  are_chosen =
      chosen (place.principal_count (formulas rs)) few (length (formulas rs)) size room goal (by h) (proper_on h r.proper)
      (fit_all rs ok few size room (goal_of rs g).first names ranks P (by h) links) (found_on h goal reached)

  shaped : All Shaped steps
  shaped =
      rw steps_are
      (all_shaped rs (goal_of rs g).first [] (steps_of size (place.principal_count (formulas rs)) names P entries)
      (all_sound rs ok few size room (goal_of rs g).first names ranks P entries are_chosen.proper entry_links))

  pub steps_prove : Proves rs g (derivation_bytes steps)
  steps_prove = rw steps_are (proves rs ok few size room g names ranks P goal asks entries are_chosen entry_links (omega (arith, few_entries)))

  pub few_steps : length steps ≤ count
  few_steps = rw steps_are (omega (arith, few_entries, steps_length size (place.principal_count (formulas rs)) names P entries))

  pub few_bytes : length (derivation_bytes steps) ≤ 12 * count
  few_bytes = omega (arith, sizes steps shaped, few_steps)

  -- the same of a buffer d with room for twelve bytes an entry, d' being what it is when the steps are written to its front
  pub buffer_proves : (d d' : List ℕ) (k l : ℕ) → 12 * count ≤ length d → Writes steps d d' k l
      → Proves rs g (take l d') × (k ≡ length (steps_in (take l d'))) × (l ≤ length d) × (length d' ≡ length d) × (drop l d' ≡ drop l d)
  buffer_proves d d' k l room w =
      let f = front d (derivation_bytes steps) (omega (arith, few_bytes)) in
      let t : take l d' ≡ derivation_bytes steps = rw (w.front, w.size) f.0 in (
        rw t steps_prove,
        rw (t, steps_back steps shaped) w.count,
        omega (arith, few_bytes, w.size),
        ap length w.front ∙ length-sets d 0 (derivation_bytes steps),
        rw (w.front, w.size) f.1,
      )

  -- there is a step
  pub some_step : 0 < length steps
  unfolding derivation_bytes
  some_step = go steps steps_prove
    where
      go : (qs : List Step) → Proves rs g (derivation_bytes qs) → 0 < length qs
      go [] k = absurd (⊎_elim (λ z. different z.1) (λ z. z.0) k.accepts)
      go (q ∷ qs) k = omega arith

-- A GOAL THAT WAS NOT FOUND has no steps, and nothing is written
module _ (p : ℕ) (few : p ≤ 8) (n size : ℕ) (room : n * (3 + 2 * p) ≤ size) (names : List ℕ) (P : ℕ) (goal : Cell) (fits : Fit n p goal)
    (log : List ℕ) (count : ℕ) (h : List Entry) (r : Logged log count h) (all : All (λ e. Fit n p e.by.gives) h) (unreached : Among goal (found h) → ⊥) where
  no_steps : derivation size p names P goal log count ≡ []
  unfolding derivation steps_of
  no_steps =
      rw (logged_instances log count h r, unneeded p few n size room goal fits (by h) (all_map (λ e. e.by) (λ i. Fit n p i.gives) h all) (λ m. unreached (on_found h goal m)))

  pub nothing_written : (d d' : List ℕ) (k l : ℕ) → Writes (derivation size p names P goal log count) d d' k l → (k ≡ 0) × (d' ≡ d)
  unfolding derivation_bytes
  nothing_written d d' k l w = (w.count ∙ ap length no_steps, w.front ∙ ap (λ (z : List Step). sets d 0 (derivation_bytes z)) no_steps)
