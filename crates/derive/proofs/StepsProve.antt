-- The derivation that is taken from a log proves its goal. Assumes nothing.
use Prim.Native.Nat.{ℕ, suc, ◌+◌, ◌*◌, ◌-◌, ◌≤◌, ◌<◌}
use native.Mathlib.Omega.{arith}
use mathlib.Core.Path.{◌≡◌, refl, sym, ap, ap₂, ◌∙◌, subst, subst₂}
use mathlib.Core.Logic.{◌⊎◌, inl, inr, ⊎_elim}
use mathlib.Core.List.{List, [], ◌∷◌, ◌++◌, map, map-append}
use mathlib.Core.Bool.{Bool, true, false, not}
use lib.ListN.{length, get_or, length-take, length-map, length-append}
use lib.Dec.{T}
use Rattle.logic.specs.declared.Record.{Record}
use Rattle.logic.specs.Count.{formulas}
use Rattle.logic.specs.Book.{All}
use Rattle.logic.specs.Formula.{Tree}
use Rattle.logic.specs.Fact.{Fact, goal_fact}
use Rattle.logic.specs.Fact.Fact.{Sees, Believes, BelievesFresh, BelievesSaid, BelievesBelieves}
use Rattle.logic.specs.Rule.{Rule}
use Rattle.logic.specs.Derivation.{Among, EndsIn}
use Rattle.logic.specs.Written.{meaning, is_written, fact_bytes}
use Rattle.logic.specs.Place as place
use Rattle.logic.specs.Step.{Step, premises_in, numbers_in, step_at, premises_of, stated_by, no_fact, IsAssumption, IsMessage, StepFollows, goal_of}
use Rattle.logic.specs.Proof.{Distinct, AllUsed, Proves}
use Rattle.logic.proofs.Member.{all_at, all_imp, all_map, all_right, among_map, among_right, among_append}
use Rattle.logic.proofs.Formulas.{Formulas}
use Rattle.logic.proofs.Meaning.{Valid, written}
use Rattle.logic.proofs.FactBytes as writing
use Rattle.logic.proofs.RuleOn.{RuleOn, raised}
use Rattle.logic.proofs.Arity.{numbered_on, premise_count, step_numbers}
use Rattle.logic.proofs.Steps.{Sound, SoundBehind, derivation_bytes, at_most_two, sound_snoc, proves_steps}
use Rattle.logic.proofs.Verdict.{rule_premises}
use Rattle.facts.specs.declared.Cell.{Cell}
use Rattle.facts.specs.declared.Instance.{Instance}
use Rattle.facts.proofs.Block.{Fit}
use Rattle.facts.proofs.NoRepeats.{distinct_snoc}
use Rattle.derive.specs.Steps.{premises_for, numbers_of, cell_fact, first_number, step_of, steps_of}
use Rattle.derive.specs.Steps as steps
use Rattle.derive.proofs.Cells.{Names, one_fact}
use Rattle.derive.proofs.NeededEntries.{founds, ProperOn, Chosen, found_by, premise_behind}
use Rattle.derive.proofs.Numbers.{split, numbered, proper_tail, step_premises, steps_length, step_at_lem, Fits, number_new, number_old, number_behind, number_below, stated_at_lem}

-- WHAT LINKS AN ENTRY to the book: its fact is a written fact of the block, and the entry is the assumption or the message with its
-- number, or an instance of a rule on records.
pub record Linked (rs : List Record) (m : ℕ) (names : List ℕ) (P : ℕ) (i : Instance) : Type 0 where
  pub fits : Fit (length (formulas rs)) (place.principal_count (formulas rs)) i.gives
  pub valid : Valid (formulas rs) (cell_fact names P i.gives)
  pub by :
      ((i.kind ≡ 64) × IsAssumption rs i.first.formula (meaning (formulas rs) (cell_fact names P i.gives)))
      ⊎ (((i.kind ≡ 65) × IsMessage rs m i.first.formula (meaning (formulas rs) (cell_fact names P i.gives)))
      ⊎ RuleOn (formulas rs) (i.kind - 65) (map (cell_fact names P) (premises_for i)) (cell_fact names P i.gives))

seven_bytes_lem : (g : Fact ℕ) → length (fact_bytes g) ≡ 7
seven_bytes_lem (Sees p x) = refl
seven_bytes_lem (Believes p x) = refl
seven_bytes_lem (BelievesFresh p x) = refl
seven_bytes_lem (BelievesSaid p q x) = refl
seven_bytes_lem (BelievesBelieves p q x) = refl

twice_not : (b : Bool) → T b → T (not (not b))
twice_not true t = tt
twice_not false t = absurd t

-- behind a list
ends_snoc : (l : List (Fact Tree)) (f : Fact Tree) → EndsIn f (l ++ (f ∷ []))
ends_snoc [] f = refl
ends_snoc (g ∷ []) f = refl
ends_snoc (g ∷ h ∷ l) f = ends_snoc (h ∷ l) f

module _ (rs : List Record) (ok : Formulas (formulas rs)) (few : place.principal_count (formulas rs) ≤ 8) (size : ℕ) (room : length (formulas rs) * (3 + 2 * place.principal_count (formulas rs)) ≤ size) (m : ℕ)
    (names : List ℕ) (ranks : Names (formulas rs) names) (P : ℕ) where
  abbrev pub fact : Cell → Fact ℕ
  fact q = cell_fact names P q

  abbrev pub means : Cell → Fact Tree
  means q = meaning (formulas rs) (cell_fact names P q)

  abbrev pub count : ℕ
  count = place.principal_count (formulas rs)

  abbrev pub Entries : List Instance → Type 0
  Entries l = All (Linked rs m names P) l

  pub fit_all : (l : List Instance) → Entries l → Fits count few (length (formulas rs)) size room l
  fit_all l a = all_imp (Linked rs m names P) (λ i. Fit (length (formulas rs)) count i.gives) (λ i k. k.fits) l a

  -- a step states the fact of its entry
  states : (ns : List ℕ) (i : Instance) → stated_by (formulas rs) (step_of count names P ns i) ≡ means i.gives
  unfolding step_of
  states ns i = ap (meaning (formulas rs)) (writing.read_back (cell_fact names P i.gives))

  -- the facts of places
  found_valid : (l : List Instance) → Entries l → (q : Cell) → Among q (founds l) → Valid (formulas rs) (fact q)
  found_valid l a q k = let h = found_by q l k in rw h.2 (all_at (Linked rs m names P) h.0 l a h.1).valid

  -- behind the steps of its older entries each step follows
  module _ (l : List Instance) (r : ProperOn l) (a : Entries l) (i : Instance) (k : Linked rs m names P i)
      (ps : All (λ q. Among q (founds l)) (premises_for i)) where
    abbrev past : List (Fact Tree)
    past = map (stated_by (formulas rs)) (steps_of size count names P l)

    abbrev this : Step
    this = step_of count names P (numbers_of size count l) i

    past_length : length past ≡ length l
    past_length = length-map (steps_of size count names P l) (stated_by (formulas rs)) ∙ steps_length size count names P l

    -- the premises that it names
    named : (qs : List Cell) → All (λ q. Among q (founds l)) qs
        → map (λ j. get_or past j no_fact) (map (steps.step_number count (numbers_of size count l)) qs) ≡ map (meaning (formulas rs)) (map fact qs)
    named [] h = refl
    named (q ∷ qs) h =
        ap₂ (λ a b. a ∷ b)
        (stated_at_lem count few (length (formulas rs)) size room names P no_fact (stated_by (formulas rs)) means states l r (fit_all l a) q h.0)
        (named qs h.1)

    earlier : All (λ j. j < length past) (premises_of this)
    earlier =
        rw (step_premises count names P (numbers_of size count l) i, past_length)
        (all_map (steps.step_number count (numbers_of size count l)) (λ j. j < length l) (premises_for i)
        (all_imp (λ q. Among q (founds l)) (λ q. steps.step_number count (numbers_of size count l) q < length l)
        (λ q h. number_below count few (length (formulas rs)) size room l r (fit_all l a) q h) (premises_for i) ps))

    given_number : (i.kind ≡ 64) ⊎ (i.kind ≡ 65) → (get_or this.numbers 0 0 ≡ i.first.formula) × (numbers_in i.kind ≡ 1)
    unfolding step_of first_number numbers_in
    given_number (inl e) = rw e (refl, refl)
    given_number (inr e) = rw e (refl, refl)

    follows : (0 < numbers_in i.kind) × StepFollows rs m past this
    unfolding step_of
    follows = go k.by
      where
        fs : List Record
        fs = formulas rs

        go : ((i.kind ≡ 64) × IsAssumption rs i.first.formula (means i.gives))
            ⊎ (((i.kind ≡ 65) × IsMessage rs m i.first.formula (means i.gives))
            ⊎ RuleOn fs (i.kind - 65) (map fact (premises_for i)) (fact i.gives))
            → (0 < numbers_in i.kind) × StepFollows rs m past this
        go (inl (e, h)) =
            let n = given_number (inl e) in
            (omega arith, inl (e, subst₂ (λ x f. IsAssumption rs x f) (sym n.0) (sym (states (numbers_of size count l) i)) h))
        go (inr (inl (e, h))) =
            let n = given_number (inr e) in
            (omega arith, inr (inl (e, subst₂ (λ x f. IsMessage rs m x f) (sym n.0) (sym (states (numbers_of size count l) i)) h)))
        go (inr (inr h)) =
            let vs : All (Valid fs) (map fact (premises_for i)) =
            all_map fact (Valid fs) (premises_for i)
            (all_imp (λ q. Among q (founds l)) (λ q. Valid fs (fact q)) (λ q z. found_valid l a q z) (premises_for i) ps) in
            let r = (raised fs ok h vs).1 in
            let d = numbered_on fs ok h vs in
            let e : i.kind ≡ 65 + (i.kind - 65) = omega (arith, d.from) in
            let n = ap numbers_in e ∙ step_numbers (i.kind - 65) d.from d.upto in
            let c = ⊎_elim {C = 0 < premises_in (i.kind - 65)} (λ z. omega arith) (λ z. omega arith) (premise_count (i.kind - 65)) in
            let s : this.numbers ≡ map (steps.step_number count (numbers_of size count l)) (premises_for i) =
            sym (rule_premises this (i.kind - 65) r e) ∙ step_premises count names P (numbers_of size count l) i in (
              rw n c,
              inr (inr (
                i.kind - 65,
                e,
                subst₂ (Rule (i.kind - 65)) (sym (named (premises_for i) ps) ∙ ap (map (λ j. get_or past j no_fact)) (sym s))
                    (sym (states (numbers_of size count l) i)) r,
              )),
            )

    sound : Sound rs m past this
    unfolding step_of
    sound =
        let f = follows in
        record {
          shaped =
              record {
                known = f.0;
                seven = seven_bytes_lem (fact i.gives);
                enough = length-take (numbers_in i.kind) (first_number count (numbers_of size count l) i ∷ steps.step_number count (numbers_of size count l) i.second ∷ []) ∙ omega (arith, at_most_two i.kind);
              };
          formed = rw (writing.malformed_just_if (formulas rs) (fact i.gives)) (twice_not (is_written (formulas rs) (fact i.gives)) (written (formulas rs) (fact i.gives) k.valid));
          earlier = earlier;
          follows = f.1;
        }

  pub all_sound : (l : List Instance) → ProperOn l → Entries l → SoundBehind rs m [] (steps_of size count names P l)
  unfolding steps_of
  all_sound [] r a = tt
  all_sound (i ∷ l) r a =
      sound_snoc rs m [] (steps_of size count names P l) (step_of count names P (numbers_of size count l) i) (all_sound l r.2 a.1)
      (sound l r.2 a.1 i a.0 r.0)

  -- NO FACT TWICE
  written_by : (l : List Instance) (b : List ℕ) → Among b (map (λ q. q.fact) (steps_of size count names P l))
      → (j : Instance) × Among j l × (b ≡ fact_bytes (fact j.gives))
  unfolding steps_of step_of
  written_by [] b h = elim h [ ]
  written_by (i ∷ l) b h =
      ⊎_elim
      (λ e. let z = written_by l b e in (z.0, inr z.1, z.2))
      (λ e. ⊎_elim (λ z. (i, inl refl, z)) (λ z. absurd z) e)
      (among_append b (map (λ q. q.fact) (steps_of size count names P l)) ((step_of count names P (numbers_of size count l) i).fact ∷ [])
      (rw (map-append (λ q. q.fact) (steps_of size count names P l) (step_of count names P (numbers_of size count l) i ∷ [])) at h))

  distinct : (l : List Instance) → ProperOn l → Entries l → Distinct (map (λ q. q.fact) (steps_of size count names P l))
  unfolding steps_of step_of
  distinct [] r a = tt
  distinct (i ∷ l) r a =
      rw (map-append (λ q. q.fact) (steps_of size count names P l) (step_of count names P (numbers_of size count l) i ∷ []))
      (distinct_snoc (map (λ q. q.fact) (steps_of size count names P l)) (fact_bytes (fact i.gives)) (distinct l r.2 a.1)
      (λ h.
      let z = written_by l (fact_bytes (fact i.gives)) h in
      let e = one_fact (formulas rs) few names ranks P i.gives z.0.gives a.0.fits.1
      (all_at (Linked rs m names P) z.0 l a.1 z.1).fits.1 z.2 in
      r.1 (rw e (among_map (λ j. j.gives) z.0 l z.1))))

  -- THE NEWEST ENTRY IS THE GOAL'S, and every other step is used
  module _ (goal : Cell) where
    abbrev IsChosen : List Instance → Type 0
    IsChosen l = Chosen count few (length (formulas rs)) size room goal l

    newest : (i : Instance) (l : List Instance) → IsChosen (i ∷ l) → i.gives ≡ goal
    newest i l c =
        ⊎_elim (λ e. e) (λ h. absurd (c.proper.1 (premise_behind i l c.proper h.0 h.1 i.gives h.2))) (c.used i (inl refl))

    ends : (l : List Instance) → IsChosen l → EndsIn (means goal) (map (stated_by (formulas rs)) (steps_of size count names P l))
    unfolding steps_of
    ends [] c = absurd c.reached
    ends (i ∷ l) c =
        rw (
          map-append (stated_by (formulas rs)) (steps_of size count names P l) (step_of count names P (numbers_of size count l) i ∷ []),
          states (numbers_of size count l) i,
          newest i l c,
        )
        (ends_snoc (map (stated_by (formulas rs)) (steps_of size count names P l)) (means goal))

    -- an entry that has e's fact as a premise has a later step, which names that of e
    used_by : (l : List Instance) → ProperOn l → Entries l → (k r : List Instance) (e : Instance) → l ≡ k ++ (e ∷ r)
        → (j : Instance) → Among j l → Among e.gives (premises_for j)
        → (n : ℕ) × (length r < n) × (n < length (steps_of size count names P l)) × Among (length r) (premises_of (get_or (steps_of size count names P l) n (step_at [])))
    used_by l proper a k r e at-e j member premise =
        let s = split j l member in
        let older = s.1 in
        let q = e.gives in
        let at_j : l ≡ s.0 ++ (j ∷ older) = s.2 in
        let number : List Instance → ℕ = λ z. steps.step_number count (numbers_of size count z) q in
        let pe : ProperOn (k ++ (e ∷ r)) = subst ProperOn at-e proper in
        let fe : Fits count few (length (formulas rs)) size room (k ++ (e ∷ r)) = fit_all (k ++ (e ∷ r)) (subst Entries at-e a) in
        let pj : ProperOn (s.0 ++ (j ∷ older)) = subst ProperOn at_j proper in
        let fj : Fits count few (length (formulas rs)) size room (s.0 ++ (j ∷ older)) = fit_all (s.0 ++ (j ∷ older)) (subst Entries at_j a) in
        let tj = proper_tail s.0 (j ∷ older) pj in
        let hj = all_right (λ i. Fit (length (formulas rs)) count i.gives) s.0 (j ∷ older) fj in
        let he = all_right (λ i. Fit (length (formulas rs)) count i.gives) k (e ∷ r) fe in
        let found : Among q (founds older) = all_at (λ q. Among q (founds older)) q (premises_for j) tj.0 premise in
        let one : number (k ++ (e ∷ r)) ≡ length r =
        (number_behind count few (length (formulas rs)) size room k (e ∷ r) pe fe q (inl refl)).1
        ∙ number_new count few (length (formulas rs)) size room e r he.0 in
        let two : number (s.0 ++ (j ∷ older)) ≡ number older =
        (number_behind count few (length (formulas rs)) size room s.0 (j ∷ older) pj fj q (inr found)).1
        ∙ number_old count few (length (formulas rs)) size room j older tj hj q found in
        let same : number older ≡ length r = sym two ∙ (ap number (sym at_j ∙ at-e) ∙ one) in
        let below : number older < length older = number_below count few (length (formulas rs)) size room older tj.2 hj.1 q found in
        let long : length l ≡ length s.0 + suc (length older) = ap length at_j ∙ length-append s.0 (j ∷ older) in (
          length older,
          omega arith,
          omega (arith, steps_length size count names P l),
          subst (λ z. Among (length r) (premises_of (get_or (steps_of size count names P z) (length older) (step_at [])))) (sym at_j)
              (rw (step_at_lem size count names P (step_at []) s.0 j older, step_premises count names P (numbers_of size count older) j, ← same)
              (among_map (steps.step_number count (numbers_of size count older)) q (premises_for j) premise)),
        )

    -- the goal's fact is that of the last step alone
    last_only : (l : List Instance) → IsChosen l → (k r : List Instance) (e : Instance) → l ≡ k ++ (e ∷ r) → e.gives ≡ goal → suc (length r) < length l → ⊥
    last_only l c [] r e s z h = let d : length l ≡ suc (length r) = ap length s in omega arith
    last_only l c (i ∷ k) r e s z h =
        let d : IsChosen (i ∷ (k ++ (e ∷ r))) = subst IsChosen s c in
        d.proper.1 (subst (λ q. Among q (founds (k ++ (e ∷ r)))) (z ∙ sym (newest i (k ++ (e ∷ r)) d))
        (among_map (λ j. j.gives) e (k ++ (e ∷ r)) (among_right e k (e ∷ r) (inl refl))))

    used : (l : List Instance) → IsChosen l → Entries l → AllUsed (steps_of size count names P l)
    used l c a n h =
        let e = steps_length size count names P l in
        let t = numbered l n (omega arith) in
        let member : Among t.1 l = subst (Among t.1) (sym t.3) (among_right t.1 t.0 (t.1 ∷ t.2) (inl refl)) in
        ⊎_elim
        (λ z. absurd (last_only l c t.0 t.2 t.1 t.3 z (omega (arith, t.4))))
        (λ z. subst
        (λ i. (j : ℕ) × (i < j) × (j < length (steps_of size count names P l)) × Among i (premises_of (get_or (steps_of size count names P l) j (step_at []))))
        t.4 (used_by l c.proper a t.0 t.2 t.1 t.3 z.0 z.1 z.2))
        (c.used t.1 member)

-- THE DERIVATION PROVES THE GOAL: the entries that a goal needs, written as steps
module _ (rs : List Record) (ok : Formulas (formulas rs)) (few : place.principal_count (formulas rs) ≤ 8) (size : ℕ) (room : length (formulas rs) * (3 + 2 * place.principal_count (formulas rs)) ≤ size)
    (g : ℕ) (names : List ℕ) (ranks : Names (formulas rs) names) (P : ℕ) (goal : Cell)
    (asks : meaning (formulas rs) (cell_fact names P goal) ≡ goal_fact (formulas rs) (goal_of rs g)) where
  pub proves : (l : List Instance) → Chosen (place.principal_count (formulas rs)) few (length (formulas rs)) size room goal l
      → All (Linked rs (goal_of rs g).first names P) l → length l < 65536
      → Proves rs g (derivation_bytes (steps_of size (place.principal_count (formulas rs)) names P l))
  proves l c a h =
      let m = (goal_of rs g).first in
      proves_steps rs g (steps_of size (place.principal_count (formulas rs)) names P l) (all_sound rs ok few size room m names ranks P l c.proper a)
      (omega (arith, steps_length size (place.principal_count (formulas rs)) names P l)) (rw (← asks) (ends rs ok few size room m names ranks P goal l c))
      (distinct rs ok few size room m names ranks P l c.proper a) (used rs ok few size room m names ranks P goal l c a)
