-- Every entry of the log of what the prover finds is linked to the book: its fact is a written fact of the principal's block, and the
-- entry is the assumption or the message with its number, or an instance of a rule on records. Assumes nothing.
use Prim.Native.Nat.{ℕ, ◌+◌, ◌-◌, ◌*◌, ◌<◌, ◌≤◌}
use native.Mathlib.Omega.{arith}
use mathlib.Core.Path.{◌≡◌, refl, sym, ap, ap₂, subst, subst₂, ◌∙◌}
use mathlib.Core.Logic.{◌⊎◌, inl, inr, ⊎_elim}
use mathlib.Core.List.{List, [], ◌∷◌, map}
use mathlib.Core.Bool.{Bool, true, false}
use lib.ListN.{length, get_or, take, length-map}
use Rattle.logic.specs.declared.Record.{Record}
use Rattle.logic.specs.Record.{no_record}
use Rattle.logic.specs.Count.{formulas, assumptions, messages}
use Rattle.logic.specs.Book.{All, Book}
use Rattle.logic.specs.Fact.{Fact, delivered}
use Rattle.logic.specs.Derivation.{Among}
use Rattle.logic.specs.Written.{meaning}
use Rattle.logic.specs.Place as place
use Rattle.logic.specs.Step.{numbers_in, IsAssumption, IsMessage}
use Rattle.logic.proofs.Contents.{contents, among_at}
use Rattle.logic.proofs.Follows.{formula_limit_lem, assumption_limit_lem, message_limit_lem}
use Rattle.logic.proofs.Formulas.{Formulas}
use Rattle.logic.proofs.Holder.{holder}
use Rattle.logic.proofs.Initial.{assumed_on, delivered_on, assumes, delivers}
use Rattle.logic.proofs.Meaning.{IsPrincipal, Valid}
use Rattle.logic.proofs.Member.{all_at, all_of, among_map}
use Rattle.logic.proofs.RuleOn.{RuleOn}
use Rattle.logic.proofs.Arity.{numbered_on, step_numbers}
use Rattle.facts.specs.declared.Cell.{Cell}
use Rattle.facts.specs.declared.Instance.{Instance}
use Rattle.facts.specs.Facts.{bit_at, is_given}
use Rattle.facts.proofs.Block.{Fit}
use Rattle.facts.proofs.Premises.{Unless, Asked, asked_imp}
use Rattle.facts.proofs.History.{Entry, found, Proper}
use Rattle.flat.specs.Layout.{at}
use Rattle.stages.specs.Stages.{gives}
use Rattle.flat.proofs.Cells.{Ranking, Represents, cell_of, ranked_fact, fact_sees, fact_believes, fact_fresh, fact_said, fact_believed, fact_of_cell, cell_fits}
use Rattle.rules.proofs.Matches.{Matches, Listed}
use Rattle.search.proofs.GivenFacts.{no_fact}
use Rattle.layout.proofs.FlatBook.{Laid}
use Rattle.derive.specs.Steps.{premises_for}
use Rattle.derive.specs.Steps as steps
use Rattle.derive.proofs.Cells.{Names, by_mode}
use Rattle.derive.proofs.StepsProve.{Linked}
use Rattle.lanes.specs.Lanes.{State}
use Rattle.lanes.specs.Numbers.{Numbered}
use Rattle.lanes.proofs.History.{Recorded, recorded_few}
use Rattle.rules.specs.Rules.{rules_of}
use Rattle.rules.specs.Close.{Closes}
use Rattle.rules.proofs.Tables.{Chained, Instanced}
use Rattle.rules.proofs.Entries.{Below}
use Rattle.rules.proofs.Closing as closing
use Rattle.rules.proofs.RulesSound.{listed}
use Rattle.search.proofs.FlatRepresents.{ranking, represented}
use Rattle.search.proofs.Starts.{map_at, starts}
use Rattle.search.proofs.FoundLog.{Origin, Noted, found_noted}
use Rattle.search.proofs.FoundLog.Origin.{assumed, received, rule}
use Rattle.search.proofs.BookGiven.{given_to, small_messages, is_given_lem}
use Rattle.search.proofs.FoundFacts.{held_follows}

-- the premises of an instance that gives nothing without premises
premises_for_lem : (i : Instance) (n : ℕ) → is_given i.kind ≡ false → numbers_in i.kind ≡ n → premises_for i ≡ take n (i.first ∷ i.second ∷ [])
unfolding premises_for
premises_for_lem i n g e = rw (g, e)

-- what an entry of a history asks for was found
asked_found : (e : Entry) (h : List Entry) → Proper h → Among e h → Asked (λ q. Among q (found h)) e.by
asked_found e [] p x'' = elim x'' [ ]
asked_found e (d ∷ h) p (inl z) =
    asked_imp (λ q. Among q (found h)) (λ q. Among q (found (d ∷ h))) (λ q m. inr m) e.by
    (subst (λ (x : Entry). Asked (λ q. Among q (found h)) x.by) (sym z) p.0)
asked_found e (d ∷ h) p (inr i) =
    asked_imp (λ q. Among q (found h)) (λ q. Among q (found (d ∷ h))) (λ q m. inr m) e.by (asked_found e h p.2 i)

-- both premises of an instance that gives nothing without premises
asked_both : (G : Cell → Type 0) (i : Instance) → is_given i.kind ≡ false → Asked G i → G i.first × G i.second
asked_both G i g a = subst (λ (z : Bool). Unless z (G i.first × G i.second)) g a

module _ (rs : List Record) (book : Book rs) (b : List ℕ) (laid : Laid rs b) (P : ℕ) (ip : IsPrincipal (formulas rs) P)
    (names : List ℕ) (ranks : Names (formulas rs) names) where
  abbrev fs : List Record
  fs = formulas rs

  abbrev ρ : Ranking (formulas rs)
  ρ = ranking rs book

  abbrev rep : Represents (ranking rs book) b
  rep = represented rs book b laid

  abbrev ok : Formulas (formulas rs)
  ok = (contents rs book).formulas_ok

  abbrev α : List (Fact ℕ)
  α = map (assumed_on (formulas rs)) (assumptions rs)

  abbrev ms : List (Fact ℕ)
  ms = map delivered_on (messages rs)

  -- the fact of a place, by the names and by the ranks
  pub same_fact : (q : Cell) → Fit (length (formulas rs)) (place.principal_count (formulas rs)) q → steps.cell_fact names P q ≡ ranked_fact (ranking rs book) P q
  unfolding ranking
  same_fact q f =
      let few : place.principal_count fs ≤ 8 = ρ.few in
      by_mode fs few names ranks P (λ g. g ≡ ranked_fact ρ P q) q f.1
      (λ e. sym (fact_sees ρ P q.formula) ∙ at_bit 0 e)
      (λ e. sym (fact_believes ρ P q.formula) ∙ at_bit 1 e)
      (λ e. sym (fact_fresh ρ P q.formula) ∙ at_bit 2 e)
      (λ k l e. sym (fact_said ρ P q.formula k (omega arith)) ∙ at_bit (3 + k) e)
      (λ k l e. sym (fact_believed ρ P q.formula k) ∙ at_bit (11 + k) e)
    where
      at_bit : (k : ℕ) → q.bit ≡ k → ranked_fact ρ P (at q.formula k) ≡ ranked_fact ρ P q
      at_bit k e = ap (λ (z : ℕ). ranked_fact ρ P (at q.formula z)) (sym e)

  -- a written fact of the principal is the one at its place
  pub placed_fact : (g : Fact ℕ) → Valid fs g → holder g ≡ P → steps.cell_fact names P (cell_of ρ g) ≡ g
  unfolding ranking
  placed_fact g v own =
      same_fact (cell_of ρ g) (cell_fits ρ g v)
      ∙ subst (λ (z : ℕ). ranked_fact ρ z (cell_of ρ g) ≡ g) own (fact_of_cell ρ g v)

  -- what links an instance to the book after m messages
  abbrev By : ℕ → Instance → Type 0
  By m i =
      ((i.kind ≡ 64) × IsAssumption rs i.first.formula (meaning (formulas rs) (steps.cell_fact names P i.gives)))
      ⊎ (((i.kind ≡ 65) × IsMessage rs m i.first.formula (meaning (formulas rs) (steps.cell_fact names P i.gives)))
      ⊎ RuleOn (formulas rs) (i.kind - 65) (map (steps.cell_fact names P) (premises_for i)) (steps.cell_fact names P i.gives))

  by_assumption : (m k : ℕ) → k < length α → holder (get_or α k no_fact) ≡ P → By m (gives 64 k (cell_of ρ (get_or α k no_fact)))
  by_assumption m k l own =
      let g = get_or α k no_fact in
      let s : k < length (assumptions rs) = rw length-map at l in
      let a = get_or (assumptions rs) k no_record in
      let e : g ≡ assumed_on fs a = map_at (assumed_on fs) (assumptions rs) k no_fact s in
      let t = assumes rs (contents rs book) a (among_at (assumptions rs) k s) in
      let v : Valid fs g = subst (Valid fs) (sym e) t.0 in
      inl (refl, (s, sym t.1 ∙ ap (meaning fs) (sym e ∙ sym (placed_fact g v own))))

  by_message : (m k : ℕ) → k < length ms → k + 1 ≤ m → holder (get_or ms k no_fact) ≡ P → By m (gives 65 (k + 1) (cell_of ρ (get_or ms k no_fact)))
  by_message m k l u own =
      let g = get_or ms k no_fact in
      let s : k < length (messages rs) = rw length-map at l in
      let a = get_or (messages rs) k no_record in
      let e : g ≡ delivered_on a = map_at delivered_on (messages rs) k no_fact s in
      let t = delivers rs (contents rs book) a (among_at (messages rs) k s) in
      let v : Valid fs g = subst (Valid fs) (sym e) t.0 in
      let z : k + 1 - 1 ≡ k = omega arith in
      inr (inl (
        refl,
        (
          omega arith,
          u,
          omega arith,
          ap (λ (j : ℕ). delivered fs (get_or (messages rs) j no_record)) z ∙ sym t.1 ∙ ap (meaning fs) (sym e ∙ sym (placed_fact g v own)),
        ),
      ))

  by_rule : (m : ℕ) (i : Instance) → is_given i.kind ≡ false → Fit (length fs) (place.principal_count fs) i.first → Fit (length fs) (place.principal_count fs) i.second
      → Fit (length fs) (place.principal_count fs) i.gives → (t : Matches ρ P i) → All (Valid fs) t.premises → By m i
  by_rule m i g x y z t vs = inr (inr (subst₂ (RuleOn fs (i.kind - 65)) asked (t.concludes ∙ sym (same_fact i.gives z)) by_number))
    where
      by_number : RuleOn fs (i.kind - 65) t.premises t.conclusion
      by_number =
          let e : t.number ≡ i.kind - 65 = omega (arith, t.kind) in
          subst (λ n. RuleOn fs n t.premises t.conclusion) e t.rule

      numbers : (n : ℕ) → length t.premises ≡ n → numbers_in i.kind ≡ n
      numbers n e =
          let d = numbered_on fs ok t.rule vs in
          ap numbers_in (sym t.kind) ∙ step_numbers t.number d.from d.upto ∙ sym d.arity ∙ e

      asked : t.premises ≡ map (steps.cell_fact names P) (premises_for i)
      asked =
          ⊎_elim
          (λ e. e ∙ ap₂ (λ u v. u ∷ v ∷ []) (sym (same_fact i.first x)) (sym (same_fact i.second y))
          ∙ ap (map (steps.cell_fact names P)) (sym (premises_for_lem i 2 g (numbers 2 (ap length e)))))
          (λ e. e.0 ∙ ap (λ u. u ∷ []) (sym (same_fact i.first x))
          ∙ ap (map (steps.cell_fact names P)) (sym (premises_for_lem i 1 g (numbers 1 (ap length e.0)))))
          t.asks

  -- the entries of the log of what is found up to message m
  module _ (links rows u : List ℕ) (below : Below links 256) (chained : Chained b links (length (formulas rs))) (instanced : Instanced (formulas rs) b rows)
      (tables : closing.Laid b links rows u (length (formulas rs)))
      (m : ℕ) (lm : m ≤ length (messages rs)) (l : List ℕ) (long : length (formulas rs) * (3 + 2 * place.principal_count (formulas rs)) * 8 ≤ length l)
      (s : State) (c : Closes b links rows u (place.rank (formulas rs) P) (given_to b u (place.rank (formulas rs) P) (length (assumptions rs)) m l) s) where
    few_assumed : length α ≤ 64
    few_assumed = let e = length-map (assumptions rs) (assumed_on (formulas rs)) in omega (arith, assumption_limit_lem rs book)

    in_time : m ≤ length ms
    in_time = let e = length-map (messages rs) delivered_on in omega arith

    few_received : m ≤ 16
    few_received = omega (arith, message_limit_lem rs book)

    abbrev Comes : Instance → Type 0
    Comes i = Origin fs ok ρ b rep links rows u instanced tables α ms (starts rs book b laid) few_assumed P ip m in_time few_received i

    -- the log is a history
    noted : (ns : List (Numbered Cell)) × Noted fs ok ρ b rep links rows u instanced tables α ms (starts rs book b laid) few_assumed P ip m in_time few_received s ns
    unfolding ranking
    noted =
        let k = place.rank (formulas rs) P in
        let e : length α ≡ length (assumptions rs) = length-map (assumptions rs) (assumed_on (formulas rs)) in
        let z = is_given_lem b m few_received (λ j l. small_messages ρ b α ms (starts rs book b laid) (formula_limit_lem rs book) j (let t = in_time in omega arith)) u k (length α) l few_assumed in
        let d = subst (λ (n : ℕ). Closes b links rows u k (given_to b u k n m l) s) (sym e) c in
        let g = subst (λ (x : State). Closes b links rows u k x s) (sym z) d in
        (_, found_noted fs ok ρ b rep links rows u instanced tables α ms (starts rs book b laid) few_assumed P ip m in_time few_received l long s g)

    h : List Entry
    h = noted.1.history

    found_fits : (q : Cell) → Among q (found h) → Fit (length fs) (place.principal_count fs) q × Valid fs (ranked_fact ρ P q)
    unfolding ranking h
    found_fits q a =
        let r = noted.1.recorded.held q a in
        let w = held_follows rs book b laid links rows u below chained instanced tables m lm (place.rank (formulas rs) P) l s c P ip q r.0 r.1 in
        (w.0, w.1)

    by_origin : (e : Entry) → Among e h → Comes e.by → By m e.by
    unfolding ranking h
    by_origin e a (assumed k s own z) = subst (By m) (sym z) (by_assumption m k s own)
    by_origin e a (received k s own z) = subst (By m) (sym z) (by_message m k (let t = in_time in omega arith) (omega arith) own)
    by_origin e a (rule r l c n z y) =
        let i = e.by in
        let t : Listed ρ P i = subst (Listed ρ P) (sym z) (all_at (λ c. true ≡ bit_at c.may (ρ.rank P) → Listed ρ P c.by) c (rules_of b links rows r) (listed fs ok ρ b rep links rows instanced P ip r l) n y) in
        let q = asked_both (λ q. Among q (found h)) i t.0 (asked_found e h noted.1.recorded.proper a) in
        let x = found_fits i.first q.0 in
        let v = found_fits i.second q.1 in
        let w = t.1 x.0 v.0 in
        let vs = ⊎_elim (λ d. subst (All (Valid fs)) (sym d) (x.1, (v.1, tt))) (λ d. subst (All (Valid fs)) (sym d.0) (x.1, tt)) w.asks in
        by_rule m i t.0 x.0 v.0 (found_fits i.gives (among_map (λ e. e.by.gives) e h a)).0 w vs

    linked_entry : (e : Entry) → Among e h → Comes e.by → Linked rs m names P e.by
    unfolding h
    linked_entry e a o =
        let q = e.by.gives in
        let w = found_fits q (among_map (λ e. e.by.gives) e h a) in
        record {
          fits = w.0;
          valid = subst (Valid fs) (sym (same_fact q w.0)) w.1;
          by = by_origin e a o;
        }

    few_noted : s.count ≤ length (formulas rs) * (3 + 2 * place.principal_count (formulas rs))
    unfolding ranking
    few_noted =
        subst (λ (n : ℕ). n ≤ length (formulas rs) * (3 + 2 * place.principal_count (formulas rs))) noted.1.recorded.number
        (recorded_few (ρ.rank P) (length fs) ρ.principals ρ.few (Fit (length fs) ρ.principals) (λ q p f. f) s noted.1.history noted.1.only noted.1.recorded).1

    -- THE LOG IS A HISTORY, with no more entries than a block has places, and every entry is linked to the book
    pub linked : (h : List Entry) × Recorded (place.rank (formulas rs) P) s h × (s.count ≤ length (formulas rs) * (3 + 2 * place.principal_count (formulas rs)))
        × All (λ e. Linked rs m names P e.by) h
    unfolding h ranking
    linked = (
      h,
      noted.1.recorded,
      few_noted,
      all_of (λ e. Linked rs m names P e.by) h (λ e a. linked_entry e a (all_at (λ e. Comes e.by) e h noted.1.origins a)),
    )
