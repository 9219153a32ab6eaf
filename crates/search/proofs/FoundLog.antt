-- The log of what the prover finds is a history of one principal: each entry is an assumption or a message that was given to him, or an
-- instance of a record's rules that he may use. And the numbers that were given to his facts. Assumes nothing.
use Prim.Native.Nat.{ℕ, zero, suc, ◌+◌, ◌*◌, ◌<◌, ◌≤◌}
use native.Mathlib.Omega.{arith}
use native.Mathlib.Decide.{dec_lt}
use mathlib.Core.Path.{◌≡◌, refl, sym, ap, ◌∙◌, subst}
use mathlib.Core.List.{List, [], ◌∷◌, ◌++◌, append_assoc, append-nil}
use mathlib.Core.Bool.{Bool, true, cond}
use lib.ListN.{length, get_or, length-replicate}
use Rattle.logic.specs.declared.Record.{Record}
use Rattle.logic.specs.Book.{All}
use Rattle.logic.specs.Fact.{Fact}
use Rattle.logic.specs.Derivation.{Among}
use Rattle.logic.proofs.Member.{all_append, all_at, all_imp, all_of}
use Rattle.logic.proofs.Formulas.{Formulas}
use Rattle.logic.proofs.Meaning.{IsPrincipal, Valid}
use Rattle.logic.proofs.Holder.{holder}
use Rattle.facts.specs.declared.Cell.{Cell}
use Rattle.facts.specs.declared.Instance.{Instance}
use Rattle.facts.specs.Facts.{bit_at}
use Rattle.facts.proofs.Block.{Fit}
use Rattle.facts.proofs.Premises.{Unless}
use Rattle.facts.proofs.History.{Entry}
use Rattle.flat.specs.Layout.{at, first_at, assumption_at, receiver_at, message_at, stated_at}
use Rattle.stages.specs.Stages.{gives, nothing, given_all}
use Rattle.stages.specs.Numbers.{assumption_of, delivery, assumptions_in, deliveries_in, taken_numbers, call_numbers}
use Rattle.stages.proofs.Numbers.{given_run}
use Rattle.flat.proofs.Cells.{Ranking, cell_of, cell_fits, Represents}
use Rattle.rules.proofs.Matches.{Listed}
use Rattle.search.proofs.GivenFacts.{Starts, no_fact, all_get_d}
use Rattle.lanes.specs.Lanes.{State, Common, common, run}
use Rattle.lanes.specs.Numbers.{Numbered, numbers_by, StandsIn}
use Rattle.lanes.proofs.Sets.{Proper}
use Rattle.lanes.proofs.Fires.{Held, Wide, Sized}
use Rattle.lanes.proofs.Runs.{Leads, run_wide, run_sound}
use Rattle.lanes.proofs.History.{Recorded, Added, start_recorded, run_length, run_recorded}
use Rattle.lanes.proofs.Numbers.{Counts, start_counts, run_counts, run_stands}
use Rattle.rules.specs.Rules.{only_one, rules_of}
use Rattle.rules.specs.Close.{without, Reaches, Closes}
use Rattle.rules.specs.Close.Reaches.{start, more}
use Rattle.rules.proofs.InBook.{only_in}
use Rattle.rules.proofs.Tables.{Instanced}
use Rattle.rules.proofs.RulesSized.{fit_proper}
use Rattle.rules.proofs.RulesSound.{listed as listed-rules}
use Rattle.rules.proofs.Closing.{Laid, none_held}
use Rattle.rules.proofs.Taken.{without_wide}
use Rattle.search.proofs.Laws.{block_small}
use Rattle.tables.specs.Deliveries.{listed}
use Rattle.tables.proofs.Deliveries.{listed_length}
use Rattle.search.specs.Laid.{every_assumption}
use Rattle.search.proofs.BookGiven.{in_force, small_messages, is_delivery}
use Rattle.search.proofs.StageState.{holder_principal, one_small}

module _ (fs : List Record) (ok : Formulas fs) (ρ : Ranking fs) (b : List ℕ) (rep : Represents ρ b) (links rows u : List ℕ) (instanced : Instanced fs b rows) (tables : Laid b links rows u (length fs))
    (α ms : List (Fact ℕ)) (starts : Starts ρ b α ms) (few_assumptions : length α ≤ 64) (P : ℕ) (ip : IsPrincipal fs P) (m : ℕ) (lm : m ≤ length ms) (few_messages : m ≤ 16) where
  -- where an entry comes from
  pub data Origin (i : Instance) : Type 0 where
    assumed : (j : ℕ) → j < length α → holder (get_or α j no_fact) ≡ P → i ≡ gives 64 j (cell_of ρ (get_or α j no_fact)) → Origin i
    received : (j : ℕ) → j < m → holder (get_or ms j no_fact) ≡ P → i ≡ gives 65 (j + 1) (cell_of ρ (get_or ms j no_fact)) → Origin i
    rule : (r : ℕ) → r < length fs → (c : Common) → Among c (rules_of b links rows r) → i ≡ c.by → true ≡ bit_at c.may (ρ.rank P) → Origin i

  abbrev Fits : Cell → Type 0
  Fits q = Fit (length fs) ρ.principals q

  -- what the log is, and the numbers l that were given
  pub record Noted (s : State) (l : List (Numbered Cell)) : Type 0 where
    pub wide : Wide s
    pub only : (q : Cell) → Proper q → Held (ρ.rank P) s q → Fit (length fs) ρ.principals q
    pub long : length fs * (3 + 2 * ρ.principals) * 8 ≤ length s.log
    pub history : List Entry
    pub recorded : Recorded (ρ.rank P) s history
    pub origins : All (λ e. Origin e.by) history
    pub counts : Counts (ρ.rank P) s l
    pub stands : All (StandsIn s.log) l

  noted_none : (l : List ℕ) → length fs * (3 + 2 * ρ.principals) * 8 ≤ length l → Noted (nothing l) []
  noted_none l h = record {
    wide = record { words = length-replicate {A = ℕ} 1024 0; pending = refl };
    only = λ q p x. absurd (none_held (nothing l) refl (ρ.rank P) q x);
    long = h;
    history = [];
    recorded = start_recorded (ρ.rank P) 1024 (nothing l) refl refl;
    origins = tt;
    counts = start_counts u (ρ.rank P) (nothing l) refl refl;
    stands = tt;
  }

  -- an instance that is fired for this book
  abbrev Fired : Common → Type 0
  Fired c = Sized c × Leads (ρ.rank P) Fits c × (true ≡ bit_at c.may (ρ.rank P) → Origin c.by)

  -- instances at work
  run_noted : (cs : List Common) → All Fired cs → (s : State) (l : List (Numbered Cell)) → Noted s l
      → Noted (run u (ρ.rank P) s cs) (l ++ numbers_by u (ρ.rank P) s cs)
  run_noted cs f s l w =
      let few = ρ.few in
      let small = block_small (length fs) ρ.principals tables.few few in
      let z = all_imp Fired Sized (λ c a. a.0) cs f in
      let d = all_imp Fired (Leads (ρ.rank P) Fits) (λ c a. a.1) cs f in
      let only = run_sound u (ρ.rank P) (ρ.rank P) Fits cs z d s w.wide w.only in
      let r = run_recorded u (ρ.rank P) (length fs) ρ.principals few (omega arith) Fits (λ q p f. f) cs z d s w.history w.wide w.only w.long w.recorded in
      record {
        wide = run_wide u (ρ.rank P) cs z s w.wide;
        only = only;
        long = rw (run_length u (ρ.rank P) cs z s w.wide) w.long;
        history = r.0 ++ w.history;
        recorded = r.1;
        origins = all_append (λ e. Origin e.by) r.0 w.history
            (all_imp (Added (ρ.rank P) cs) (λ e. Origin e.by) (λ e a. subst Origin (sym a.1.2) ((all_at Fired a.1.0 cs f a.1.1).2 a.1.3)) r.0 r.2)
            w.origins;
        counts = run_counts u (ρ.rank P) cs z s w.wide l w.counts;
        stands = run_stands u (ρ.rank P) (length fs) ρ.principals few cs z s w.wide l w.counts w.long only w.stands;
      }

  -- a given fact
  module _ (g : Fact ℕ) (v : Valid fs g) (x : ℕ) (own : x ≡ holder g) (kind number : ℕ) (q : Cell) (eq : q ≡ cell_of ρ g)
      (low : number < 256) (origin : holder g ≡ P → Origin (gives kind number (cell_of ρ g))) where
    fits : Fits q
    fits = subst Fits (sym eq) (cell_fits ρ g v)

    given_fired : Fired (common (only_one b x) (gives kind number q))
    given_fired = (
      record {
        may = one_small b x;
        first = (low, omega arith);
        second = (omega arith, omega arith);
        gives = fit_proper (length fs) ρ.principals q tables.few ρ.few fits;
      },
      (λ y a. fits),
      (λ y.
          let h : holder g ≡ P = sym own ∙ only_in fs ρ b rep x P (subst (IsPrincipal fs) (sym own) (holder_principal fs g v)) ip y in
          subst Origin (sym (ap (gives kind number) eq)) (origin h)),
    )

  assumptions_fired : (j : ℕ) → j ≤ length α → All Fired (assumptions_in b every_assumption j)
  unfolding assumptions_in
  assumptions_fired zero h = tt
  assumptions_fired (suc j) h =
      let e = starts.assumption j h in
      all_append Fired (assumptions_in b every_assumption j) (cond (bit_at every_assumption j) (assumption_of b j ∷ []) []) (assumptions_fired j (omega arith))
      (rw (in_force j (omega arith)) (
        given_fired (get_or α j no_fact) (all_get_d (Valid fs) α j h starts.valid_assumptions) (first_at b (assumption_at b j)) e.0 64 j
            (stated_at b (assumption_at b j)) e.1 (omega arith) (λ z. assumed j h z refl),
        tt,
      ))

  deliveries_fired : (j : ℕ) → j ≤ m → All Fired (deliveries_in (listed b m) j)
  unfolding deliveries_in
  deliveries_fired zero h = tt
  deliveries_fired (suc j) h =
      let e = starts.message j (omega arith) in
      all_append Fired (deliveries_in (listed b m) j) (delivery (listed b m) j ∷ []) (deliveries_fired j (omega arith)) (
        subst Fired (sym (is_delivery b m few_messages (λ i k. small_messages ρ b α ms starts tables.few i (omega arith)) j h))
            (given_fired (get_or ms j no_fact) (all_get_d (Valid fs) ms j (omega arith) starts.valid_messages) (receiver_at b j) e.0 65 (j + 1)
            (at (message_at b j) 0) e.1 (omega arith) (λ z. received j h z refl)),
        tt,
      )

  -- the rules of a record
  rule_leads : (r : ℕ) → r < length fs → All (Leads (ρ.rank P) Fits) (rules_of b links rows r)
  rule_leads r l =
      all_imp (λ c. true ≡ bit_at c.may (ρ.rank P) → Listed ρ P c.by) (Leads (ρ.rank P) Fits) lead (rules_of b links rows r) (listed-rules fs ok ρ b rep links rows instanced P ip r l)
    where
      lead : (c : Common) → (true ≡ bit_at c.may (ρ.rank P) → Listed ρ P c.by) → Leads (ρ.rank P) Fits c
      lead c f m a =
          let h = f m in
          let t = subst (λ (z : Bool). Unless z (Fits c.by.first × Fits c.by.second)) h.0 a in
          (h.1 t.0 t.1).inside

  rules_fired : (r : ℕ) → r < 256 → All Fired (rules_of b links rows r)
  rules_fired r l = elim (dec_lt r (length fs)) [
    | yes h ↦
        all_of Fired (rules_of b links rows r)
        (λ c a. (all_at Sized c (rules_of b links rows r) (tables.sized r h) a, all_at (Leads (ρ.rank P) Fits) c (rules_of b links rows r) (rule_leads r h) a, rule r h c a refl))
    | no h ↦ subst (All Fired) (sym (tables.blank r (omega arith) l)) tt
  ]

  without_noted : (r : ℕ) (s : State) (l : List (Numbered Cell)) → Noted s l → Noted (without r s) l
  without_noted r s l w = record {
    wide = without_wide r s w.wide;
    only = w.only;
    long = w.long;
    history = w.history;
    recorded = record { number = w.recorded.number; bytes = w.recorded.bytes; logged = w.recorded.logged; held = w.recorded.held; proper = w.recorded.proper };
    origins = w.origins;
    counts = record { count = w.counts.count; order = w.counts.order; once = w.counts.once; held = w.counts.held; all = w.counts.all };
    stands = w.stands;
  }

  reaches_noted : (s t : State) (l : List (Numbered Cell)) → Noted s l → (h : Reaches b links rows u (ρ.rank P) s t)
      → Noted t (l ++ taken_numbers b links rows u (ρ.rank P) s t h)
  unfolding taken_numbers
  reaches_noted s _ l w start = subst (Noted s) (sym (append-nil l)) w
  reaches_noted s _ l w (more t r i p h) =
      let before = taken_numbers b links rows u (ρ.rank P) s t h in
      let next = without r t in
      subst (Noted (run u (ρ.rank P) next (rules_of b links rows r))) (append_assoc l before (numbers_by u (ρ.rank P) next (rules_of b links rows r)))
      (run_noted (rules_of b links rows r) (rules_fired r i) next (l ++ before) (without_noted r t (l ++ before) (reaches_noted s t l w h)))

  -- WHAT IS FOUND is noted, with the numbers of the call
  pub found_noted : (l : List ℕ) → length fs * (3 + 2 * ρ.principals) * 8 ≤ length l
      → (t : State) (c : Closes b links rows u (ρ.rank P) (given_all b u (listed b m) (ρ.rank P) every_assumption (length α) l) t)
      → Noted t (call_numbers b links rows u (ρ.rank P) (listed b m) every_assumption (length α) l t c)
  unfolding call_numbers
  found_noted l h t c =
      let given = assumptions_in b every_assumption (length α) ++ deliveries_in (listed b m) (length (listed b m)) in
      let fired : All Fired given = all_append Fired (assumptions_in b every_assumption (length α)) (deliveries_in (listed b m) (length (listed b m)))
      (assumptions_fired (length α) (omega arith)) (deliveries_fired (length (listed b m)) (omega (arith, listed_length b m few_messages))) in
      reaches_noted (given_all b u (listed b m) (ρ.rank P) every_assumption (length α) l) t (numbers_by u (ρ.rank P) (nothing l) given)
      (subst (λ (s : State). Noted s (numbers_by u (ρ.rank P) (nothing l) given)) (given_run u (ρ.rank P) b (listed b m) every_assumption (length α) l)
      (run_noted given fired (nothing l) [] (noted_none l h))) c.reached
