-- THE NUMBERS GIVEN in a call of the prover are 0, 1, 2 and so on, each below F, none twice and no fact twice; and they are given to just those
-- facts of the goal's principal that follow. So 16 bits hold them, and no fact is lost. Assumes nothing.
use Prim.Native.Nat.{ℕ, ◌+◌, ◌*◌, ◌<◌, ◌≤◌}
use native.Mathlib.Omega.{arith}
use mathlib.Core.Path.{◌≡◌, sym, ap, ◌∙◌, subst, subst₂}
use mathlib.Core.Logic.{◌↔◌}
use mathlib.Core.List.{List, map, map-map}
use lib.ListN.{length, length-map}
use Rattle.logic.specs.declared.Record.{Record}
use Rattle.logic.specs.Count.{formulas, assumptions, messages, goals}
use Rattle.logic.specs.Book.{All, Book}
use Rattle.logic.specs.Refusal.{Outcome}
use Rattle.logic.specs.Fact.{Fact, initial}
use Rattle.logic.specs.Derivation.{Among, Derivable}
use Rattle.logic.specs.Written.{meaning}
use Rattle.logic.specs.Place as place
use Rattle.logic.specs.Step.{goal_of}
use Rattle.logic.specs.Proof.{Answer}
use Rattle.logic.proofs.Contents.{contents}
use Rattle.logic.proofs.Follows.{formula_limit_lem, assumption_limit_lem, message_limit_lem}
use Rattle.logic.proofs.Limits.{size_limit}
use Rattle.logic.proofs.Holder.{holder}
use Rattle.logic.proofs.Initial.{assumed_on, delivered_on}
use Rattle.logic.proofs.Meaning.{Valid}
use Rattle.logic.proofs.Member.{all_imp, among_map, among_image}
use Rattle.facts.specs.declared.Cell.{Cell}
use Rattle.facts.proofs.Block.{Fit}
use Rattle.flat.specs.Layout.{first_at, rank_at}
use Rattle.flat.proofs.Cells.{Ranking, cell_of, ranked_fact, place_of_fact, fact_of_cell, cell_fits}
use Rattle.layout.proofs.FlatBook.{Laid}
use Rattle.layout.proofs.FlatBytes.{Whole}
use Rattle.derive.specs.Steps.{cell_fact}
use Rattle.lanes.specs.Lanes.{State}
use Rattle.lanes.specs.Numbers.{Numbered, StandsIn, facts, RunningOrder}
use Rattle.lanes.proofs.Numbers.{counts_ordered, order_told, told_length}
use Rattle.rules.specs.Close.{Closes}
use Rattle.rules.proofs.RulesSized.{fit_proper}
use Rattle.rules.proofs.Tables.{Instanced}
use Rattle.tables.specs.Deliveries.{listed}
use Rattle.stages.specs.Stages.{given_all}
use Rattle.stages.specs.Numbers.{call_numbers}
use Rattle.search.specs.Laid.{every_assumption}
use Rattle.search.specs.Answers.{names_of}
use Rattle.search.specs.Found.{FoundIs}
use Rattle.search.specs.Numbers.{Course, numbers_given}
use Rattle.search.proofs.BookTables.{links, users, chains_linked, links_below, tables_laid}
use Rattle.search.proofs.FlatRepresents.{ranking, represented}
use Rattle.search.proofs.PrincipalNames.{named}
use Rattle.search.proofs.Starts.{starts}
use Rattle.search.proofs.GoalFact as goal
use Rattle.search.proofs.BookGiven.{given_to, small_messages, is_given_lem}
use Rattle.search.proofs.FoundLog.{found_noted}
use Rattle.search.proofs.FoundFacts.{held_follows, follows_held}
use Rattle.search.proofs.FoundLinks.{same_fact, placed_fact}
use Rattle.search.proofs.FoundPromise.{by_limits}

module _ (rs : List Record) (book : Book rs) (b : List ℕ) (laid : Laid rs b) (whole : Whole b (length (formulas rs)))
    (rows : List ℕ) (instanced : Instanced (formulas rs) b rows) (g : ℕ) (there : g < length (goals rs)) where
  abbrev fs : List Record
  fs = formulas rs

  abbrev ρ : Ranking (formulas rs)
  ρ = ranking rs book

  abbrev α : List (Fact ℕ)
  α = map (assumed_on (formulas rs)) (assumptions rs)

  abbrev ms : List (Fact ℕ)
  ms = map delivered_on (messages rs)

  abbrev lk : List ℕ
  lk = links rs book b laid whole

  abbrev us : List ℕ
  us = users rs book b laid whole rows instanced

  abbrev m : ℕ
  m = (goal_of rs g).first

  abbrev f : ℕ
  f = (goal_of rs g).second

  -- the goal's principal
  abbrev pub P : ℕ
  P = first_at b (goal_of rs g).second

  abbrev names : List ℕ
  names = names_of b (length (formulas rs))

  in_time : m ≤ length ms
  in_time = let e = length-map (messages rs) delivered_on in omega (arith, goal.in_time rs book b laid g there)

  few_assumed : length α ≤ 64
  few_assumed = let e = length-map (assumptions rs) (assumed_on (formulas rs)) in omega (arith, assumption_limit_lem rs book)

  few_received : m ≤ 16
  few_received = let e = length-map (messages rs) delivered_on in omega (arith, message_limit_lem rs book, in_time)

  own_rank : rank_at b P ≡ ρ.rank P
  own_rank = (represented rs book b laid).ranks P (goal.ip rs book b laid g there)

  -- A CALL TAKES A COURSE: what `prove_goal` ensures
  pub takes_course : (log d d' : List ℕ) (o : Outcome Answer)
      → (p : FoundIs b lk rows us (listed b m) (length (formulas rs)) (place.principal_count (formulas rs)) (length (assumptions rs)) f log d d' o)
      → (s : State) × Course b lk rows us (listed b m) (length (assumptions rs)) f log s × (p.log' ≡ s.log) × (p.count ≡ s.count)
  takes_course log d d' o p =
      let w = by_limits b lk rows us (rank_at b P) (length (formulas rs)) (length (assumptions rs)) m log p.log' p.count p.held (formula_limit_lem rs book) (assumption_limit_lem rs book)
      few_received p.finds in
      (w.0, w.1.0, w.1.1.0, w.1.1.1.0)

  module _ (log : List ℕ) (long : place.F (formulas rs) * 8 ≤ length log) (s : State) where
    -- what is known of a call whose numbers are l
    record Known (l : List (Numbered Cell)) : Type 0 where
      order : RunningOrder (length (formulas rs) * (3 + 2 * place.principal_count (formulas rs))) l
      inside : (q : Cell) → Among q (facts l) → Fit (length (formulas rs)) (place.principal_count (formulas rs)) q × Derivable (formulas rs) (initial rs m) (meaning (formulas rs) (ranked_fact ρ P q))
      all : (h : Fact ℕ) → Valid (formulas rs) h → holder h ≡ P → Derivable (formulas rs) (initial rs m) (meaning (formulas rs) h) → Among (cell_of ρ h) (facts l)
      count : length l ≡ s.count
      stand : All (StandsIn s.log) l

    room : length (formulas rs) * (3 + 2 * place.principal_count (formulas rs)) * 8 ≤ length log
    room = omega (arith, goal.one_block rs book b laid g there)

    -- with the rank and the number of assumptions as the book has them
    known_by : (c : Closes b lk rows us (ρ.rank P) (given_all b us (listed b m) (ρ.rank P) every_assumption (length α) log) s)
        → Known (call_numbers b lk rows us (ρ.rank P) (listed b m) every_assumption (length α) log s c)
    unfolding ranking
    known_by c =
        let ok = (contents rs book).formulas_ok in
        let rep = represented rs book b laid in
        let ip = goal.ip rs book b laid g there in
        let few = ρ.few in
        let tables = tables_laid rs book b laid whole rows instanced in
        let w = found_noted fs ok ρ b rep lk rows us instanced tables α ms (starts rs book b laid) few_assumed P ip m in_time few_received log room s c in
        let z = is_given_lem b m few_received (λ j l. small_messages ρ b α ms (starts rs book b laid) (formula_limit_lem rs book) j (let t = in_time in omega arith)) us (ρ.rank P) (length α) log few_assumed in
        let e : length α ≡ length (assumptions rs) = length-map (assumptions rs) (assumed_on (formulas rs)) in
        let d = subst (λ (x : State). Closes b lk rows us (ρ.rank P) x s) z c in
        let d = subst (λ (n : ℕ). Closes b lk rows us (ρ.rank P) (given_to b us (ρ.rank P) n m log) s) e d in
        let below = links_below rs book b laid whole in
        let chained = chains_linked rs book b laid whole in
        let within = goal.in_time rs book b laid g there in
        record {
          order = counts_ordered (ρ.rank P) (length fs) ρ.principals few s _ w.only w.counts;
          inside = λ q a.
              let h = w.counts.held q a in
              let k = held_follows rs book b laid lk rows us below chained instanced tables m within (ρ.rank P) log s d P ip q h.0 h.1 in
              (k.0, k.2);
          all = λ h v own i.
              let q = cell_of ρ h in
              let t = cell_fits ρ h v in
              let e : ranked_fact ρ P q ≡ h = subst (λ (x : ℕ). ranked_fact ρ x q ≡ h) own (fact_of_cell ρ h v) in
              w.counts.all q (fit_proper (length fs) ρ.principals q (formula_limit_lem rs book) few t)
              (follows_held rs book b laid lk rows us below chained instanced tables m within (ρ.rank P) log s d P ip q t (subst (Valid fs) (sym e) v)
              (subst (λ x. Derivable fs (initial rs m) (meaning fs x)) (sym e) i));
          count = sym w.counts.count;
          stand = w.stands;
        }

    known : (c : Course b lk rows us (listed b m) (length (assumptions rs)) f log s)
        → Known (call_numbers b lk rows us (rank_at b P) (listed b m) every_assumption (length (assumptions rs)) log s c)
    known =
        subst₂ (λ (k n : ℕ). (c : Closes b lk rows us k (given_all b us (listed b m) k every_assumption n log) s) → Known (call_numbers b lk rows us k (listed b m) every_assumption n log s c))
        (sym own_rank) (length-map (assumptions rs) (assumed_on (formulas rs))) known_by

    abbrev given : Course b lk rows us (listed b m) (length (assumptions rs)) f log s → List (Numbered (Fact ℕ))
    given c = numbers_given b lk rows us (listed b m) (length (formulas rs)) (length (assumptions rs)) f log s c

    abbrev written : Cell → Fact ℕ
    written q = cell_fact names P q

    -- different places have different facts
    written_apart : (q r : Cell) → Fit (length (formulas rs)) (place.principal_count (formulas rs)) q → Fit (length (formulas rs)) (place.principal_count (formulas rs)) r
        → written q ≡ written r → q ≡ r
    unfolding ranking
    written_apart q r x y e =
        let ip = goal.ip rs book b laid g there in
        let by = named rs book b laid in
        let k : ranked_fact ρ P q ≡ ranked_fact ρ P r = sym (same_fact rs book b laid P ip names by q x) ∙ (e ∙ same_fact rs book b laid P ip names by r y) in
        sym (place_of_fact ρ P q.formula q.bit x.1) ∙ (ap (cell_of ρ) k ∙ place_of_fact ρ P r.formula r.bit y.1)

    -- EACH NUMBER IS BELOW F, none is given twice, no fact gets two, and there is no gap
    pub numbers_ordered : (c : Course b lk rows us (listed b m) (length (assumptions rs)) f log s) → RunningOrder (place.F (formulas rs)) (given c)
    numbers_ordered c =
        let w = known c in
        order_told written (length (formulas rs) * (3 + 2 * place.principal_count (formulas rs))) (place.F (formulas rs)) (goal.one_block rs book b laid g there) _
        (λ x y i j. written_apart x y (w.inside x i).0 (w.inside y j).0) w.order

    -- so 16 bits hold it
    pub numbers_small : (c : Course b lk rows us (listed b m) (length (assumptions rs)) f log s) → All (λ a. a.number < 65536) (given c)
    numbers_small c =
        all_imp (λ a. a.number < place.F (formulas rs)) (λ a. a.number < 65536) (λ a l. omega (arith, size_limit rs book)) (given c) (numbers_ordered c).below

    -- NO FACT IS LOST: numbered are just those facts of the goal's principal that follow up to the goal's message
    pub numbers_follow : (c : Course b lk rows us (listed b m) (length (assumptions rs)) f log s) (h : Fact ℕ) → Valid (formulas rs) h → holder h ≡ P
        → Derivable (formulas rs) (initial rs (goal_of rs g).first) (meaning (formulas rs) h) ↔ Among h (facts (given c))
    numbers_follow c h v own =
        let w = known c in
        let ip = goal.ip rs book b laid g there in
        let by = named rs book b laid in
        let l = call_numbers b lk rows us (rank_at b P) (listed b m) every_assumption (length (assumptions rs)) log s c in
        let told : facts (given c) ≡ map written (facts l) = map-map (λ a. a.fact) (λ a. record { number = a.number; fact = written a.fact }) l ∙ sym (map-map written (λ a. a.fact) l) in (
          (λ d. subst (Among h) (sym told)
              (subst (λ x. Among x (map written (facts l))) (placed_fact rs book b laid P ip names by h v own) (among_map written (cell_of ρ h) (facts l) (w.all h v own d)))),
          (λ a.
              let i = among_image written h (facts l) (subst (Among h) told a) in
              let k = w.inside i.0 i.1 in
              subst (λ x. Derivable (formulas rs) (initial rs m) (meaning (formulas rs) x)) (sym (i.2 ∙ same_fact rs book b laid P ip names by i.0 k.0)) k.1),
        )

    -- as many are given as the log has entries, and each is where its fact stands there
    pub numbers_kept : (c : Course b lk rows us (listed b m) (length (assumptions rs)) f log s)
        → (length (given c) ≡ s.count) × All (StandsIn s.log) (call_numbers b lk rows us (rank_at b P) (listed b m) every_assumption (length (assumptions rs)) log s c)
    numbers_kept c = (told_length written (call_numbers b lk rows us (rank_at b P) (listed b m) every_assumption (length (assumptions rs)) log s c) ∙ (known c).count, (known c).stand)
