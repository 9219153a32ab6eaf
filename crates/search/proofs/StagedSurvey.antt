-- THE SURVEY BY STAGES is the survey: the table that the stages leave holds what the place rule says, and the count is that of its bytes.
-- Assumes nothing.
use Prim.Native.Nat.{ℕ, suc, ◌+◌, ◌*◌, ◌/◌, ◌%◌, ◌<◌, ◌≤◌}
use native.Mathlib.Nat.{mul_assoc, mod-lt, div-add-mod', div-lt_iff_lt-mul, zero-add, le_refl, mul-zero}
use native.Mathlib.Omega.{arith}
use native.Mathlib.Decide.{ℕ_discrete}
use mathlib.Core.Path.{◌≡◌, refl, sym, ap, ◌∙◌, subst}
use mathlib.Core.Logic.{inl, inr, ⊎_elim}
use mathlib.Core.List.{List, [], ◌++◌, map}
use mathlib.Core.Bool.{Bool, true, false, cond}
use lib.ListN.{length, length-map, get_or, take, replicate, get_or-replicate}
use Rattle.logic.specs.declared.Record.{Record}
use Rattle.logic.specs.Count.{formulas, assumptions, messages}
use Rattle.logic.specs.Book.{Book}
use Rattle.logic.specs.Fact.{Fact, initial}
use Rattle.logic.specs.Derivation.{Derivable}
use Rattle.logic.specs.Written.{meaning, is_written}
use Rattle.logic.specs.Place as place
use Rattle.logic.specs.Survey.{ByteOf, PlaceHolds, IsSurvey, held}
use Rattle.logic.proofs.Contents.{contents}
use Rattle.logic.proofs.Derivable.{follows_later, follows_last}
use Rattle.logic.proofs.Follows.{formula_limit_lem, assumption_limit_lem, message_limit_lem}
use Rattle.logic.proofs.Formulas.{Formulas}
use Rattle.logic.proofs.Initial.{assumed_on, delivered_on, initial_means}
use Rattle.logic.proofs.Meaning.{IsPrincipal, Valid, valid, written}
use Rattle.logic.proofs.Tests.{T_true, true_T}
use Rattle.facts.specs.declared.Cell.{Cell}
use Rattle.facts.specs.Block as block
use Rattle.facts.proofs.Block.{Fit, fact_fits, place_fact}
use Rattle.facts.specs.Facts.{bit_at}
use Rattle.lanes.specs.Lanes.{lane, State}
use Rattle.lanes.proofs.Fires.{Held}
use Rattle.flat.proofs.Cells.{Ranking, Represents, ranked_fact, place_of_fact, holder_fact}
use Rattle.layout.proofs.FlatBook.{Laid}
use Rattle.layout.proofs.FlatBytes.{Whole}
use Rattle.stamps.proofs.Places.{Inside}
use Rattle.tables.specs.Links.{linked}
use Rattle.tables.specs.Users.{users_of}
use Rattle.rules.proofs.RulesSized.{fit_proper}
use Rattle.rules.proofs.Closing.{none_held}
use Rattle.rules.proofs.Settled.{settled_complete}
use Rattle.tables.specs.Deliveries.{listed}
use Rattle.stamps.specs.Stamps as stamps
use Rattle.rules.specs.Close.{Closes}
use Rattle.rules.proofs.Tables.{Instanced}
use Rattle.rules.proofs.SettledState.{SettledIn}
use Rattle.stages.specs.Stages.{nothing, none_stamped, delivered_from, stamps_from, IsTurn, stamped_with, Staged}
use Rattle.stages.specs.Stages.Staged.{begun, turn}
use Rattle.stages.proofs.Turns.{getD_inside, stamps_length}
use Rattle.search.specs.Laid.{every_assumption}
use Rattle.search.proofs.FlatRepresents.{ranking, represented}
use Rattle.search.proofs.Starts.{given_is, starts}
use Rattle.search.proofs.BlockPlaces.{at_block}
use Rattle.search.proofs.BookTables.{links, users, chains_linked, links_below, tables_laid}
use Rattle.search.proofs.StageState.{Closed, all_inside, valid_upto, staged_state, Seen, turn_seen}
use Rattle.search.proofs.StageState.Seen.{same, more_follows}
use Rattle.search.proofs.StageTable.{DatedBy, Tabled, none_tabled, stage_more}

-- a place by whether its fact may be written
holds_by : (w : Bool) (A B : Type 0) → (w ≡ true → A) → (w ≡ false → B) → cond w A B
holds_by true A B f g = f refl
holds_by false A B f g = g refl

module _ (rs : List Record) (book : Book rs) (b : List ℕ) (laid : Laid rs b) (whole : Whole b (length (formulas rs)))
    (rows : List ℕ) (instanced : Instanced (formulas rs) b rows) where
  abbrev fs : List Record
  fs = formulas rs

  abbrev n : ℕ
  n = length (formulas rs)

  abbrev p : ℕ
  p = place.principal_count (formulas rs)

  abbrev block_of : ℕ
  block_of = length (formulas rs) * (3 + 2 * place.principal_count (formulas rs))

  abbrev ρ : Ranking (formulas rs)
  ρ = ranking rs book

  abbrev ok : Formulas (formulas rs)
  ok = (contents rs book).formulas_ok

  abbrev rep : Represents (ranking rs book) b
  rep = represented rs book b laid

  abbrev lk : List ℕ
  lk = links rs book b laid whole

  abbrev us : List ℕ
  us = users rs book b laid whole rows instanced

  abbrev α : List (Fact ℕ)
  α = map (assumed_on (formulas rs)) (assumptions rs)

  abbrev ms : List (Fact ℕ)
  ms = map delivered_on (messages rs)

  few : place.principal_count (formulas rs) ≤ 8
  unfolding ranking
  few = (ranking rs book).few

  small : length (formulas rs) ≤ 256
  small = formula_limit_lem rs book

  means : (m : ℕ) → map (meaning (formulas rs)) (α ++ take m ms) ≡ initial rs m
  means m = ap (map (meaning (formulas rs))) (given_is rs m) ∙ initial_means rs (contents rs book) m

  -- the fact at a cell, of the principal of rank P; and that it follows after m messages
  abbrev fact : ℕ → Cell → Fact ℕ
  fact P q = ranked_fact (ranking rs book) (place.ranked (formulas rs) P) q

  abbrev After : ℕ → ℕ → Cell → Type 0
  After m P q = Valid (formulas rs) (fact P q) × Derivable (formulas rs) (initial rs m) (meaning (formulas rs) (fact P q))

  -- the state after m messages, for all principals and for one
  abbrev ClosedAfter : ℕ → State → Type 0
  ClosedAfter m s =
      Closed (formulas rs) ok ρ b rep lk rows (links_below rs book b laid whole) (chains_linked rs book b laid whole) instanced us (tables_laid rs book b laid whole rows instanced) 8 (α ++ take m ms) s

  module _ (P : ℕ) (l : P < place.principal_count (formulas rs)) where
    abbrev a : ℕ
    a = place.ranked (formulas rs) P

    named : IsPrincipal (formulas rs) a × (place.rank (formulas rs) a ≡ P)
    unfolding ranking
    named = (ranking rs book).named P l

    abbrev SettledAfter : ℕ → State → Type 0
    SettledAfter m s =
        SettledIn (formulas rs) ok ρ b rep lk rows (links_below rs book b laid whole) (chains_linked rs book b laid whole) instanced a named.0 (α ++ take m ms) s

    module _ (m : ℕ) (s : State) (so : SettledAfter m s) (q : Cell) (f : Fit (length (formulas rs)) (place.principal_count (formulas rs)) q) where
      -- WHAT HE HOLDS is just what follows
      held_after_lem : Held P s q → After m P q
      unfolding ranking
      held_after_lem h =
          let w = (so.entered.sound q (fit_proper n p q small few f) (subst (λ z. Held z s q) (sym named.1) h)).1 in
          (w.0, subst (λ g. Derivable (formulas rs) g (meaning (formulas rs) (fact P q))) (means m) w.1)

      after_held : After m P q → Held P s q
      unfolding ranking
      after_held d =
          let w =
          settled_complete (formulas rs) ok ρ b rep lk rows (links_below rs book b laid whole) (chains_linked rs book b laid whole) instanced a named.0 (α ++ take m ms) (λ c. Held ((ranking rs book).rank a) s c)
          so (valid_upto (formulas rs) ok ρ b rep lk rows (links_below rs book b laid whole) (chains_linked rs book b laid whole) instanced us (tables_laid rs book b laid whole rows instanced) 8 α ms (starts rs book b laid) m)
          (fact P q) (holder_fact (ranking rs book) a q)
          (d.0, subst (λ g. Derivable (formulas rs) g (meaning (formulas rs) (fact P q))) (sym (means m)) d.1) in
          subst (λ z. Held z s q) named.1 (subst (Held ((ranking rs book).rank a) s) (place_of_fact (ranking rs book) a q.formula q.bit f.1) w)

  inside_after : (m : ℕ) (s : State) → ClosedAfter m s → Inside s.words (length (formulas rs)) (place.principal_count (formulas rs))
  unfolding ranking
  inside_after m s so =
      all_inside (formulas rs) ok ρ b rep lk rows (links_below rs book b laid whole) (chains_linked rs book b laid whole) instanced us (tables_laid rs book b laid whole rows instanced) 8 (α ++ take m ms) s so

  -- THE STAGES
  abbrev ds : List ℕ
  ds = listed b (length ms)

  few_messages : length ms ≤ 16
  few_messages = rw length-map (message_limit_lem rs book)

  few_assumptions : length α ≤ 64
  few_assumptions = rw length-map (assumption_limit_lem rs book)

  abbrev StagedAs : (m : ℕ) → State → (f t : List ℕ) → ℕ → Type 0
  StagedAs m s f t h = Staged b lk rows us ds n p every_assumption (length α) (replicate (place.F (formulas rs)) 0) m s f t h

  abbrev TabledAfter : ℕ → State → List ℕ → List ℕ → ℕ → Type 0
  TabledAfter c s f t h = Tabled n p small few After c s f t h

  room : place.F (formulas rs) ≡ place.principal_count (formulas rs) * block_of
  unfolding place.F
  room = mul_assoc (place.principal_count (formulas rs)) (length (formulas rs)) (3 + 2 * place.principal_count (formulas rs))

  closed_after : (m : ℕ) (s : State) (f t : List ℕ) (h : ℕ) → StagedAs m s f t h → (m ≤ length ms) × ClosedAfter m s
  closed_after m s f t h d =
      staged_state (formulas rs) ok ρ b rep lk rows (links_below rs book b laid whole) (chains_linked rs book b laid whole) instanced us (tables_laid rs book b laid whole rows instanced) 8 α ms
      (starts rs book b laid) few_messages refl few_assumptions n p (replicate (place.F (formulas rs)) 0) m s f t h d

  later : (i j : ℕ) → i ≤ j → (P : ℕ) (q : Cell) → After i P q → After j P q
  later i j l P q w = (w.0, follows_later rs i j l (meaning (formulas rs) (fact P q)) w.1)

  -- a turn of c messages from m on
  module _ (m c : ℕ) (s s' : State) (lm : m ≤ length ms) (was : ClosedAfter m s) (i : IsTurn ds m c) (is : ClosedAfter (m + c) s')
      (cl : Closes b lk rows us 8 (delivered_from ds us 8 m c s) s') (P : ℕ) (l : P < place.principal_count (formulas rs)) where
    abbrev v : List ℕ
    v = stamps_from ds m c

    settled_was : SettledAfter P l m s
    settled_was = was.settled (place.ranked (formulas rs) P) (named P l).0

    settled_is : SettledAfter P l (m + c) s'
    settled_is = is.settled (place.ranked (formulas rs) P) (named P l).0

    abbrev SeenBy : Type 0
    SeenBy =
        Seen (formulas rs) ok ρ b rep lk rows (links_below rs book b laid whole) (chains_linked rs book b laid whole) instanced us (tables_laid rs book b laid whole rows instanced) 8 α ms
        (starts rs book b laid) few_messages m lm s was (place.ranked (formulas rs) P) (named P l).0 c s'

    seen : SeenBy
    seen =
        turn_seen (formulas rs) ok ρ b rep lk rows (links_below rs book b laid whole) (chains_linked rs book b laid whole) instanced us (tables_laid rs book b laid whole rows instanced) 8 α ms
        (starts rs book b laid) few_messages m lm s was (place.ranked (formulas rs) P) (named P l).0 c i s' cl

    -- his stamp
    stamp_is : (w : ℕ) → get_or v ((ranking rs book).rank (place.ranked (formulas rs) P)) 1 ≡ w → get_or v P 0 ≡ w
    unfolding ranking
    stamp_is w e =
        getD_inside v P 0 1 (let z = few in rw (stamps_length ds m c) (omega arith)) ∙ subst (λ r. get_or v r 1 ≡ w) (named P l).1 e

    some_stamp : 0 < get_or v P 0
    some_stamp = go seen
      where
        go : SeenBy → 0 < get_or v P 0
        go (same w e) = rw (stamp_is 1 e) (omega arith)
        go (more_follows j lj was-j is-j e) = rw (stamp_is (j + 2) e) (omega arith)

    module _ (q : Cell) (f : Fit (length (formulas rs)) (place.principal_count (formulas rs)) q) where
      turn_grows : Held P s q → Held P s' q
      turn_grows h = after_held P l (m + c) s' settled_is q f (later m (m + c) (omega arith) P q (held_after_lem P l m s settled_was q f h))

      turn_complete : (k : ℕ) → k < suc (m + c) → After k P q → Held P s' q
      turn_complete k lk d = after_held P l (m + c) s' settled_is q f (later k (m + c) (omega arith) P q d)

      turn_begins : Held P s' q → (Held P s q → ⊥)
          → (k : ℕ) × (k < suc (m + c)) × (get_or v P 0 ≡ 1 + k) × After k P q × ((j : ℕ) → j < k → After j P q → Held P s q)
      turn_begins h n = go seen
        where
          go : SeenBy → (k : ℕ) × (k < suc (m + c)) × (get_or v P 0 ≡ 1 + k) × After k P q × ((j : ℕ) → j < k → After j P q → Held P s q)
          go (same w e) = absurd (n (after_held P l m s settled_was q f (held_after_lem P l m s' w q f h)))
          go (more_follows j lj was-j is-j e) = (
            suc j,
            omega arith,
            stamp_is (j + 2) e ∙ (let z : j + 2 ≡ 1 + suc j = omega arith in z),
            held_after_lem P l (suc j) s' is-j q f h,
            λ k lk d. after_held P l j s was-j q f (later k j (omega arith) P q d),
          )

  tabled_after : (m : ℕ) (s : State) (f t : List ℕ) (h : ℕ) → StagedAs m s f t h → TabledAfter (suc m) s f t h
  tabled_after _ _ _ _ _ (begun s z c e) =
      let so = (closed_after 0 s z.before z.stamps.bytes z.stamps.count (begun s z c e)).1 in
      let start = none_tabled n p small few After (place.F (formulas rs)) room in
      let one : (P : ℕ) → P < p → ◌≡◌ {A = ℕ} (get_or (replicate 8 1) P 0) 1 = λ P l. get_or-replicate 8 P 1 0 (let y = few in omega arith) in
      subst (λ z. TabledAfter 1 s z.before z.stamps.bytes z.stamps.count) (sym e)
      (subst (λ h. TabledAfter 1 s (first s).before (first s).stamps.bytes h) (zero-add (first s).stamps.count)
      (stage_more n p small few After 0 1 (omega arith) (nothing []) s none_stamped (replicate (place.F (formulas rs)) 0) 0 start (inside_after 0 s so) (replicate 8 1)
      (λ P k q f h. absurd (none_held (nothing []) refl P q h))
      (λ P l q f h x. (0, omega arith, one P l, held_after_lem P l 0 s (so.settled (place.ranked (formulas rs) P) (named P l).0) q f h, λ j k d. absurd (omega arith)))
      (λ P l q f k lk d.
      let y : k ≡ 0 = omega arith in
      after_held P l 0 s (so.settled (place.ranked (formulas rs) P) (named P l).0) q f (subst (λ j. After j P q) y d))
      (λ P l. rw (one P l) (omega arith))))
    where
      first : State → stamps.State
      first s = stamped_with s.words (replicate 8 1) n p none_stamped (replicate (place.F (formulas rs)) 0)
  tabled_after _ _ _ _ _ (turn m c next s s' f t h z d en i cl e) =
      let w = closed_after m s f t h d in
      let so : ClosedAfter (m + c) s' = subst (λ k. ClosedAfter k s') en (closed_after next s' z.before z.stamps.bytes (h + z.stamps.count) (turn m c next s s' f t h z d en i cl e)).1 in
      subst (λ k. TabledAfter (suc k) s' z.before z.stamps.bytes (h + z.stamps.count)) (sym en)
      (subst (λ z. TabledAfter (suc (m + c)) s' z.before z.stamps.bytes (h + z.stamps.count)) (sym e)
      (stage_more n p small few After (suc m) (suc (m + c)) (omega arith) s s' f t h (tabled_after m s f t h d) (inside_after (m + c) s' so) (stamps_from ds m c)
      (λ P l q g. turn_grows m c s s' w.0 w.1 i so cl P l q g) (λ P l q g. turn_begins m c s s' w.0 w.1 i so cl P l q g)
      (λ P l q g. turn_complete m c s s' w.0 w.1 i so cl P l q g) (λ P l. some_stamp m c s s' w.0 w.1 i so cl P l)))

  -- THE PLACES
  unwritten : (g : Fact ℕ) → is_written (formulas rs) g ≡ false → Valid (formulas rs) g → ⊥
  unwritten g w v = let z = T_true (is_written (formulas rs) g) (written (formulas rs) g v) in let y : ◌≡◌ {A = ℕ} 0 1 = cc in omega arith

  module _ (s : State) (f t : List ℕ) (h : ℕ) (so : TabledAfter (suc (length (messages rs))) s f t h) where
    -- what stands at place k of the block of rank P
    at_place : (P k : ℕ) → P < place.principal_count (formulas rs) → k < block_of → PlaceHolds (formulas rs) (initial rs) (P * block_of + k) (get_or t (P * block_of + k) 0)
    at_place P k l lk =
        rw (at_block rs book P k lk)
        (holds_by (is_written (formulas rs) g) (ByteOf (formulas rs) (initial rs) (meaning (formulas rs) g) v) (v ≡ 0)
        (λ w.
        let u = valid (formulas rs) g (true_T (is_written (formulas rs) g) w) in
        ⊎_elim
        (λ i. inl (i.0, λ m d. i.2 (length (messages rs)) (le_refl (suc (length (messages rs)))) (u, follows_last rs m (meaning (formulas rs) g) d)))
        (λ i. inr (i.1.0, i.1.2, (i.1.3.1, λ j m x. i.1.4 j m (u, x))))
        dated)
        (λ w. ⊎_elim (λ i. i.0) (λ i. absurd (unwritten g w i.1.3.0)) dated))
      where
        q : Cell
        q = block.cell_at (place.principal_count (formulas rs)) k

        g : Fact ℕ
        g = fact P (block.cell_at (place.principal_count (formulas rs)) k)

        v : ℕ
        v = get_or t (P * block_of + k) 0

        dated : DatedBy (λ m. After m P (block.cell_at (place.principal_count (formulas rs)) k)) (bit_at (lane s.words (block.cell_at (place.principal_count (formulas rs)) k)) P) (suc (length (messages rs))) (get_or t (P * block_of + k) 0)
        dated =
            subst (λ x. DatedBy (λ m. After m P q) (bit_at (lane s.words q) P) (suc (length (messages rs))) (get_or t (P * block_of + x) 0))
            (place_fact p few k) (so.dated P l q (fact_fits p few n k lk))

    is_survey : IsSurvey (formulas rs) (initial rs) t
    is_survey = record {
      size = so.size ∙ sym room;
      holds = λ i l.
          let e = room in
          let r : i < p * block_of = omega arith in
          let d : 0 < block_of = elim (ℕ_discrete block_of 0) [ yes z ↦ absurd (let y : p * block_of ≡ p * 0 = ap (λ x. p * x) z in let x = mul-zero p in omega arith) | no z ↦ omega arith ] in
          let q : i / block_of * block_of + i % block_of ≡ i = div-add-mod' i block_of in
          subst (λ j. PlaceHolds (formulas rs) (initial rs) j (get_or t j 0)) q
          (at_place (i / block_of) (i % block_of) ((div-lt_iff_lt-mul {k = block_of} {x = i} {y = p} d).1 r) (mod-lt i d));
    }

  -- THE SURVEY
  pub staged_survey : {s : State} {f t : List ℕ} {h : ℕ}
      → Staged b (linked b (length (formulas rs)) (replicate 512 0)) rows (users_of b (length (formulas rs)) (replicate 1024 0)) (listed b (length (messages rs))) (length (formulas rs))
      (place.principal_count (formulas rs)) every_assumption (length (assumptions rs)) (replicate (place.F (formulas rs)) 0) (length (messages rs)) s f t h
      → IsSurvey (formulas rs) (initial rs) t × (h ≡ held t)
  staged_survey {s} {f} {t} {h} d =
      let em : length ms ≡ length (messages rs) = length-map (messages rs) delivered_on in
      let ea : length α ≡ length (assumptions rs) = length-map (assumptions rs) (assumed_on (formulas rs)) in
      let w = tabled_after (length (messages rs)) s f t h
      (subst (λ k. Staged b lk rows us (listed b k) n p every_assumption (length α) (replicate (place.F (formulas rs)) 0) (length (messages rs)) s f t h) (sym em)
      (subst (λ k. Staged b lk rows us (listed b (length (messages rs))) n p every_assumption k (replicate (place.F (formulas rs)) 0) (length (messages rs)) s f t h) (sym ea) d)) in
      (is_survey s f t h w, w.tally)
