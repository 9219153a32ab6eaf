-- THE NUMBERS GIVEN to the facts of one principal are 0, 1, 2 and so on, each fact gets one, and there are no more of them than places in
-- his block: whatever list of instances is fired. Assumes nothing.
use Prim.Native.Nat.{ℕ, zero, suc, ◌+◌, ◌*◌, ◌<◌, ◌≤◌}
use native.Mathlib.Numerals.{add-one}
use native.Mathlib.Omega.{arith}
use native.Mathlib.Decide.{dec_lt}
use mathlib.Core.Path.{◌≡◌, refl, sym, ap, ap₂, ◌∙◌, subst}
use mathlib.Core.Logic.{inl, inr, ⊎_elim}
use mathlib.Core.List.{List, [], ◌∷◌, ◌++◌, map-append, map-map, append_assoc, append-nil}
use mathlib.Core.Bool.{Bool, true, false, cond}
use lib.ListN.{length, get_or, set, replicate, length-append, length-map, length-set}
use lib.Seq.{sets, get_or-set_same, get_or-set_other}
use Rattle.logic.specs.Book.{All}
use Rattle.logic.specs.Derivation.{Among}
use Rattle.logic.specs.Proof.{Distinct}
use Rattle.logic.proofs.Member.{all_at, all_of, all_imp, all_map, all_append, among_map, among_left, among_right, among_append}
use Rattle.facts.specs.declared.Cell.{Cell}
use Rattle.facts.specs.declared.Instance.{Instance}
use Rattle.facts.specs.Facts.{entry_of}
use Rattle.facts.proofs.Block.{Fit}
use Rattle.facts.proofs.NoRepeats.{distinct_snoc, distinct_map}
use Rattle.lanes.specs.Lanes.{lane, State, Common, is_new, ready, fired, run}
use Rattle.lanes.specs.Numbers.{Numbered, number_by, numbers_by, numbers, facts, StandsIn, first_numbers, RunningOrder, told_by}
use Rattle.lanes.proofs.Sets.{Proper}
use Rattle.lanes.proofs.Laws.{noted_more}
use Rattle.lanes.proofs.Fires.{Held, Wide, Sized, ready_can, can_ready, fired_grows, fired_gives, fired_only, fired_wide}
use Rattle.lanes.proofs.Runs.{run_grows}
use Rattle.lanes.proofs.NoRepeats.{few_cells}
use Rattle.lanes.proofs.History.{new_is, new_not, noting, fired_length, start_recorded}

-- THE FIRST NUMBERS
first_below : (n a : ℕ) → Among a (first_numbers n) → a < n
first_below zero a m = elim m [ ]
first_below (suc n) a m = ⊎_elim (λ h. omega (arith, first_below n a h)) (λ h. ⊎_elim (λ e. omega arith) (λ z. absurd z) h) (among_append a (first_numbers n) (n ∷ []) m)

first_distinct : (n : ℕ) → Distinct (first_numbers n)
first_distinct zero = tt
first_distinct (suc n) = distinct_snoc (first_numbers n) n (first_distinct n) (λ m. omega (arith, first_below n n m))

-- WHAT HOLDS OF THE NUMBERS l that were given up to the state s: the count is theirs, they are in order, and their facts are just those that
-- the principal of rank k holds
pub record Counts (k : ℕ) (s : State) (l : List (Numbered Cell)) : Type 0 where
  pub count : s.count ≡ length l
  pub order : numbers l ≡ first_numbers (length l)
  pub once : Distinct (facts l)
  pub held : (q : Cell) → Among q (facts l) → Proper q × Held k s q
  pub all : (q : Cell) → Proper q → Held k s q → Among q (facts l)

-- there are no more than places in the block where his facts lie
pub counts_few : (k n p : ℕ) → p ≤ 8 → (s : State) (l : List (Numbered Cell)) → ((q : Cell) → Proper q → Held k s q → Fit n p q) → Counts k s l
    → length l ≤ n * (3 + 2 * p)
counts_few k n p few s l inside w =
    let a = all_of (Fit n p) (facts l) (λ q m. let h = w.held q m in inside q h.0 h.1) in
    omega (arith, few_cells n p few (facts l) w.once a, length-map l (λ a. a.fact))

-- a number that was given is below the count
number_below : (k : ℕ) (s : State) (l : List (Numbered Cell)) → Counts k s l → (a : Numbered Cell) → Among a l → a.number < s.count
number_below k s l w a m =
    let c = first_below (length l) a.number (subst (Among a.number) w.order (among_map (λ b. b.number) a l m)) in
    let e = w.count in
    omega arith

-- every cell that is there lies in the largest block
proper_fits : (q : Cell) → Proper q → Fit 256 8 q
proper_fits q h = let b = h.1 in (
  h.0,
  elim (dec_lt q.bit 11) [
    | yes l ↦ inl l
    | no l ↦ inr (omega arith, b)
  ],
)

-- SO THEY ARE A RUNNING ORDER
pub counts_ordered : (k n p : ℕ) → p ≤ 8 → (s : State) (l : List (Numbered Cell)) → ((q : Cell) → Proper q → Held k s q → Fit n p q) → Counts k s l
    → RunningOrder (n * (3 + 2 * p)) l
counts_ordered k n p few s l inside w =
    let a = counts_few k n p few s l inside w in
    record {
      below = all_of (λ b. b.number < n * (3 + 2 * p)) l (λ b m. let c = number_below k s l w b m in let e = w.count in omega arith);
      no_number_twice = subst Distinct (sym w.order) (first_distinct (length l));
      no_fact_twice = w.once;
      without_gap = w.order;
    }

-- THE LOG: what stands before an entry stays, and the entry begins with its fact
sets_before : (v l : List ℕ) (i j : ℕ) → j < i → get_or (sets l i v) j 0 ≡ get_or l j 0
sets_before [] l i j h = refl
sets_before (a ∷ v) l i j h = sets_before v (set l i a) (suc i) j (omega arith) ∙ get_or-set_other l i j a 0 (λ e. omega arith)

sets_begin : (l : List ℕ) (i : ℕ) (by : Instance) → i + 8 ≤ length l
    → (get_or (sets l i (entry_of 0 by)) i 0 ≡ by.gives.formula) × (get_or (sets l i (entry_of 0 by)) (i + 1) 0 ≡ by.gives.bit)
sets_begin l i by h =
    let x = by.gives.formula in
    let y = by.gives.bit in
    let rest = by.kind ∷ 0 ∷ by.first.formula ∷ by.first.bit ∷ by.second.formula ∷ by.second.bit ∷ [] in
    let one : suc i ≡ i + 1 = sym (add-one i) in (
      sets_before (y ∷ rest) (set l i x) (suc i) i (omega arith) ∙ get_or-set_same l i x 0 (omega arith),
      sets_before rest (set (set l i x) (suc i) y) (suc (suc i)) (i + 1) (omega arith)
          ∙ (ap (λ j. get_or (set (set l i x) (suc i) y) j 0) (sym one) ∙ get_or-set_same (set l i x) (suc i) y 0 (rw length-set (omega arith))),
    )

-- FIRING AN INSTANCE
module _ (u : List ℕ) (k : ℕ) (s : State) (c : Common) (wd : Wide s) (z : Sized c) (l : List (Numbered Cell)) (w : Counts k s l) where
  abbrev old : ℕ
  old = lane s.words c.by.gives

  -- the count has not reached the end of 16 bits
  room : s.count < 65535
  room = let e = w.count in let f = counts_few k 256 8 (omega arith) s l (λ q p h. proper_fits q p) w in omega arith

  -- nothing is new for him
  stays : false ≡ is_new k old (ready s.words c) → Counts k (fired u k s c) l
  stays e =
      let same : ((fired u k s c).count ≡ s.count) × ((q : Cell) → Proper q → Held k (fired u k s c) q → Held k s q) =
      ⊎_elim (λ a. (a.1, λ q p h. ⊎_elim (λ b. b) (λ f. subst (Held k s) f.0 (a.2 f.1)) (fired_only u k s c wd z k q p h)))
      (λ a. absurd (a.1 (new_not k old (ready s.words c) e (can_ready u k s c wd z k a.0))))
      (noting u k s c wd z) in
      record {
        count = same.0 ∙ w.count;
        order = w.order;
        once = w.once;
        held = λ q m. let h = w.held q m in (h.0, fired_grows u k s c wd z k q h.0 h.1);
        all = λ q p h. w.all q p (same.1 q p h);
      }

  -- a fact is new for him
  abbrev more : List (Numbered Cell)
  more = record { number = s.count; fact = c.by.gives } ∷ []

  grows : true ≡ is_new k old (ready s.words c) → Counts k (fired u k s c) (l ++ more)
  grows e =
      let n = new_is k old (ready s.words c) e in
      let can = ready_can u k s c wd z k n.0 in
      let next : (fired u k s c).count ≡ s.count + 1 =
      ⊎_elim (λ a. absurd (n.1 (a.2 can))) (λ a. a.3 ∙ sym (noted_more true c.by s.log s.count refl room refl).1) (noting u k s c wd z) in
      let size : length (l ++ more) ≡ suc (length l) = length-append l more ∙ add-one (length l) in
      record {
        count = next ∙ (ap (λ x. x + 1) w.count ∙ sym (length-append l more));
        order = map-append (λ a. a.number) l more ∙ (ap₂ (λ x y. x ++ (y ∷ [])) w.order w.count ∙ ap first_numbers (sym size));
        once = subst Distinct (sym (map-append (λ a. a.fact) l more)) (distinct_snoc (facts l) c.by.gives w.once (λ m. n.1 (w.held c.by.gives m).1));
        held = λ q m. ⊎_elim
            (λ a. let h = w.held q a in (h.0, fired_grows u k s c wd z k q h.0 h.1))
            (λ a. ⊎_elim (λ f. subst (λ x. Proper x × Held k (fired u k s c) x) (sym f) (z.gives, fired_gives u k s c wd z k can)) (λ x. absurd x) a)
            (among_append q (facts l) (c.by.gives ∷ []) (subst (Among q) (map-append (λ a. a.fact) l more) m));
        all = λ q p h. subst (Among q) (sym (map-append (λ a. a.fact) l more))
            (⊎_elim (λ a. among_left q (facts l) (c.by.gives ∷ []) (w.all q p a)) (λ f. among_right q (facts l) (c.by.gives ∷ []) (inl (sym f.0)))
            (fired_only u k s c wd z k q p h));
      }

  pub fired_counts : Counts k (fired u k s c) (l ++ number_by k s c)
  unfolding number_by
  fired_counts = go (is_new k old (ready s.words c)) refl
    where
      go : (b : Bool) → b ≡ is_new k old (ready s.words c) → Counts k (fired u k s c) (l ++ cond b more [])
      go true e = grows e
      go false e = subst (Counts k (fired u k s c)) (sym (append-nil l)) (stays e)

  -- WHERE THERE IS ROOM for what is new, each number is where its fact stands in the log
  pub fired_stands : (true ≡ is_new k old (ready s.words c) → s.count * 8 + 8 ≤ length s.log) → All (StandsIn s.log) l
      → All (StandsIn (fired u k s c).log) (l ++ number_by k s c)
  unfolding number_by
  fired_stands long h = go (is_new k old (ready s.words c)) refl
    where
      kept : (fired u k s c).log ≡ s.log → All (StandsIn (fired u k s c).log) l
      kept e = subst (λ g. All (StandsIn g) l) (sym e) h

      entered_too : (g : List ℕ) → s.count * 8 + 8 ≤ length s.log → g ≡ sets s.log (s.count * 8) (entry_of 0 c.by) → All (StandsIn g) (l ++ more)
      entered_too g r e =
          subst (λ g. All (StandsIn g) (l ++ more)) (sym e)
          (all_append (StandsIn (sets s.log (s.count * 8) (entry_of 0 c.by))) l more
          (all_of (StandsIn (sets s.log (s.count * 8) (entry_of 0 c.by))) l
          (λ a m.
          let b = number_below k s l w a m in
          let f = all_at (StandsIn s.log) a l h m in (
            sets_before (entry_of 0 c.by) s.log (s.count * 8) (a.number * 8) (omega arith) ∙ f.0,
            sets_before (entry_of 0 c.by) s.log (s.count * 8) (a.number * 8 + 1) (omega arith) ∙ f.1,
          )))
          (sets_begin s.log (s.count * 8) c.by (omega arith), tt))

      go : (b : Bool) → b ≡ is_new k old (ready s.words c) → All (StandsIn (fired u k s c).log) (l ++ cond b more [])
      go true e =
          let n = new_is k old (ready s.words c) e in
          let can = ready_can u k s c wd z k n.0 in
          ⊎_elim (λ a. absurd (n.1 (a.2 can)))
          (λ a. entered_too (fired u k s c).log (long e) (a.2 ∙ sym (noted_more true c.by s.log s.count refl room refl).0))
          (noting u k s c wd z)
      go false e =
          rw (append-nil l)
          (⊎_elim (λ a. kept a.0) (λ a. absurd (a.1 (new_not k old (ready s.words c) e (can_ready u k s c wd z k a.0)))) (noting u k s c wd z))

-- FIRING A LIST
module _ (u : List ℕ) (k : ℕ) where
  pub run_counts : (cs : List Common) → All Sized cs → (s : State) → Wide s → (l : List (Numbered Cell)) → Counts k s l → Counts k (run u k s cs) (l ++ numbers_by u k s cs)
  unfolding run numbers_by
  run_counts [] z s w l a = subst (Counts k s) (sym (append-nil l)) a
  run_counts (c ∷ cs) z s w l a =
      subst (Counts k (run u k (fired u k s c) cs)) (append_assoc l (number_by k s c) (numbers_by u k (fired u k s c) cs))
      (run_counts cs z.1 (fired u k s c) (fired_wide u k s c w z.0) (l ++ number_by k s c) (fired_counts u k s c w z.0 l a))

  -- where nobody holds anything yet
  pub start_counts : (s : State) → s.words ≡ replicate 1024 0 → s.count ≡ 0 → Counts k s []
  start_counts s e z = record {
    count = z;
    order = refl;
    once = tt;
    held = λ q m. absurd m;
    all = λ q p h. (start_recorded k 1024 s e z).logged q p h;
  }

  -- WHATEVER LIST IS FIRED, the numbers are a running order: there are at most as many as places in the block where the facts lie that the
  -- principal then holds
  pub run_ordered : (cs : List Common) → All Sized cs → (s : State) → Wide s → s.words ≡ replicate 1024 0 → s.count ≡ 0
      → (n p : ℕ) → p ≤ 8 → ((q : Cell) → Proper q → Held k (run u k s cs) q → Fit n p q) → RunningOrder (n * (3 + 2 * p)) (numbers_by u k s cs)
  run_ordered cs z s w e f n p few inside = counts_ordered k n p few (run u k s cs) (numbers_by u k s cs) inside (run_counts cs z s w [] (start_counts s e f))

  -- so of any at all there are at most 4,864
  pub run_bounded : (cs : List Common) → All Sized cs → (s : State) → Wide s → s.words ≡ replicate 1024 0 → s.count ≡ 0 → RunningOrder 4864 (numbers_by u k s cs)
  run_bounded cs z s w e f = run_ordered cs z s w e f 256 8 (omega arith) (λ q p h. proper_fits q p)

  -- WHERE THERE IS ROOM for the whole block, each number is where its fact stands in the log
  pub run_stands : (n p : ℕ) → p ≤ 8 → (cs : List Common) → All Sized cs → (s : State) → Wide s → (l : List (Numbered Cell)) → Counts k s l
      → n * (3 + 2 * p) * 8 ≤ length s.log → ((q : Cell) → Proper q → Held k (run u k s cs) q → Fit n p q)
      → All (StandsIn s.log) l → All (StandsIn (run u k s cs).log) (l ++ numbers_by u k s cs)
  unfolding run numbers_by number_by
  run_stands n p few [] z s w l a long inside h = rw (append-nil l) h
  run_stands n p few (c ∷ cs) z s w l a long inside h =
      let next = fired u k s c in
      let wn = fired_wide u k s c w z.0 in
      let b = fired_counts u k s c w z.0 l a in
      let here : (q : Cell) → Proper q → Held k next q → Fit n p q = λ q y g. inside q y (run_grows u k cs z.1 next wn k q y g) in
      let f = counts_few k n p few next (l ++ number_by k s c) here b in
      subst (All (StandsIn (run u k next cs).log)) (append_assoc l (number_by k s c) (numbers_by u k next cs))
      (run_stands n p few cs z.1 next wn (l ++ number_by k s c) b (rw (fired_length u k s c w z.0) long) inside
      (fired_stands u k s c w z.0 l a (λ e. room_for e (number_by k s c) refl f) h))
    where
      room_for : true ≡ is_new k (lane s.words c.by.gives) (ready s.words c) → (m : List (Numbered Cell)) → m ≡ number_by k s c
          → length (l ++ m) ≤ n * (3 + 2 * p) → s.count * 8 + 8 ≤ length s.log
      room_for e m d f =
          let one : length m ≡ 1 = ap length d ∙ rw (← e) refl in
          let g = a.count in
          omega (arith, length-append l m)

-- THE SAME NUMBERS with their facts told in another way, which tells them apart, and a larger bound
pub order_told : {Fact Told : Type 0} (f : Fact → Told) (N M : ℕ) → N ≤ M → (l : List (Numbered Fact))
    → ((x y : Fact) → Among x (facts l) → Among y (facts l) → f x ≡ f y → x ≡ y) → RunningOrder N l → RunningOrder M (told_by f l)
order_told {Fact} {Told} f N M h l apart o =
    let told : Numbered Fact → Numbered Told = λ a. record { number = a.number; fact = f a.fact } in
    record {
      below = all_map told (λ a. a.number < M) l (all_imp (λ a. a.number < N) (λ a. a.number < M) (λ a g. omega arith) l o.below);
      no_number_twice = subst Distinct (sym (map-map (λ a. a.number) told l)) o.no_number_twice;
      no_fact_twice = subst Distinct (map-map f (λ a. a.fact) l ∙ sym (map-map (λ a. a.fact) told l)) (distinct_map f (facts l) apart o.no_fact_twice);
      without_gap = map-map (λ a. a.number) told l ∙ (o.without_gap ∙ ap first_numbers (sym (length-map l told)));
    }

pub told_length : {Fact Told : Type 0} (f : Fact → Told) (l : List (Numbered Fact)) → length (told_by f l) ≡ length l
told_length f l = length-map l (λ a. record { number = a.number; fact = f a.fact })
