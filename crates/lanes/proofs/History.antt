-- The log of the principal of rank P as a history: its entries are just the facts that P holds, in the order in which they were found;
-- what an entry asks for stands in entries before it; no fact is entered twice; and there is always room. Assumes nothing.
use Prim.Native.Nat.{ℕ, zero, suc, ◌+◌, ◌*◌, ◌/◌, ◌%◌, ◌^◌, ◌<◌, ◌≤◌}
use native.Mathlib.Nat.{zero-div}
use native.Mathlib.Numerals.{add-one}
use native.Mathlib.Omega.{arith}
use mathlib.Core.Path.{◌≡◌, refl, sym, ap, ◌∙◌, subst}
use mathlib.Core.Logic.{◌⊎◌, inl, inr, ⊎_elim}
use mathlib.Core.List.{List, [], ◌∷◌, ◌++◌, append_assoc}
use mathlib.Core.Bool.{Bool, true, false, cond, not, ◌&&◌}
use lib.ListN.{length, get_or, take, drop, replicate, length-append}
use lib.Seq.{sets, sets-eq, take_at, length-take-le, length-sets}
use lib.Dec.{ltb}
use Rattle.logic.specs.Book.{All}
use Rattle.logic.specs.Derivation.{Among}
use Rattle.logic.proofs.Member.{all_append, all_imp, all_of}
use Rattle.facts.specs.declared.Cell.{Cell}
use Rattle.facts.specs.declared.Instance.{Instance}
use Rattle.facts.specs.Facts.{bit_at, entry_of}
use Rattle.facts.proofs.Block.{Fit}
use Rattle.facts.proofs.History.{Entry, entry, found, log_bytes, Proper as ProperHistory}
use Rattle.lanes.specs.Lanes.{lane, State, Common, is_new, noted, counted, ready, fired, run}
use Rattle.lanes.proofs.Sets.{Proper, apart}
use Rattle.lanes.proofs.Laws.{no_rank, noted_none, noted_more}
use Rattle.lanes.proofs.Fires.{Held, Wide, Sized, Can, next, outcome, ready_small, ready_can, can_ready, fired_grows, fired_gives, fired_only, fired_wide}
use Rattle.lanes.proofs.Runs.{Leads, asked_more}
use Rattle.lanes.proofs.NoRepeats.{few_entries}

-- the state s has the history h of P
pub record Recorded (P : ℕ) (s : State) (h : List Entry) : Type 0 where
  pub number : length h ≡ s.count
  pub bytes : take (s.count * 8) s.log ≡ log_bytes h
  pub logged : (q : Cell) → Proper q → Held P s q → Among q (found h)
  pub held : (q : Cell) → Among q (found h) → Proper q × Held P s q
  pub proper : ProperHistory h

-- at the start nobody holds anything
zeros_at : (n k : ℕ) → ◌≡◌ {A = ℕ} (get_or (replicate n 0) k 0) 0
zeros_at zero k = refl
zeros_at (suc n) zero = refl
zeros_at (suc n) (suc k) = zeros_at n k

none_held : (P n : ℕ) (q : Cell) → bit_at (lane (replicate n 0) q) P ≡ false
unfolding lane bit_at
none_held P n q = rw (zeros_at n (q.formula + 256 * ((q.bit + 5) / 8 % 4)), zero-div (2 ^ (8 * ((q.bit + 5) % 8))), zero-div (2 ^ P))

pub start_recorded : (P n : ℕ) (s : State) → s.words ≡ replicate n 0 → s.count ≡ 0 → Recorded P s []
start_recorded P n s e z =
    record {
      number = sym z;
      bytes = ap (λ k. take (k * 8) s.log) z;
      logged = λ q p h. apart (h ∙ (ap (λ ws. bit_at (lane ws q) P) e ∙ none_held P n q));
      held = λ q m. absurd m;
      proper = tt;
    }

-- one entry more
next_bytes : (l v : List ℕ) (c : ℕ) → length v ≡ 8 → c * 8 + 8 ≤ length l → take ((c + 1) * 8) (sets l (c * 8) v) ≡ take (c * 8) l ++ v
next_bytes l v c e r =
    rw (sets-eq v l (c * 8) (omega arith))
    (take_at (take (c * 8) l ++ v) (drop (c * 8 + length v) l) ((c + 1) * 8)
    (length-append (take (c * 8) l) v ∙ rw (length-take-le (c * 8) l (omega arith), e) (omega arith)))

-- room for one entry
abbrev pub Room : State → Type 0
Room s = (s.count < 65535) × (s.count * 8 + 8 ≤ length s.log)

-- whether a rank is new in a set
pub new_is : (k old new : ℕ) → true ≡ is_new k old new → (true ≡ bit_at new k) × (true ≡ bit_at old k → ⊥)
unfolding is_new
new_is k old new e = go (bit_at new k) (bit_at old k) e
  where
    go : (a b : Bool) → true ≡ (a && not b) → (true ≡ a) × (true ≡ b → ⊥)
    go true true e = apart e
    go true false e = (refl, λ f. apart f)
    go false b e = apart e

pub new_not : (k old new : ℕ) → false ≡ is_new k old new → true ≡ bit_at new k → true ≡ bit_at old k
unfolding is_new
new_not k old new e f = go (bit_at old k) (rw (← f) at e)
  where
    go : (b : Bool) → false ≡ (true && not b) → true ≡ b
    go true e = refl
    go false e = apart (sym e)

noted_length : (news : Bool) (i : Instance) (l : List ℕ) (n : ℕ) → length (noted news i l n) ≡ length l
unfolding noted
noted_length news i l n = go (news && ltb n 65535)
  where
    go : (b : Bool) → length (cond b (sets l (n * 8) (entry_of 0 i)) l) ≡ length l
    go true = length-sets l (n * 8) (entry_of 0 i)
    go false = refl

module _ (u : List ℕ) (k : ℕ) (s : State) (c : Common) (wd : Wide s) (z : Sized c) where
  -- Nothing is noted: then k holds the fact already, or cannot conclude it. Or the instance is noted, since k can and did not hold it.
  abbrev pub Same : Type 0
  Same = ((fired u k s c).log ≡ s.log) × ((fired u k s c).count ≡ s.count) × (Can k s c → Held k s c.by.gives)

  abbrev pub New : Type 0
  New =
      Can k s c × (Held k s c.by.gives → ⊥)
      × ((fired u k s c).log ≡ noted true c.by s.log s.count) × ((fired u k s c).count ≡ counted true s.count)

  pub noting : Same ⊎ New
  unfolding fired
  noting =
      ⊎_elim
      (λ e. inl (ap (λ t. t.log) e.0, ap (λ t. t.count) e.0, λ a. subst (λ t. Held k t c.by.gives) e.0 (fired_gives u k s c wd z k a)))
      (λ e. go e.0 (is_new k (lane s.words c.by.gives) (ready s.words c)) refl)
      (outcome u k (ready s.words c) c.by s (ready_small u k s c wd z))
    where
      go : fired u k s c ≡ next u k (ready s.words c) c.by s
          → (b : Bool) → b ≡ is_new k (lane s.words c.by.gives) (ready s.words c) → Same ⊎ New
      go e false f =
          inl (
            ap (λ t. t.log) e ∙ (ap (λ b. noted b c.by s.log s.count) (sym f) ∙ sym (noted_none false c.by s.log s.count refl).0),
            ap (λ t. t.count) e ∙ (ap (λ b. counted b s.count) (sym f) ∙ sym (noted_none false c.by s.log s.count refl).1),
            λ a. new_not k (lane s.words c.by.gives) (ready s.words c) f (can_ready u k s c wd z k a),
          )
      go e true f =
          let a = new_is k (lane s.words c.by.gives) (ready s.words c) f in
          inr (
            ready_can u k s c wd z k a.0,
            a.1,
            ap (λ t. t.log) e ∙ ap (λ b. noted b c.by s.log s.count) (sym f),
            ap (λ t. t.count) e ∙ ap (λ b. counted b s.count) (sym f),
          )

  -- the length of the log stays
  pub fired_length : length (fired u k s c).log ≡ length s.log
  unfolding fired
  fired_length =
      ⊎_elim (λ e. ap (λ t. length t.log) e.0)
      (λ e. ap (λ t. length t.log) e.0 ∙ noted_length (is_new k (lane s.words c.by.gives) (ready s.words c)) c.by s.log s.count)
      (outcome u k (ready s.words c) c.by s (ready_small u k s c wd z))

  -- WHERE THERE IS ROOM for what is new, the log stays a history
  pub fired_recorded : (h : List Entry) → (Can k s c → (Held k s c.by.gives → ⊥) → Room s) → Recorded k s h
      → Recorded k (fired u k s c) h ⊎ (Can k s c × Recorded k (fired u k s c) (entry 0 c.by ∷ h))
  fired_recorded h room r =
      ⊎_elim
      (λ e. inl (record {
        number = r.number ∙ sym e.1;
        bytes = rw (e.0, e.1) r.bytes;
        logged = λ q p g. r.logged q p (⊎_elim (λ a. a) (λ f. subst (Held k s) f.0 (e.2 f.1)) (fired_only u k s c wd z k q p g));
        held = λ q m. let a = r.held q m in (a.0, fired_grows u k s c wd z k q a.0 a.1);
        proper = r.proper;
      }))
      (λ e.
      let o = room e.0 e.1 in
      let g = noted_more true c.by s.log s.count refl o.0 refl in
      inr (
        e.0,
        record {
          number = rw (e.3, ← g.1) (ap suc r.number ∙ sym (add-one s.count));
          bytes = rw (e.2, e.3, ← g.0, ← g.1) (next_bytes s.log (entry_of 0 c.by) s.count refl o.1 ∙ ap (λ b. b ++ entry_of 0 c.by) r.bytes);
          logged = λ q p g. ⊎_elim (λ a. inr (r.logged q p a)) (λ f. inl (sym f.0)) (fired_only u k s c wd z k q p g);
          held = λ q m. ⊎_elim (λ f. subst (λ x. Proper x × Held k (fired u k s c) x) (sym f) (z.gives, fired_gives u k s c wd z k e.0))
              (λ a. let b = r.held q a in (b.0, fired_grows u k s c wd z k q b.0 b.1)) m;
          proper = (asked_more (Held k s) (λ q. Among q (found h)) r.logged c z e.0.1, (λ m. e.1 (r.held c.by.gives m).1), r.proper);
        },
      ))
      noting

  -- for nobody nothing is noted
  pub fired_unlogged : 8 ≤ k → ((fired u k s c).log ≡ s.log) × ((fired u k s c).count ≡ s.count)
  fired_unlogged l = ⊎_elim (λ e. (e.0, e.1)) (λ e. apart (e.0.0 ∙ sym (no_rank c.may k z.may l))) noting

-- the entries that a list adds for P are by instances of it that P may use
abbrev pub Added : ℕ → List Common → Entry → Type 0
Added P l e = (e.stamp ≡ 0) × ((c : Common) × Among c l × (e.by ≡ c.by) × (true ≡ bit_at c.may P))

abbrev pub Adds : ℕ → List Common → List Entry → Type 0
Adds P l h = All (Added P l) h

module _ (u : List ℕ) (k : ℕ) where
  pub run_length : (l : List Common) → All Sized l → (s : State) → Wide s → length (run u k s l).log ≡ length s.log
  unfolding run
  run_length [] z s w = refl
  run_length (c ∷ l) z s w = run_length l z.1 (fired u k s c) (fired_wide u k s c w z.0) ∙ fired_length u k s c w z.0

  pub run_unlogged : 8 ≤ k → (l : List Common) → All Sized l → (s : State) → Wide s → ((run u k s l).log ≡ s.log) × ((run u k s l).count ≡ s.count)
  unfolding run
  run_unlogged h [] z s w = (refl, refl)
  run_unlogged h (c ∷ l) z s w =
      let a = fired_unlogged u k s c w z.0 h in
      let b = run_unlogged h l z.1 (fired u k s c) (fired_wide u k s c w z.0) in (b.0 ∙ a.0, b.1 ∙ a.1)

-- P may hold places of the block of n formulas and p principals alone: then there are no more entries than places
module _ (P n p : ℕ) (few : p ≤ 8) (May : Cell → Type 0) (inside : (q : Cell) → Proper q → May q → Fit n p q) where
  pub recorded_few : (s : State) (h : List Entry) → ((q : Cell) → Proper q → Held P s q → May q) → Recorded P s h
      → All (Fit n p) (found h) × (length h ≤ n * (3 + 2 * p))
  recorded_few s h only r =
      let a = all_of (Fit n p) (found h) (λ q m. let b = r.held q m in inside q b.0 (only q b.0 b.1)) in
      (a, few_entries n p few h r.proper a)

module _ (u : List ℕ) (P n p : ℕ) (few : p ≤ 8) (small : n * (3 + 2 * p) ≤ 65535) (May : Cell → Type 0) (inside : (q : Cell) → Proper q → May q → Fit n p q) where
  -- THERE IS ROOM for what is new
  room_left : (s : State) (h : List Entry) → ((q : Cell) → Proper q → Held P s q → May q) → n * (3 + 2 * p) * 8 ≤ length s.log → Recorded P s h
      → (c : Common) → Sized c → Leads P May c → Can P s c → (Held P s c.by.gives → ⊥) → Room s
  room_left s h only long r c z d a new =
      let f = inside c.by.gives z.gives (d a.0 (asked_more (Held P s) May only c z a.1)) in
      let b = few_entries n p few (entry 0 c.by ∷ h)
      (asked_more (Held P s) (λ q. Among q (found h)) r.logged c z a.1, (λ m. new (r.held c.by.gives m).1), r.proper)
      (f, (recorded_few P n p few May inside s h only r).0) in
      let e = r.number in
      (omega arith, omega arith)

  -- THE LOG IS A HISTORY, and a list adds to its end
  pub run_recorded : (l : List Common) → All Sized l → All (Leads P May) l → (s : State) (h : List Entry) → Wide s
      → ((q : Cell) → Proper q → Held P s q → May q) → n * (3 + 2 * p) * 8 ≤ length s.log → Recorded P s h
      → (h' : List Entry) × Recorded P (run u P s l) (h' ++ h) × Adds P l h'
  unfolding run
  run_recorded [] z d s h w only long r = ([], r, tt)
  run_recorded (c ∷ l) z d s h w only long r =
      go (λ h₁ r₁. run_recorded l z.1 d.1 (fired u P s c) h₁ (fired_wide u P s c w z.0)
      (λ q y g. ⊎_elim (λ a. only q y a) (λ f. subst May f.0 (d.0 f.1.0 (asked_more (Held P s) May only c z.0 f.1.1))) (fired_only u P s c w z.0 P q y g))
      (rw (fired_length u P s c w z.0) long) r₁)
      (fired_recorded u P s c w z.0 h (room_left s h only long r c z.0 d.0) r)
    where
      weaker : (h' : List Entry) → Adds P l h' → Adds P (c ∷ l) h'
      weaker h' a = all_imp (Added P l) (Added P (c ∷ l)) (λ e x. (x.0, (x.1.0, inr x.1.1, x.1.2, x.1.3))) h' a

      go : ((h₁ : List Entry) → Recorded P (fired u P s c) h₁ → (h' : List Entry) × Recorded P (run u P (fired u P s c) l) (h' ++ h₁) × Adds P l h')
          → Recorded P (fired u P s c) h ⊎ (Can P s c × Recorded P (fired u P s c) (entry 0 c.by ∷ h))
          → (h' : List Entry) × Recorded P (run u P (fired u P s c) l) (h' ++ h) × Adds P (c ∷ l) h'
      go rest (inl r₁) = let y = rest h r₁ in (y.0, y.1, weaker y.0 y.2)
      go rest (inr (a, r₁)) =
          let y = rest (entry 0 c.by ∷ h) r₁ in (
            y.0 ++ (entry 0 c.by ∷ []),
            subst (Recorded P (run u P (fired u P s c) l)) (sym (append_assoc y.0 (entry 0 c.by ∷ []) h)) y.1,
            all_append (Added P (c ∷ l)) y.0 (entry 0 c.by ∷ []) (weaker y.0 y.2) ((refl, (c, inl refl, refl, a.0)), tt),
          )
