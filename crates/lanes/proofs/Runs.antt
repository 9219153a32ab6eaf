-- Lists of instances at work. Assumes nothing.
use Prim.Native.Nat.{ℕ, ◌<◌}
use mathlib.Core.Path.{◌≡◌, refl, sym, subst}
use mathlib.Core.Logic.{◌⊎◌, inl, inr, ⊎_elim}
use mathlib.Core.List.{List, [], ◌∷◌, ◌++◌}
use mathlib.Core.Bool.{Bool, true, false}
use Rattle.logic.specs.Book.{All}
use Rattle.logic.specs.Derivation.{Among}
use Rattle.facts.specs.declared.Cell.{Cell}
use Rattle.facts.specs.declared.Instance.{Instance}
use Rattle.facts.specs.Facts.{bit_at, is_given}
use Rattle.facts.proofs.Premises.{Unless, Asked}
use Rattle.lanes.specs.Lanes.{State, Common, common, ready, fired, entered, run}
use Rattle.lanes.proofs.Sets.{Proper, Uses, Pending}
use Rattle.lanes.proofs.Fires.{Held, Wide, Sized, Can, fired_grows, fired_gives, fired_only, fired_wide, fired_stays, fired_marks}

-- for the principal of rank P the instance leads from cells where G holds to such a cell
abbrev pub Leads : ℕ → (Cell → Type 0) → Common → Type 0
Leads P G c = true ≡ bit_at c.may P → Asked G c.by → G c.by.gives

-- what is asked for is held by more
pub asked_more : (G H : Cell → Type 0) → ((q : Cell) → Proper q → G q → H q) → (c : Common) → Sized c → Asked G c.by → Asked H c.by
asked_more G H f c z a = go (is_given c.by.kind) a
  where
    go : (b : Bool) → Unless b (G c.by.first × G c.by.second) → Unless b (H c.by.first × H c.by.second)
    go true a = tt
    go false a = (f c.by.first z.first a.0, f c.by.second z.second a.1)

-- giving a fact is an instance at work that asks for nothing
pub given_runs : (u : List ℕ) (k who : ℕ) (i : Instance) (s : State) → is_given i.kind ≡ true → run u k s (common who i ∷ []) ≡ entered u k who i s
unfolding run fired ready
given_runs u k who i s e = rw e

module _ (u : List ℕ) (k : ℕ) where
  pub run_append : (l m : List Common) (s : State) → run u k s (l ++ m) ≡ run u k (run u k s l) m
  unfolding run
  run_append [] m s = refl
  run_append (c ∷ l) m s = run_append l m (fired u k s c)

  pub run_wide : (l : List Common) → All Sized l → (s : State) → Wide s → Wide (run u k s l)
  unfolding run
  run_wide [] z s w = w
  run_wide (c ∷ l) z s w = run_wide l z.1 (fired u k s c) (fired_wide u k s c w z.0)

  -- GROWTH
  pub run_grows : (l : List Common) → All Sized l → (s : State) → Wide s → (P : ℕ) (q : Cell) → Proper q → Held P s q → Held P (run u k s l) q
  unfolding run
  run_grows [] z s w P q p h = h
  run_grows (c ∷ l) z s w P q p h = run_grows l z.1 (fired u k s c) (fired_wide u k s c w z.0) P q p (fired_grows u k s c w z.0 P q p h)

  pub run_stays : (l : List Common) → All Sized l → (s : State) → Wide s → (r : ℕ) → r < 256 → Pending s.pending r → Pending (run u k s l).pending r
  unfolding run
  run_stays [] z s w r h p = p
  run_stays (c ∷ l) z s w r h p = run_stays l z.1 (fired u k s c) (fired_wide u k s c w z.0) r h (fired_stays u k s c w z.0 r h p)

  -- SOUNDNESS, for whatever the instances keep
  pub run_sound : (P : ℕ) (G : Cell → Type 0) (l : List Common) → All Sized l → All (Leads P G) l → (s : State) → Wide s
      → ((q : Cell) → Proper q → Held P s q → G q) → (q : Cell) → Proper q → Held P (run u k s l) q → G q
  unfolding run
  run_sound P G [] z d s w g = g
  run_sound P G (c ∷ l) z d s w g =
      run_sound P G l z.1 d.1 (fired u k s c) (fired_wide u k s c w z.0)
      (λ q p h. ⊎_elim (λ a. g q p a) (λ f. subst G f.0 (d.0 f.1.0 (asked_more (Held P s) G g c z.0 f.1.1))) (fired_only u k s c w z.0 P q p h))

  -- WHAT FOLLOWS IN ONE STEP from what is held at the start is held at the end
  can_later : (s : State) (c d : Common) → Wide s → Sized c → Sized d → (P : ℕ) → Can P s c → Can P (fired u k s d) c
  can_later s c d w zc zd P (m, a) = (m, asked_more (Held P s) (Held P (fired u k s d)) (fired_grows u k s d w zd P) c zc a)

  among_sized : (c : Common) (l : List Common) → All Sized l → Among c l → Sized c
  among_sized c [] z x'' = elim x'' [ ]
  among_sized c (d ∷ l) z (inl e) = subst Sized (sym e) z.0
  among_sized c (d ∷ l) z (inr m) = among_sized c l z.1 m

  pub run_answers : (l : List Common) → All Sized l → (s : State) → Wide s → (P : ℕ) (c : Common) → Among c l → Can P s c → Held P (run u k s l) c.by.gives
  unfolding run
  run_answers [] z s w P c x4 h = elim x4 [ ]
  run_answers (d ∷ l) z s w P c (inl e) h =
      let zc = subst Sized (sym e) z.0 in
      run_grows l z.1 (fired u k s d) (fired_wide u k s d w z.0) P c.by.gives zc.gives
      (subst (λ x. Held P (fired u k s x) c.by.gives) e (fired_gives u k s c w zc P h))
  run_answers (d ∷ l) z s w P c (inr m) h =
      run_answers l z.1 (fired u k s d) (fired_wide u k s d w z.0) P c m (can_later s c d w (among_sized c l z.1 m) z.0 P h)

  -- where something is new the users of its formula are pending
  pub run_marks : (l : List Common) → All Sized l → (s : State) → Wide s → (P : ℕ) (q : Cell) → Proper q → Held P (run u k s l) q
      → Held P s q ⊎ ((r : ℕ) → r < 256 → Uses u q.formula r → Pending (run u k s l).pending r)
  unfolding run
  run_marks [] z s w P q p h = inl h
  run_marks (c ∷ l) z s w P q p h =
      let wd = fired_wide u k s c w z.0 in
      ⊎_elim (λ a. ⊎_elim inl (λ f. inr (λ r b v. run_stays l z.1 (fired u k s c) wd r b (f r b v))) (fired_marks u k s c w z.0 P q p a))
      inr (run_marks l z.1 (fired u k s c) wd P q p h)
