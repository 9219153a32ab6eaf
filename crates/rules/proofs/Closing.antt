-- Looking at pending records again keeps a clean state clean: where no record with a rule in its list is pending, and what the rule asks for
-- is held, its conclusion is held. So once none is pending, what is held is closed under all rules.
use Prim.Native.Nat.{ℕ, zero, suc, ◌^◌, ◌<◌, ◌≤◌}
use native.Mathlib.Nat.{zero-div}
use native.Mathlib.Omega.{arith}
use native.Mathlib.Decide.{dec_lt, ℕ_discrete}
use mathlib.Core.Path.{◌≡◌, refl, sym, ◌∙◌, subst}
use mathlib.Core.Logic.{◌⊎◌, ⊎_elim}
use mathlib.Core.List.{List, []}
use mathlib.Core.Bool.{Bool, true, false}
use lib.ListN.{get_or, replicate}
use Rattle.logic.specs.Book.{All}
use Rattle.logic.specs.Derivation.{Among}
use Rattle.logic.proofs.Member.{all_at}
use Rattle.facts.specs.declared.Cell.{Cell}
use Rattle.facts.specs.declared.Instance.{Instance}
use Rattle.facts.specs.Facts.{bit_at, is_given}
use Rattle.facts.proofs.Premises.{Unless, Asked}
use Rattle.lanes.specs.Lanes.{word_of, shift_of, lane, State, Common, entered, run}
use Rattle.lanes.proofs.Sets.{apart, Proper, Uses}
use Rattle.lanes.proofs.Fires.{Held, Wide, Sized, Can}
use Rattle.lanes.proofs.Given.{entered_grows, entered_stays, entered_marks}
use Rattle.lanes.proofs.Runs.{Leads, run_wide, run_grows, run_stays, run_sound, run_answers, run_marks}
use Rattle.rules.specs.Rules.{rules_of}
use Rattle.rules.specs.Close.{Pending, without, Reaches, Closes}
use Rattle.rules.specs.Close.Reaches.{start, more}
use Rattle.rules.proofs.Tables.{Recalls, Covers}
use Rattle.rules.proofs.RulesSound.{not_given}
use Rattle.rules.proofs.Taken.{taken_stays, without_wide}

-- the rules of n records are about cells that are there, the table of users has them all, and no record behind has rules
pub record Laid (b links rows u : List ℕ) (n : ℕ) : Type 0 where
  pub few : n ≤ 256
  pub sized : (r : ℕ) → r < n → All Sized (rules_of b links rows r)
  pub blank : (r : ℕ) → n ≤ r → r < 256 → rules_of b links rows r ≡ []
  pub covers : Covers b links rows u n

-- no record that has c in its list is pending
abbrev pub Idle : (b links rows : List ℕ) → State → Common → Type 0
Idle b links rows s c = (j : ℕ) → j < 256 → Among c (rules_of b links rows j) → Pending s.pending j → ⊥

-- what a rule leads to that is in no list of a pending record is held
abbrev pub Clean : (b links rows : List ℕ) (n : ℕ) → State → Type 0
Clean b links rows n s =
    (r : ℕ) → r < n → (c : Common) → Among c (rules_of b links rows r) → Idle b links rows s c → (P : ℕ) → Can P s c → Held P s c.by.gives

asked_by : (G H : Cell → Type 0) (i : Instance) → (G i.first → H i.first) → (G i.second → H i.second) → Asked G i → Asked H i
asked_by G H i f g a = go (is_given i.kind) a
  where
    go : (v : Bool) → Unless v (G i.first × G i.second) → Unless v (H i.first × H i.second)
    go true a = tt
    go false a = (f a.0, g a.1)

-- where nothing is held nothing is asked for
zeros : (n k : ℕ) → ◌≡◌ {A = ℕ} (get_or (replicate n 0) k 0) 0
zeros zero k = refl
zeros (suc n) zero = refl
zeros (suc n) (suc k) = zeros n k

none_in : (n P : ℕ) (q : Cell) → true ≡ bit_at (lane (replicate n 0) q) P → ⊥
unfolding lane bit_at
none_in n P q h = apart (rw (zeros n (word_of q), zero-div (2 ^ shift_of q), zero-div (2 ^ P)) at h)

pub none_held : (s : State) → s.words ≡ replicate 1024 0 → (P : ℕ) (q : Cell) → Held P s q → ⊥
none_held s e P q h = none_in 1024 P q (subst (λ ws. true ≡ bit_at (lane ws q) P) e h)

pub start_clean : (b links rows : List ℕ) (n : ℕ) (s : State) → s.words ≡ replicate 1024 0 → Clean b links rows n s
start_clean b links rows n s e r l c m d P (y, a) =
    let g = all_at (λ c. is_given c.by.kind ≡ false) c (rules_of b links rows r) (not_given b links rows r) m in
    absurd (none_held s e P c.by.first (subst (λ v. Unless v (Held P s c.by.first × Held P s c.by.second)) g a).0)

module _ (b links rows u : List ℕ) (k n : ℕ) (laid : Laid b links rows u n) where
  everywhere : (Q : Common → Type 0) → ((r : ℕ) → r < n → All Q (rules_of b links rows r)) → (r : ℕ) → r < 256 → All Q (rules_of b links rows r)
  everywhere Q f r l = elim (dec_lt r n) [
    | yes m ↦ f r m
    | no h ↦ subst (All Q) (sym (laid.blank r (omega arith) l)) tt
  ]

  pub all_sized : (r : ℕ) → r < 256 → All Sized (rules_of b links rows r)
  all_sized = everywhere Sized laid.sized

  -- What a rule can conclude that is in no list of a pending record it could conclude before: a premise that is new would have marked such a record.
  could : (s t : State) → ((P : ℕ) (q : Cell) → Proper q → Held P t q → Held P s q ⊎ ((r : ℕ) → r < 256 → Uses u q.formula r → Pending t.pending r))
      → (r : ℕ) → r < n → (c : Common) → Among c (rules_of b links rows r) → Idle b links rows t c → (P : ℕ) → Can P t c → Can P s c
  could s t marks r l c m d P (y, a) =
      let z = all_at Sized c (rules_of b links rows r) (laid.sized r l) m in
      let R = Recalls b links rows u c in
      let v = all_at (λ c. Recalls b links rows u c c.by.first.formula × Recalls b links rows u c c.by.second.formula) c (rules_of b links rows r) (laid.covers r l) m in
      let old : (q : Cell) → Proper q → R q.formula → Held P t q → Held P s q = λ q p (j, k, x, i) h. ⊎_elim (λ e. e) (λ f. absurd (d j k i (f j k x))) (marks P q p h) in
      (y, asked_by (Held P t) (Held P s) c.by (old c.by.first z.first v.0) (old c.by.second z.second v.1) a)

  -- what is held or not
  either_held : (P : ℕ) (s : State) (q : Cell) → ((Held P s q → ⊥) → Held P s q) → Held P s q
  either_held P s q f = go (bit_at (lane s.words q) P) refl
    where
      go : (v : Bool) → bit_at (lane s.words q) P ≡ v → Held P s q
      go true e = sym e
      go false e = f (λ h. apart (h ∙ e))

  -- ONE RECORD AT WORK keeps a state clean
  pub work_clean : (t : State) → Wide t → (r : ℕ) → r < 256 → Pending t.pending r → Clean b links rows n t → Clean b links rows n (run u k (without r t) (rules_of b links rows r))
  work_clean t x r l p clean j m c i d P can =
      let a = rules_of b links rows r in
      let t' = run u k (without r t) a in
      let y = without_wide r t x in
      let z = all_sized r l in
      let v = could (without r t) t' (run_marks u k a z (without r t) y) j m c i d P can in
      either_held P t' c.by.gives
      (λ unheld.
      let idle : Idle b links rows t c = λ h lh ih ph. elim (ℕ_discrete h r) [
        | yes e ↦ unheld (run_answers u k a z (without r t) y P c (subst (λ x. Among c (rules_of b links rows x)) e ih) v)
        | no o ↦ d h lh ih (run_stays u k a z (without r t) y h lh (taken_stays t.pending r x.pending l p h lh o ph))
      ] in
      run_grows u k a z (without r t) y P c.by.gives (all_at Sized c (rules_of b links rows j) (laid.sized j m) i).gives (clean j m c i idle P v))

  module _ (s : State) (w : Wide s) where
    pub reaches_wide : (t : State) → Reaches b links rows u k s t → Wide t
    reaches_wide _ start = w
    reaches_wide _ (more t r l p h) = run_wide u k (rules_of b links rows r) (all_sized r l) (without r t) (without_wide r t (reaches_wide t h))

    -- the state before record r is at work is wide
    pub at_work : (t : State) (r : ℕ) → Reaches b links rows u k s t → Wide (without r t)
    at_work t r h = without_wide r t (reaches_wide t h)

    -- WHAT IS HELD STAYS HELD
    pub reaches_grows : (t : State) → Reaches b links rows u k s t → (P : ℕ) (q : Cell) → Proper q → Held P s q → Held P t q
    reaches_grows _ start P q y x = x
    reaches_grows _ (more t r l p h) P q y x = run_grows u k (rules_of b links rows r) (all_sized r l) (without r t) (at_work t r h) P q y (reaches_grows t h P q y x)

    -- SOUNDNESS, for whatever the rules keep
    pub reaches_sound : (t : State) → Reaches b links rows u k s t → (P : ℕ) (G : Cell → Type 0) → ((r : ℕ) → r < n → All (Leads P G) (rules_of b links rows r))
        → ((q : Cell) → Proper q → Held P s q → G q) → (q : Cell) → Proper q → Held P t q → G q
    reaches_sound _ start P G f g = g
    reaches_sound _ (more t r l p h) P G f g =
        run_sound u k P G (rules_of b links rows r) (all_sized r l) (everywhere (Leads P G) f r l) (without r t) (at_work t r h) (reaches_sound t h P G f g)

    -- A CLEAN STATE STAYS CLEAN
    pub reaches_clean : Clean b links rows n s → (t : State) → Reaches b links rows u k s t → Clean b links rows n t
    reaches_clean clean _ start = clean
    reaches_clean clean _ (more t r l p h) = work_clean t (reaches_wide t h) r l p (reaches_clean clean t h)

    -- NOTHING IS LEFT TO CONCLUDE once no record is pending
    pub closes_closed : Clean b links rows n s → (t : State) → Closes b links rows u k s t
        → (r : ℕ) → r < n → (c : Common) → Among c (rules_of b links rows r) → (P : ℕ) → Can P t c → Held P t c.by.gives
    closes_closed clean t h r l c m P can = reaches_clean clean t h.reached r l c m (λ j k i p. h.done j k p) P can

    -- giving a fact keeps a state clean
    pub entered_clean : (who : ℕ) (i : Instance) → who < 256 → Proper i.gives → Clean b links rows n s → Clean b links rows n (entered u k who i s)
    entered_clean who i l p clean r m c x d P can =
        let v = could s (entered u k who i s) (entered_marks u k who i s w l p) r m c x d P can in
        entered_grows u k who i s w l p P c.by.gives (all_at Sized c (rules_of b links rows r) (laid.sized r m) x).gives
        (clean r m c x (λ j a e h. d j a e (entered_stays u k who i s w l p j a h)) P v)
