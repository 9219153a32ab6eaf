-- What an instance at work does, and a list of them: what is held stays held; what is found was asked for; whoever may conclude and holds
-- the premises holds the conclusion; and the users of a formula about which something is new are pending. Assumes nothing.
use Prim.Native.Nat.{ℕ, ◌*◌, ◌/◌, ◌%◌, ◌^◌, ◌<◌}
use native.Mathlib.Nat.{lt_of_le_of_lt}
use mathlib.Core.Path.{◌≡◌, refl, sym, ap, ◌∙◌, subst}
use mathlib.Core.Logic.{◌⊎◌, inl, inr, ⊎_elim}
use mathlib.Core.List.{List}
use mathlib.Core.Bool.{Bool, true, false, cond}
use lib.ListN.{length, get_or, length-set}
use lib.Bits.{bit_and, bit_or, and_le_l}
use lib.Dec.{eqb}
use borrow.Author.Tests.{eqb-true, eqb-false}
use Rattle.facts.specs.declared.Cell.{Cell}
use Rattle.facts.specs.declared.Instance.{Instance}
use Rattle.facts.specs.Facts.{bit_at, is_given}
use Rattle.facts.proofs.Bits.{same_place}
use Rattle.facts.proofs.Premises.{Unless, Asked}
use Rattle.lanes.specs.Lanes.{word_of, shift_of, lane, State, state, marked, Common, is_new, noted, counted, is_held, entered, ready, fired}
use Rattle.lanes.proofs.Sets.{or_in, and_in, or_left, or_right, or_either, and_both, both_and, raised_lane, Proper, put, put_lane, put_other, Uses, Pending, marked_length, marked_stays, marked_all}

-- the principal of rank P holds the fact of a cell
abbrev pub Held : ℕ → State → Cell → Type 0
Held P s q = true ≡ bit_at (lane s.words q) P

-- the arrays have their lengths
pub record Wide (s : State) : Type 0 where
  pub words : length s.words ≡ 1024
  pub pending : length s.pending ≡ 4

-- an instance of a rule about cells that are there, for a set of ranks
pub record Sized (c : Common) : Type 0 where
  pub may : c.may < 256
  pub first : Proper c.by.first
  pub second : Proper c.by.second
  pub gives : Proper c.by.gives

-- P may conclude, and holds what is asked for
abbrev pub Can : ℕ → State → Common → Type 0
Can P s c = (true ≡ bit_at c.may P) × Asked (Held P s) c.by

module _ (u : List ℕ) (k : ℕ) where
  abbrev pub next : ℕ → Instance → State → State
  next who i s =
      state (put s.words i.gives who) (marked u s.pending i.gives.formula)
      (noted (is_new k (lane s.words i.gives) who) i s.log s.count) (counted (is_new k (lane s.words i.gives) who) s.count)

  -- nothing changes, since all of the set hold it; or it is entered
  pub outcome : (who : ℕ) (i : Instance) (s : State) → who < 256
      → ((entered u k who i s ≡ s) × (lane s.words i.gives ≡ bit_or (lane s.words i.gives) who))
      ⊎ ((entered u k who i s ≡ next who i s) × (bit_or (get_or s.words (word_of i.gives) 0) (who * 2 ^ shift_of i.gives) ≡ get_or s.words (word_of i.gives) 0 → ⊥))
  unfolding entered is_held lane
  outcome who i s l = go (eqb (bit_or w (who * 2 ^ shift_of i.gives)) w) refl
    where
      w : ℕ
      w = get_or s.words (word_of i.gives) 0

      go : (v : Bool) → eqb (bit_or w (who * 2 ^ shift_of i.gives)) w ≡ v
          → ((cond v s (next who i s) ≡ s) × (w / 2 ^ shift_of i.gives % 256 ≡ bit_or (w / 2 ^ shift_of i.gives % 256) who)) ⊎ ((cond v s (next who i s) ≡ next who i s) × (bit_or w (who * 2 ^ shift_of i.gives) ≡ w → ⊥))
      go true e = inl (refl, ap (λ x. x / 2 ^ shift_of i.gives % 256) (sym (eqb-true (bit_or w (who * 2 ^ shift_of i.gives)) w e)) ∙ raised_lane w who (shift_of i.gives) l)
      go false e = inr (refl, eqb-false (bit_or w (who * 2 ^ shift_of i.gives)) w e)

  module _ (s : State) (c : Common) (wd : Wide s) (z : Sized c) where
    abbrev pub who : ℕ
    who = ready s.words c

    pub ready_small : who < 256
    unfolding ready
    ready_small = go (is_given c.by.kind)
      where
        go : (v : Bool) → cond v c.may (bit_and c.may (bit_and (lane s.words c.by.first) (lane s.words c.by.second))) < 256
        go true = z.may
        go false = lt_of_le_of_lt (and_le_l c.may (bit_and (lane s.words c.by.first) (lane s.words c.by.second))) z.may

    -- who is ready can conclude
    pub ready_can : (P : ℕ) → true ≡ bit_at who P → Can P s c
    unfolding ready
    ready_can P e = go (is_given c.by.kind) e
      where
        go : (v : Bool) → true ≡ bit_at (cond v c.may (bit_and c.may (bit_and (lane s.words c.by.first) (lane s.words c.by.second)))) P
            → (true ≡ bit_at c.may P) × Unless v (Held P s c.by.first × Held P s c.by.second)
        go true e = (e, tt)
        go false e =
            let a = and_both (bit_at c.may P) (bit_at (bit_and (lane s.words c.by.first) (lane s.words c.by.second)) P) (e ∙ and_in c.may (bit_and (lane s.words c.by.first) (lane s.words c.by.second)) P) in
            (a.0, and_both (bit_at (lane s.words c.by.first) P) (bit_at (lane s.words c.by.second) P) (a.1 ∙ and_in (lane s.words c.by.first) (lane s.words c.by.second) P))

    pub can_ready : (P : ℕ) → Can P s c → true ≡ bit_at who P
    unfolding ready
    can_ready P (m, a) = go (is_given c.by.kind) a
      where
        go : (v : Bool) → Unless v (Held P s c.by.first × Held P s c.by.second)
            → true ≡ bit_at (cond v c.may (bit_and c.may (bit_and (lane s.words c.by.first) (lane s.words c.by.second)))) P
        go true h = m
        go false h =
            rw (and_in c.may (bit_and (lane s.words c.by.first) (lane s.words c.by.second)) P, and_in (lane s.words c.by.first) (lane s.words c.by.second) P)
            (both_and (bit_at c.may P) _ m (both_and (bit_at (lane s.words c.by.first) P) _ h.0 h.1))

    -- the lane of what the instance gives, and the other lanes
    gives_lane : lane (fired u k s c).words c.by.gives ≡ bit_or (lane s.words c.by.gives) who
    unfolding fired
    gives_lane =
        ⊎_elim (λ e. ap (λ t. lane t.words c.by.gives) e.0 ∙ e.1)
        (λ e. ap (λ t. lane t.words c.by.gives) e.0 ∙ put_lane s.words c.by.gives who wd.words z.gives ready_small)
        (outcome who c.by s ready_small)

    other_lanes : (q : Cell) → Proper q → (c.by.gives ≡ q → ⊥) → lane (fired u k s c).words q ≡ lane s.words q
    unfolding fired
    other_lanes q p n =
        ⊎_elim (λ e. ap (λ t. lane t.words q) e.0)
        (λ e. ap (λ t. lane t.words q) e.0 ∙ put_other s.words c.by.gives who wd.words z.gives ready_small q p n)
        (outcome who c.by s ready_small)

    pub fired_grows : (P : ℕ) (q : Cell) → Proper q → Held P s q → Held P (fired u k s c) q
    fired_grows P q p h = elim (same_place c.by.gives q) [
      | yes e ↦ subst (Held P (fired u k s c)) e (rw (gives_lane, or_in (lane s.words c.by.gives) who P) (or_left _ _ (subst (Held P s) (sym e) h)))
      | no n ↦ rw (other_lanes q p n) h
    ]

    pub fired_gives : (P : ℕ) → Can P s c → Held P (fired u k s c) c.by.gives
    fired_gives P h = rw (gives_lane, or_in (lane s.words c.by.gives) who P) (or_right (bit_at (lane s.words c.by.gives) P) _ (can_ready P h))

    pub fired_only : (P : ℕ) (q : Cell) → Proper q → Held P (fired u k s c) q → Held P s q ⊎ ((c.by.gives ≡ q) × Can P s c)
    fired_only P q p h = elim (same_place c.by.gives q) [
      | yes e ↦ ⊎_elim (λ a. inl (subst (Held P s) e a)) (λ b. inr (e, ready_can P b)) (or_either _ _ (subst (Held P (fired u k s c)) (sym e) h ∙ ap (λ x. bit_at x P) gives_lane ∙ or_in (lane s.words c.by.gives) who P))
      | no n ↦ inl (h ∙ ap (λ x. bit_at x P) (other_lanes q p n))
    ]

    pub fired_wide : Wide (fired u k s c)
    unfolding fired
    fired_wide =
        ⊎_elim (λ e. subst Wide (sym e.0) wd)
        (λ e. subst Wide (sym e.0) (record { words = simp length-set wd.words; pending = marked_length u s.pending c.by.gives.formula ∙ wd.pending }))
        (outcome who c.by s ready_small)

    -- pending records stay pending, and where something is new the users of its formula are
    pub fired_stays : (r : ℕ) → r < 256 → Pending s.pending r → Pending (fired u k s c).pending r
    unfolding fired
    fired_stays r l h =
        ⊎_elim (λ e. subst (λ t. Pending t.pending r) (sym e.0) h)
        (λ e. subst (λ t. Pending t.pending r) (sym e.0) (marked_stays u s.pending c.by.gives.formula r wd.pending l h))
        (outcome who c.by s ready_small)

    pub fired_marks : (P : ℕ) (q : Cell) → Proper q → Held P (fired u k s c) q
        → Held P s q ⊎ ((r : ℕ) → r < 256 → Uses u q.formula r → Pending (fired u k s c).pending r)
    unfolding fired
    fired_marks P q p h =
        ⊎_elim (λ e. inl (subst (λ t. Held P t q) e.0 h))
        (λ e. ⊎_elim inl
        (λ f. inr (λ r l v. subst (λ t. Pending t.pending r) (sym e.0) (marked_all u s.pending c.by.gives.formula r wd.pending l (subst (λ x. Uses u x.formula r) (sym f.0) v))))
        (fired_only P q p h))
        (outcome who c.by s ready_small)
