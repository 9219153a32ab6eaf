-- The table of stamps, stage by stage: a byte is 0 while its fact is not held, and else 1 + the first stage after which it follows. What
-- follows after a stage is a parameter here. Assumes nothing.
use Prim.Native.Nat.{ℕ, ◌+◌, ◌*◌, ◌^◌, ◌<◌, ◌≤◌}
use native.Mathlib.Nat.{zero-div}
use native.Mathlib.Omega.{arith}
use mathlib.Core.Path.{◌≡◌, refl, sym, ap, ◌∙◌, subst}
use mathlib.Core.Logic.{◌⊎◌, inl, inr, ⊎_elim}
use mathlib.Core.List.{List, []}
use mathlib.Core.Bool.{Bool, true, false, cond, not, ◌&&◌}
use lib.ListN.{length, get_or, replicate, length-replicate}
use lib.Dec.{ltb}
use Rattle.logic.specs.Survey.{held}
use Rattle.facts.specs.declared.Cell.{Cell}
use Rattle.facts.specs.Facts.{bit_at}
use Rattle.facts.specs.Block.{place_in}
use Rattle.facts.proofs.Block.{Fit}
use Rattle.facts.proofs.ListCounts.{count_none}
use Rattle.lanes.specs.Lanes.{word_of, shift_of, lane, is_new, State}
use Rattle.lanes.proofs.Sets.{apart, and_both}
use Rattle.lanes.proofs.Fires.{Held}
use Rattle.stamps.specs.Stamps as stamps
use Rattle.stamps.proofs.Places.{Inside}
use Rattle.stamps.proofs.Stamping.{stamped_lane, stamped_before_length, stamped_length, stamped_place, stamped_count}
use Rattle.tables.proofs.Chains.{zeros}
use Rattle.rules.proofs.RulesSized.{fit_proper}
use Rattle.rules.proofs.Closing.{none_held}
use Rattle.stages.specs.Stages.{nothing, none_stamped, stamped_with}

-- a lane of zeros, however many there are
pub zero_lane : (k : ℕ) (q : Cell) → lane (replicate k 0) q ≡ 0
unfolding lane
zero_lane k q = rw (zeros k (word_of q), zero-div (2 ^ shift_of q))

not_both : (x : Bool) → true ≡ not x → true ≡ x → ⊥
not_both true e f = apart e
not_both false e f = apart f

-- ONE BYTE, of a fact that follows after stage k if D k: whether it is held now, and the byte v after c stages
abbrev pub DatedBy : (ℕ → Type 0) → (held : Bool) (c v : ℕ) → Type 0
DatedBy D x c v =
    ((v ≡ 0) × (true ≡ x → ⊥) × ((k : ℕ) → k < c → D k → ⊥))
    ⊎ ((true ≡ x) × ((k : ℕ) × (k < c) × (v ≡ 1 + k) × D k × ((j : ℕ) → j < k → D j → ⊥)))

-- a stage more, with the stamp w: what is new follows first after k
abbrev Begins : (ℕ → Type 0) → (was : Bool) (e w : ℕ) → Type 0
Begins D y e w = (k : ℕ) × (k < e) × (w ≡ 1 + k) × D k × ((j : ℕ) → j < k → D j → true ≡ y)

one_dated : (D : ℕ → Type 0) (c e v w : ℕ) (x y : Bool) → c ≤ e → (true ≡ y → true ≡ x) → (true ≡ x → (true ≡ y → ⊥) → Begins D y e w)
    → ((k : ℕ) → k < e → D k → true ≡ x) → DatedBy D y c v → DatedBy D x e (cond (x && not y) w v)
one_dated D c e v w true true le g s h (inl (z, n, f)) = absurd (n refl)
one_dated D c e v w true true le g s h (inr (y, (k, l, i, d, f))) = inr (refl, (k, omega arith, i, d, f))
one_dated D c e v w true false le g s h (inl (z, n, f)) =
    let (k, l, i, d, first) = s refl n in inr (refl, (k, l, i, d, λ j m x. n (first j m x)))
one_dated D c e v w true false le g s h (inr (y, r)) = apart y
one_dated D c e v w false true le g s h i = apart (g refl)
one_dated D c e v w false false le g s h (inl (z, n, f)) = inl (z, (λ y. apart y), λ k l d. apart (h k l d))
one_dated D c e v w false false le g s h (inr (y, r)) = apart y

module _ (n p : ℕ) (small : n ≤ 256) (few : p ≤ 8) (D : ℕ → ℕ → Cell → Type 0) where
  abbrev block : ℕ
  block = n * (3 + 2 * p)

  -- the byte v of the fact of cell q, of the principal of rank P
  abbrev pub Dated : (c : ℕ) → State → (P : ℕ) → Cell → ℕ → Type 0
  Dated c s P q v = DatedBy (λ k. D k P q) (bit_at (lane s.words q) P) c v

  -- after c stages: the state, the words stamped last, the table, and how many of its bytes are not 0
  pub record Tabled (c : ℕ) (s : State) (f t : List ℕ) (h : ℕ) : Type 0 where
    pub size : length t ≡ p * block
    pub wide : length f ≡ 768
    pub lanes : (q : Cell) → Fit n p q → lane f q ≡ lane s.words q
    pub dated : (P : ℕ) → P < p → (q : Cell) → Fit n p q → Dated c s P q (get_or t (P * block + place_in p q) 0)
    pub tally : h ≡ held t

  -- NOTHING YET
  pub none_tabled : (F : ℕ) → F ≡ p * block → Tabled 0 (nothing []) none_stamped (replicate F 0) 0
  none_tabled F e = record {
    size = length-replicate F 0 ∙ e;
    wide = length-replicate {A = ℕ} 768 0;
    lanes = λ q f. zero_lane 768 q ∙ sym (zero_lane 1024 q);
    dated = λ P l q f. inl (zeros F (P * block + place_in p q), none_held (nothing []) refl P q, λ k i d. absurd (omega arith));
    tally = sym (count_none (λ v. ltb 0 v) F 0 refl);
  }

  -- ONE STAGE MORE, with the stamps v
  module _ (c e : ℕ) (rises : c ≤ e) (s s' : State) (f t : List ℕ) (h : ℕ) (so : Tabled c s f t h) (ins : Inside s'.words n p) (v : List ℕ)
      (grows : (P : ℕ) → P < p → (q : Cell) → Fit n p q → Held P s q → Held P s' q)
      (begins : (P : ℕ) → P < p → (q : Cell) → Fit n p q → Held P s' q → (Held P s q → ⊥)
      → (k : ℕ) × (k < e) × (get_or v P 0 ≡ 1 + k) × D k P q × ((j : ℕ) → j < k → D j P q → Held P s q))
      (complete : (P : ℕ) → P < p → (q : Cell) → Fit n p q → (k : ℕ) → k < e → D k P q → Held P s' q)
      (some : (P : ℕ) → P < p → 0 < get_or v P 0) where
    abbrev from : stamps.State
    from = stamps.state f t 0

    abbrev z : stamps.State
    z = stamped_with s'.words v n p f t

    room : p * block ≤ length t
    room = let e = so.size in omega arith

    now_dated : (P : ℕ) → P < p → (q : Cell) → Fit n p q → Dated e s' P q (get_or z.stamps.bytes (P * block + place_in p q) 0)
    unfolding is_new
    now_dated P l q fq =
        let k = P * block + place_in p q in
        let i = stamped_place s'.words v n p small few from so.wide ins P l q fq room in
        let y : cond (is_new P (lane f q) (lane s'.words q)) (get_or v P 0) (get_or t k 0)
        ≡ cond (is_new P (lane s.words q) (lane s'.words q)) (get_or v P 0) (get_or t k 0) = rw (so.lanes q fq) refl in
        subst (Dated e s' P q) (sym (i ∙ y))
        (one_dated (λ k. D k P q) c e (get_or t k 0) (get_or v P 0) (bit_at (lane s'.words q) P) (bit_at (lane s.words q) P) rises (grows P l q fq) (begins P l q fq)
        (complete P l q fq) (so.dated P l q fq))

    -- a place that gets a stamp held 0
    free : (P : ℕ) → P < p → (q : Cell) → Fit n p q → true ≡ is_new P (lane f q) (lane s'.words q) → get_or t (P * block + place_in p q) 0 ≡ 0
    unfolding is_new
    free P l q fq e =
        let a = (and_both (bit_at (lane s'.words q) P) (not (bit_at (lane f q) P)) e).1 in
        ⊎_elim (λ i. i.0) (λ i. absurd (not_both (bit_at (lane f q) P) a (i.0 ∙ ap (λ x. bit_at x P) (sym (so.lanes q fq))))) (so.dated P l q fq)

    pub stage_more : Tabled e s' z.before z.stamps.bytes (h + z.stamps.count)
    stage_more = record {
      size = stamped_length s'.words v n p small few from so.wide ∙ so.size;
      wide = stamped_before_length s'.words v n p small few from so.wide;
      lanes = λ q fq. stamped_lane s'.words v n p small few from so.wide q fq.0 (fit_proper n p q small few fq).1;
      dated = now_dated;
      tally =
          ap (λ x. x + z.stamps.count) so.tally
          ∙ sym (stamped_count s'.words v n p small few from so.wide ins refl room some free);
    }
