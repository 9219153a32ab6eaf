-- The bits of the words of all principals: each that is set stands in the lane of a cell. So where nothing but facts of n formulas and p
-- principals is held, the words are inside. Assumes nothing.
use Prim.Native.Nat.{ℕ, ◌+◌, ◌*◌, ◌/◌, ◌%◌, ◌^◌, ◌<◌, ◌≤◌}
use native.Mathlib.Nat.{zero-div}
use native.Mathlib.Omega.{arith}
use native.Mathlib.Decide.{dec_lt, ℕ_discrete}
use mathlib.Core.Path.{◌≡◌, sym, ap, ap₂, ◌∙◌, subst}
use mathlib.Core.Logic.{◌⊎◌, inl, inr, ⊎_elim}
use mathlib.Core.List.{List, [], ◌∷◌}
use mathlib.Core.Bool.{true}
use lib.ListN.{length, get_or, replicate}
use lib.Seq.{get_or-set_same, get_or-set_other}
use lib.Bits.{bit_or}
use Rattle.logic.specs.Book.{All}
use Rattle.facts.specs.declared.Cell.{Cell}
use Rattle.facts.specs.declared.Instance.{Instance}
use Rattle.facts.specs.Facts.{bit_at}
use Rattle.facts.proofs.Block.{Fit}
use Rattle.lanes.specs.Lanes.{word_of, shift_of, State, Common, entered, ready, fired, run}
use Rattle.lanes.proofs.Sets.{apart, other_lane, Proper, word_below, put}
use Rattle.lanes.proofs.Fires.{Held, Wide, Sized, outcome, ready_small, fired_wide}
use Rattle.stamps.proofs.Bits.{shifted_in}
use Rattle.stamps.proofs.Places.{low_bit, lane_in, Inside}
use Rattle.tables.proofs.Chains.{zeros}
use Rattle.rules.specs.Rules.{rules_of}
use Rattle.rules.specs.Close.{without, Reaches}
use Rattle.rules.specs.Close.Reaches.{start, more}
use Rattle.rules.proofs.Closing as closing
use Rattle.rules.proofs.Closing.{all_sized, at_work}

-- bit b stands in the lane of q
abbrev pub InLane : Cell → ℕ → ℕ → Type 0
InLane q i b = (i ≡ word_of q) × (b / 8 ≡ (q.bit + 5) % 8)

-- every bit that is set stands in the lane of a cell
abbrev pub OnlyCells : List ℕ → Type 0
OnlyCells ws = (i b : ℕ) → true ≡ bit_at (get_or ws i 0) b → (q : Cell) × Proper q × InLane q i b

-- a bit of a word is one of a lane
in_lane : (w b : ℕ) → bit_at (w / 2 ^ (8 * (b / 8)) % 256) (b % 8) ≡ bit_at w b
in_lane w b =
    low_bit (w / 2 ^ (8 * (b / 8))) (b % 8) (omega arith)
    ∙ (shifted_in w (8 * (b / 8)) (b % 8) ∙ ap (bit_at w) (let e : 8 * (b / 8) + b % 8 ≡ b = omega arith in e))

-- a set put into a lane changes no other
other_bit : (w who c b : ℕ) → who < 256 → (b / 8 ≡ c → ⊥) → bit_at (bit_or w (who * 2 ^ (8 * c))) b ≡ bit_at w b
other_bit w who c b l n =
    let far : (8 * c + 8 ≤ 8 * (b / 8)) ⊎ (8 * (b / 8) + 8 ≤ 8 * c) = elim (dec_lt c (b / 8)) [ yes h ↦ inl (omega arith) | no h ↦ inr (omega arith) ] in
    sym (in_lane (bit_or w (who * 2 ^ (8 * c))) b) ∙ (ap (λ x. bit_at x (b % 8)) (other_lane w who (8 * c) (8 * (b / 8)) l far) ∙ in_lane w b)

put_cells : (ws : List ℕ) (q : Cell) (who : ℕ) → length ws ≡ 1024 → Proper q → who < 256 → OnlyCells ws → OnlyCells (put ws q who)
put_cells ws q who wide p l so i b h = elim (ℕ_discrete i (word_of q)) [
  | yes e ↦ elim (ℕ_discrete (b / 8) ((q.bit + 5) % 8)) [
    | yes f ↦ (q, p, (e, f))
    | no d ↦
        let here : get_or (put ws q who) i 0 ≡ bit_or (get_or ws (word_of q) 0) (who * 2 ^ shift_of q) =
        ap (λ j. get_or (put ws q who) j 0) e ∙ get_or-set_same ws (word_of q) (bit_or (get_or ws (word_of q) 0) (who * 2 ^ shift_of q)) 0 (omega (arith, word_below q p, wide)) in
        so i b (h ∙ (ap (λ w. bit_at w b) here ∙ (other_bit (get_or ws (word_of q) 0) who ((q.bit + 5) % 8) b l d ∙ ap (λ j. bit_at (get_or ws j 0) b) (sym e))))
  ]
  | no d ↦ so i b (h ∙ ap (λ w. bit_at w b) (get_or-set_other ws (word_of q) i (bit_or (get_or ws (word_of q) 0) (who * 2 ^ shift_of q)) 0 d))
]

-- AT THE START no bit is set
pub none_cells : (m : ℕ) → OnlyCells (replicate m 0)
unfolding bit_at
none_cells m i b h = apart (rw (zeros m i, zero-div (2 ^ b)) at h)

-- A FACT IS ENTERED
module _ (u : List ℕ) (k : ℕ) where
  pub entered_cells : (who : ℕ) (i : Instance) (s : State) → Wide s → who < 256 → Proper i.gives → OnlyCells s.words → OnlyCells (entered u k who i s).words
  entered_cells who i s w l p so =
      ⊎_elim (λ e. subst (λ t. OnlyCells t.words) (sym e.0) so)
      (λ e. subst (λ t. OnlyCells t.words) (sym e.0) (put_cells s.words i.gives who w.words p l so))
      (outcome u k who i s l)

  run_cells : (l : List Common) → All Sized l → (s : State) → Wide s → OnlyCells s.words → OnlyCells (run u k s l).words
  unfolding run fired
  run_cells [] z s w so = so
  run_cells (c ∷ l) z s w so =
      run_cells l z.1 (fired u k s c) (fired_wide u k s c w z.0)
      (entered_cells (ready s.words c) c.by s w (ready_small u k s c w z.0) z.0.gives so)

-- RECORDS ARE LOOKED AT AGAIN
module _ (b links rows u : List ℕ) (k n : ℕ) (laid : closing.Laid b links rows u n) (s : State) (w : Wide s) where
  pub reaches_cells : OnlyCells s.words → (t : State) → Reaches b links rows u k s t → OnlyCells t.words
  reaches_cells so _ start = so
  reaches_cells so _ (more t r l p h) =
      run_cells u k (rules_of b links rows r) (all_sized b links rows u k n laid r l) (without r t) (at_work b links rows u k n laid s w t r h) (reaches_cells so t h)

-- INSIDE, where only facts of n formulas and p principals are held
module _ (s : State) (n p : ℕ) (small : n ≤ 256) (few : p ≤ 8) (so : OnlyCells s.words)
    (only : (P : ℕ) → P < 8 → (q : Cell) → Proper q → Held P s q → Fit n p q × (P < p)) where
  at_bit : (i b : ℕ) → true ≡ bit_at (get_or s.words i 0) b → (q : Cell) × Proper q × InLane q i b × Fit n p q × (b % 8 < p)
  at_bit i b h =
      let c = so i b h in
      let q = c.0 in
      let e : shift_of q + b % 8 ≡ b = (let d = c.2.1 in omega arith) in
      let held : Held (b % 8) s q =
      h ∙ (ap₂ (λ j k. bit_at (get_or s.words j 0) k) c.2.0 (sym e) ∙ sym (lane_in s.words q (b % 8) (omega arith))) in
      let f = only (b % 8) (omega arith) q c.1 held in
      (q, c.1, c.2, f.0, f.1)

  first_lane : (x b f t : ℕ) → x < n → f < 256 → t < 19 → x ≡ f + 256 * ((t + 5) / 8 % 4) → b / 8 ≡ (t + 5) % 8 → (5 ≤ b / 8) × (b / 8 < 8)
  first_lane x b f t l lf lt e d = (omega arith, omega arith)

  second_lane : (x b f t : ℕ) → x < n → f < 256 → t < 19 → 256 + x ≡ f + 256 * ((t + 5) / 8 % 4) → b / 8 ≡ (t + 5) % 8 → (t < 3 + p) ⊎ ((11 ≤ t) × (t < 11 + p)) → b / 8 < p
  second_lane x b f t l lf lt e d (inl h) = omega arith
  second_lane x b f t l lf lt e d (inr h) = let a = h.0 in omega arith

  third_lane : (x b f t : ℕ) → x < n → f < 256 → t < 19 → 512 + x ≡ f + 256 * ((t + 5) / 8 % 4) → b / 8 ≡ (t + 5) % 8 → (t < 3 + p) ⊎ ((11 ≤ t) × (t < 11 + p)) → b / 8 < p
  third_lane x b f t l lf lt e d (inl h) = absurd (omega arith)
  third_lane x b f t l lf lt e d (inr h) = let a = h.0 in let z = h.1 in omega arith

  pub words_inside : Inside s.words n p
  words_inside = record {
    first = λ x b l h.
        let c = at_bit x b h in
        let z = first_lane x b c.0.formula c.0.bit l c.1.0 c.1.1 c.2.0 c.2.1 in
        (z.0, z.1, c.4);
    second = λ x b l h.
        let c = at_bit (256 + x) b h in
        (second_lane x b c.0.formula c.0.bit l c.1.0 c.1.1 c.2.0 c.2.1 c.3.1, c.4);
    third = λ x b l h.
        let c = at_bit (512 + x) b h in
        (third_lane x b c.0.formula c.0.bit l c.1.0 c.1.1 c.2.0 c.2.1 c.3.1, c.4);
  }
