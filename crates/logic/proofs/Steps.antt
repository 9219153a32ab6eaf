-- The bytes of steps: they are read back as these steps, and if each step passes its tests the checker accepts them. So whoever writes a
-- derivation step by step need speak of its steps only.
use Prim.Native.Nat.{ℕ, zero, suc, ◌+◌, ◌-◌, ◌*◌, ◌/◌, ◌%◌, ◌≤◌, ◌<◌}
use mathlib.Core.Path.{◌≡◌, refl, ◌∙◌, ap, ap₂}
use mathlib.Core.Logic.{inl, inr}
use mathlib.Core.List.{List, [], ◌∷◌, ◌++◌, map, append-nil, append_assoc}
use mathlib.Core.Bool.{Bool, true, false, cond, not, ◌&&◌, ◌||◌}
use native.Mathlib.Omega.{arith}
use native.Mathlib.Nat.{div-add-mod'}
use lib.ListN.{length, drop, length-append}
use lib.Seq.{drop_at}
use lib.Dec.{T, leb, eqb, lit≤}
use Rattle.logic.specs.declared.Record.{Record}
use Rattle.logic.specs.Record.{word}
use Rattle.logic.specs.Count.{formulas}
use Rattle.logic.specs.Refusal.Outcome.{accepted}
use Rattle.logic.specs.Book.{All}
use Rattle.logic.specs.Formula.{Tree}
use Rattle.logic.specs.Fact.{Fact, goal_fact}
use Rattle.logic.specs.Derivation.{EndsIn}
use Rattle.logic.specs.Written.{is_malformed}
use Rattle.logic.specs.Step.{Step, last_rule, has_two, numbers_in, step_size, step_at, steps_from, steps_in, premises_of, stated_by, StepFollows, VerdictBehind, goal_of, Verdict}
use Rattle.logic.specs.Proof.{Distinct, AllUsed, Proves}

-- two bytes for each number
abbrev pub number_bytes : List ℕ → List ℕ
number_bytes [] = []
number_bytes (n ∷ ns) = n / 256 ∷ n % 256 ∷ number_bytes ns

unfoldable pub step_bytes : Step → List ℕ
step_bytes q = q.kind ∷ (q.fact ++ number_bytes q.numbers)

unfoldable pub derivation_bytes : List Step → List ℕ
derivation_bytes [] = []
derivation_bytes (q ∷ qs) = step_bytes q ++ derivation_bytes qs

-- a step has seven bytes of fact and as many numbers as its kind asks for
pub record Shaped (q : Step) : Type 0 where
  pub known : 0 < numbers_in q.kind
  pub seven : length q.fact ≡ 7
  pub enough : length q.numbers ≡ numbers_in q.kind

number_bytes_lem : (ns : List ℕ) → length (number_bytes ns) ≡ 2 * length ns
number_bytes_lem [] = refl
number_bytes_lem (n ∷ ns) = omega (arith, number_bytes_lem ns)

pub step_length : (q : Step) → Shaped q → length (step_bytes q) ≡ step_size q.kind
unfolding step_bytes step_size
step_length q s = simp length-append (omega (arith, number_bytes_lem q.numbers, s.seven, s.enough))

-- the step at the front of its bytes
read_step : (k : ℕ) (fact ns rest : List ℕ) → 0 < numbers_in k → length fact ≡ 7 → length ns ≡ numbers_in k → numbers_in k ≤ 2
    → step_at (k ∷ (fact ++ (number_bytes ns ++ rest))) ≡ record { kind = k; fact = fact; numbers = ns }
unfolding step_at word
read_step k [] ns rest p s e t = absurd (omega arith)
read_step k (a ∷ []) ns rest p s e t = absurd (omega arith)
read_step k (a ∷ b ∷ []) ns rest p s e t = absurd (omega arith)
read_step k (a ∷ b ∷ c ∷ []) ns rest p s e t = absurd (omega arith)
read_step k (a ∷ b ∷ c ∷ d ∷ []) ns rest p s e t = absurd (omega arith)
read_step k (a ∷ b ∷ c ∷ d ∷ f ∷ []) ns rest p s e t = absurd (omega arith)
read_step k (a ∷ b ∷ c ∷ d ∷ f ∷ g ∷ []) ns rest p s e t = absurd (omega arith)
read_step k (a ∷ b ∷ c ∷ d ∷ f ∷ g ∷ h ∷ i ∷ l) ns rest p s e t = absurd (omega arith)
read_step k (a ∷ b ∷ c ∷ d ∷ f ∷ g ∷ h ∷ []) [] rest p s e t = absurd (omega arith)
read_step k (a ∷ b ∷ c ∷ d ∷ f ∷ g ∷ h ∷ []) (x ∷ []) rest p s e t = rw (← e, div-add-mod' x 256)
read_step k (a ∷ b ∷ c ∷ d ∷ f ∷ g ∷ h ∷ []) (x ∷ y ∷ []) rest p s e t = rw (← e, div-add-mod' x 256, div-add-mod' y 256)
read_step k (a ∷ b ∷ c ∷ d ∷ f ∷ g ∷ h ∷ []) (x ∷ y ∷ z ∷ ns) rest p s e t = absurd (omega arith)

-- no kind has more than two numbers
pub at_most_two : (k : ℕ) → numbers_in k ≤ 2
unfolding numbers_in
at_most_two k = go (eqb k 64 || eqb k 65) (leb 66 k && leb k (65 + last_rule)) (has_two (k - 65))
  where
    go : (a b c : Bool) → cond a 1 (cond b (cond c 2 1) 0) ≤ 2
    go true b c = lit≤ tt
    go false true true = lit≤ tt
    go false true false = lit≤ tt
    go false false c = lit≤ tt

pub step_read : (q : Step) (rest : List ℕ) → Shaped q → step_at (step_bytes q ++ rest) ≡ q
unfolding step_bytes
step_read q rest s =
    rw (append_assoc q.fact (number_bytes q.numbers) rest)
    (read_step q.kind q.fact q.numbers rest s.known s.seven s.enough (at_most_two q.kind))

pub step_rest : (q : Step) (rest : List ℕ) → Shaped q → drop (step_size q.kind) (step_bytes q ++ rest) ≡ rest
step_rest q rest s = drop_at (step_bytes q) rest (step_size q.kind) (step_length q s)

pub size_positive : (k : ℕ) → 1 ≤ step_size k
unfolding step_size
size_positive k = omega arith

shorter : (q : Step) (r : List ℕ) (n : ℕ) → Shaped q → length (step_bytes q ++ r) ≤ suc n → length r ≤ n
shorter q r n s l = omega (arith, length-append (step_bytes q) r, step_length q s, size_positive q.kind)

whole : (q : Step) (r : List ℕ) → Shaped q → step_size q.kind ≤ length (step_bytes q ++ r)
whole q r s = omega (arith, length-append (step_bytes q) r, step_length q s)

-- THE STEPS OF THE BYTES OF STEPS are these steps
steps_from_lem : (n : ℕ) (qs : List Step) → All Shaped qs → length (derivation_bytes qs) ≤ n → steps_from n (derivation_bytes qs) ≡ qs
unfolding steps_from derivation_bytes step_bytes
steps_from_lem zero [] s l = refl
steps_from_lem zero (q ∷ qs) s l = absurd (nothing (step_bytes q) (derivation_bytes qs) (step_length q s.0) l)
  where
    nothing : (k r : List ℕ) → length k ≡ step_size q.kind → length (k ++ r) ≤ zero → ⊥
    nothing k r e l = omega (arith, length-append k r, size_positive q.kind)
steps_from_lem (suc n) [] s l = refl
steps_from_lem (suc n) (q ∷ qs) s l =
    let r = derivation_bytes qs in
    ap₂ (λ a b. a ∷ b) (step_read q r s.0)
    (ap (steps_from n) (step_rest q r s.0) ∙ steps_from_lem n qs s.1 (shorter q r n s.0 l))

pub steps_back : (qs : List Step) → All Shaped qs → steps_in (derivation_bytes qs) ≡ qs
steps_back qs s = steps_from_lem (length (derivation_bytes qs)) qs s (omega arith)

-- each step, behind steps with the facts `past`, passes its tests
pub record Sound (rs : List Record) (m : ℕ) (past : List (Fact Tree)) (q : Step) : Type 0 where
  pub shaped : Shaped q
  pub formed : T (not (is_malformed (formulas rs) q.fact))
  pub earlier : All (λ i. i < length past) (premises_of q)
  pub follows : StepFollows rs m past q

abbrev pub SoundBehind : List Record → ℕ → List (Fact Tree) → List Step → Type 0
SoundBehind rs m past [] = Unit
SoundBehind rs m past (q ∷ qs) = Sound rs m past q × SoundBehind rs m (past ++ (stated_by (formulas rs) q ∷ [])) qs

pub all_shaped : (rs : List Record) (m : ℕ) (past : List (Fact Tree)) (qs : List Step) → SoundBehind rs m past qs → All Shaped qs
all_shaped rs m past [] s = tt
all_shaped rs m past (q ∷ qs) s = (s.0.shaped, all_shaped rs m (past ++ (stated_by (formulas rs) q ∷ [])) qs s.1)

-- one step more behind them
pub sound_snoc : (rs : List Record) (m : ℕ) (past : List (Fact Tree)) (qs : List Step) (q : Step) → SoundBehind rs m past qs
    → Sound rs m (past ++ map (stated_by (formulas rs)) qs) q → SoundBehind rs m past (qs ++ (q ∷ []))
sound_snoc rs m past [] q a s = (rw append-nil at s, tt)
sound_snoc rs m past (r ∷ qs) q a s = (
  a.0,
  sound_snoc rs m (past ++ (stated_by (formulas rs) r ∷ [])) qs q a.1
      (rw (append_assoc past (stated_by (formulas rs) r ∷ []) (map (stated_by (formulas rs)) qs)) s),
)

-- at most twelve bytes to each
pub sizes : (qs : List Step) → All Shaped qs → length (derivation_bytes qs) ≤ 12 * length qs
unfolding derivation_bytes step_size
sizes [] s = omega arith
sizes (q ∷ qs) s =
    omega (arith, length-append (step_bytes q) (derivation_bytes qs), step_length q s.0, at_most_two q.kind, sizes qs s.1)

module _ (rs : List Record) (m : ℕ) (goal : Fact Tree) where
  -- one step more, on any bytes that begin with it
  one_step : (n : ℕ) (past : List (Fact Tree)) (q : Step) (k : ℕ) (s rest : List ℕ) → length past < 65535 → Sound rs m past q
      → step_at (k ∷ s) ≡ q → k ≡ q.kind → step_size k ≤ length (k ∷ s) → drop (step_size k) (k ∷ s) ≡ rest
      → VerdictBehind rs m goal n (past ++ (stated_by (formulas rs) q ∷ [])) rest (accepted tt)
      → VerdictBehind rs m goal (suc n) past (k ∷ s) (accepted tt)
  one_step n past q k s rest few h e d whole r v =
      inl (inr (few, inr ((rw d h.shaped.known, whole), inr (rw e h.formed, inr (rw e h.earlier, inr (rw e h.follows, refl))))), rw (e, r) v)

  accepts_behind : (n : ℕ) (past : List (Fact Tree)) (qs : List Step) → SoundBehind rs m past qs → length past + length qs ≤ 65535
      → length (derivation_bytes qs) ≤ n → EndsIn goal (past ++ map (stated_by (formulas rs)) qs)
      → VerdictBehind rs m goal n past (derivation_bytes qs) (accepted tt)
  unfolding derivation_bytes step_bytes
  accepts_behind zero past [] s few l e = inr (rw append-nil at e, refl)
  accepts_behind (suc n) past [] s few l e = inr (rw append-nil at e, refl)
  accepts_behind zero past (q ∷ qs) s few l e = absurd (omega arith)
  accepts_behind (suc n) past (q ∷ qs) s few l e =
      let f = stated_by (formulas rs) q in
      let r = derivation_bytes qs in
      let h = s.0.shaped in
      one_step n past q q.kind ((q.fact ++ number_bytes q.numbers) ++ r) r (omega arith) s.0 (step_read q r h) refl
      (whole q r h) (step_rest q r h)
      (accepts_behind n (past ++ (f ∷ [])) qs s.1 (simp length-append (omega arith)) (shorter q r n h l)
      (rw (append_assoc past (f ∷ []) (map (stated_by (formulas rs)) qs)) e))

-- THE CHECKER ACCEPTS at most 65,535 steps that pass their tests and end in the goal
pub accepts_steps : (rs : List Record) (g : ℕ) (qs : List Step) → SoundBehind rs (goal_of rs g).first [] qs → length qs ≤ 65535
    → EndsIn (goal_fact (formulas rs) (goal_of rs g)) (map (stated_by (formulas rs)) qs) → Verdict rs g (derivation_bytes qs) (accepted tt)
accepts_steps rs g qs s few e =
    accepts_behind rs (goal_of rs g).first (goal_fact (formulas rs) (goal_of rs g)) (length (derivation_bytes qs)) [] qs s (omega arith) (omega arith) e

-- and such steps, with no fact repeated and every step before the last used, are an answer of demand 3
pub proves_steps : (rs : List Record) (g : ℕ) (qs : List Step) → SoundBehind rs (goal_of rs g).first [] qs → length qs ≤ 65535
    → EndsIn (goal_fact (formulas rs) (goal_of rs g)) (map (stated_by (formulas rs)) qs) → Distinct (map (λ q. q.fact) qs) → AllUsed qs
    → Proves rs g (derivation_bytes qs)
proves_steps rs g qs s few e d u =
    let b = steps_back qs (all_shaped rs (goal_of rs g).first [] qs s) in
    record { accepts = accepts_steps rs g qs s few e; distinct = rw b d; used = rw b u }
