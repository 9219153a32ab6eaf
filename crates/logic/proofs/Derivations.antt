-- The verdict on a derivation, step by step, without the bound on the steps that are left; and what is accepted: just the bytes of steps
-- that form a derivation over trees.
use Prim.Native.Nat.{ℕ, zero, suc, ◌+◌, ◌*◌, ◌/◌, ◌%◌, ◌≤◌, ◌<◌}
use native.Mathlib.Nat.{le_refl}
use native.Mathlib.Omega.{arith}
use mathlib.Core.Path.{◌≡◌, refl, sym, ap, subst, ◌∙◌}
use mathlib.Core.Logic.{inl, inr}
use mathlib.Core.List.{List, [], ◌∷◌, ◌++◌, map, append-nil, append_assoc}
use mathlib.Core.Bool.{not}
use lib.ListN.{length, get_or, take, drop, length-take, length-drop, length-append, take-append-drop}
use lib.Seq.{append_snoc}
use lib.Dec.{T}
use Rattle.logic.specs.declared.Record.{Record}
use Rattle.logic.specs.Record.{word}
use Rattle.logic.specs.Count.{formulas, goals}
use Rattle.logic.specs.Refusal.{Outcome}
use Rattle.logic.specs.Refusal.Outcome.{accepted, refused}
use Rattle.logic.specs.Reading.{reading}
use Rattle.logic.specs.Formula.{Tree}
use Rattle.logic.specs.Fact.{Fact, goal_fact}
use Rattle.logic.specs.Derivation.{Among, EndsIn}
use Rattle.logic.specs.Written.{is_malformed}
use Rattle.logic.specs.Step.{Step, numbers_in, step_size, step_at, premises_of, stated_by, StepFault, AtEnd, VerdictBehind, goal_of, Verdict, Checked}
use Rattle.logic.proofs.Bytes.{Bytes, two_at, high_of, low_of, bytes_drop}
use Rattle.logic.proofs.Verdict.{Passed, passed, no_steps, premise_zero_lem}
use Rattle.logic.proofs.Steps.{number_bytes, step_bytes, derivation_bytes, Shaped, at_most_two, SoundBehind, accepts_steps}

module _ (rs : List Record) (m : ℕ) (goal : Fact Tree) where
  -- behind a step there are fewer bytes
  left_fewer : (k : ℕ) (s : List ℕ) → length (drop (step_size k) (k ∷ s)) ≤ length s
  unfolding step_size
  left_fewer k s = simp length-drop (omega arith)

  -- a bound that is no smaller than the bytes that are left changes nothing
  pub enough : (n k : ℕ) (past : List (Fact Tree)) (s : List ℕ) (o : Outcome Unit) → length s ≤ n → length s ≤ k
      → VerdictBehind rs m goal n past s o → VerdictBehind rs m goal k past s o
  enough zero zero past [] o h l v = v
  enough zero (suc k) past [] o h l v = v
  enough (suc n) zero past [] o h l v = v
  enough (suc n) (suc k) past [] o h l v = v
  enough zero k past (b ∷ s) o h l v = absurd (omega arith)
  enough (suc n) zero past (b ∷ s) o h l v = absurd (omega arith)
  enough (suc n) (suc k) past (b ∷ s) o h l (inl (f, v)) =
      inl (
        f,
        enough n k (past ++ (stated_by (formulas rs) (step_at (b ∷ s)) ∷ [])) (drop (step_size b) (b ∷ s)) o
            (omega (arith, left_fewer b s)) (omega (arith, left_fewer b s)) v,
      )
  enough (suc n) (suc k) past (b ∷ s) o h l (inr v) = inr v

  -- the verdict on the bytes that are left behind steps with the facts `past`
  abbrev pub VerdictOn : List (Fact Tree) → List ℕ → Outcome Unit → Type 0
  VerdictOn past s o = VerdictBehind rs m goal (length s) past s o

  -- a step without fault
  pub step_on : (past : List (Fact Tree)) (s : List ℕ) (o : Outcome Unit) → 0 < length s → StepFault rs m past s 0
      → VerdictOn (past ++ (stated_by (formulas rs) (step_at s) ∷ [])) (drop (step_size (get_or s 0 0)) s) o → VerdictOn past s o
  step_on past [] o l f v = absurd (omega arith)
  step_on past (k ∷ s) o l f v =
      inl (
        f,
        enough (length (drop (step_size k) (k ∷ s))) (length s) (past ++ (stated_by (formulas rs) (step_at (k ∷ s)) ∷ []))
            (drop (step_size k) (k ∷ s)) o (le_refl _) (left_fewer k s) v,
      )

  -- a step at fault
  pub step_off : (past : List (Fact Tree)) (s : List ℕ) (f : ℕ) → 0 < length s → StepFault rs m past s (suc f)
      → VerdictOn past s (refused (suc f) (length past))
  step_off past [] f l h = absurd (omega arith)
  step_off past (k ∷ s) f l h = inr (f, h, refl)

-- The bytes that a step was read from.

number_front : (s : List ℕ) (i : ℕ) → Bytes s → i + 2 ≤ length s → drop i s ≡ word s i / 256 ∷ word s i % 256 ∷ drop (i + 2) s
unfolding word
number_front s i b l = rw (high_of _ _ (b (i + 1)), low_of _ _ (b (i + 1))) (two_at s i l)

numbers_front : (v : ℕ) (s : List ℕ) → Bytes s → v ≤ 2 → 8 + 2 * v ≤ length s
    → drop 8 s ≡ number_bytes (take v (word s 8 ∷ word s 10 ∷ [])) ++ drop (8 + 2 * v) s
numbers_front zero s b l m = refl
numbers_front (suc zero) s b l m = number_front s 8 b m
numbers_front (suc (suc zero)) s b l m =
    number_front s 8 b (omega arith) ∙ ap (λ x. word s 8 / 256 ∷ word s 8 % 256 ∷ x) (number_front s 10 b m)
numbers_front (suc (suc (suc v))) s b l m = absurd (omega arith)

step_front : (k : ℕ) (s : List ℕ) → Bytes (k ∷ s) → step_size k ≤ length (k ∷ s)
    → k ∷ s ≡ step_bytes (step_at (k ∷ s)) ++ drop (step_size k) (k ∷ s)
unfolding step_at step_bytes step_size
step_front k s b l =
    let x = k ∷ s in
    let ns = take (numbers_in k) (word x 8 ∷ word x 10 ∷ []) in
    sym (append_assoc (k ∷ take 7 s) (number_bytes ns) (drop (8 + 2 * numbers_in k) x)
    ∙ (ap (λ y. (k ∷ take 7 s) ++ y) (sym (numbers_front (numbers_in k) x b (at_most_two k) l))
    ∙ ap (λ y. k ∷ y) (take-append-drop 7 s)))

-- a step that passes is a step
passes_step : (rs : List Record) (m : ℕ) (past : List (Fact Tree)) (s : List ℕ) → Passed rs m past s → Shaped (step_at s)
unfolding step_at step_size
passes_step rs m past s p =
    let w = p.whole in
    let a = w.1 in
    record {
      known = w.0;
      seven = simp (length-take, length-drop) (omega arith);
      enough = counted (numbers_in (get_or s 0 0)) (word s 8) (word s 10) (at_most_two (get_or s 0 0));
    }
  where
    counted : (v i j : ℕ) → v ≤ 2 → length (take v (i ∷ j ∷ [])) ≡ v
    counted zero i j l = refl
    counted (suc zero) i j l = refl
    counted (suc (suc zero)) i j l = refl
    counted (suc (suc (suc v))) i j l = absurd (omega arith)

-- WHAT IS ACCEPTED is the bytes of steps that pass their tests and end in the goal.
module _ (rs : List Record) (m : ℕ) (goal : Fact Tree) where
  -- steps behind the facts `past`
  record Goes (past : List (Fact Tree)) (s : List ℕ) : Type 0 where
    steps : List Step
    written : s ≡ derivation_bytes steps
    few : length past + length steps ≤ 65535
    sound : SoundBehind rs m past steps
    ends : EndsIn goal (past ++ map (stated_by (formulas rs)) steps)

  goes_end : (past : List (Fact Tree)) → length past ≤ 65535 → AtEnd goal past (accepted tt) → Goes past []
  unfolding derivation_bytes
  goes_end past l (inl (n, e)) = absurd (let z : ◌≡◌ {A = ℕ} 0 1 = cc in omega arith)
  goes_end past l (inr (i, e)) = record { steps = []; written = refl; few = omega arith; sound = tt; ends = rw append-nil i }

  goes : (n : ℕ) (past : List (Fact Tree)) (s : List ℕ) → length past ≤ 65535 → length s ≤ n → Bytes s
      → VerdictBehind rs m goal n past s (accepted tt) → Goes past s
  unfolding derivation_bytes
  goes zero past [] l h b v = goes_end past l v
  goes (suc n) past [] l h b v = goes_end past l v
  goes zero past (k ∷ s) l h b v = absurd (omega arith)
  goes (suc n) past (k ∷ s) l h b (inr (f, a, e)) = absurd (let z : ◌≡◌ {A = ℕ} 0 1 = cc in omega arith)
  goes (suc n) past (k ∷ s) l h b (inl (a, v)) =
      let q = step_at (k ∷ s) in
      let f = stated_by (formulas rs) q in
      let p = passed rs m past (k ∷ s) a in
      let few = p.few in
      let d = length-append past (f ∷ []) in
      let r = goes n (past ++ (f ∷ [])) (drop (step_size k) (k ∷ s)) (omega arith) (omega (arith, left_fewer rs m goal k s)) (bytes_drop (step_size k) (k ∷ s) b) v in
      let c = r.few in
      record {
        steps = q ∷ r.steps;
        written = step_front k s b p.whole.1 ∙ ap (λ x. step_bytes q ++ x) r.written;
        few = omega arith;
        sound = (record { shaped = passes_step rs m past (k ∷ s) p; formed = p.formed; earlier = p.earlier; follows = p.follows }, r.sound);
        ends = rw append_snoc at r.ends;
      }

-- the bytes s are steps that form a derivation of goal g over trees, up to the goal's message: each is of a known kind with a sound fact,
-- names earlier steps only, and is the assumption or message that it names or follows from them by the rule of its kind
pub record IsProof (rs : List Record) (g : ℕ) (s : List ℕ) : Type 0 where
  pub steps : List Step
  pub written : s ≡ derivation_bytes steps
  pub few : length steps ≤ 65535
  pub sound : SoundBehind rs (goal_of rs g).first [] steps
  pub ends : EndsIn (goal_fact (formulas rs) (goal_of rs g)) (map (stated_by (formulas rs)) steps)

-- ACCEPTED IF AND ONLY IF the bytes are steps that form a derivation of the goal's fact over trees, up to the goal's message
pub accepted_proof : (rs : List Record) (g : ℕ) (s : List ℕ) → Bytes s → Verdict rs g s (accepted tt) → IsProof rs g s
accepted_proof rs g s b v =
    let r = goes rs (goal_of rs g).first (goal_fact (formulas rs) (goal_of rs g)) (length s) [] s (omega arith) (le_refl _) b v in
    let l = r.few in
    record { steps = r.steps; written = r.written; few = omega arith; sound = r.sound; ends = r.ends }

pub proof_accepted : (rs : List Record) (g : ℕ) (s : List ℕ) → IsProof rs g s → Verdict rs g s (accepted tt)
proof_accepted rs g s h =
    subst (λ x. Verdict rs g x (accepted tt)) (sym h.written) (accepts_steps rs g h.steps h.sound h.few h.ends)

-- THE STARRED LINES, for every accepted book and each of its goals.

-- no steps: 20 at 0
pub checked_no_steps : (b : List ℕ) (rs : List Record) (g : ℕ) → reading b ≡ accepted rs → g < length (goals rs) → Checked b g [] (refused 20 0)
checked_no_steps b rs g e l = rw e (inr (l, no_steps rs g))

-- step 0, of a known kind with a sound fact, naming premise 0: 18
pub checked_premise_zero : (b : List ℕ) (rs : List Record) (g k : ℕ) (s : List ℕ) → reading b ≡ accepted rs → g < length (goals rs)
    → 0 < numbers_in k → step_size k ≤ length (k ∷ s) → T (not (is_malformed (formulas rs) (step_at (k ∷ s)).fact))
    → Among 0 (premises_of (step_at (k ∷ s))) → Checked b g (k ∷ s) (refused 18 0)
checked_premise_zero b rs g k s e l known whole formed named = rw e (inr (l, premise_zero_lem rs g k s known whole formed named))
