-- The checker's verdict. There is at most one, and what is accepted is a derivation over trees of the goal's fact.
use Prim.Native.Nat.{ℕ, zero, suc, ◌+◌, ◌-◌, ◌≤◌, ◌<◌}
use mathlib.Core.Path.{◌≡◌, refl, sym, ◌∙◌, ap, subst}
use mathlib.Core.Logic.{inl, inr}
use mathlib.Core.List.{List, [], ◌∷◌, ◌++◌, map, append-nil, append_assoc}
use mathlib.Core.Bool.{Bool, true, false, cond, not, ◌||◌, ◌&&◌}
use native.Mathlib.Omega.{arith}
use lib.ListN.{length, get_or, take, drop}
use lib.Dec.{T, leb, eqb, lit<}
use borrow.Author.Tests.{le-leb}
use Rattle.logic.specs.declared.Record.{Record}
use Rattle.logic.specs.Record.{no_record, word}
use Rattle.logic.specs.Count.{formulas, assumptions, messages}
use Rattle.logic.specs.Refusal.{Outcome}
use Rattle.logic.specs.Refusal.Outcome.{accepted, refused}
use Rattle.logic.specs.Reading.{reading}
use Rattle.logic.specs.Book.{All, Book}
use Rattle.logic.specs.Formula.{Tree, Recorded}
use Rattle.logic.specs.Fact.{Fact, assumed, delivered, goal_fact, initial}
use Rattle.logic.specs.Rule.{Rule}
use Rattle.logic.specs.Derivation.{Among, Justified, DerivationBehind, Derivation, EndsIn}
use Rattle.logic.specs.Written.{is_written, is_malformed, fact_in}
use Rattle.logic.specs.Step.{Step, numbers_in, step_size, step_at, steps_from, steps_in, premises_of, stated_by, no_fact, StepFollows, Required, StepFault, AtEnd, VerdictBehind, goal_of, Verdict, CheckedAfter, Checked}
use Rattle.logic.specs.Proof.{Reached}
use Rattle.logic.proofs.Member.{among_left, among_right, among_map, all_map, all_imp, all_at}
use Rattle.logic.proofs.Contents.{contents, among_at}
use Rattle.logic.proofs.Meaning.{valid, is_fact}
use Rattle.logic.proofs.Formulas.{Formulas}
use Rattle.logic.proofs.Arity.{numbered}

-- AT MOST ONE VERDICT.

required_once : (n : ℕ) (A : Type 0) (next : ℕ → Type 0) → ((f g : ℕ) → next f → next g → f ≡ g) → (f g : ℕ) → Required n A next f → Required n A next g → f ≡ g
required_once n A next h f g (inl (a, d)) (inl (b, e)) = d ∙ sym e
required_once n A next h f g (inl (a, d)) (inr (b, e)) = absurd (a b)
required_once n A next h f g (inr (a, d)) (inl (b, e)) = absurd (b a)
required_once n A next h f g (inr (a, d)) (inr (b, e)) = h f g d e

pub fault_once : (rs : List Record) (m : ℕ) (past : List (Fact Tree)) (s : List ℕ) (f g : ℕ)
    → StepFault rs m past s f → StepFault rs m past s g → f ≡ g
fault_once rs m past s =
    required_once 21 _ _ (required_once 16 _ _ (required_once 17 _ _ (required_once 18 _ _ (required_once 19 _ _ (λ f g d e. d ∙ sym e)))))

end_once : (goal : Fact Tree) (past : List (Fact Tree)) (o u : Outcome Unit) → AtEnd goal past o → AtEnd goal past u → o ≡ u
end_once goal past o u (inl (a, d)) (inl (b, e)) = d ∙ sym e
end_once goal past o u (inl (a, d)) (inr (b, e)) = absurd (a b)
end_once goal past o u (inr (a, d)) (inl (b, e)) = absurd (b a)
end_once goal past o u (inr (a, d)) (inr (b, e)) = d ∙ sym e

verdict_behind_once : (rs : List Record) (m : ℕ) (goal : Fact Tree) (n : ℕ) (past : List (Fact Tree)) (s : List ℕ) (o u : Outcome Unit)
    → VerdictBehind rs m goal n past s o → VerdictBehind rs m goal n past s u → o ≡ u
verdict_behind_once rs m goal zero past s o u v w = end_once goal past o u v w
verdict_behind_once rs m goal (suc n) past [] o u v w = end_once goal past o u v w
verdict_behind_once rs m goal (suc n) past (k ∷ s) o u (inl (a, v)) (inl (b, w)) =
    verdict_behind_once rs m goal n (past ++ (stated_by (formulas rs) (step_at (k ∷ s)) ∷ [])) (drop (step_size k) (k ∷ s)) o u v w
verdict_behind_once rs m goal (suc n) past (k ∷ s) o u (inl (a, v)) (inr (g, b, e)) =
    absurd (let z : 0 ≡ suc g = fault_once rs m past (k ∷ s) 0 (suc g) a b in omega arith)
verdict_behind_once rs m goal (suc n) past (k ∷ s) o u (inr (f, a, d)) (inl (b, w)) =
    absurd (let z : 0 ≡ suc f = fault_once rs m past (k ∷ s) 0 (suc f) b a in omega arith)
verdict_behind_once rs m goal (suc n) past (k ∷ s) o u (inr (f, a, d)) (inr (g, b, e)) =
    let h = fault_once rs m past (k ∷ s) (suc f) (suc g) a b in
    d ∙ (ap (λ i. refused i (length past)) h ∙ sym e)

pub verdict_once : (rs : List Record) (g : ℕ) (s : List ℕ) (o u : Outcome Unit) → Verdict rs g s o → Verdict rs g s u → o ≡ u
verdict_once rs g s o u v w =
    verdict_behind_once rs (goal_of rs g).first (goal_fact (formulas rs) (goal_of rs g)) (length s) [] s o u v w

checked_after_once : (r : Outcome (List Record)) (g : ℕ) (s : List ℕ) (o u : Outcome Unit) → CheckedAfter r g s o → CheckedAfter r g s u → o ≡ u
checked_after_once (refused f i) g s o u v w = v ∙ sym w
checked_after_once (accepted rs) g s o u (inl (a, d)) (inl (b, e)) = d ∙ sym e
checked_after_once (accepted rs) g s o u (inl (a, d)) (inr (b, e)) = absurd (omega arith)
checked_after_once (accepted rs) g s o u (inr (a, d)) (inl (b, e)) = absurd (omega arith)
checked_after_once (accepted rs) g s o u (inr (a, v)) (inr (b, w)) = verdict_once rs g s o u v w

-- the checker's answer is fixed by the bytes it is given
pub checked_once : (b : List ℕ) (g : ℕ) (s : List ℕ) (o u : Outcome Unit) → Checked b g s o → Checked b g s u → o ≡ u
checked_once b g s o u v w = checked_after_once (reading b) g s o u v w

-- WHAT IS ACCEPTED IS A DERIVATION.

-- the facts that premises name stand earlier
named : (past : List (Fact Tree)) (ns : List ℕ) → All (λ i. i < length past) ns → All (λ f. Among f past) (map (λ i. get_or past i no_fact) ns)
named past ns h = all_map (λ i. get_or past i no_fact) (λ f. Among f past) ns (all_imp (λ i. i < length past) (λ i. Among (get_or past i no_fact) past) (λ i l. fact_at_lem past i l) ns h)
  where
    fact_at_lem : (l : List (Fact Tree)) (i : ℕ) → i < length l → Among (get_or l i no_fact) l
    fact_at_lem [] i h = absurd (omega arith)
    fact_at_lem (f ∷ l) zero h = inl refl
    fact_at_lem (f ∷ l) (suc i) h = inr (fact_at_lem l i (omega arith))

member_taken : (l : List Record) (j m : ℕ) → j < m → j < length l → Among (get_or l j no_record) (take m l)
member_taken [] j m h i = absurd (omega arith)
member_taken (r ∷ l) j zero h i = absurd (omega arith)
member_taken (r ∷ l) zero (suc m) h i = inl refl
member_taken (r ∷ l) (suc j) (suc m) h i = inr (member_taken l j m (omega arith) (omega arith))

-- a fact that is not malformed may be written
may_be_written : (a b c w : Bool) → T (not (a || (b || (c || not w)))) → T w
may_be_written true b c w t = absurd t
may_be_written false true c w t = absurd t
may_be_written false false true w t = absurd t
may_be_written false false false true t = tt
may_be_written false false false false t = absurd t

pub well_formed_fact : (fs : List Record) (s : List ℕ) → T (not (is_malformed fs s)) → T (is_written fs (fact_in s))
unfolding is_malformed
well_formed_fact fs s t =
    may_be_written (not (eqb (length s) 7)) (not (leb 1 (get_or s 0 0) && leb (get_or s 0 0) 5))
    (leb (get_or s 0 0) 3 && not (eqb (word s 3) 0)) (is_written fs (fact_in s)) t

-- a rule's step names its premises
pub rule_premises : (q : Step) (n : ℕ) {ps : List (Fact Tree)} {f : Fact Tree} → Rule n ps f → q.kind ≡ 65 + n → premises_of q ≡ q.numbers
rule_premises q n r e =
    let h : 66 ≤ q.kind = omega (arith, (numbered r).from) in
    ap (λ b. cond b q.numbers []) (le-leb 66 q.kind h)

-- a step that follows is justified
pub step_justified : (rs : List Record) (m : ℕ) (past : List (Fact Tree)) (q : Step) → All (λ i. i < length past) (premises_of q)
    → StepFollows rs m past q → Justified (initial rs m) past (stated_by (formulas rs) q)
unfolding initial
step_justified rs m past q h (inl (k, (l, e))) =
    let fs = formulas rs in
    let r = get_or (assumptions rs) (get_or q.numbers 0 0) no_record in
    inl (among_left (stated_by fs q) (map (assumed fs) (assumptions rs)) (map (delivered fs) (take m (messages rs)))
    (subst (λ f. Among f (map (assumed fs) (assumptions rs))) e
    (among_map (assumed fs) r (assumptions rs) (among_at (assumptions rs) (get_or q.numbers 0 0) l))))
step_justified rs m past q h (inr (inl (k, (a, b, c, e)))) =
    let fs = formulas rs in
    let i = get_or q.numbers 0 0 in
    let r = get_or (messages rs) (i - 1) no_record in
    inl (among_right (stated_by fs q) (map (assumed fs) (assumptions rs)) (map (delivered fs) (take m (messages rs)))
    (subst (λ f. Among f (map (delivered fs) (take m (messages rs)))) e
    (among_map (delivered fs) r (take m (messages rs)) (member_taken (messages rs) (i - 1) m (omega arith) (omega arith)))))
step_justified rs m past q h (inr (inr (n, k, r))) =
    inr (n, map (λ i. get_or past i no_fact) q.numbers, r, named past q.numbers (rw (rule_premises q n r k) at h))

-- what the steps of some bytes state
abbrev pub facts_from : List Record → ℕ → List ℕ → List (Fact Tree)
facts_from rs n s = map (stated_by (formulas rs)) (steps_from n s)

-- what the five tests of a step let through
pub record Passed (rs : List Record) (m : ℕ) (past : List (Fact Tree)) (s : List ℕ) : Type 0 where
  pub few : length past < 65535
  pub whole : (0 < numbers_in (get_or s 0 0)) × (step_size (get_or s 0 0) ≤ length s)
  pub formed : T (not (is_malformed (formulas rs) (step_at s).fact))
  pub earlier : All (λ i. i < length past) (premises_of (step_at s))
  pub follows : StepFollows rs m past (step_at s)

pub passed : (rs : List Record) (m : ℕ) (past : List (Fact Tree)) (s : List ℕ) → StepFault rs m past s 0 → Passed rs m past s
passed rs m past s (inl (a, e)) = absurd (omega arith)
passed rs m past s (inr (a, inl (b, e))) = absurd (omega arith)
passed rs m past s (inr (a, inr (b, inl (c, e)))) = absurd (omega arith)
passed rs m past s (inr (a, inr (b, inr (c, inl (d, e))))) = absurd (omega arith)
passed rs m past s (inr (a, inr (b, inr (c, inr (d, inl (f, e)))))) = absurd (omega arith)
passed rs m past s (inr (a, inr (b, inr (c, inr (d, inr (f, e)))))) = record { few = a; whole = b; formed = c; earlier = d; follows = f }

module _ (rs : List Record) (ok : Formulas (formulas rs)) (m : ℕ) (goal : Fact Tree) where
  at_goal : (past : List (Fact Tree)) → AtEnd goal past (accepted tt) → EndsIn goal (past ++ [])
  at_goal past (inl (n, e)) = absurd (let z : ◌≡◌ {A = ℕ} 0 1 = cc in omega arith)
  at_goal past (inr (i, e)) = rw append-nil i

  accepted_behind : (n : ℕ) (past : List (Fact Tree)) (s : List ℕ) → VerdictBehind rs m goal n past s (accepted tt)
      → DerivationBehind (Recorded (formulas rs)) (initial rs m) past (facts_from rs n s) × EndsIn goal (past ++ facts_from rs n s)
  unfolding steps_from
  accepted_behind zero past s v = (tt, at_goal past v)
  accepted_behind (suc n) past [] v = (tt, at_goal past v)
  accepted_behind (suc n) past (k ∷ s) (inl (a, v)) =
      let fs = formulas rs in
      let q = step_at (k ∷ s) in
      let f = stated_by fs q in
      let t = passed rs m past (k ∷ s) a in
      let h = accepted_behind n (past ++ (f ∷ [])) (drop (step_size k) (k ∷ s)) v in (
        (
          is_fact fs ok (fact_in q.fact) (valid fs (fact_in q.fact) (well_formed_fact fs q.fact t.formed)),
          step_justified rs m past q t.earlier t.follows,
          h.0,
        ),
        rw (append_assoc past (f ∷ []) (facts_from rs n (drop (step_size k) (k ∷ s)))) at h.1,
      )
  accepted_behind (suc n) past (k ∷ s) (inr (f, a, e)) = absurd (let z : ◌≡◌ {A = ℕ} 0 1 = cc in omega arith)

-- the facts of an accepted derivation, in their order, are a derivation over trees up to the goal's message that ends in the goal's fact
pub accepted_derivation : (rs : List Record) → Book rs → (g : ℕ) (s : List ℕ) → Verdict rs g s (accepted tt)
    → Derivation (formulas rs) (initial rs (goal_of rs g).first) (map (stated_by (formulas rs)) (steps_in s))
    × EndsIn (goal_fact (formulas rs) (goal_of rs g)) (map (stated_by (formulas rs)) (steps_in s))
accepted_derivation rs b g s v =
    accepted_behind rs (contents rs b).formulas_ok (goal_of rs g).first (goal_fact (formulas rs) (goal_of rs g)) (length s) [] s v

-- so what the checker accepts exists
pub accepted_reached : (rs : List Record) → Book rs → (g : ℕ) (s : List ℕ) → Verdict rs g s (accepted tt) → Reached rs g
accepted_reached rs b g s v =
    let h = accepted_derivation rs b g s v in
    (map (stated_by (formulas rs)) (steps_in s), h.0, h.1)

-- NO STEPS: 20 at 0.
pub no_steps : (rs : List Record) (g : ℕ) → Verdict rs g [] (refused 20 0)
no_steps rs g = inl ((λ e. e), refl)

-- STEP 0, of a known kind with a sound fact, naming premise 0: 18 at 0.
pub premise_zero_lem : (rs : List Record) (g k : ℕ) (s : List ℕ) → 0 < numbers_in k → step_size k ≤ length (k ∷ s)
    → T (not (is_malformed (formulas rs) (step_at (k ∷ s)).fact)) → Among 0 (premises_of (step_at (k ∷ s))) → Verdict rs g (k ∷ s) (refused 18 0)
premise_zero_lem rs g k s known whole formed m =
    inr (17, inr (lit< tt, inr ((known, whole), inr (formed, inl ((λ h. not_below_zero (all_at (λ i. i < 0) 0 (premises_of (step_at (k ∷ s))) h m)), refl)))), refl)
  where
    not_below_zero : 0 < 0 → ⊥
    not_below_zero l = omega arith
