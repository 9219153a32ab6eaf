-- A survey depends on a book's formula records, assumptions and messages, each in their order, and on nothing else: neither on the
-- places of the formula records among the others, nor on the goals. With the same goals too, the same of them are reached, and the
-- checker says the same of every derivation.
use Prim.Native.Nat.{ℕ, zero, suc, ◌<◌}
use mathlib.Core.Path.{◌≡◌, refl, sym, ◌∙◌, ap, subst, fun_ext}
use mathlib.Core.Logic.{inl, inr, ◌↔◌}
use mathlib.Core.List.{List, [], ◌∷◌, ◌++◌}
use mathlib.Core.Bool.{not}
use native.Mathlib.Omega.{arith}
use lib.ListN.{length, get_or, drop}
use lib.Dec.{T, eqb, eqb→eq}
use Rattle.logic.specs.declared.Record.{Record}
use Rattle.logic.specs.Kind.{is_formula_record}
use Rattle.logic.specs.Count.{of_kind, formulas, others, goals}
use Rattle.logic.specs.Refusal.{Outcome}
use Rattle.logic.specs.Refusal.Outcome.{accepted}
use Rattle.logic.specs.Reading.{reading}
use Rattle.logic.specs.Formula.{Tree}
use Rattle.logic.specs.Fact.{Fact, initial, goal_fact}
use Rattle.logic.specs.Place.{F}
use Rattle.logic.specs.Step.{step_at, step_size, stated_by, goal_of, VerdictBehind, Verdict, CheckedAfter, Checked}
use Rattle.logic.specs.Survey.{PlaceHolds, IsSurvey, held, SurveyedAfter, Surveyed}
use Rattle.logic.specs.Proof.{Reached}
use Rattle.logic.specs.Rearranged.{Rearranged, SameButGoals, SameWritten}
use Rattle.logic.proofs.Follows.{of_kind_within}
use Rattle.logic.proofs.Surveys.{survey_once}
use Rattle.logic.proofs.Verdict.{checked_once}

-- equal statements hold alike
either_way : {A B : Type 0} → A ≡ B → A ↔ B
either_way e = (subst (λ X. X) e, subst (λ X. X) (sym e))

-- THE STRONG FORM: equal formula records, assumptions and messages.

pub back : (rs qs : List Record) → SameButGoals rs qs → SameButGoals qs rs
back rs qs s = (sym s.0, sym s.1, sym s.2)

-- the same facts hold up to each message
pub same_initial : (rs qs : List Record) → SameButGoals rs qs → initial rs ≡ initial qs
unfolding initial
same_initial rs qs s = fun_ext (λ m. rw (s.0, s.1, s.2))

-- so each place holds the same
same_place : (rs qs : List Record) → SameButGoals rs qs → (i v : ℕ) → PlaceHolds (formulas rs) (initial rs) i v ≡ PlaceHolds (formulas qs) (initial qs) i v
same_place rs qs s i v = rw (s.0, same_initial rs qs s)

same_survey_there : (rs qs : List Record) → SameButGoals rs qs → (t : List ℕ) → IsSurvey (formulas rs) (initial rs) t → IsSurvey (formulas qs) (initial qs) t
same_survey_there rs qs s t h =
    record {
      size = h.size ∙ ap F s.0;
      holds = λ i l. subst (λ X. X) (same_place rs qs s i (get_or t i 0)) (h.holds i (subst (λ fs. i < F fs) (sym s.0) l));
    }

-- EQUAL SURVEYS
pub same_survey : (rs qs : List Record) → SameButGoals rs qs → (t : List ℕ) → IsSurvey (formulas rs) (initial rs) t ↔ IsSurvey (formulas qs) (initial qs) t
same_survey rs qs s t = (same_survey_there rs qs s t, same_survey_there qs rs (back rs qs s) t)

-- Books with as many places, whose surveys are equal: one answer, and one run of bytes written.
equal_answer : (rs qs : List Record) → F (formulas rs) ≡ F (formulas qs)
    → ((t : List ℕ) → IsSurvey (formulas rs) (initial rs) t → IsSurvey (formulas qs) (initial qs) t)
    → (t t' u u' : List ℕ) (o v : Outcome ℕ) → length t ≡ length u
    → SurveyedAfter (accepted rs) t t' o → SurveyedAfter (accepted qs) u u' v → (o ≡ v) × SameWritten t t' u u'
equal_answer rs qs n there t t' u u' o v l (inl (a, b, c)) (inl (d, e, f)) = (b ∙ sym e, ([], c, f))
equal_answer rs qs n there t t' u u' o v l (inl (a, b, c)) (inr (d, e)) = absurd (omega arith)
equal_answer rs qs n there t t' u u' o v l (inr (a, b)) (inl (d, e, f)) = absurd (omega arith)
equal_answer rs qs n there t t' u u' o v l (inr (a, (x, h, b, c))) (inr (d, (y, k, e, f))) =
    let z = survey_once (formulas qs) (initial qs) x y (there x h) k in (
      b ∙ (ap (λ w. accepted (held w)) z ∙ sym e),
      (
        x,
        c ∙ ap (λ n. x ++ drop n t) (sym h.size),
        f ∙ (ap (λ n. y ++ drop n u) (sym k.size) ∙ ap (λ w. w ++ drop (length w) u) (sym z)),
      ),
    )

pub equal_surveyed : (b c : List ℕ) (rs qs : List Record) → reading b ≡ accepted rs → reading c ≡ accepted qs → F (formulas rs) ≡ F (formulas qs)
    → ((t : List ℕ) → IsSurvey (formulas rs) (initial rs) t → IsSurvey (formulas qs) (initial qs) t)
    → (t t' u u' : List ℕ) (o v : Outcome ℕ) → length t ≡ length u → Surveyed b t t' o → Surveyed c u u' v
    → (o ≡ v) × SameWritten t t' u u'
equal_surveyed b c rs qs e f n there t t' u u' o v l x y =
    equal_answer rs qs n there t t' u u' o v l (subst (λ r. SurveyedAfter r t t' o) e x) (subst (λ r. SurveyedAfter r u u' v) f y)

-- EQUAL ANSWERS, EQUAL BYTES: what `survey` answers for two such books and tables of one length is equal, and so is what it writes
pub same_surveyed : (b c : List ℕ) (rs qs : List Record) → reading b ≡ accepted rs → reading c ≡ accepted qs → SameButGoals rs qs
    → (t t' u u' : List ℕ) (o v : Outcome ℕ) → length t ≡ length u → Surveyed b t t' o → Surveyed c u u' v
    → (o ≡ v) × SameWritten t t' u u'
same_surveyed b c rs qs e f s = equal_surveyed b c rs qs e f (ap F s.0) (same_survey_there rs qs s)

-- THE WISH: the same formula records in the same order, and the same other records in the same order.

-- a class of other records is found among these
other_class : (c : ℕ) → T (not (is_formula_record c)) → (rs : List Record) → of_kind (λ k. eqb k c) (others rs) ≡ of_kind (λ k. eqb k c) rs
other_class c t rs =
    of_kind_within (λ k. eqb k c) (λ k. not (is_formula_record k)) (λ k e. subst (λ n. T (not (is_formula_record n))) (sym (eqb→eq k c e)) t) rs

pub same_class : (c : ℕ) → T (not (is_formula_record c)) → (rs qs : List Record) → others rs ≡ others qs
    → of_kind (λ k. eqb k c) rs ≡ of_kind (λ k. eqb k c) qs
same_class c t rs qs e = sym (other_class c t rs) ∙ (ap (of_kind (λ k. eqb k c)) e ∙ other_class c t qs)

pub rearranged_same : (rs qs : List Record) → Rearranged rs qs → SameButGoals rs qs
rearranged_same rs qs s = (s.0, same_class 32 tt rs qs s.1, same_class 33 tt rs qs s.1)

pub rearranged_goals : (rs qs : List Record) → Rearranged rs qs → goals rs ≡ goals qs
rearranged_goals rs qs s = same_class 34 tt rs qs s.1

-- "Two accepted books with the same formula records in the same order, and the same other records in the same order, have equal
-- surveys."
pub rearranged_survey : (rs qs : List Record) → Rearranged rs qs → (t : List ℕ) → IsSurvey (formulas rs) (initial rs) t ↔ IsSurvey (formulas qs) (initial qs) t
rearranged_survey rs qs s = same_survey rs qs (rearranged_same rs qs s)

pub rearranged_surveyed : (b c : List ℕ) (rs qs : List Record) → reading b ≡ accepted rs → reading c ≡ accepted qs → Rearranged rs qs
    → (t t' u u' : List ℕ) (o v : Outcome ℕ) → length t ≡ length u → Surveyed b t t' o → Surveyed c u u' v
    → (o ≡ v) × SameWritten t t' u u'
rearranged_surveyed b c rs qs e f s = same_surveyed b c rs qs e f (rearranged_same rs qs s)

-- and the same goals are reached
pub rearranged_reached : (rs qs : List Record) → Rearranged rs qs → (g : ℕ) → Reached rs g ↔ Reached qs g
rearranged_reached rs qs s g = either_way (rw (rearranged_goals rs qs s, s.0, same_initial rs qs (rearranged_same rs qs s)))

-- THE SAME DERIVATIONS: what the checker says of the bytes of a derivation does not depend on where formula records stand.

same_behind : (rs qs : List Record) → SameButGoals rs qs → (m : ℕ) (goal : Fact Tree) (n : ℕ) (past : List (Fact Tree)) (s : List ℕ) (o : Outcome Unit)
    → VerdictBehind rs m goal n past s o ≡ VerdictBehind qs m goal n past s o
same_behind rs qs e m goal zero past s o = refl
same_behind rs qs e m goal (suc n) past [] o = refl
same_behind rs qs e m goal (suc n) past (k ∷ s) o =
    let h = same_behind rs qs e m goal n (past ++ (stated_by (formulas qs) (step_at (k ∷ s)) ∷ [])) (drop (step_size k) (k ∷ s)) o in
    rw (e.0, e.1, e.2, h)

same_verdict : (rs qs : List Record) → Rearranged rs qs → (g : ℕ) (s : List ℕ) (o : Outcome Unit) → Verdict rs g s o ≡ Verdict qs g s o
same_verdict rs qs e g s o =
    rw (rearranged_goals rs qs e, e.0)
    (same_behind rs qs (rearranged_same rs qs e) (goal_of qs g).first (goal_fact (formulas qs) (goal_of qs g)) (length s) [] s o)

-- what `check` answers for such books, one goal and one derivation is equal
pub rearranged_checked : (b c : List ℕ) (rs qs : List Record) → reading b ≡ accepted rs → reading c ≡ accepted qs → Rearranged rs qs
    → (g : ℕ) (s : List ℕ) (o v : Outcome Unit) → Checked b g s o → Checked c g s v → o ≡ v
rearranged_checked b c rs qs e f h g s o v x y =
    checked_once c g s o v
    (subst (λ r. CheckedAfter r g s o) (sym f)
    (subst (λ X. X) same (subst (λ r. CheckedAfter r g s o) e x))) y
  where
    same : CheckedAfter (accepted rs) g s o ≡ CheckedAfter (accepted qs) g s o
    same = rw (same_verdict rs qs h g s o, rearranged_goals rs qs h)
