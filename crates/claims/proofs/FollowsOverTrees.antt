-- Whether a step follows, in terms of the index of a book, is whether it follows over trees. Assumes nothing.
use Prim.Native.Nat.{ℕ, zero, suc, ◌+◌, ◌-◌, ◌<◌, ◌≤◌}
use native.Mathlib.Nat.{add-zero, add-suc, suc-add}
use native.Mathlib.Omega.{arith}
use mathlib.Core.Path.{◌≡◌, refl, sym, ap, ap₂, subst, fun_ext, ◌∙◌}
use mathlib.Core.Logic.{◌⊎◌, inl, inr, ⊎_elim}
use mathlib.Core.List.{List, [], ◌∷◌, map}
use mathlib.Core.Bool.{Bool, true, false, cond, ◌&&◌, ◌||◌}
use lib.ListN.{length, get_or, take}
use lib.Dec.{T, leb, ltb, eqb, leb→le, le→leb, ltb→lt}
use borrow.Author.Tests.{eqb-true, leb-true, le-leb, lt-ltb}
use Rattle.logic.specs.declared.Record.{Record}
use Rattle.logic.specs.Record.{no_record}
use Rattle.logic.specs.Count.{formulas, assumptions, messages, counts_of, formula_at}
use Rattle.logic.specs.Book.{All, Book}
use Rattle.logic.specs.Formula.{Tree, clear, record_of, tree_of}
use Rattle.logic.specs.Fact.{Fact, assumed, delivered}
use Rattle.logic.specs.Fact.Fact.{Sees}
use Rattle.logic.specs.Rule.{Rule}
use Rattle.format.specs.Index.{assumption_in, message_in, look_in}
use Rattle.logic.specs.Written.{meaning, fact_in}
use Rattle.logic.specs.Step.{Step, last_rule, premises_in, numbers_in, premises_of, no_fact, IsAssumption, IsMessage, StepFollows}
use Rattle.logic.proofs.Tests.{T_and, and_T, true_T}
use Rattle.logic.proofs.Follows.{book_whole}
use Rattle.format.proofs.Indexing.Part.{formula_part}
use Rattle.format.proofs.Indexing.{Indexed, assumption_shown, message_shown, look_at}
use Rattle.logic.proofs.Formulas.{Formulas}
use Rattle.logic.proofs.Contents.{contents, among_at}
use Rattle.logic.proofs.Meaning.{Valid, meaning_once}
use Rattle.logic.proofs.RuleOn.{RuleOn, raised}
use Rattle.logic.proofs.Arity.{numbered, premise_count, step_numbers}
use Rattle.logic.proofs.OnRecords.{lowered}
use Rattle.logic.proofs.Initial.{assumed_on, delivered_on, assumes, delivers}
use Rattle.claims.specs.declared.Claim.{Claim}
use Rattle.claims.specs.Claim.{claim, same_claim, claim_at, stated_claim}
use Rattle.claims.specs.Follow.{is_clear_in, is_assumption_in, is_message_in, rule_tests, follows_in}
use Rattle.claims.proofs.Claims.{claim_of, fact_once, same_claim_lem, claim_same, stated_claim_lem}
use Rattle.claims.proofs.Rules.{passed_instance, passes}

-- Lists.

pub all_get_d : {A : Type 0} (P : A → Type 0) (d : A) (l : List A) → All P l → (i : ℕ) → i < length l → P (get_or l i d)
all_get_d P d [] h i l = absurd (omega arith)
all_get_d P d (a ∷ l) h zero m = h.0
all_get_d P d (a ∷ l) h (suc i) m = all_get_d P d l h.1 i (omega arith)

pub map_at : {A B : Type 0} (f : A → B) (d : A) (u : B) (l : List A) (i : ℕ) → i < length l → get_or (map f l) i u ≡ f (get_or l i d)
map_at f d u [] i h = absurd (omega arith)
map_at f d u (a ∷ l) zero h = refl
map_at f d u (a ∷ l) (suc i) h = map_at f d u l i (omega arith)

-- Kinds of step.

-- a known kind is 64, 65 or that of a rule
kind_cases : (k : ℕ) → 0 < numbers_in k → (k ≡ 64) ⊎ ((k ≡ 65) ⊎ ((r : ℕ) × (r < last_rule) × (k ≡ 66 + r)))
unfolding numbers_in
kind_cases k l = go (eqb k 64) (eqb k 65) (leb 66 k) (leb k (65 + last_rule)) refl refl refl refl l
  where
    go : (a b c d : Bool) → eqb k 64 ≡ a → eqb k 65 ≡ b → leb 66 k ≡ c → leb k (65 + last_rule) ≡ d
        → 0 < cond (a || b) 1 (cond (c && d) (premises_in (k - 65)) 0)
        → (k ≡ 64) ⊎ ((k ≡ 65) ⊎ ((r : ℕ) × (r < last_rule) × (k ≡ 66 + r)))
    go true b c d e f g h l = inl (eqb-true k 64 e)
    go false true c d e f g h l = inr (inl (eqb-true k 65 f))
    go false false true true e f g h l =
        let m = leb-true 66 k g in
        let n = leb-true k (65 + last_rule) h in
        inr (inr (k - 66, omega arith, omega arith))
    go false false true false e f g h l = absurd (omega arith)
    go false false false d e f g h l = absurd (omega arith)

-- A rule with one premise does not look at a second.
never : {s t : Bool} → ◌≡◌ {A = ℕ} 2 1 → s ≡ t
never h = absurd (omega arith)

-- tests of two lists that count from r are alike where the rule has one premise
abbrev Alike : ℕ → List Bool → List Bool → Type 0
Alike r [] [] = Unit
Alike r [] (u ∷ l') = ⊥
Alike r (t ∷ l) [] = ⊥
Alike r (t ∷ l) (u ∷ l') = (premises_in r ≡ 1 → t ≡ u) × Alike (suc r) l l'

alike_at : (r : ℕ) (l l' : List Bool) → Alike r l l' → (k : ℕ) → premises_in (r + k) ≡ 1 → get_or l k false ≡ get_or l' k false
alike_at r [] [] h k e = refl
alike_at r [] (u ∷ l') h k e = absurd h
alike_at r (t ∷ l) [] h k e = absurd h
alike_at r (t ∷ l) (u ∷ l') h zero e = h.0 (rw add-zero at e)
alike_at r (t ∷ l) (u ∷ l') h (suc k) e = alike_at (suc r) l l' h.1 k (rw (add-suc, ← suc-add r k) at e)

module _ (look : ℕ → Record) (is_clear : ℕ → Bool) (A B B' G : Claim) where
  alike : Alike 1 (rule_tests look is_clear A B G) (rule_tests look is_clear A B' G)
  unfolding rule_tests
  alike =
      (never, (never, (never, (never, (never, ((λ h. refl), ((λ h. refl), ((λ h. refl), (never, (never, (never, ((λ h. refl), ((λ h. refl), ((λ h. refl), ((λ h. refl), ((λ h. refl), ((λ h. refl), ((λ h. refl), ((λ h. refl), (never, (never, ((λ h. refl), tt))))))))))))))))))))))

  one_premise : (r : ℕ) → premises_in (1 + r) ≡ 1
      → get_or (rule_tests look is_clear A B G) r false ≡ get_or (rule_tests look is_clear A B' G) r false
  one_premise r e = alike_at 1 (rule_tests look is_clear A B G) (rule_tests look is_clear A B' G) alike r e

-- formula x of the index
pub look_is : (t₀ t : List ℕ) (rs : List Record) → Indexed t₀ t rs → Book rs → look_in (length (formulas rs)) t ≡ record_of (formulas rs)
unfolding formula_at
look_is t₀ t rs ix proper = fun_ext (look_at t₀ t rs ix (book_whole rs proper))

-- what is the same claim as that of a written fact, and means what it means
module _ (fs : List Record) (ok : Formulas fs) (g h : Fact ℕ) (f : Fact Tree) (vg : Valid fs g) (vh : Valid fs h) (e : meaning fs h ≡ f) where
  same_means : (c : Claim) → c ≡ claim_of h → T (same_claim (claim_of g) c) → f ≡ meaning fs g
  same_means c d t = sym e ∙ ap (meaning fs) (sym (fact_once g h (same_claim_lem (claim_of g) c t ∙ d)))

  means_same : (c : Claim) → c ≡ claim_of h → f ≡ meaning fs g → T (same_claim (claim_of g) c)
  means_same c d k =
      rw (d, meaning_once fs ok g h vg vh (sym k ∙ sym e)) (true_T (same_claim (claim_of h) (claim_of h)) (claim_same (claim_of h)))

module _ (rs : List Record) (proper : Book rs) (t₀ t : List ℕ) (ix : Indexed t₀ t rs) (g : Fact ℕ) (vg : Valid (formulas rs) g) where
  abbrev fs : List Record
  fs = formulas rs

  -- the claim of assumption i
  assumption_claim : (i : ℕ) → i < length (assumptions rs)
      → stated_claim (look_in (length fs) t) (look_in (length fs) t (assumption_in t i).first)
      ≡ claim_of (assumed_on fs (get_or (assumptions rs) i no_record))
  unfolding assumed_on
  assumption_claim i l =
      rw (look_is t₀ t rs ix proper, assumption_shown t₀ t rs ix proper i l)
      (sym (stated_claim_lem fs (record_of fs (get_or (assumptions rs) i no_record).first)))

  assumption_if : (i : ℕ) → T (is_assumption_in t (counts_of rs) i (claim_of g)) → IsAssumption rs i (meaning fs g)
  assumption_if i u =
      let v = T_and (ltb i (length (assumptions rs))) _ u in
      let l = ltb→lt i (length (assumptions rs)) v.0 in
      let r = get_or (assumptions rs) i no_record in
      let w = assumes rs (contents rs proper) r (among_at (assumptions rs) i l) in
      (l, same_means fs (contents rs proper).formulas_ok g (assumed_on fs r) (assumed fs r) vg w.0 w.1 _ (assumption_claim i l) v.1)

  assumption_only : (i : ℕ) → IsAssumption rs i (meaning fs g) → T (is_assumption_in t (counts_of rs) i (claim_of g))
  assumption_only i (l, e) =
      let r = get_or (assumptions rs) i no_record in
      let w = assumes rs (contents rs proper) r (among_at (assumptions rs) i l) in
      and_T (ltb i (length (assumptions rs))) _ (true_T _ (lt-ltb i (length (assumptions rs)) l))
      (means_same fs (contents rs proper).formulas_ok g (assumed_on fs r) (assumed fs r) vg w.0 w.1 _ (assumption_claim i l) e)

  -- the claim of message i
  message_claim : (i : ℕ) → 1 ≤ i → i ≤ length (messages rs)
      → claim 1 (message_in t i).second 0 (message_in t i).third ≡ claim_of (delivered_on (get_or (messages rs) (i - 1) no_record))
  unfolding delivered_on
  message_claim i l m =
      let e : i ≡ i - 1 + 1 = omega arith in
      let h = ap (message_in t) e ∙ message_shown t₀ t rs ix proper (i - 1) (omega arith) in
      rw (h) refl

  message_if : (m i : ℕ) → T (is_message_in t (counts_of rs) m i (claim_of g)) → IsMessage rs m i (meaning fs g)
  message_if m i u =
      let v = T_and (leb 1 i && (leb i m && leb i (length (messages rs)))) _ u in
      let a = T_and (leb 1 i) _ v.0 in
      let b = T_and (leb i m) _ a.1 in
      let l = leb→le 1 i a.0 in
      let h = leb→le i (length (messages rs)) b.1 in
      let r = get_or (messages rs) (i - 1) no_record in
      let w = delivers rs (contents rs proper) r (among_at (messages rs) (i - 1) (omega arith)) in
      (l, leb→le i m b.0, h, same_means fs (contents rs proper).formulas_ok g (delivered_on r) (delivered fs r) vg w.0 w.1 _ (message_claim i l h) v.1)

  message_only : (m i : ℕ) → IsMessage rs m i (meaning fs g) → T (is_message_in t (counts_of rs) m i (claim_of g))
  message_only m i (l, k, h, e) =
      let r = get_or (messages rs) (i - 1) no_record in
      let w = delivers rs (contents rs proper) r (among_at (messages rs) (i - 1) (omega arith)) in
      and_T (leb 1 i && (leb i m && leb i (length (messages rs)))) _
      (and_T (leb 1 i) _ (le→leb 1 i l) (and_T (leb i m) _ (le→leb i m k) (le→leb i (length (messages rs)) h)))
      (means_same fs (contents rs proper).formulas_ok g (delivered_on r) (delivered fs r) vg w.0 w.1 _ (message_claim i l h) e)

-- Rules.

-- the test that a step of kind 66 + r is put to
rule_test : (t : List ℕ) (n : Rattle.logic.specs.declared.Counts.Counts) (cs : List ℕ) (m i : ℕ) (A B G : Claim) (r : ℕ) → r < last_rule
    → follows_in t n cs m (66 + r) i A B G ≡ get_or (rule_tests (look_in n.formulas t) (is_clear_in cs) A B G) r false
unfolding follows_in
rule_test t n cs m i A B G r l =
    let e : (66 + r) - 64 ≡ suc (suc r) = omega arith in
    rw (le-leb 64 (66 + r) (omega arith), le-leb (66 + r) (65 + last_rule) (omega arith), e)

-- the facts that premises name
pub named : (fs : List Record) (past : List (Fact ℕ)) (ns : List ℕ) → All (λ i. i < length past) ns
    → map (λ i. get_or (map (meaning fs) past) i no_fact) ns ≡ map (meaning fs) (map (λ i. get_or past i (Sees 0 0)) ns)
named fs past [] h = refl
named fs past (i ∷ ns) h = ap₂ (λ a l. a ∷ l) (map_at (meaning fs) (Sees 0 0) no_fact past i h.0) (named fs past ns h.1)

named_valid : (fs : List Record) (past : List (Fact ℕ)) → All (Valid fs) past → (ns : List ℕ) → All (λ i. i < length past) ns
    → All (Valid fs) (map (λ i. get_or past i (Sees 0 0)) ns)
named_valid fs past v [] h = tt
named_valid fs past v (i ∷ ns) h = (all_get_d (Valid fs) (Sees 0 0) past v i h.0, named_valid fs past v ns h.1)

-- A step q behind steps with the facts `past`, whose claims the table has; cs says which formulas are clear.
module _ (rs : List Record) (proper : Book rs) (t₀ t : List ℕ) (ix : Indexed t₀ t rs) (cs : List ℕ)
    (cl : (x : ℕ) → x < length (formulas rs) → is_clear_in cs x ≡ clear (tree_of (formulas rs) x))
    (past : List (Fact ℕ)) (vp : All (Valid (formulas rs)) past) (claims : List ℕ)
    (kept : (x : ℕ) → x < length past → claim_at claims x ≡ claim_of (get_or past x (Sees 0 0))) where
  abbrev F : List Record
  F = formulas rs

  ok : Formulas F
  ok = (contents rs proper).formulas_ok

  few : length F ≤ 256
  few = ix.within formula_part

  abbrev fact : ℕ → Fact ℕ
  fact i = get_or past i (Sees 0 0)

  abbrev tests : (i j : ℕ) (g : Fact ℕ) → List Bool
  tests i j g = rule_tests (record_of F) (is_clear_in cs) (claim_at claims i) (claim_at claims j) (claim_of g)

  module _ (i j : ℕ) (g : Fact ℕ) (r : ℕ) (ns : List ℕ) (en : ns ≡ take (premises_in (1 + r)) (i ∷ j ∷ [])) (early : All (λ x. x < length past) ns) where
    -- rule 1 + r with two premises, or with one
    rule_if_two : Valid F g → premises_in (1 + r) ≡ 2 → T (get_or (tests i j g) r false) → RuleOn F (1 + r) (map fact ns) g
    rule_if_two vg e u =
        let d : ns ≡ i ∷ j ∷ [] = en ∙ ap (λ v. take v (i ∷ j ∷ [])) e in
        let h : All (λ x. x < length past) (i ∷ j ∷ []) = subst (All (λ x. x < length past)) d early in
        let w = subst (λ B. T (get_or (rule_tests (record_of F) (is_clear_in cs) (claim_of (fact i)) B (claim_of g)) r false)) (kept j h.1.0)
        (subst (λ A. T (get_or (rule_tests (record_of F) (is_clear_in cs) A (claim_at claims j) (claim_of g)) r false)) (kept i h.0) u) in
        let z = passed_instance F ok few (is_clear_in cs) cl (fact i) (fact j) g (all_get_d (Valid F) (Sees 0 0) past vp j h.1.0) vg r w in
        subst (λ l. RuleOn F (1 + r) (map fact l) g) (sym d) (subst (λ v. RuleOn F (1 + r) (take v (fact i ∷ fact j ∷ [])) g) e z)

    rule_if_one : Valid F g → premises_in (1 + r) ≡ 1 → T (get_or (tests i j g) r false) → RuleOn F (1 + r) (map fact ns) g
    rule_if_one vg e u =
        let d : ns ≡ i ∷ [] = en ∙ ap (λ v. take v (i ∷ j ∷ [])) e in
        let h : All (λ x. x < length past) (i ∷ []) = subst (All (λ x. x < length past)) d early in
        let w = subst T (one_premise (record_of F) (is_clear_in cs) (claim_of (fact i)) (claim_at claims j) (claim_of (fact i)) (claim_of g) r e)
        (subst (λ A. T (get_or (rule_tests (record_of F) (is_clear_in cs) A (claim_at claims j) (claim_of g)) r false)) (kept i h.0) u) in
        let z = passed_instance F ok few (is_clear_in cs) cl (fact i) (fact i) g (all_get_d (Valid F) (Sees 0 0) past vp i h.0) vg r w in
        subst (λ l. RuleOn F (1 + r) (map fact l) g) (sym d) (subst (λ v. RuleOn F (1 + r) (take v (fact i ∷ fact i ∷ [])) g) e z)

    rule_if : Valid F g → T (get_or (tests i j g) r false) → RuleOn F (1 + r) (map fact ns) g
    rule_if vg u = ⊎_elim (λ e. rule_if_two vg e u) (λ e. rule_if_one vg e u) (premise_count (1 + r))

    -- test 1 + r, counted from 0
    from_one : (l : List Bool) → T (get_or (false ∷ l) (1 + r) false) → T (get_or l r false)
    from_one l u = let e : 1 + r ≡ suc r = omega arith in rw e at u

    rule_only_two : premises_in (1 + r) ≡ 2 → RuleOn F (1 + r) (map fact ns) g → T (get_or (tests i j g) r false)
    rule_only_two e z =
        let d : ns ≡ i ∷ j ∷ [] = en ∙ ap (λ v. take v (i ∷ j ∷ [])) e in
        let h : All (λ x. x < length past) (i ∷ j ∷ []) = subst (All (λ x. x < length past)) d early in
        let w = from_one (rule_tests (record_of F) (is_clear_in cs) (claim_of (fact i)) (claim_of (fact j)) (claim_of g))
        (passes F ok few (is_clear_in cs) cl (fact j) (subst (λ l. RuleOn F (1 + r) (map fact l) g) d z) (named_valid F past vp (i ∷ j ∷ []) h)) in
        subst (λ A. T (get_or (rule_tests (record_of F) (is_clear_in cs) A (claim_at claims j) (claim_of g)) r false)) (sym (kept i h.0))
        (subst (λ B. T (get_or (rule_tests (record_of F) (is_clear_in cs) (claim_of (fact i)) B (claim_of g)) r false)) (sym (kept j h.1.0)) w)

    rule_only_one : premises_in (1 + r) ≡ 1 → RuleOn F (1 + r) (map fact ns) g → T (get_or (tests i j g) r false)
    rule_only_one e z =
        let d : ns ≡ i ∷ [] = en ∙ ap (λ v. take v (i ∷ j ∷ [])) e in
        let h : All (λ x. x < length past) (i ∷ []) = subst (All (λ x. x < length past)) d early in
        let w = from_one (rule_tests (record_of F) (is_clear_in cs) (claim_of (fact i)) (claim_of (fact i)) (claim_of g))
        (passes F ok few (is_clear_in cs) cl (fact i) (subst (λ l. RuleOn F (1 + r) (map fact l) g) d z) (named_valid F past vp (i ∷ []) h)) in
        subst (λ A. T (get_or (rule_tests (record_of F) (is_clear_in cs) A (claim_at claims j) (claim_of g)) r false)) (sym (kept i h.0))
        (subst T (one_premise (record_of F) (is_clear_in cs) (claim_of (fact i)) (claim_of (fact i)) (claim_at claims j) (claim_of g) r e) w)

    rule_only : RuleOn F (1 + r) (map fact ns) g → T (get_or (tests i j g) r false)
    rule_only z = ⊎_elim (λ e. rule_only_two e z) (λ e. rule_only_one e z) (premise_count (1 + r))

  module _ (m : ℕ) (q : Step) (i j : ℕ) (en : q.numbers ≡ take (numbers_in q.kind) (i ∷ j ∷ []))
      (vg : Valid (formulas rs) (fact_in q.fact)) (early : All (λ x. x < length past) (premises_of q)) where
    abbrev g : Fact ℕ
    g = fact_in q.fact

    abbrev test : ℕ → Bool
    test k = follows_in t (counts_of rs) cs m k i (claim_at claims i) (claim_at claims j) (claim_of g)

    -- the number of an assumption or message
    first_number_lem : (k : ℕ) → q.kind ≡ k → 0 < numbers_in k → get_or q.numbers 0 0 ≡ i
    first_number_lem k e l = ap (λ ns. get_or ns 0 0) (en ∙ ap (λ x. take (numbers_in x) (i ∷ j ∷ [])) e) ∙ go (numbers_in k) l
      where
        go : (v : ℕ) → 0 < v → get_or (take v (i ∷ j ∷ [])) 0 0 ≡ i
        go zero l = absurd (omega arith)
        go (suc v) l = refl

    -- the premises of a rule
    module _ (r : ℕ) (l : r < last_rule) (e : q.kind ≡ 66 + r) where
      numbers_of_lem : numbers_in q.kind ≡ premises_in (1 + r)
      numbers_of_lem =
          let d : 66 + r ≡ 65 + (1 + r) = omega arith in
          ap numbers_in (e ∙ d) ∙ step_numbers (1 + r) (omega arith) (omega arith)

      rule_numbers : q.numbers ≡ take (premises_in (1 + r)) (i ∷ j ∷ [])
      rule_numbers = en ∙ ap (λ v. take v (i ∷ j ∷ [])) numbers_of_lem

      rule_early : All (λ x. x < length past) q.numbers
      rule_early = subst (λ b. All (λ x. x < length past) (cond b q.numbers [])) (le-leb 66 q.kind (omega arith)) early

      rule_is : test q.kind ≡ get_or (tests i j g) r false
      rule_is =
          ap test e
          ∙ (rule_test t (counts_of rs) cs m i (claim_at claims i) (claim_at claims j) (claim_of g) r l
          ∙ ap (λ look. get_or (rule_tests look (is_clear_in cs) (claim_at claims i) (claim_at claims j) (claim_of g)) r false) (look_is t₀ t rs ix proper))

    abbrev Follows : Type 0
    Follows = StepFollows rs m (map (meaning (formulas rs)) past) q

    rule_follows : (r : ℕ) → r < last_rule → q.kind ≡ 66 + r → T (test q.kind) → Follows
    rule_follows r l e u =
        let h = rule_early r l e in
        let z = rule_if i j g r q.numbers (rule_numbers r l e) h vg (subst T (rule_is r l e) u) in
        let w = (raised F ok z (named_valid F past vp q.numbers h)).1 in
        let d : 66 + r ≡ 65 + (1 + r) = omega arith in
        inr (inr (1 + r, e ∙ d, subst (λ ps. Rule (1 + r) ps (meaning F g)) (sym (named F past q.numbers h)) w))

    -- A STEP THAT PASSES follows over trees
    pub follow_if : 0 < numbers_in q.kind → T (test q.kind) → Follows
    unfolding follows_in numbers_in
    follow_if l u =
        ⊎_elim
        (λ e. inl (e, rw (first_number_lem 64 e (omega arith)) (assumption_if rs proper t₀ t ix g vg i (subst (λ k. T (test k)) e u))))
        (⊎_elim
        (λ e. inr (inl (e, rw (first_number_lem 65 e (omega arith)) (message_if rs proper t₀ t ix g vg m i (subst (λ k. T (test k)) e u)))))
        (λ h. rule_follows h.0 h.1 h.2 u))
        (kind_cases q.kind l)

    -- A STEP THAT FOLLOWS over trees passes
    pub follow_only : Follows → T (test q.kind)
    unfolding follows_in numbers_in
    follow_only (inl (e, a)) =
        subst (λ k. T (test k)) (sym e) (assumption_only rs proper t₀ t ix g vg i (rw (first_number_lem 64 e (omega arith)) at a))
    follow_only (inr (inl (e, a))) =
        subst (λ k. T (test k)) (sym e) (message_only rs proper t₀ t ix g vg m i (rw (first_number_lem 65 e (omega arith)) at a))
    follow_only (inr (inr (n, e, R))) =
        let b = numbered R in
        let r = n - 1 in
        let l : r < last_rule = omega (arith, b.from, b.upto) in
        let d : q.kind ≡ 66 + r = omega (arith, b.from) in
        let h = rule_early r l d in
        let z = lowered F ok R (map fact q.numbers) g (named_valid F past vp q.numbers h) vg (sym (named F past q.numbers h)) refl in
        let u : n ≡ 1 + r = omega (arith, b.from) in
        subst T (sym (rule_is r l d))
        (rule_only i j g r q.numbers (rule_numbers r l d) h (subst (λ k. RuleOn F k (map fact q.numbers) g) u z))
