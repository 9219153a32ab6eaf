-- What the checker knows behind some steps, and what one more step does to that. Assumes nothing.
use Prim.Native.Nat.{ℕ, zero, suc, ◌+◌, ◌-◌, ◌*◌, ◌<◌, ◌≤◌}
use native.Mathlib.Nat.{le_refl}
use native.Mathlib.Decide.{ℕ_discrete, dec_lt}
use native.Mathlib.Omega.{arith}
use mathlib.Core.Path.{◌≡◌, refl, sym, ap, subst, ◌∙◌}
use mathlib.Core.Logic.{inl, inr, ⊎_elim}
use mathlib.Core.List.{List, [], ◌∷◌, ◌++◌, map, map-append}
use mathlib.Core.Bool.{Bool, true, false, cond, not, ◌&&◌, ◌||◌}
use lib.ListN.{length, get_or, take, drop, set, replicate, length-append, length-replicate, length-set, length-map, length-drop, drop_of_length-le, get_or-append}
use lib.Seq.{drop-drop, get_or-set_same, get_or-set_other, get_or-append_seam}
use lib.Dec.{T, leb, ltb, eqb, eqb→eq, leb→le, ltb→lt, nltb→le}
use borrow.Author.Tests.{eqb-false, leb-false, lt-ltb}
use Rattle.logic.specs.declared.Record.{Record}
use Rattle.logic.specs.declared.Counts.{Counts}
use Rattle.logic.specs.declared.Refusal.{Refusal}
use Rattle.logic.specs.Record.{word}
use Rattle.logic.specs.Count.{formulas, goals, counts_of}
use Rattle.std.specs.Prelude.{Result, Ok, Err}
use Rattle.logic.specs.Refusal.{number_of, Outcome, told}
use Rattle.logic.specs.Refusal.Outcome.{accepted, refused}
use Rattle.logic.specs.Book.{All}
use Rattle.logic.specs.Formula.{Tree, clear, is_closed, record_of, tree_of}
use Rattle.logic.specs.Fact.{Fact, goal_fact}
use Rattle.logic.specs.Fact.Fact.{Sees}
use Rattle.format.specs.Index.{record_in, look_in}
use Rattle.format.specs.Variables.{loose_in}
use Rattle.logic.specs.Written.{meaning, fact_in, is_malformed, goal_fact_on}
use Rattle.logic.specs.Derivation.{EndsIn}
use Rattle.logic.specs.Step.{numbers_in, step_size, step_at, premises_of, StepFollows, Required, no_fact, StepFault, AtEnd, goal_of, Verdict}
use Rattle.logic.proofs.Tests.{T_and, and_T, true_T, T_false}
use Rattle.logic.proofs.Member.{all_append}
use Rattle.logic.proofs.Follows.{formula_limit_lem}
use Rattle.format.proofs.Indexing.{Indexed, book_indexed, formula_shown}
use Rattle.format.proofs.Variables.{loose_shown}
use Rattle.logic.proofs.Formulas.{Formulas}
use Rattle.logic.proofs.Contents.{contents, among_at}
use Rattle.logic.proofs.Meaning.{Valid, valid, meaning_once}
use Rattle.logic.proofs.Initial.{asks}
use Rattle.logic.proofs.Verdict.{passed, well_formed_fact}
use Rattle.logic.proofs.Proper.{cond_zero}
use Rattle.logic.proofs.Steps.{at_most_two}
use Rattle.logic.proofs.Derivations.{VerdictOn, step_on, step_off}
use Rattle.logic.proofs.FactBytes.{formed}
use Rattle.book.proofs.Stage.{rest_whole, cause_number}
use Rattle.claims.specs.declared.Claim.{Claim}
use Rattle.checker.specs.declared.Sound.{Sound}
use Rattle.claims.specs.Claim.{same_claim, claim_in, packed_claim, claim_at, is_sound, stated_claim}
use Rattle.claims.specs.Follow.{is_clear_in, clears_up_to, follows_in}
use Rattle.checker.specs.Judge.{are_earlier, fault_in, JudgedIs, ending, HasRoom, Posed}
use Rattle.claims.proofs.Claims.{claim_of, fact_once, same_claim_lem, claim_same, claim_back, fact_bytes_of, step_claim, sound_law, stated_claim_lem}
use Rattle.claims.proofs.Clear.{clears_law}
use Rattle.claims.proofs.FollowsOverTrees.{all_get_d, map_at, look_is, follow_if, follow_only}

-- A test that is asked for, by a Bool that says that it fails.
asking : (n : ℕ) (A : Type 0) (next : ℕ → Type 0) (bad : Bool) (x : ℕ) → (T bad → A → ⊥) → (T (not bad) → A) → (A → next x)
    → Required n A next (cond bad n x)
asking n A next true x f p k = inl (f tt, refl)
asking n A next false x f p k = inr (p tt, k (p tt))

asking_two : (n : ℕ) (A : Type 0) (next : ℕ → Type 0) (bad worse : Bool) (x : ℕ) → (T bad → A → ⊥) → (T worse → A → ⊥)
    → (T (not bad) → T (not worse) → A) → (A → next x) → Required n A next (cond bad n (cond worse n x))
asking_two n A next true worse x f g p k = inl (f tt, refl)
asking_two n A next false true x f g p k = inl (g tt, refl)
asking_two n A next false false x f g p k = inr (p tt tt, k (p tt tt))

-- the same by a Bool that says that it passes
asking_not : (n : ℕ) (A : Type 0) (next : ℕ → Type 0) (good : Bool) (x : ℕ) → (A → T good) → (T good → A) → (A → next x)
    → Required n A next (cond (not good) n x)
asking_not n A next true x f p k = inr (p tt, k (p tt))
asking_not n A next false x f p k = inl ((λ a. f a), refl)

-- Premises that are earlier. v counts the numbers of the step.
module _ (i j count : ℕ) where
  earlier_if : (b : Bool) (v : ℕ) → T (not b || (ltb i count && (not (eqb v 2) || ltb j count))) → v ≤ 2
      → All (λ x. x < count) (cond b (take v (i ∷ j ∷ [])) [])
  earlier_if false v t l = tt
  earlier_if true zero t l = tt
  earlier_if true (suc zero) t l = let u = T_and (ltb i count) _ t in (ltb→lt i count u.0, tt)
  earlier_if true (suc (suc zero)) t l = let u = T_and (ltb i count) _ t in (ltb→lt i count u.0, (ltb→lt j count u.1, tt))
  earlier_if true (suc (suc (suc v))) t l = absurd (omega arith)

  earlier_only : (b : Bool) (v : ℕ) → All (λ x. x < count) (cond b (take v (i ∷ j ∷ [])) []) → 0 < v → v ≤ 2
      → T (not b || (ltb i count && (not (eqb v 2) || ltb j count)))
  earlier_only false v h k l = tt
  earlier_only true zero h k l = absurd (omega arith)
  earlier_only true (suc zero) h k l = and_T (ltb i count) _ (true_T _ (lt-ltb i count h.0)) tt
  earlier_only true (suc (suc zero)) h k l =
      and_T (ltb i count) _ (true_T _ (lt-ltb i count h.0)) (true_T _ (lt-ltb j count h.1.0))
  earlier_only true (suc (suc (suc v))) h k l = absurd (omega arith)

-- the last fact of a list
last_is : (f : Fact Tree) (d : Fact Tree) (l : List (Fact Tree)) → EndsIn f l → get_or l (length l - 1) d ≡ f
last_is f d [] h = absurd h
last_is f d (a ∷ []) h = h
last_is f d (a ∷ b ∷ l) h =
    let e : length (a ∷ b ∷ l) - 1 ≡ suc (length (b ∷ l) - 1) = omega arith in
    rw e (last_is f d (b ∷ l) h)

is_last : (f : Fact Tree) (d : Fact Tree) (l : List (Fact Tree)) → 0 < length l → get_or l (length l - 1) d ≡ f → EndsIn f l
is_last f d [] l h = absurd (omega arith)
is_last f d (a ∷ []) l h = h
is_last f d (a ∷ b ∷ k) l h =
    let e : length (a ∷ b ∷ k) - 1 ≡ suc (length (b ∷ k) - 1) = omega arith in
    is_last f d (b ∷ k) (omega arith) (rw e at h)

ends_some : (f : Fact Tree) (l : List (Fact Tree)) → EndsIn f l → 0 < length l
ends_some f [] h = absurd h
ends_some f (a ∷ l) h = omega arith

at_the_end : (f : Fact Tree) (past : List (Fact Tree)) (n : ℕ) → length past ≡ n → (b : Bool) → (T b → EndsIn f past) → (EndsIn f past → T b)
    → AtEnd f past (cond b (accepted tt) (refused 20 n))
at_the_end f past n e true p q = inr (p tt, refl)
at_the_end f past n e false p q = inl ((λ u. q u), ap (refused 20) (sym e))

-- equal refusals have equal numbers and places
same_refusal : (a b c d : ℕ) → ◌≡◌ {A = Outcome Unit} (refused a b) (refused c d) → (a ≡ c) × (b ≡ d)
same_refusal a b c d e = (cc, cc)

-- what holds of a step without fault, whatever the book
pub faultless : (t : List ℕ) (n : Counts) (cs : List ℕ) (m : ℕ) (fs : List ℕ) (count : ℕ) (s : List ℕ) → fault_in t n cs m fs count s ≡ 0
    → (count < 65535) × (10 ≤ step_size (get_or s 0 0)) × (step_size (get_or s 0 0) ≤ length s)
unfolding fault_in step_size
faultless t n cs m fs count s e =
    let a = cond_zero (leb 65535 count) 20 _ e in
    let b = cond_zero (eqb (numbers_in (get_or s 0 0)) 0) 15 _ a.1 in
    let c = cond_zero (ltb (length s) (step_size (get_or s 0 0))) 15 _ b.1 in
    let some = eqb-false (numbers_in (get_or s 0 0)) 0 (T_false (eqb (numbers_in (get_or s 0 0)) 0) b.0) in
    (leb-false 65535 count (T_false (leb 65535 count) a.0), omega arith, nltb→le (length s) (step_size (get_or s 0 0)) c.0)

-- THE ROOM: every step before had ten bytes or more, so the next claim has a place
pub next_fits : (bytes room at count : ℕ) → HasRoom bytes room → 10 * count ≤ at → at < bytes → count < 65535 → count < room
next_fits bytes room at count h l b k = ⊎_elim (λ w. omega arith) (λ w. omega arith) h

-- the same of a step that was judged sound in the part of the derivation that was lent
pub judged_inside : (t : List ℕ) (n : Counts) (cs : List ℕ) (m : ℕ) (fs : List ℕ) (count : ℕ) (s : List ℕ) (at : ℕ) → at < length s
    → (step : Sound) → JudgedIs (Ok step) (fault_in t n cs m fs count (take (length s - at) (drop at s))) (take (length s - at) (drop at s))
    → (count < 65535) × (10 ≤ step.size) × (at + step.size ≤ length s)
judged_inside t n cs m fs count s at l step j =
    let x = take (length s - at) (drop at s) in
    let f = faultless t n cs m fs count x j.0 in
    let q = f.1 in
    let w : length x ≡ length s - at = ap length (rest_whole s at) ∙ simp length-drop in
    let u = f.2 in
    let v = j.2 in
    (f.0, omega arith, omega arith)

module _ {rs : List Record} {g : ℕ} {t : List ℕ} {n : Counts} {cs : List ℕ} {m : ℕ} {goal : Claim} (h : Posed rs g t n cs m goal) where
  abbrev F : List Record
  F = formulas rs

  abbrev M : ℕ
  M = (goal_of rs g).first

  ok : Formulas F
  ok = (contents rs h.proper).formulas_ok

  few : length F ≤ 256
  few = formula_limit_lem rs h.proper

  indexed : Indexed h.t₀ t rs
  indexed = subst (λ u. Indexed h.t₀ u rs) (sym h.table) (book_indexed h.t₀ rs h.room h.proper)

  look_book : look_in n.formulas t ≡ record_of F
  look_book = ap (λ (c : Counts). look_in c.formulas t) h.counts ∙ look_is h.t₀ t rs indexed h.proper

  loose_book : (x : ℕ) → x < length F → loose_in t x ≡ not (is_closed (tree_of F x))
  loose_book x l = ap (λ u. loose_in u x) h.table ∙ loose_shown h.t₀ rs h.room h.proper x l

  clear_book : (x : ℕ) → x < length F → is_clear_in cs x ≡ clear (tree_of F x)
  clear_book x l =
      ap (λ c. is_clear_in c x) (h.clears ∙ ap (λ (c : Counts). clears_up_to (record_in t) h.cs₀ c.formulas) h.counts)
      ∙ clears_law F ok (record_in t) (formula_shown h.t₀ t rs indexed h.proper)
      h.cs₀ (length F) (le_refl _) (omega (arith, few, h.clear_room)) x l

  -- Steps with the facts `past` have been read, and the table has their claims.
  module _ (past : List (Fact ℕ)) (vp : All (Valid F) past) (claims : List ℕ) (count : ℕ) (en : count ≡ length past)
      (kept : (x : ℕ) → x < length past → claim_at claims x ≡ claim_of (get_or past x (Sees 0 0))) (s : List ℕ) where
    abbrev past_trees : List (Fact Tree)
    past_trees = map (meaning F) past

    long : length past_trees ≡ count
    long = length-map past (meaning F) ∙ sym en

    abbrev k : ℕ
    k = get_or s 0 0

    abbrev i : ℕ
    i = word s 8

    abbrev j : ℕ
    j = word s 10

    abbrev Whole_step : Type 0
    Whole_step = (0 < numbers_in k) × (step_size k ≤ length s)

    abbrev Formed_fact : Type 0
    Formed_fact = T (not (is_malformed F (fact_bytes_of s)))

    abbrev Early : Type 0
    Early = All (λ x. x < length past_trees) (premises_of (step_at s))

    eight : Whole_step → 8 ≤ length s
    unfolding step_size
    eight w = let l = w.1 in omega arith

    sound_is : Whole_step → is_sound (look_in n.formulas t) (loose_in t) (claim_in s) ≡ not (is_malformed F (fact_bytes_of s))
    sound_is w = ap (λ look. is_sound look (loose_in t) (claim_in s)) look_book ∙ sym (sound_law F (loose_in t) loose_book s (eight w))

    fact_valid : Formed_fact → Valid F (fact_in (fact_bytes_of s))
    fact_valid f = valid F (fact_in (fact_bytes_of s)) (well_formed_fact F (fact_bytes_of s) f)

    fact_claim : Formed_fact → claim_of (fact_in (fact_bytes_of s)) ≡ claim_in s
    fact_claim f = step_claim F s (formed F (fact_bytes_of s) f)

    early_if : T (are_earlier k i j count) → Early
    unfolding are_earlier step_at
    early_if u = rw long (earlier_if i j count (leb 66 k) (numbers_in k) u (at_most_two k))

    early_only : Whole_step → Early → T (are_earlier k i j count)
    unfolding are_earlier step_at
    early_only w a = earlier_only i j count (leb 66 k) (numbers_in k) (rw long at a) w.0 (at_most_two k)

    abbrev follows : Bool
    follows = follows_in t n cs m k i (claim_at claims i) (claim_at claims j) (claim_in s)

    follows_is : Formed_fact → follows ≡ follows_in t (counts_of rs) cs M k i (claim_at claims i) (claim_at claims j) (claim_of (fact_in (fact_bytes_of s)))
    follows_is f =
        ap (λ (c : Counts). follows_in t c cs m k i (claim_at claims i) (claim_at claims j) (claim_in s)) h.counts
        ∙ (ap (λ x. follows_in t (counts_of rs) cs x k i (claim_at claims i) (claim_at claims j) (claim_in s)) h.message
        ∙ ap (λ c. follows_in t (counts_of rs) cs M k i (claim_at claims i) (claim_at claims j) c) (sym (fact_claim f)))

    step_if : Whole_step → Formed_fact → Early → T follows → StepFollows rs M past_trees (step_at s)
    unfolding step_at
    step_if w f a u =
        follow_if rs h.proper h.t₀ t indexed cs clear_book past vp claims kept M (step_at s) i j refl (fact_valid f)
        (rw (long ∙ en) at a) w.0 (subst T (follows_is f) u)

    step_only : Whole_step → Formed_fact → Early → StepFollows rs M past_trees (step_at s) → T follows
    unfolding step_at
    step_only w f a u =
        subst T (sym (follows_is f))
        (follow_only rs h.proper h.t₀ t indexed cs clear_book past vp claims kept M (step_at s) i j refl (fact_valid f)
        (rw (long ∙ en) at a) u)

    -- what is asked from each number on, and what is found there
    abbrev Required19 : ℕ → Type 0
    Required19 = Required 19 (StepFollows rs M past_trees (step_at s)) (λ x. x ≡ 0)

    abbrev Required18 : ℕ → Type 0
    Required18 = Required 18 Early Required19

    abbrev Required17 : ℕ → Type 0
    Required17 = Required 17 Formed_fact Required18

    abbrev found19 : ℕ
    found19 = cond (not follows) 19 0

    abbrev found18 : ℕ
    found18 = cond (not (are_earlier k i j count)) 18 found19

    abbrev found17 : ℕ
    found17 = cond (not (is_sound (look_in n.formulas t) (loose_in t) (claim_in s))) 17 found18

    ask19 : Whole_step → Formed_fact → Early → Required19 found19
    ask19 w f a =
        asking_not 19 (StepFollows rs M past_trees (step_at s)) (λ x. x ≡ 0) follows 0 (step_only w f a) (step_if w f a) (λ u. refl)

    ask18 : Whole_step → Formed_fact → Required18 found18
    ask18 w f = asking_not 18 Early Required19 (are_earlier k i j count) found19 (early_only w) early_if (ask19 w f)

    ask17 : Whole_step → Required17 found17
    ask17 w =
        asking_not 17 Formed_fact Required18 (is_sound (look_in n.formulas t) (loose_in t) (claim_in s)) found18
        (λ f. subst T (sym (sound_is w)) f) (λ u. subst T (sound_is w) u) (ask18 w)

    some_numbers : T (not (eqb (numbers_in k) 0)) → 0 < numbers_in k
    some_numbers u = let e = eqb-false (numbers_in k) 0 (T_false (eqb (numbers_in k) 0) u) in omega arith

    not_over : T (not (leb 65535 count)) → count < 65535
    not_over u = leb-false 65535 count (T_false (leb 65535 count) u)

    -- THE FAULT THAT IS FOUND is that of the definition over trees
    pub fault_law : StepFault rs M past_trees s (fault_in t n cs m claims count s)
    unfolding fault_in step_at
    fault_law =
        asking 21 (length past_trees < 65535) (Required 16 Whole_step Required17) (leb 65535 count)
        (cond (eqb (numbers_in k) 0) 16 (cond (ltb (length s) (step_size k)) 16 found17))
        (λ u l. let a = leb→le 65535 count u in let b : count < 65535 = subst (λ x. x < 65535) long l in omega arith)
        (λ u. subst (λ x. x < 65535) (sym long) (not_over u))
        (λ l. asking_two 16 Whole_step Required17 (eqb (numbers_in k) 0) (ltb (length s) (step_size k)) found17
        (λ u w. let e = eqb→eq (numbers_in k) 0 u in let z = w.0 in omega arith)
        (λ u w. let e = ltb→lt (length s) (step_size k) u in let z = w.1 in omega arith)
        (λ u v. (some_numbers u, nltb→le (length s) (step_size k) v))
        ask17)

    -- a step without fault
    pub record Sound_step : Type 0 where
      pub is_valid : Valid F (fact_in (fact_bytes_of s))
      pub its_claim : claim_of (fact_in (fact_bytes_of s)) ≡ claim_in s

    pub sound_step : StepFault rs M past_trees s 0 → Sound_step
    unfolding step_at
    sound_step z =
        let p = passed rs M past_trees s z in
        record {
          is_valid = fact_valid p.formed;
          its_claim = fact_claim p.formed;
        }

  -- Behind `count` steps, at the place `at` of the derivation s.
  pub record Reached (s claims : List ℕ) (at count : ℕ) : Type 0 where
    pub past : List (Fact ℕ)
    pub valid_past : All (Valid F) past
    pub number : count ≡ length past
    pub kept : (x : ℕ) → x < length past → claim_at claims x ≡ claim_of (get_or past x (Sees 0 0))
    -- going on from here gives the verdict on the whole
    pub going : (o : Outcome Unit) → VerdictOn rs M (goal_fact F (goal_of rs g)) (map (meaning F) past) (drop at s) o → Verdict rs g s o

  pub start : (s claims : List ℕ) → Reached s claims 0 0
  start s claims =
      record {
        past = [];
        valid_past = tt;
        number = refl;
        kept = λ x l. absurd (omega arith);
        going = λ o v. v;
      }

  -- one more claim in the table
  claim_more : (past : List (Fact ℕ)) (f : Fact ℕ) (claims : List ℕ) (count : ℕ) → count ≡ length past → count < length claims → Valid F f
      → ((x : ℕ) → x < length past → claim_at claims x ≡ claim_of (get_or past x (Sees 0 0)))
      → (x : ℕ) → x < length (past ++ (f ∷ [])) → claim_at (set claims count (packed_claim (claim_of f))) x ≡ claim_of (get_or (past ++ (f ∷ [])) x (Sees 0 0))
  claim_more past f claims count e l v kept x b =
      let n = rw length-append at b in
      elim (ℕ_discrete x count) [
        | yes d ↦ rw (d, get_or-set_same claims count (packed_claim (claim_of f)) 0 l, e, get_or-append_seam) (claim_back F few f v)
        | no d ↦ rw (get_or-set_other claims count x (packed_claim (claim_of f)) 0 d, get_or-append past (f ∷ []) (Sees 0 0) x (omega arith)) (kept x (omega arith))
      ]

  abbrev goal_fact_lem : Fact Tree
  goal_fact_lem = goal_fact F (goal_of rs g)

  -- the goal's fact and its claim
  goal_means : Valid F (goal_fact_on F (goal_of rs g)) × (meaning F (goal_fact_on F (goal_of rs g)) ≡ goal_fact_lem)
  goal_means = asks rs (contents rs h.proper) (goal_of rs g) (among_at (goals rs) g h.present)

  goal_claim : goal ≡ claim_of (goal_fact_on F (goal_of rs g))
  unfolding goal_fact_on
  goal_claim =
      h.asks
      ∙ (ap (λ look. stated_claim look (look (goal_of rs g).second)) look_book ∙ sym (stated_claim_lem F (record_of F (goal_of rs g).second)))

  module _ (s claims : List ℕ) (at count : ℕ) (r : Reached s claims at count) where
    -- the last claim is the goal's just if the last fact is the goal's
    last_if : T (ltb 0 count && same_claim (claim_at claims (count - 1)) goal) → EndsIn goal_fact_lem (map (meaning F) r.past)
    last_if u =
        let v = T_and (ltb 0 count) _ u in
        let b = ltb→lt 0 count v.0 in
        let e = r.number in
        let x = get_or r.past (count - 1) (Sees 0 0) in
        let c = r.kept (count - 1) (omega arith) in
        let d : x ≡ goal_fact_on F (goal_of rs g) =
        fact_once x (goal_fact_on F (goal_of rs g)) (sym c ∙ (same_claim_lem (claim_at claims (count - 1)) goal v.1 ∙ goal_claim)) in
        let k = length-map r.past (meaning F) in
        is_last goal_fact_lem no_fact (map (meaning F) r.past) (omega arith)
        (ap (λ y. get_or (map (meaning F) r.past) (y - 1) no_fact) (k ∙ sym e)
        ∙ (map_at (meaning F) (Sees 0 0) no_fact r.past (count - 1) (omega arith) ∙ (ap (meaning F) d ∙ goal_means.1)))

    last_only : EndsIn goal_fact_lem (map (meaning F) r.past) → T (ltb 0 count && same_claim (claim_at claims (count - 1)) goal)
    last_only u =
        let k = length-map r.past (meaning F) in
        let e = r.number in
        let b = ends_some goal_fact_lem (map (meaning F) r.past) u in
        let l : count - 1 < length r.past = omega arith in
        let x = get_or r.past (count - 1) (Sees 0 0) in
        let w : meaning F x ≡ goal_fact_lem =
        sym (map_at (meaning F) (Sees 0 0) no_fact r.past (count - 1) l)
        ∙ (ap (λ y. get_or (map (meaning F) r.past) (y - 1) no_fact) (sym (k ∙ sym e)) ∙ last_is goal_fact_lem no_fact (map (meaning F) r.past) u) in
        let d : x ≡ goal_fact_on F (goal_of rs g) =
        meaning_once F ok x (goal_fact_on F (goal_of rs g)) (all_get_d (Valid F) (Sees 0 0) r.past r.valid_past (count - 1) l) goal_means.0 (w ∙ sym goal_means.1) in
        let c : claim_at claims (count - 1) ≡ goal = r.kept (count - 1) l ∙ (ap claim_of d ∙ sym goal_claim) in
        and_T (ltb 0 count) _ (true_T _ (lt-ltb 0 count (omega arith))) (subst (λ (d : Claim). T (same_claim d goal)) (sym c) (true_T _ (claim_same goal)))

    -- nothing is left
    pub finish : length s ≤ at → (o : Outcome Unit) → o ≡ ending claims count goal → Verdict rs g s o
    unfolding ending
    finish l o e =
        r.going o (subst (λ x. VerdictOn rs M goal_fact_lem (map (meaning F) r.past) x o) (sym (drop_of_length-le s l))
        (rw e (at_the_end goal_fact_lem (map (meaning F) r.past) count (length-map r.past (meaning F) ∙ sym r.number)
        (ltb 0 count && same_claim (claim_at claims (count - 1)) goal) last_if last_only)))

    module _ (l : at < length s) where
      rest : List ℕ
      rest = drop at s

      rest_some : 0 < length rest
      unfolding rest
      rest_some = simp length-drop (omega arith)

      -- the step is at fault
      at_fault : (f : ℕ) → fault_in t n cs m claims count (drop at s) ≡ suc f → Verdict rs g s (refused (suc f) count)
      unfolding rest
      at_fault f e =
          let k = fault_law r.past r.valid_past claims count r.number r.kept rest in
          r.going _ (rw (r.number, ← length-map r.past (meaning F))
          (step_off rs M (goal_fact F (goal_of rs g)) (map (meaning F) r.past) rest f rest_some (subst (StepFault rs M (map (meaning F) r.past) rest) e k)))

      pub refuse : (e : Refusal) → number_of e.cause ≡ fault_in t n cs m claims count (drop at s) → e.place ≡ count
          → Verdict rs g s (refused (number_of e.cause) e.place)
      refuse e f p = let z = cause_number e.cause in rw (z.1, p) (at_fault z.0 (sym f ∙ z.1))

      -- the step is sound
      turn : fault_in t n cs m claims count (drop at s) ≡ 0 → count < length claims
          → Reached s (set claims count (packed_claim (claim_in (drop at s)))) (at + step_size (get_or (drop at s) 0 0)) (count + 1)
      unfolding rest step_at
      turn f room =
          let k = fault_law r.past r.valid_past claims count r.number r.kept rest in
          let z = subst (StepFault rs M (map (meaning F) r.past) rest) f k in
          let w = sound_step r.past r.valid_past claims count r.number r.kept rest z in
          let q = fact_in (fact_bytes_of rest) in
          record {
            past = r.past ++ (q ∷ []);
            valid_past = all_append (Valid F) r.past (q ∷ []) r.valid_past (w.is_valid, tt);
            number = rw (length-append, r.number);
            kept =
                subst (λ (c : Claim). (x : ℕ) → x < length (r.past ++ (q ∷ [])) → claim_at (set claims count (packed_claim c)) x ≡ claim_of (get_or (r.past ++ (q ∷ [])) x (Sees 0 0))) w.its_claim
                (claim_more r.past q claims count r.number room w.is_valid r.kept);
            going = λ o v. r.going o (step_on rs M (goal_fact F (goal_of rs g)) (map (meaning F) r.past) rest o rest_some z
                (rw (map-append, ← drop-drop) at v));
          }

      -- the same from what was judged of the part of the derivation that was lent
      pub refuse_step : (r : Result Unit Refusal) → told r ≡ refused (fault_in t n cs m claims count (take (length s - at) (drop at s))) count
          → Verdict rs g s (told r)
      refuse_step (Ok u) e = absurd (let k : accepted u ≡ refused _ _ = e in let z : ◌≡◌ {A = ℕ} 0 1 = cc in omega arith)
      refuse_step (Err f) e =
          let z = same_refusal (number_of f.cause) f.place _ _ e in
          refuse f (subst (λ (x : List ℕ). number_of f.cause ≡ fault_in t n cs m claims count x) (rest_whole s at) z.0) z.1

      pub turn_step : (step : Sound)
          → JudgedIs (Ok step) (fault_in t n cs m claims count (take (length s - at) (drop at s))) (take (length s - at) (drop at s))
          → {x : ℕ} {u : List ℕ} → count < length claims → x ≡ packed_claim step.claim → u ≡ set claims count x
          → Reached s u (at + step.size) (count + 1)
      turn_step step j room ex eu =
          let k : JudgedIs (Ok step) (fault_in t n cs m claims count (drop at s)) (drop at s) =
          subst (λ (x : List ℕ). JudgedIs (Ok step) (fault_in t n cs m claims count x) x) (rest_whole s at) j in
          rw (eu, ex, k.1, k.2) (turn k.0 room)

  -- THE VERDICT EXISTS: step by step, until nothing is left or a step is at fault.
  abbrev Ends : List ℕ → Type 0
  Ends s = (o : Outcome Unit) × Verdict rs g s o

  at_end : (s claims : List ℕ) (at count : ℕ) → Reached s claims at count → length s ≤ at → Ends s
  at_end s claims at count r l = (ending claims count goal, finish s claims at count r l (ending claims count goal) refl)

  going_on : (s : List ℕ) (fuel : ℕ) (claims : List ℕ) (at count : ℕ) → Reached s claims at count → 65535 ≤ length claims → length s ≤ at + fuel → Ends s
  going_on s zero claims at count r room l = at_end s claims at count r (omega arith)
  going_on s (suc fuel) claims at count r room l = go (λ c i k q m d. going_on s fuel c i k q m d) (dec_lt at (length s))
    where
      Again : Type 0
      Again = (c : List ℕ) (i k : ℕ) → Reached s c i k → 65535 ≤ length c → length s ≤ i + fuel → Ends s

      next : Again → at < length s → (f : ℕ) → fault_in t n cs m claims count (drop at s) ≡ f → Ends s
      next again h zero e =
          let z = faultless t n cs m claims count (drop at s) e in
          again _ _ _ (turn s claims at count r h e (omega arith)) (rw length-set room) (omega arith)
      next again h (suc f) e = (refused (suc f) count, at_fault s claims at count r h f e)

      go : Again → Dec (at < length s) → Ends s
      go again (yes h) = next again h (fault_in t n cs m claims count (drop at s)) refl
      go again (no h) = at_end s claims at count r (omega arith)

  pub verdict_exists : (s : List ℕ) → Ends s
  verdict_exists s = going_on s (length s) (replicate 65535 0) 0 0 (start s (replicate 65535 0)) (rw length-replicate (le_refl 65535)) (omega arith)
