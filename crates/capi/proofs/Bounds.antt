-- How large the numbers of an answer can be. Assumes nothing.
use Prim.Native.Nat.{ℕ, zero, suc, ◌+◌, ◌*◌, ◌<◌, ◌≤◌}
use native.Mathlib.Omega.{arith}
use mathlib.Core.Path.{◌≡◌, refl}
use mathlib.Core.Logic.{inl, inr}
use mathlib.Core.List.{List, [], ◌∷◌, ◌++◌}
use mathlib.Core.Bool.{Bool, true, false, cond}
use lib.ListN.{length, get_or, drop, length-append, length-drop}
use lib.Dec.{ltb, lit≤, lit<}
use Rattle.logic.specs.declared.Record.{Record}
use Rattle.logic.specs.declared.Counts.{Counts}
use Rattle.logic.specs.Kind.{body_of, size_of}
use Rattle.logic.specs.Record.{record_at}
use Rattle.logic.specs.Count.{formulas, counts_of, formula_at}
use Rattle.logic.specs.Refusal.{Outcome}
use Rattle.logic.specs.Refusal.Outcome.{accepted, refused}
use Rattle.logic.specs.Reading.{Scan, is_unknown, out_of_order, over_limit, is_dangling, is_misfit, is_not_rising, is_wrong_delegation, is_to_sender, is_no_statement, has_loose, is_after_last, is_repeated, allows_in, is_open_in, fault, fault_of, fault_at, on_fault, scan_from, scan, judged, reading}
use Rattle.logic.specs.Book.{Book}
use Rattle.logic.specs.Formula.{Tree, record_of}
use Rattle.logic.specs.Fact.{Fact, goal_fact, initial}
use Rattle.logic.specs.Step.{step_size, steps_from, steps_in, stated_by, step_at, StepFault, AtEnd, VerdictBehind, Verdict, goal_of}
use Rattle.logic.specs.Survey.{count, IsSurvey}
use Rattle.logic.specs.Derivation.{Among}
use Rattle.logic.specs.Honesty.{Pair, Before, Rising, IsReport, pair_bytes, report_bytes}
use Rattle.logic.proofs.Bytes.{Bytes}
use Rattle.logic.proofs.Meaning.{formula_in_lem}
use Rattle.logic.proofs.HonestSenders.{to_be_believed}
use Rattle.logic.proofs.Follows.{book_known, formula_limit_lem, assumption_limit_lem, message_limit_lem, goal_limit_lem}
use Rattle.logic.proofs.BookRead.{scan_follows}
use Rattle.logic.proofs.Limits.{size_limit}
use Rattle.logic.proofs.Steps.{at_most_two, size_positive}
use Rattle.logic.proofs.Verdict.{passed}
use Rattle.book.proofs.OpenBook.{all_records}

-- what holds of both branches holds of the choice
pub either_way : {A : Type 0} (P : A → Type 0) (b : Bool) (x y : A) → P x → P y → P (cond b x y)
either_way P true x y p q = p
either_way P false x y p q = q

-- a book has at most 368 records
pub records_limit : (rs : List Record) → Book rs → length rs ≤ 368
records_limit rs b =
    omega (arith, all_records rs (book_known rs b), formula_limit_lem rs b, assumption_limit_lem rs b, message_limit_lem rs b, goal_limit_lem rs b)

-- a fault of a record is at most 23
or_next : (b : Bool) (x y : ℕ) → x ≤ 23 → y ≤ 23 → cond b x y ≤ 23
or_next b x y p q = either_way (λ (z : ℕ). z ≤ 23) b x y p q

pub fault_small : (past : List Record) (r : Record) → fault past r ≤ 23
unfolding fault fault_of
fault_small past r =
    or_next (out_of_order n r.kind) 3 _ (lit≤ tt)
    (or_next (over_limit n r.kind) 9 _ (lit≤ tt)
    (or_next (is_dangling n r) 4 _ (lit≤ tt)
    (or_next (is_misfit look r) 5 _ (lit≤ tt)
    (or_next (is_not_rising look r) 6 _ (lit≤ tt)
    (or_next (is_wrong_delegation (allows_in (formulas past)) r) 23 _ (lit≤ tt)
    (or_next (is_to_sender r) 7 _ (lit≤ tt)
    (or_next (is_no_statement look r) 10 _ (lit≤ tt)
    (or_next (has_loose (is_open_in (formulas past)) r) 22 _ (lit≤ tt)
    (or_next (is_after_last n r) 11 _ (lit≤ tt)
    (or_next (is_repeated past r) 8 0 (lit≤ tt) (lit≤ tt)))))))))))
  where
    n : Counts
    n = counts_of past

    look : ℕ → Record
    look = formula_at past

fault_at_small : (past : List Record) (s : List ℕ) → fault_at past s ≤ 23
unfolding fault_at
fault_at_small past s =
    or_next (is_unknown (get_or s 0 0)) 1 _ (lit≤ tt)
    (or_next (ltb (length s) (size_of (body_of (get_or s 0 0)))) 2 (fault past (record_at s)) (lit≤ tt)
    (fault_small past (record_at s)))

scan_small : (n : ℕ) (past : List Record) (s : List ℕ) → (scan_from n past s).number ≤ 23
unfolding scan_from
scan_small zero past s = lit≤ tt
scan_small (suc n) past [] = lit≤ tt
scan_small (suc n) past (k ∷ s) = go (fault_at past (k ∷ s)) (fault_at_small past (k ∷ s)) _ (scan_small n _ _)
  where
    go : (f : ℕ) → f ≤ 23 → (on : Scan) → on.number ≤ 23 → (on_fault f past on).number ≤ 23
    go zero l on h = h
    go (suc f) l on h = l

-- a book's refusal
pub reading_bounds : (s : List ℕ) (f i : ℕ) → Bytes s → reading s ≡ refused f i → (0 < f) × (f < 256) × (i ≤ 368)
unfolding reading scan
reading_bounds s f i b e = go (scan s).number (scan s).records (scan_small (length s) [] s) (records_limit (scan s).records (scan_follows s b)) e
  where
    go : (m : ℕ) (rs : List Record) → m ≤ 23 → length rs ≤ 368 → judged m rs ≡ refused f i → (0 < f) × (f < 256) × (i ≤ 368)
    go zero rs l k e = absurd (let z : ◌≡◌ {A = ℕ} 0 1 = cc in omega arith)
    go (suc m) rs l k e =
        let a : suc m ≡ f = cc in
        let c : length rs ≡ i = cc in
        (omega arith, omega arith, omega arith)

-- how many members pass a test
pub count_le : (p : ℕ → Bool) (t : List ℕ) → count p t ≤ length t
unfolding count
count_le p [] = lit≤ tt
count_le p (v ∷ t) = let l = count_le p t in let k : cond (p v) 1 0 ≤ 1 = either_way (λ (z : ℕ). z ≤ 1) (p v) 1 0 (lit≤ tt) (lit≤ tt) in omega arith

pub survey_few : (rs : List Record) (t : List ℕ) → Book rs → IsSurvey (formulas rs) (initial rs) t → (p : ℕ → Bool) → count p t ≤ 38912
survey_few rs t b s p = let l = size_limit rs b in let e = s.size in let k = count_le p t in omega arith

-- a report has at most 4,096 pairs: each is higher than the one before
abbrev height : Pair → ℕ
height a = 256 * a.message + a.formula

abbrev Low : Pair → Type 0
Low a = (1 ≤ a.message) × (a.message ≤ 16) × (a.formula < 256)

higher : (a b : Pair) → Low b → Low a → Before a b → height a < height b
higher a b (l, m, k) (x, y, z) (inl h) = omega arith
higher a b (l, m, k) (x, y, z) (inr (e, h)) = omega arith

below_top : (a : Pair) (l : List Pair) → Rising (a ∷ l) → ((b : Pair) → Among b (a ∷ l) → Low b) → height a + length l < 4352
below_top a [] r h = let z = h a (inl refl) in let x = z.1 in let y = z.2 in omega arith
below_top a (b ∷ l) r h =
    let k = below_top b l r.1 (λ c i. h c (inr i)) in
    let m = higher a b (h b (inr (inl refl))) (h a (inl refl)) r.0 in
    omega arith

few_pairs : (l : List Pair) → Rising l → ((b : Pair) → Among b l → Low b) → length l ≤ 4096
few_pairs [] r h = lit≤ tt
few_pairs (a ∷ l) r h = let k = below_top a l r h in let z = h a (inl refl) in let x = z.0 in omega arith

report_length : (l : List Pair) → length (report_bytes l) ≡ 4 * length l
unfolding report_bytes
report_length [] = refl
report_length (a ∷ l) = let h = report_length l in rw (length-append (pair_bytes a) (report_bytes l)) (omega arith)

pub report_few : (rs : List Record) (t : List ℕ) (ps : List Pair) → Book rs → IsReport rs t ps → length (report_bytes ps) ≤ 16384
report_few rs t ps b r =
    let k = few_pairs ps r.rising
    (λ a i. let f = r.only a i in
    let x = f.0 in
    let y = f.1 in
    let m = message_limit_lem rs b in
    let n = formula_limit_lem rs b in
    let z = formula_in_lem (formulas rs) a.formula (to_be_believed (record_of (formulas rs) a.formula).kind f.2.asked) in
    (x, omega arith, omega arith)) in
    let e = report_length ps in
    omega arith

-- a step's fault is at most 21
step_fault : (rs : List Record) (m : ℕ) (past : List (Fact Tree)) (s : List ℕ) (f : ℕ) → StepFault rs m past s f → f ≤ 21
step_fault rs m past s f (inl (a, e)) = omega arith
step_fault rs m past s f (inr (a, inl (b, e))) = omega arith
step_fault rs m past s f (inr (a, inr (b, inl (c, e)))) = omega arith
step_fault rs m past s f (inr (a, inr (b, inr (c, inl (d, e))))) = omega arith
step_fault rs m past s f (inr (a, inr (b, inr (c, inr (d, inl (g, e)))))) = omega arith
step_fault rs m past s f (inr (a, inr (b, inr (c, inr (d, inr (g, e)))))) = omega arith

size_small : (k : ℕ) → step_size k ≤ 12
unfolding step_size
size_small k = omega (arith, at_most_two k)

-- what may be said of a verdict
abbrev pub VerdictBounds : Outcome Unit → Type 0
VerdictBounds (accepted u) = Unit
VerdictBounds (refused f i) = (0 < f) × (f < 256) × (i ≤ 65535)

module _ (rs : List Record) (m : ℕ) (goal : Fact Tree) where
  at_end : (past : List (Fact Tree)) (o : Outcome Unit) → length past ≤ 65535 → AtEnd goal past o → VerdictBounds o
  at_end past o l (inl (n, e)) = rw e (lit< tt, lit< tt, l)
  at_end past o l (inr (n, e)) = rw e tt

  behind_bounds : (n : ℕ) (past : List (Fact Tree)) (s : List ℕ) (o : Outcome Unit) → length past ≤ 65535 → VerdictBehind rs m goal n past s o → VerdictBounds o
  behind_bounds zero past s o l v = at_end past o l v
  behind_bounds (suc n) past [] o l v = at_end past o l v
  behind_bounds (suc n) past (k ∷ s) o l (inl (t, v)) =
      let few = (passed rs m past (k ∷ s) t).few in
      behind_bounds n (past ++ (stated_by (formulas rs) (step_at (k ∷ s)) ∷ [])) (drop (step_size k) (k ∷ s)) o (rw length-append (omega arith)) v
  behind_bounds (suc n) past (k ∷ s) o l (inr (f, t, e)) =
      let h = step_fault rs m past (k ∷ s) (suc f) t in rw e (omega arith, omega arith, l)

  -- what is accepted has at most 65,535 steps, of at most twelve bytes each
  behind_few : (n : ℕ) (past : List (Fact Tree)) (s : List ℕ) → length s ≤ n → length past ≤ 65535 → VerdictBehind rs m goal n past s (accepted tt)
      → (length s + 12 * length past ≤ 786420) × (length (steps_from n s) + length past ≤ 65535)
  unfolding steps_from
  behind_few zero past s a l v = (omega arith, omega arith)
  behind_few (suc n) past [] a l v = (omega arith, omega arith)
  behind_few (suc n) past (k ∷ s) a l (inl (t, v)) =
      let few = (passed rs m past (k ∷ s) t).few in
      let f = stated_by (formulas rs) (step_at (k ∷ s)) in
      let d = length-drop (step_size k) (k ∷ s) in
      let e = length-append past (f ∷ []) in
      let p = size_positive k in
      let z = size_small k in
      let h = behind_few n (past ++ (f ∷ [])) (drop (step_size k) (k ∷ s)) (omega arith) (omega arith) v in
      let x = h.0 in
      let y = h.1 in
      (omega arith, omega arith)
  behind_few (suc n) past (k ∷ s) a l (inr (f, t, e)) = absurd (let z : ◌≡◌ {A = ℕ} 0 1 = cc in omega arith)

pub verdict_bounds : (rs : List Record) (g : ℕ) (s : List ℕ) (o : Outcome Unit) → Verdict rs g s o → VerdictBounds o
verdict_bounds rs g s o v = behind_bounds rs (goal_of rs g).first (goal_fact (formulas rs) (goal_of rs g)) (length s) [] s o (lit≤ tt) v

pub verdict_few : (rs : List Record) (g : ℕ) (s : List ℕ) → Verdict rs g s (accepted tt) → (length s ≤ 786420) × (length (steps_in s) ≤ 65535)
verdict_few rs g s v =
    let h = behind_few rs (goal_of rs g).first (goal_fact (formulas rs) (goal_of rs g)) (length s) [] s (omega arith) (lit≤ tt) v in
    let x = h.0 in
    let y = h.1 in
    (omega arith, omega arith)
