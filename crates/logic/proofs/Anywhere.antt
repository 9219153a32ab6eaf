-- Formula records may stand anywhere: of an accepted book they can be moved among the other records, as long as each record still
-- refers to formulas before it, and the book is accepted. So every book has a twin with its formula records in front, in document
-- 01's order, with the same survey.
use Prim.Native.Nat.{ℕ, ◌≤◌, ◌<◌, zero-le}
use native.Mathlib.Omega.{arith}
use native.Mathlib.Decide.{dec_lt}
use native.Mathlib.Nat.{le_refl, lt_of_lt_of_le}
use mathlib.Core.Path.{◌≡◌, refl, sym, ◌∙◌, ap, subst}
use mathlib.Core.Logic.{◌⊎◌, inl, inr, ⊎_elim}
use mathlib.Core.Bool.{Bool, true, false, cond, not}
use mathlib.Core.List.{List, [], ◌∷◌, ◌++◌, append-nil, head-eq_of_cons-eq}
use lib.ListN.{length, get_or, take, drop, length-append, get_or-append}
use lib.Seq.{append_snoc, take_at, drop_at}
use lib.Dec.{T, T_not}
use Rattle.logic.specs.declared.Sort.{Sort}
use Rattle.logic.specs.declared.Record.{Record}
use Rattle.logic.specs.Kind.{body_of, is_formula_record, refers}
use Rattle.logic.specs.Record.{no_record}
use Rattle.logic.specs.Count.{of_kind, formulas, others, principals, formula_at}
use Rattle.logic.specs.Book.{All, EachField, MayBe, Closed, RefersWithin, Proper, Follows, Book}
use Rattle.logic.specs.Formula.{loose, may_delegate, tree_of}
use Rattle.logic.specs.Rearranged.{Rearranged, Earlier, in_front}
use Rattle.logic.proofs.Tests.{T_true, T_false, T_either_way, not_not_T}
use Rattle.logic.proofs.Follows.{of_kind_append, of_kind_more, of_kind_other, of_kind_within}
use Rattle.logic.proofs.Contents.{contents, may_be}
use Rattle.logic.proofs.Formulas.{Formulas}
use Rattle.logic.proofs.Prefix.{tree_stays}
use Rattle.logic.proofs.Table.{formula_bounds}
use Rattle.logic.proofs.Limits.{principals_of}
use Rattle.logic.proofs.Rearrangement.{same_class}

-- WHERE A RECORD STANDS, by its place among the records of its class.

-- two lists with equal fronts of one length
front_same : (l k a c : List Record) → l ++ k ≡ a ++ c → length l ≡ length a → (l ≡ a) × (k ≡ c)
front_same l k a c e n = (
  sym (take_at l k (length a) n) ∙ (ap (take (length a)) e ∙ take_at a c (length a) refl),
  sym (drop_at l k (length a) n) ∙ (ap (drop (length a)) e ∙ drop_at a c (length a) refl),
)

-- record r stands in `all` behind p, and the records of p that pass the test t are those of a
pub record Stands (t : ℕ → Bool) (all a : List Record) (r : Record) : Type 0 where
  pub before : List Record
  pub behind : List Record
  pub proper : Proper before r
  pub same : of_kind t before ≡ a
  pub whole : before ++ behind ≡ all

of_kind_first : (t : ℕ → Bool) (r : Record) (rs : List Record) → T (t r.kind) → of_kind t (r ∷ rs) ≡ r ∷ of_kind t rs
unfolding of_kind
of_kind_first t r rs h = rw (T_true (t r.kind) h)

of_kind_skip : (t : ℕ → Bool) (r : Record) (rs : List Record) → T (not (t r.kind)) → of_kind t (r ∷ rs) ≡ of_kind t rs
unfolding of_kind
of_kind_skip t r rs h = rw (T_false (t r.kind) h)

-- record q is the one, or it is looked for behind q
stands_step : (t : ℕ → Bool) (past : List Record) (q : Record) (rs : List Record) → Proper past q → (a b : List Record) (r : Record)
    → of_kind t (past ++ (q ∷ rs)) ≡ a ++ (r ∷ b) → length (of_kind t past) ≤ length a
    → (length (of_kind t (past ++ (q ∷ []))) ≤ length a → Stands t (past ++ (q ∷ rs)) a r) → Stands t (past ++ (q ∷ rs)) a r
stands_step t past q rs p a b r e l on = go (T_either_way (t q.kind))
  where
    found : T (t q.kind) → length (of_kind t past) ≡ length a → Stands t (past ++ (q ∷ rs)) a r
    found y n =
        let h =
        front_same (of_kind t past) (q ∷ of_kind t rs) a (r ∷ b)
        (sym (of_kind_append t past (q ∷ rs) ∙ ap (λ w. of_kind t past ++ w) (of_kind_first t q rs y)) ∙ e) n in
        record {
          before = past;
          behind = q ∷ rs;
          proper = subst (Proper past) (head-eq_of_cons-eq h.1) p;
          same = h.0;
          whole = refl;
        }

    go : T (t q.kind) ⊎ T (not (t q.kind)) → Stands t (past ++ (q ∷ rs)) a r
    go (inr n) = on (subst (λ w. length w ≤ length a) (sym (of_kind_other t past q n)) l)
    go (inl y) =
        elim (dec_lt (length (of_kind t past)) (length a)) [
          | yes k ↦
              let m = ap length (of_kind_more t past q y) ∙ length-append (of_kind t past) (q ∷ []) in
              on (omega arith)
          | no k ↦ found y (omega arith)
        ]

pub stands : (t : ℕ → Bool) (past rs : List Record) → Follows past rs → (a b : List Record) (r : Record)
    → of_kind t (past ++ rs) ≡ a ++ (r ∷ b) → length (of_kind t past) ≤ length a → Stands t (past ++ rs) a r
stands t past [] f a b r e l =
    let n = ap length (sym (ap (of_kind t) (append-nil past)) ∙ e) ∙ length-append a (r ∷ b) in
    absurd (omega arith)
stands t past (q ∷ rs) f a b r e l =
    stands_step t past q rs f.0 a b r e l (λ m.
    subst (λ w. Stands t w a r) (append_snoc past q rs)
    (stands t (past ++ (q ∷ [])) rs f.1 a b r (ap (of_kind t) (append_snoc past q rs) ∙ e) m))

-- WHAT A RECORD ASKS of those before it.

-- a formula record asks for the formulas
formula_moves : (p q : List Record) (r : Record) → T (is_formula_record r.kind) → formulas p ≡ formulas q → Proper p r → Proper q r
unfolding formula_at
formula_moves p q r f e h =
    record {
      known = h.known;
      whole = h.whole;
      assumptions_first = λ k. absurd (no 32 k tt);
      goals_last = λ k. absurd (no 33 k tt);
      formula_limit = λ t. subst (λ fs. length fs < 256) e (h.formula_limit t);
      principal_limit = λ k. subst (λ l. length l < 8) (sym (principals_of p) ∙ (ap principals e ∙ principals_of q)) (h.principal_limit k);
      assumption_limit = λ k. absurd (no 32 k tt);
      message_limit = λ k. absurd (no 33 k tt);
      goal_limit = λ k. absurd (no 34 k tt);
      earlier = subst (λ fs. RefersWithin fs r) e h.earlier;
      sorts = subst (λ fs. EachField (λ s x. MayBe s (get_or fs x no_record).kind) r) e h.sorts;
      rising = λ k. subst (λ fs. (get_or fs r.first no_record).first < (get_or fs r.third no_record).first) e (h.rising k);
      delegation = λ k. subst (λ fs. T (may_delegate (get_or fs r.first no_record).first (tree_of fs r.second))) e (h.delegation k);
      to_another = h.to_another;
      closed = λ l. absurd (let b = formula_bounds r.kind f in omega (arith, b.1));
      goal_after = λ k. absurd (no 34 k tt);
      new = λ t. subst (λ fs. All (λ x. r ≡ x → ⊥) fs) e (h.new t);
    }
  where
    no : (c : ℕ) → r.kind ≡ c → T (not (is_formula_record c)) → ⊥
    no c k t = T_not (is_formula_record c) t (subst (λ n. T (is_formula_record n)) k f)

-- any other record asks for the formulas that it refers to, and for the others before it
other_moves : (p q m k : List Record) (r : Record) → T (not (is_formula_record r.kind)) → others p ≡ others q
    → Formulas (formulas p ++ m) → formulas p ++ m ≡ formulas q ++ k → RefersWithin (formulas q) r → Proper p r → Proper q r
unfolding formula_at
other_moves p q m k r o e ok f n h =
    record {
      known = h.known;
      whole = h.whole;
      assumptions_first = λ d. let z = h.assumptions_first d in (sym (same_class 33 tt p q e) ∙ z.0, sym (same_class 34 tt p q e) ∙ z.1);
      goals_last = λ d. sym (same_class 34 tt p q e) ∙ h.goals_last d;
      formula_limit = λ t. absurd (T_not (is_formula_record r.kind) o t);
      principal_limit = λ d. absurd (no 1 d tt);
      assumption_limit = λ d. subst (λ l. length l < 64) (same_class 32 tt p q e) (h.assumption_limit d);
      message_limit = λ d. subst (λ l. length l < 16) (same_class 33 tt p q e) (h.message_limit d);
      goal_limit = λ d. subst (λ l. length l < 32) (same_class 34 tt p q e) (h.goal_limit d);
      earlier = n;
      sorts = (
        stays (body_of r.kind).first r.first h.earlier.0 n.0 h.sorts.0,
        stays (body_of r.kind).second r.second h.earlier.1 n.1 h.sorts.1,
        stays (body_of r.kind).third r.third h.earlier.2 n.2 h.sorts.2,
      );
      rising = λ d. absurd (⊎_elim (λ x. no 8 x tt) (λ x. no 10 x tt) d);
      delegation = λ d. absurd (no 17 d tt);
      to_another = h.to_another;
      closed = λ l.
          let c = h.closed l in (
            (λ t. closed_at r.first (h.earlier.0 t) (n.0 t) (c.0 t)),
            (λ t. closed_at r.second (h.earlier.1 t) (n.1 t) (c.1 t)),
            (λ t. closed_at r.third (h.earlier.2 t) (n.2 t) (c.2 t)),
          );
      goal_after = λ d. subst (λ l. r.first ≤ length l) (same_class 33 tt p q e) (h.goal_after d);
      new = λ t. absurd (T_not (is_formula_record r.kind) o t);
    }
  where
    no : (c : ℕ) → r.kind ≡ c → T (is_formula_record c) → ⊥
    no c d t = T_not (is_formula_record c) (subst (λ n. T (not (is_formula_record n))) d o) t

    at : (x : ℕ) → x < length (formulas p) → x < length (formulas q) → get_or (formulas p) x no_record ≡ get_or (formulas q) x no_record
    at x a b =
        sym (get_or-append (formulas p) m no_record x a)
        ∙ (ap (λ w. get_or w x no_record) f ∙ get_or-append (formulas q) k no_record x b)

    closed_at : (x : ℕ) → x < length (formulas p) → x < length (formulas q) → Closed (formulas p) x → Closed (formulas q) x
    closed_at x a b c =
        let ok' : Formulas (formulas q ++ k) = subst Formulas f ok in
        ap loose
        (sym (tree_stays (formulas q) k ok'.kinds ok'.earlier x b)
        ∙ (ap (λ w. tree_of w x) (sym f) ∙ tree_stays (formulas p) m ok.kinds ok.earlier x a))
        ∙ c

    stays : (s : Sort) (x : ℕ) → (T (refers s) → x < length (formulas p)) → (T (refers s) → x < length (formulas q))
        → MayBe s (get_or (formulas p) x no_record).kind → MayBe s (get_or (formulas q) x no_record).kind
    stays s x a b y = may_be s (get_or (formulas p) x no_record) (get_or (formulas q) x no_record) (λ t. at x (a t) (b t)) y

-- FORMULA RECORDS MAY STAND ANYWHERE

one_moves : (rs : List Record) → Book rs → (past qs : List Record) (r : Record) → Rearranged rs (past ++ (r ∷ qs))
    → RefersWithin (formulas past) r → Proper past r
unfolding of_kind
one_moves rs b past qs r s e = go (T_either_way (is_formula_record r.kind))
  where
    go : T (is_formula_record r.kind) ⊎ T (not (is_formula_record r.kind)) → Proper past r
    go (inl f) =
        let z =
        stands is_formula_record [] rs b (formulas past) (formulas qs) r
        (s.0 ∙ (of_kind_append is_formula_record past (r ∷ qs) ∙ ap (λ w. formulas past ++ w) (of_kind_first is_formula_record r qs f))) zero-le in
        formula_moves z.before past r f z.same z.proper
    go (inr o) =
        let t : ℕ → Bool = λ k. not (is_formula_record k) in
        let z =
        stands t [] rs b (others past) (others qs) r
        (s.1 ∙ (of_kind_append t past (r ∷ qs) ∙ ap (λ w. others past ++ w) (of_kind_first t r qs o))) zero-le in
        other_moves z.before past (formulas z.behind) (formulas (r ∷ qs)) r o z.same
        (subst Formulas (ap formulas (sym z.whole) ∙ of_kind_append is_formula_record z.before z.behind) (contents rs b).formulas_ok)
        (sym (of_kind_append is_formula_record z.before z.behind)
        ∙ (ap formulas z.whole ∙ (s.0 ∙ of_kind_append is_formula_record past (r ∷ qs)))) e z.proper

all_move : (rs : List Record) → Book rs → (past qs : List Record) → Rearranged rs (past ++ qs) → Earlier past qs → Follows past qs
all_move rs b past [] s e = tt
all_move rs b past (r ∷ qs) s e = (
  one_moves rs b past qs r s e.0,
  all_move rs b (past ++ (r ∷ [])) qs (subst (Rearranged rs) (sym (append_snoc past r qs)) s) e.1,
)

-- "Formula records may stand anywhere; .. a reference is still to an earlier one."
pub anywhere : (rs qs : List Record) → Rearranged rs qs → Book rs → Earlier [] qs → Book qs
anywhere rs qs s b e = all_move rs b [] qs s e

-- IN FRONT

none_of : (p q : ℕ → Bool) → ((k : ℕ) → T (p k) → T (q k) → ⊥) → (rs : List Record) → of_kind p (of_kind q rs) ≡ []
unfolding of_kind
none_of p q f [] = refl
none_of p q f (r ∷ rs) = go (none_of p q f rs) (q r.kind) (p r.kind) refl refl
  where
    go : of_kind p (of_kind q rs) ≡ [] → (a b : Bool) → q r.kind ≡ a → p r.kind ≡ b → of_kind p (cond a (r ∷ of_kind q rs) (of_kind q rs)) ≡ []
    go h true true d e = absurd (f r.kind (subst T (sym e) tt) (subst T (sym d) tt))
    go h true false d e = rw (e, h)
    go h false b d e = h

pub in_front_same : (rs : List Record) → Rearranged rs (in_front rs)
in_front_same rs = (
  sym (of_kind_append is_formula_record (formulas rs) (others rs)
      ∙ (ap (λ w. formulas (formulas rs) ++ w) (none_of is_formula_record (λ k. not (is_formula_record k)) (λ k t u. T_not (is_formula_record k) u t) rs)
      ∙ (append-nil (formulas (formulas rs)) ∙ of_kind_within is_formula_record is_formula_record (λ k t. t) rs))),
  sym (of_kind_append (λ k. not (is_formula_record k)) (formulas rs) (others rs)
      ∙ (ap (λ w. w ++ others (others rs)) (none_of (λ k. not (is_formula_record k)) is_formula_record (λ k t u. T_not (is_formula_record k) t u) rs)
      ∙ of_kind_within (λ k. not (is_formula_record k)) (λ k. not (is_formula_record k)) (λ k t. t) rs)),
)

earlier_append : (past rs qs : List Record) → Earlier past rs → Earlier (past ++ rs) qs → Earlier past (rs ++ qs)
earlier_append past [] qs a b = rw append-nil at b
earlier_append past (r ∷ rs) qs a b = (a.0, earlier_append (past ++ (r ∷ [])) rs qs a.1 (rw append_snoc b))

-- the formulas refer to formulas before them
front_formulas : (past rs : List Record) → Follows past rs → Earlier (formulas past) (formulas rs)
unfolding of_kind
front_formulas past [] f = tt
front_formulas past (r ∷ rs) f = go (front_formulas (past ++ (r ∷ [])) rs f.1) (T_either_way (is_formula_record r.kind))
  where
    go : Earlier (formulas (past ++ (r ∷ []))) (formulas rs) → T (is_formula_record r.kind) ⊎ T (not (is_formula_record r.kind))
        → Earlier (formulas past) (formulas (r ∷ rs))
    go h (inl t) =
        subst (Earlier (formulas past)) (sym (of_kind_first is_formula_record r rs t)) (
          subst (λ fs. RefersWithin fs r) (sym (of_kind_within is_formula_record is_formula_record (λ k u. u) past))
              f.0.earlier,
          subst (λ w. Earlier w (formulas rs)) (of_kind_more is_formula_record past r t) h,
        )
    go h (inr t) =
        subst (Earlier (formulas past)) (sym (of_kind_skip is_formula_record r rs t))
        (subst (λ w. Earlier w (formulas rs)) (of_kind_other is_formula_record past r t) h)

-- and the others to formulas before them, behind all formulas
front_others : (past rs : List Record) → Follows past rs → (w : List Record) → length (formulas (past ++ rs)) ≤ length (formulas w)
    → Earlier w (others rs)
unfolding of_kind
front_others past [] f w l = tt
front_others past (r ∷ rs) f w l =
    go (λ w m. front_others (past ++ (r ∷ [])) rs f.1 w (subst (λ q. length (formulas q) ≤ length (formulas w)) (sym (append_snoc past r rs)) m))
    (T_either_way (is_formula_record r.kind))
  where
    few : length (formulas past) ≤ length (formulas w)
    few =
        let n = ap length (of_kind_append is_formula_record past (r ∷ rs)) ∙ length-append (formulas past) (formulas (r ∷ rs)) in
        omega arith

    go : ((w : List Record) → length (formulas (past ++ (r ∷ rs))) ≤ length (formulas w) → Earlier w (others rs))
        → T (is_formula_record r.kind) ⊎ T (not (is_formula_record r.kind)) → Earlier w (others (r ∷ rs))
    go h (inl t) = subst (Earlier w) (sym (of_kind_skip (λ k. not (is_formula_record k)) r rs (not_not_T (is_formula_record r.kind) t))) (h w l)
    go h (inr t) =
        let e = f.0.earlier in
        subst (Earlier w) (sym (of_kind_first (λ k. not (is_formula_record k)) r rs t)) (
          ((λ u. lt_of_lt_of_le (e.0 u) few), (λ u. lt_of_lt_of_le (e.1 u) few), (λ u. lt_of_lt_of_le (e.2 u) few)),
          h (w ++ (r ∷ [])) (subst (λ q. length (formulas (past ++ (r ∷ rs))) ≤ length q) (sym (of_kind_other is_formula_record w r t)) l),
        )

-- with its formula records in front, an accepted book is accepted
pub in_front_book : (rs : List Record) → Book rs → Book (in_front rs)
unfolding of_kind
in_front_book rs b =
    anywhere rs (in_front rs) (in_front_same rs) b
    (earlier_append [] (formulas rs) (others rs) (front_formulas [] rs b)
    (front_others [] rs b (formulas rs) (subst (λ q. length (formulas rs) ≤ length q) (sym (of_kind_within is_formula_record is_formula_record (λ k t. t) rs)) (le_refl (length (formulas rs))))))
