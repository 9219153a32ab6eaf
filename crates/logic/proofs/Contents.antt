-- What an accepted book holds, by its four lists: its formula records obey `Formulas`, and the references of all its records
-- lead to formulas of the sorts that they ask for.
use Prim.Native.Nat.{ℕ, zero, suc, ◌+◌, ◌≤◌, ◌<◌}
use mathlib.Core.Path.{◌≡◌, refl, sym, ◌∙◌, ap, subst}
use mathlib.Core.Logic.{◌⊎◌, inl, inr, ⊎_elim}
use mathlib.Core.List.{List, [], ◌∷◌, ◌++◌, append_assoc, append-nil}
use mathlib.Core.Bool.{Bool, true, false, cond}
use native.Mathlib.Omega.{arith}
use native.Mathlib.Decide.{dec_lt}
use native.Mathlib.Nat.{lt_of_lt_of_le}
use lib.ListN.{length, get_or, length-append, get_or-append}
use lib.Seq.{get_or-append_seam}
use lib.Dec.{T, eqb}
use Rattle.logic.specs.declared.Sort.{Sort}
use Rattle.logic.specs.declared.Sort.TheVariants.{Absent, Name, Principal, Key, Formula, Variable, Control, Statement, Message}
use Rattle.logic.specs.declared.Record.{Record}
use Rattle.logic.specs.Kind.{body_of, bodies, refers, is_formula_record}
use Rattle.logic.specs.Record.{no_record}
use Rattle.logic.specs.Count.{of_kind, formulas, messages, formula_at}
use Rattle.logic.specs.Book.{All, EachField, Whole, MayBe, Closed, Proper, Follows, Book}
use Rattle.logic.specs.Derivation.{Among}
use Rattle.logic.specs.Formula.{Tree, may_delegate, record_of, name_of, tree_of, Recorded}
use Rattle.logic.proofs.Follows.{of_kind_append}
use Rattle.logic.proofs.Member.{all_at, all_imp, all_append}
use Rattle.logic.proofs.Parts.{parts}
use Rattle.logic.proofs.Formulas.{Formulas, same_tree, down}
use Rattle.logic.proofs.Prefix.{tree_stays}

pub each_imp : (P Q : Sort → ℕ → Type 0) (r : Record) → ((s : Sort) (y : ℕ) → P s y → Q s y) → EachField P r → EachField Q r
each_imp P Q r f h = (f _ _ h.0, f _ _ h.1, f _ _ h.2)

all_both : (P Q R : Record → Type 0) → ((r : Record) → P r → Q r → R r) → (l : List Record) → All P l → All Q l → All R l
all_both P Q R f [] a b = tt
all_both P Q R f (r ∷ l) a b = (f r a.0 b.0, all_both P Q R f l a.1 b.1)

-- The records of a class.

-- a record of a class is a record of the book, of a kind of that class
pub in_class : (p : ℕ → Bool) (r : Record) (l : List Record) → Among r (of_kind p l) → Among r l × T (p r.kind)
unfolding of_kind
in_class p r [] m = elim m [ ]
in_class p r (q ∷ l) m = go (in_class p r l) (p q.kind) refl m
  where
    go : (Among r (of_kind p l) → Among r l × T (p r.kind)) → (b : Bool) → p q.kind ≡ b → Among r (cond b (q ∷ of_kind p l) (of_kind p l)) → Among r (q ∷ l) × T (p r.kind)
    go below true e (inl d) = (inl d, rw (d, e) tt)
    go below true e (inr m) = let h = below m in (inr h.0, h.1)
    go below false e m = let h = below m in (inr h.0, h.1)

pub among_at : (l : List Record) (x : ℕ) → x < length l → Among (get_or l x no_record) l
among_at [] x h = absurd (omega arith)
among_at (r ∷ l) zero h = inl refl
among_at (r ∷ l) (suc x) h = inr (among_at l x (omega arith))

-- One more formula record.

-- a record of fs, or the last one
pub split : (fs : List Record) (r : Record) (x : ℕ) → x < length (fs ++ (r ∷ []))
    → ((x < length fs) × (record_of (fs ++ (r ∷ [])) x ≡ record_of fs x)) ⊎ ((x ≡ length fs) × (record_of (fs ++ (r ∷ [])) x ≡ r))
split fs r x l =
    let h : x < length fs + 1 = subst (λ n. x < n) (length-append fs (r ∷ [])) l in
    elim (dec_lt x (length fs)) [
      | yes m ↦ inl (m, get_or-append fs (r ∷ []) no_record x m)
      | no n ↦ let e : x ≡ length fs = omega arith in inr (e, ap (record_of (fs ++ (r ∷ []))) e ∙ get_or-append_seam fs r [] no_record)
    ]

-- a field may refer to a record of another list as it may to one of this, if the records are the same where the field refers
pub may_be : (s : Sort) (q r : Record) → (T (refers s) → q ≡ r) → MayBe s q.kind → MayBe s r.kind
may_be Absent q r e h = tt
may_be Name q r e h = tt
may_be Principal q r e h = subst (λ x. MayBe Principal x.kind) (e tt) h
may_be Key q r e h = subst (λ x. MayBe Key x.kind) (e tt) h
may_be Formula q r e h = subst (λ x. MayBe Formula x.kind) (e tt) h
may_be Variable q r e h = subst (λ x. MayBe Variable x.kind) (e tt) h
may_be Control q r e h = subst (λ x. MayBe Control x.kind) (e tt) h
may_be Statement q r e h = subst (λ x. MayBe Statement x.kind) (e tt) h
may_be Message q r e h = tt

-- a reference to a record of fs stays what it is behind fs
stays : (fs gs : List Record) (s : Sort) (y : ℕ) → (T (refers s) → y < length fs)
    → MayBe s (record_of fs y).kind → MayBe s (record_of (fs ++ gs) y).kind
stays fs gs s y l h = may_be s (record_of fs y) (record_of (fs ++ gs) y) (λ t. sym (get_or-append fs gs no_record y (l t))) h

-- the references of r lead to records of fs, of the sorts that they ask for
abbrev pub Fitting : List Record → Record → Type 0
Fitting fs r = EachField (λ s y. (T (refers s) → y < length fs) × MayBe s (record_of fs y).kind) r

fitting_more : (fs gs : List Record) (r : Record) → Fitting fs r → Fitting (fs ++ gs) r
fitting_more fs gs r h =
    each_imp (λ s y. (T (refers s) → y < length fs) × MayBe s (record_of fs y).kind)
    (λ s y. (T (refers s) → y < length (fs ++ gs)) × MayBe s (record_of (fs ++ gs) y).kind) r
    (λ s y g. ((λ t. let l = g.0 t in simp length-append (omega arith)), stays fs gs s y g.0 g.1)) h

new_name : (fs gs : List Record) (x : ℕ) → x < length fs → name_of (fs ++ gs) x ≡ name_of fs x
new_name fs gs x l = ap (λ r. r.first) (get_or-append fs gs no_record x l)

-- a referring field of a record of kind 8 or 10
ends_refer : (k a b c n : ℕ) → (k ≡ 8) ⊎ (k ≡ 10)
    → EachField (λ s y. T (refers s) → y < n) (record { kind = k; first = a; second = b; third = c }) → (a < n) × (c < n)
unfolding body_of bodies
ends_refer k a b c n (inl e) h = let g = rw e at h in (g.0 tt, g.2 tt)
ends_refer k a b c n (inr e) h = let g = rw e at h in (g.0 tt, g.2 tt)

-- the two fields of a record of kind 17
both_refer : (k a b c n : ℕ) → k ≡ 17
    → EachField (λ s y. T (refers s) → y < n) (record { kind = k; first = a; second = b; third = c }) → (a < n) × (b < n)
unfolding body_of bodies
both_refer k a b c n e h = let g = rw e at h in (g.0 tt, g.1 tt)

formulas_more : (fs : List Record) (r : Record) → Formulas fs → T (is_formula_record r.kind) → EachField Whole r
    → EachField (λ s y. T (refers s) → y < length fs) r → EachField (λ s y. MayBe s (record_of fs y).kind) r
    → ((r.kind ≡ 8) ⊎ (r.kind ≡ 10) → name_of fs r.first < name_of fs r.third)
    → (r.kind ≡ 17 → T (may_delegate (name_of fs r.first) (tree_of fs r.second)))
    → All (λ q. r ≡ q → ⊥) fs → Formulas (fs ++ (r ∷ []))
formulas_more fs r ok k w e s rise may new =
    record {
      kinds = kinds;
      whole = λ x l. ⊎_elim (λ h. rw h.1 (ok.whole x h.0)) (λ h. rw h.1 w) (split fs r x l);
      earlier = earlier;
      sorts = λ x l. ⊎_elim (λ h. rw h.1 (old x h.0)) (λ h. rw h.1 last) (split fs r x l);
      rising = λ x l. ⊎_elim (λ h. rw h.1 (old_rise x h.0)) (λ h. rw h.1 last_rise) (split fs r x l);
      delegations = λ x l. ⊎_elim (λ h. rw h.1 (old_may x h.0)) (λ h. rw h.1 last_may) (split fs r x l);
      once = λ x y l m d. ⊎_elim
          (λ g. ⊎_elim
          (λ h. ok.once x y g.0 h.0 (sym g.1 ∙ (d ∙ h.1)))
          (λ h. absurd (fresh x g.0 (sym h.1 ∙ (sym d ∙ g.1))))
          (split fs r y m))
          (λ g. ⊎_elim
          (λ h. absurd (fresh y h.0 (sym g.1 ∙ (d ∙ h.1))))
          (λ h. g.0 ∙ sym h.0)
          (split fs r y m))
          (split fs r x l);
    }
  where
    kinds : (x : ℕ) → x < length (fs ++ (r ∷ [])) → T (is_formula_record (record_of (fs ++ (r ∷ [])) x).kind)
    kinds x l = ⊎_elim (λ h. rw h.1 (ok.kinds x h.0)) (λ h. rw h.1 k) (split fs r x l)

    earlier : (x : ℕ) → x < length (fs ++ (r ∷ [])) → EachField (λ s y. T (refers s) → y < x) (record_of (fs ++ (r ∷ [])) x)
    earlier x l = ⊎_elim (λ h. rw h.1 (ok.earlier x h.0)) (λ h. rw (h.1, h.0) e) (split fs r x l)

    both : (n : ℕ) → n ≤ length fs → (q : Record) → EachField (λ s y. T (refers s) → y < n) q
        → EachField (λ s y. MayBe s (record_of fs y).kind) q
        → EachField (λ s y. MayBe s (record_of (fs ++ (r ∷ [])) y).kind) q
    both n b q g h = (
      stays fs (r ∷ []) (body_of q.kind).first q.first (λ t. lt_of_lt_of_le (g.0 t) b) h.0,
      stays fs (r ∷ []) (body_of q.kind).second q.second (λ t. lt_of_lt_of_le (g.1 t) b) h.1,
      stays fs (r ∷ []) (body_of q.kind).third q.third (λ t. lt_of_lt_of_le (g.2 t) b) h.2,
    )

    old : (x : ℕ) → x < length fs → EachField (λ s y. MayBe s (record_of (fs ++ (r ∷ [])) y).kind) (record_of fs x)
    old x l = both x (omega arith) (record_of fs x) (ok.earlier x l) (ok.sorts x l)

    last : EachField (λ s y. MayBe s (record_of (fs ++ (r ∷ [])) y).kind) r
    last = both (length fs) (omega arith) r e s

    old_rise : (x : ℕ) → x < length fs → ((record_of fs x).kind ≡ 8) ⊎ ((record_of fs x).kind ≡ 10)
        → name_of (fs ++ (r ∷ [])) (record_of fs x).first < name_of (fs ++ (r ∷ [])) (record_of fs x).third
    old_rise x l d =
        let q = record_of fs x in
        let h = ends_refer q.kind q.first q.second q.third x d (ok.earlier x l) in
        rw (new_name fs (r ∷ []) q.first (omega (arith, h.0)), new_name fs (r ∷ []) q.third (omega (arith, h.1))) (ok.rising x l d)

    last_rise : (r.kind ≡ 8) ⊎ (r.kind ≡ 10) → name_of (fs ++ (r ∷ [])) r.first < name_of (fs ++ (r ∷ [])) r.third
    last_rise d =
        let h = ends_refer r.kind r.first r.second r.third (length fs) d e in
        rw (new_name fs (r ∷ []) r.first h.0, new_name fs (r ∷ []) r.third h.1) (rise d)

    -- the variable and the formula of a kind 17 stay what they are
    may_stay : (a b : ℕ) → a < length fs → b < length fs → T (may_delegate (name_of fs a) (tree_of fs b))
        → T (may_delegate (name_of (fs ++ (r ∷ [])) a) (tree_of (fs ++ (r ∷ [])) b))
    may_stay a b l m t = rw (new_name fs (r ∷ []) a l, tree_stays fs (r ∷ []) kinds earlier b m) t

    old_may : (x : ℕ) → x < length fs → (record_of fs x).kind ≡ 17
        → T (may_delegate (name_of (fs ++ (r ∷ [])) (record_of fs x).first) (tree_of (fs ++ (r ∷ [])) (record_of fs x).second))
    old_may x l d =
        let q = record_of fs x in
        let h = both_refer q.kind q.first q.second q.third x d (ok.earlier x l) in
        may_stay q.first q.second (omega (arith, h.0)) (omega (arith, h.1)) (ok.delegations x l d)

    last_may : r.kind ≡ 17 → T (may_delegate (name_of (fs ++ (r ∷ [])) r.first) (tree_of (fs ++ (r ∷ [])) r.second))
    last_may d =
        let h = both_refer r.kind r.first r.second r.third (length fs) d e in
        may_stay r.first r.second h.0 h.1 (may d)

    fresh : (x : ℕ) → x < length fs → r ≡ record_of fs x → ⊥
    fresh x l = all_at (λ q. r ≡ q → ⊥) (record_of fs x) fs new (among_at fs x l)

-- an assumption, a message or a goal refers to formulas without loose variables
abbrev pub Unloose : List Record → Record → Type 0
Unloose fs r = 32 ≤ r.kind → EachField (λ s x. T (refers s) → Closed fs x) r

-- it stays so where there are more formulas
unloose_more : (fs gs : List Record) → Formulas (fs ++ gs) → (r : Record) → EachField (λ s y. T (refers s) → y < length fs) r
    → Unloose fs r → Unloose (fs ++ gs) r
unloose_more fs gs ok r e h k =
    let g = h k in
    let near : (y : ℕ) → y < length fs → Closed fs y → Closed (fs ++ gs) y =
    λ y l c. rw (tree_stays fs gs ok.kinds ok.earlier y l) c in
    ((λ t. near r.first (e.0 t) (g.0 t)), (λ t. near r.second (e.1 t) (g.1 t)), (λ t. near r.third (e.2 t) (g.2 t)))

-- The whole book.

pub record Contents (rs : List Record) : Type 0 where
  pub formulas_ok : Formulas (formulas rs)
  -- every reference leads to a formula of its sort
  pub fitting : All (Fitting (formulas rs)) rs
  -- no formula of an assumption, a message or a goal has a loose variable
  pub closed : All (Unloose (formulas rs)) rs
  -- a goal is asked after a message that is there, or before the first
  pub goal_after : All (λ r. r.kind ≡ 34 → r.first ≤ length (messages rs)) rs

none : Contents []
unfolding of_kind
none =
    record {
      formulas_ok =
          record {
            kinds = λ x l. absurd (omega arith);
            whole = λ x l. absurd (omega arith);
            earlier = λ x l. absurd (omega arith);
            sorts = λ x l. absurd (omega arith);
            rising = λ x l. absurd (omega arith);
            delegations = λ x l. absurd (omega arith);
            once = λ x y l. absurd (omega arith);
          };
      fitting = tt;
      closed = tt;
      goal_after = tt;
    }

-- the formulas with one more record
one_more_lem : (past : List Record) (r : Record) → Formulas (formulas past) → Proper past r → Formulas (formulas (past ++ (r ∷ [])))
unfolding of_kind formula_at
one_more_lem past r ok p = rw (of_kind_append is_formula_record past (r ∷ [])) (go (is_formula_record r.kind) refl)
  where
    go : (b : Bool) → is_formula_record r.kind ≡ b → Formulas (formulas past ++ cond b (r ∷ []) [])
    go true e =
        let k : T (is_formula_record r.kind) = rw e tt in
        formulas_more (formulas past) r ok k p.whole p.earlier p.sorts p.rising p.delegation (p.new k)
    go false e = rw append-nil ok

more : (past : List Record) (r : Record) → Contents past → Proper past r → Contents (past ++ (r ∷ []))
unfolding formula_at
more past r c p =
    let fs = formulas past in
    let gs = formulas (r ∷ []) in
    let f = of_kind_append is_formula_record past (r ∷ []) in
    let m = of_kind_append (λ k. eqb k 33) past (r ∷ []) in
    let e = p.earlier in
    let s = p.sorts in
    let ok : Formulas (fs ++ gs) = rw (← f) (one_more_lem past r c.formulas_ok p) in
    record {
      formulas_ok = one_more_lem past r c.formulas_ok p;
      fitting =
          rw f
          (all_append (Fitting (fs ++ gs)) past (r ∷ [])
          (all_imp (Fitting fs) (Fitting (fs ++ gs)) (λ q h. fitting_more fs gs q h) past c.fitting)
          (fitting_more fs gs r ((e.0, s.0), (e.1, s.1), (e.2, s.2)), tt));
      closed =
          rw f
          (all_append (Unloose (fs ++ gs)) past (r ∷ [])
          (all_both (Fitting fs) (Unloose fs) (Unloose (fs ++ gs))
          (λ q h u. unloose_more fs gs ok q (h.0.0, h.1.0, h.2.0) u) past c.fitting c.closed)
          (unloose_more fs gs ok r e p.closed, tt));
      goal_after =
          all_append (λ q. q.kind ≡ 34 → q.first ≤ length (messages (past ++ (r ∷ [])))) past (r ∷ [])
          (all_imp (λ q. q.kind ≡ 34 → q.first ≤ length (messages past))
          (λ q. q.kind ≡ 34 → q.first ≤ length (messages (past ++ (r ∷ []))))
          (λ q h k. let l = h k in rw (m, length-append (messages past) (messages (r ∷ []))) (omega arith)) past c.goal_after)
          ((λ k. let l = p.goal_after k in rw (m, length-append (messages past) (messages (r ∷ []))) (omega arith)), tt);
    }

contents_behind : (past rs : List Record) → Contents past → Follows past rs → Contents (past ++ rs)
contents_behind past [] c b = rw append-nil c
contents_behind past (r ∷ rs) c b =
    subst Contents (append_assoc past (r ∷ []) rs) (contents_behind (past ++ (r ∷ [])) rs (more past r c b.0) b.1)

-- an accepted book has such contents
pub contents : (rs : List Record) → Book rs → Contents rs
contents rs b = contents_behind [] rs none b

-- EQUAL TREES ARE EQUAL FORMULA NUMBERS
pub book_same_tree : (rs : List Record) → Book rs → (x y : ℕ) → x < length (formulas rs) → y < length (formulas rs)
    → tree_of (formulas rs) x ≡ tree_of (formulas rs) y → x ≡ y
book_same_tree rs b = same_tree (formulas rs) (contents rs b).formulas_ok

-- EVERY PART OF A RECORD IS A RECORD
pub book_parts : (rs : List Record) → Book rs → (t : Tree) → Recorded (formulas rs) t → All (Recorded (formulas rs)) (parts t)
book_parts rs b = down (formulas rs) (contents rs b).formulas_ok
