-- The numbers of an index that tell variables say what the trees of the formulas say, and so a record has the fault by the index that it has
-- by the records. Assumes nothing.
use Prim.Native.Nat.{ℕ, zero, suc, ◌+◌, ◌%◌, ◌≤◌, ◌<◌}
use native.Mathlib.Nat.{not-suc-le-zero, mod-lt}
use native.Mathlib.Decide.{dec_lt, ℕ_discrete}
use native.Mathlib.Omega.{arith}
use mathlib.Core.Path.{◌≡◌, refl, sym, ap, ap₂, ◌∙◌, subst}
use mathlib.Core.Logic.{◌⊎◌, inl, inr, ⊎_elim}
use mathlib.Core.Bool.{Bool, true, false, not, cond, ◌&&◌, ◌||◌}
use mathlib.Core.List.{List, [], ◌∷◌, ◌++◌, append-nil}
use lib.ListN.{length, get_or, set, length-set}
use lib.Seq.{get_or-set_same, get_or-set_other, append_snoc}
use lib.Dec.{T, eqb, ltb, leb, eqb→eq}
use borrow.Author.Tests.{eq-eqb, ne_eqb, le-leb, lt-leb}
use Rattle.logic.specs.declared.Sort.{Sort}
use Rattle.logic.specs.declared.Record.{Record}
use Rattle.logic.specs.declared.Counts.{Counts}
use Rattle.logic.specs.Kind.{bodies, body_of, refers, fits, is_formula_record}
use Rattle.logic.specs.Record.{each_field}
use Rattle.logic.specs.Count.{of_kind, formulas, counts_of, formula_at}
use Rattle.logic.specs.Book.{All, EachField, MayBe, Proper, Follows, Book}
use Rattle.logic.specs.Derivation.{Among}
use Rattle.logic.specs.Formula.{KeyField, loose_field, loose, is_empty, is_closed, delegates, every, may_delegate, record_of, name_of, key_of, built, tree_of}
use Rattle.logic.specs.Formula.KeyField.{by_name, by_variable}
use Rattle.logic.specs.Formula.Tree.{variable}
use Rattle.logic.specs.Reading.{out_of_order, over_limit, is_dangling, is_misfit, is_not_rising, is_wrong_delegation, is_to_sender, is_no_statement, has_loose, is_after_last, fault_of, allows_in, is_open_in}
use Rattle.format.specs.Variables.{variables_from, variables_in, loose_in, allows_by, joined_low, joined, field_variables, variables_of}
use Rattle.format.specs.Index.{index_size, packed, slot_of, noted, entered, filled, look_in}
use Rattle.logic.proofs.Tests.{T_true, T_either_way}
use Rattle.logic.proofs.Member.{all_at, all_append, among_left, among_right}
use Rattle.logic.proofs.Parts.{key_leaf}
use Rattle.logic.proofs.Cases.{FormulaKind}
use Rattle.logic.proofs.Cases.FormulaKind.{kind1, kind2, kind3, kind4, kind5, kind6, kind7, kind8, kind9, kind10, kind11, kind12, kind13, kind14, kind15, kind16, kind17}
use Rattle.logic.proofs.Follows.{of_kind_more, of_kind_other, follows_snoc, formula_limit_lem}
use Rattle.logic.proofs.Formulas.{Formulas, is_record, kind_of_lem, tree_is, principal_is, variable_is, leaf_is, same_tree}
use Rattle.logic.proofs.Contents.{contents, split}
use Rattle.logic.proofs.Proper.{each_field_lem, refers_T}
use Rattle.format.proofs.Laws.{low_small, join_left, join_right, join_plain}
use Rattle.format.proofs.Indexing.{slot_in, noted_length, look_law}

-- THE NUMBERS OF A BOOK. Each is worked out from those of its fields, as they stand in the whole table.

-- a record's number is worked out from those of the fields that refer
pub variables_same : (at at' : ℕ → ℕ) (n : ℕ) (r : Record) → EachField (λ s y. T (refers s) → at y ≡ at' y) r → variables_of at n r ≡ variables_of at' n r
unfolding variables_of
variables_same at at' n r h =
    let b = body_of r.kind in
    rw (field b.first r.first h.0, field b.second r.second h.1, field b.third r.third h.2) refl
  where
    field : (s : Sort) (x : ℕ) → (T (refers s) → at x ≡ at' x) → field_variables at s x ≡ field_variables at' s x
    field s x h = go (refers s) h
      where
        go : (b : Bool) → (T b → at x ≡ at' x) → cond b (at x) 0 ≡ cond b (at' x) 0
        go true h = h tt
        go false h = refl

-- where none of f formulas has a variable or holds a kind 17, no record of another kind that refers to them does
pub unseen_none : (at : ℕ → ℕ) (f n : ℕ) (r : Record) → EachField (λ s x. T (refers s) → x < f) r → ((x : ℕ) → x < f → at x ≡ 0)
    → (r.kind ≡ 16 → ⊥) → (r.kind ≡ 17 → ⊥) → variables_of at n r ≡ 0
unfolding variables_of joined joined_low
unseen_none at f n r g h v d =
    variables_same at (λ x. 0) n r ((λ t. h r.first (g.0 t)), (λ t. h r.second (g.1 t)), (λ t. h r.third (g.2 t)))
    ∙ rw (ne_eqb r.kind 16 v, ne_eqb r.kind 17 d, zero (refers (body_of r.kind).first), zero (refers (body_of r.kind).second), zero (refers (body_of r.kind).third)) refl
  where
    zero : (b : Bool) → ◌≡◌ {A = ℕ} (cond b 0 0) 0
    zero true = refl
    zero false = refl

-- a record more keeps the numbers of the formulas before it, and a formula has its own
module _ (t : List ℕ) (past : List Record) (r : Record) (h : Proper past r) where
  pub number_kept : (x : ℕ) → x < length (formulas past) → variables_in (entered t (counts_of past) r) x ≡ variables_in t x
  unfolding variables_in noted
  number_kept x l =
      let s = slot_in past r h in
      get_or-set_other (noted t (counts_of past) r) (slot_of (counts_of past) r.kind) (variables_from + x) (packed r) 0 (omega arith)
      ∙ go (is_formula_record r.kind)
    where
      go : (b : Bool)
          → get_or (cond b (set t (variables_from + length (formulas past)) (variables_of (variables_in t) (length (formulas past)) r)) t) (variables_from + x) 0
          ≡ get_or t (variables_from + x) 0
      go true = get_or-set_other t (variables_from + length (formulas past)) (variables_from + x) _ 0 (omega arith)
      go false = refl

  pub number_new : index_size ≤ length t → T (is_formula_record r.kind)
      → variables_in (entered t (counts_of past) r) (length (formulas past)) ≡ variables_of (variables_in t) (length (formulas past)) r
  unfolding variables_in noted
  number_new room f =
      let s = slot_in past r h in
      let n = length (formulas past) in
      let m = h.formula_limit f in
      get_or-set_other (noted t (counts_of past) r) (slot_of (counts_of past) r.kind) (variables_from + n) (packed r) 0 (omega arith)
      ∙ rw (T_true (is_formula_record r.kind) f) (get_or-set_same t (variables_from + n) _ 0 (omega arith))

-- each of the formulas fs has its number
abbrev pub Numbered : List ℕ → List Record → Type 0
Numbered t fs = (x : ℕ) → x < length fs → variables_in t x ≡ variables_of (variables_in t) x (record_of fs x)

numbered_more : (t : List ℕ) (past : List Record) (r : Record) → index_size ≤ length t → Formulas (formulas past) → Proper past r
    → Numbered t (formulas past) → Numbered (entered t (counts_of past) r) (formulas (past ++ (r ∷ [])))
numbered_more t past r room ok h num =
    ⊎_elim
    (λ f. subst (Numbered u) (sym (of_kind_more is_formula_record past r f)) (λ x l. ⊎_elim (old x) (new f x) (split fs r x l)))
    (λ f. subst (Numbered u) (sym (of_kind_other is_formula_record past r f)) (λ x l. before x l))
    (T_either_way (is_formula_record r.kind))
  where
    fs : List Record
    fs = formulas past

    u : List ℕ
    u = entered t (counts_of past) r

    near : (n : ℕ) → n ≤ length fs → (q : Record) → EachField (λ s y. T (refers s) → y < n) q
        → EachField (λ s y. T (refers s) → variables_in t y ≡ variables_in u y) q
    near n l q e = (
      (λ w. sym (number_kept t past r h q.first (let m = e.0 w in omega arith))),
      (λ w. sym (number_kept t past r h q.second (let m = e.1 w in omega arith))),
      (λ w. sym (number_kept t past r h q.third (let m = e.2 w in omega arith))),
    )

    before : Numbered u fs
    before x l =
        number_kept t past r h x l
        ∙ num x l
        ∙ variables_same (variables_in t) (variables_in u) x (record_of fs x) (near x (omega arith) (record_of fs x) (ok.earlier x l))

    old : (x : ℕ) → (x < length fs) × (record_of (fs ++ (r ∷ [])) x ≡ record_of fs x) → variables_in u x ≡ variables_of (variables_in u) x (record_of (fs ++ (r ∷ [])) x)
    old x (l, e) = before x l ∙ ap (variables_of (variables_in u) x) (sym e)

    new : T (is_formula_record r.kind) → (x : ℕ) → (x ≡ length fs) × (record_of (fs ++ (r ∷ [])) x ≡ r)
        → variables_in u x ≡ variables_of (variables_in u) x (record_of (fs ++ (r ∷ [])) x)
    new f x (d, e) =
        ap (variables_in u) d
        ∙ number_new t past r h room f
        ∙ variables_same (variables_in t) (variables_in u) (length fs) r (near (length fs) (omega arith) r h.earlier)
        ∙ ap₂ (variables_of (variables_in u)) (sym d) (sym e)

numbered_from : (t : List ℕ) (past rs : List Record) → index_size ≤ length t → Book past → Follows past rs
    → Numbered t (formulas past) → Numbered (filled t past rs) (formulas (past ++ rs))
unfolding filled
numbered_from t past [] room b f num = rw append-nil num
numbered_from t past (r ∷ rs) room b f num =
    rw append_snoc at (numbered_from (entered t (counts_of past) r) (past ++ (r ∷ [])) rs
    (rw (length-set, noted_length t (counts_of past) r) room) (follows_snoc [] past r b f.0) f.1
    (numbered_more t past r room (contents past b).formulas_ok f.0 num))

pub numbered : (t : List ℕ) (rs : List Record) → index_size ≤ length t → Book rs → Numbered (filled t [] rs) (formulas rs)
unfolding of_kind
numbered t rs room b = numbered_from t [] rs room tt b (λ x l. absurd (not-suc-le-zero l))

-- WHAT A NUMBER SAYS of the names l of some variables: there is none; there is just the variable v; two of them differ.
pub data Says (fs : List Record) (l : List ℕ) (s : ℕ) : Type 0 where
  none : l ≡ [] → s ≡ 0 → Says fs l s
  just : (v : ℕ) → v < 256 → (record_of fs v).kind ≡ 16 → (l ≡ [] → ⊥) → All (λ n. n ≡ name_of fs v) l → s ≡ 1 + v → Says fs l s
  several : (a b : ℕ) → Among a l → Among b l → (a ≡ b → ⊥) → s ≡ 257 → Says fs l s

-- what two numbers are together
low_right : (a : ℕ) → joined_low a 0 ≡ a
unfolding joined_low
low_right a = go (eqb a 0) (eqb→eq a 0)
  where
    go : (b : Bool) → (T b → a ≡ 0) → cond b 0 a ≡ a
    go true h = sym (h tt)
    go false h = refl

low_same : (a : ℕ) → (a ≡ 0 → ⊥) → joined_low a a ≡ a
unfolding joined_low
low_same a z = rw (ne_eqb a 0 z, eq-eqb a a refl) refl

low_apart : (a b : ℕ) → (a ≡ 0 → ⊥) → (b ≡ 0 → ⊥) → (a ≡ b → ⊥) → joined_low a b ≡ 257
unfolding joined_low
low_apart a b z w d = rw (ne_eqb a 0 z, ne_eqb b 0 w, ne_eqb a b d) refl

low_many : (a b : ℕ) → (a ≡ 0 → ⊥) → (b ≡ 0 → ⊥) → (a ≡ 257) ⊎ (b ≡ 257) → joined_low a b ≡ 257
low_many a b z w h =
    elim (ℕ_discrete a b) [
      | yes e ↦ ap (joined_low a) (sym e) ∙ low_same a z ∙ ⊎_elim (λ d. d) (λ d. e ∙ d) h
      | no d ↦ low_apart a b z w d
    ]

-- a list that is not empty has a member
some_member : (l : List ℕ) → (l ≡ [] → ⊥) → (n : ℕ) × Among n l
some_member [] z = absurd (z refl)
some_member (n ∷ l) z = (n, inl refl)

not_left : (k l : List ℕ) → (k ≡ [] → ⊥) → k ++ l ≡ [] → ⊥
not_left [] l z e = z refl
not_left (n ∷ k) l z e = let y : ◌≡◌ {A = ℕ} 0 1 = cc in omega arith

module _ (fs : List Record) (ok : Formulas fs) where
  -- variables with the same name are one variable
  pub same_variable : (v w : ℕ) → (record_of fs v).kind ≡ 16 → (record_of fs w).kind ≡ 16 → name_of fs v ≡ name_of fs w → v ≡ w
  same_variable v w k m e =
      same_tree fs ok v w (is_record fs v (λ z. omega arith)) (is_record fs w (λ z. omega arith))
      (variable_is fs ok v k ∙ ap variable e ∙ sym (variable_is fs ok w m))

  with_none : (k l : List ℕ) (a b : ℕ) → l ≡ [] → b ≡ 0 → Says fs k a → Says fs (k ++ l) (joined_low a b)
  with_none k l a b e d g = rw (e, d, append-nil, low_right a) g

  pub says_joined : (k l : List ℕ) (a b : ℕ) → Says fs k a → Says fs l b → Says fs (k ++ l) (joined_low a b)
  unfolding joined_low
  says_joined k l a b (none e d) (none e' d') = with_none k l a b e' d' (none e d)
  says_joined k l a b (none e d) (just w small' kind' some' all' d') = rw (e, d) (just w small' kind' some' all' d')
  says_joined k l a b (none e d) (several n m i j u d') = rw (e, d) (several n m i j u d')
  says_joined k l a b (just v small kind some all d) (none e' d') = with_none k l a b e' d' (just v small kind some all d)
  says_joined k l a b (just v small kind some all d) (just w small' kind' some' all' d') =
      elim (ℕ_discrete v w) [
        | yes e ↦ just v small kind (not_left k l some) (all_append (λ n. n ≡ name_of fs v) k l all (rw (← e) at all'))
            (rw (d, d', ← e) (low_same (1 + v) (λ z. omega arith)))
        | no u ↦
            let (n, i) = some_member k some in
            let (m, j) = some_member l some' in
            let en = all_at (λ n. n ≡ name_of fs v) n k all i in
            let em = all_at (λ n. n ≡ name_of fs w) m l all' j in
            several n m (among_left n k l i) (among_right m k l j) (λ e. u (same_variable v w kind kind' (sym en ∙ e ∙ em)))
            (low_apart a b (λ z. omega arith) (λ z. omega arith) (λ z. u (omega arith)))
      ]
  says_joined k l a b (just v small kind some all d) (several n m i j u d') =
      several n m (among_right n k l i) (among_right m k l j) u (low_many a b (λ z. omega arith) (λ z. omega arith) (inr d'))
  says_joined k l a b (several n m i j u d) (none e' d') = with_none k l a b e' d' (several n m i j u d)
  says_joined k l a b (several n m i j u d) (just v small kind some all d') =
      several n m (among_left n k l i) (among_left m k l j) u (low_many a b (λ z. omega arith) (λ z. omega arith) (inl d))
  says_joined k l a b (several n m i j u d) (several n' m' i' j' u' d') =
      several n m (among_left n k l i) (among_left m k l j) u (low_many a b (λ z. omega arith) (λ z. omega arith) (inl d))

-- and of a formula: the names of its loose variables, and whether it is a kind 17 or holds one
pub record Tells (fs : List Record) (l : List ℕ) (d : Bool) (s : ℕ) : Type 0 where
  pub says : Says fs l (s % 512)
  pub small : s < 1024
  pub delegation : leb 512 s ≡ d

-- the low end of two parts together
abbrev low : ℕ → ℕ → ℕ
low a b = joined_low (a % 512) (b % 512)

module _ (fs : List Record) (ok : Formulas fs) where
  -- of two parts together
  tells_joined : {k l : List ℕ} {d e : Bool} {a b : ℕ} → Tells fs k d a → Tells fs l e b → Tells fs (k ++ l) (d || e) (joined a b)
  tells_joined {k} {l} {d} {e} {a} {b} g h =
      elim (dec_lt a 512) [
        | yes p ↦ elim (dec_lt b 512) [
          | yes q ↦ told (low a b) (sym (join_plain a b p q refl)) (omega (arith, few)) (omega (arith, few))
              (lt-leb 512 (low a b) (few) ∙ sym (ap₂ (λ x y. x || y) (sym g.delegation ∙ lt-leb 512 a p) (sym h.delegation ∙ lt-leb 512 b q)))
          | no q ↦ told (512 + low a b) (sym (join_right a b p (omega arith) refl)) (omega (arith, few)) (omega (arith, few))
              (le-leb 512 (512 + low a b) (omega arith) ∙ sym (ap₂ (λ x y. x || y) (sym g.delegation ∙ lt-leb 512 a p) (sym h.delegation ∙ le-leb 512 b (omega arith))))
        ]
        | no p ↦ told (512 + low a b) (sym (join_left a b (omega arith) refl)) (omega (arith, few)) (omega (arith, few))
            (le-leb 512 (512 + low a b) (omega arith) ∙ sym (ap (λ x. x || e) (sym g.delegation ∙ le-leb 512 a (omega arith))))
      ]
    where
      few : low a b < 512
      few = low_small (a % 512) (b % 512) (mod-lt a (omega arith)) (mod-lt b (omega arith))

      told : (v : ℕ) → joined a b ≡ v → v % 512 ≡ low a b → v < 1024 → leb 512 v ≡ (d || e) → Tells fs (k ++ l) (d || e) (joined a b)
      told v ev em small leads =
          record {
            says = rw (ev, em) (says_joined fs ok k l (a % 512) (b % 512) g.says h.says);
            small = rw ev small;
            delegation = rw ev leads;
          }

  -- a part and a key
  keyed : {k l : List ℕ} {d : Bool} {a b : ℕ} → Tells fs k d a → Tells fs l false b → Tells fs (k ++ l) d (joined a b)
  keyed {k} {l} {d} {a} {b} g h = subst (λ e. Tells fs (k ++ l) e (joined a b)) (or_false d) (tells_joined g h)
    where
      or_false : (d : Bool) → (d || false) ≡ d
      or_false true = refl
      or_false false = refl

  -- a part that has nothing
  blank : Tells fs [] false 0
  blank = record { says = none refl refl; small = omega arith; delegation = refl }

  ahead : {l : List ℕ} {d : Bool} {a b : ℕ} → Tells fs l d a → Tells fs [] false b → Tells fs l d (joined a b)
  ahead {l} {d} {a} {b} g h = subst (λ k. Tells fs k d (joined a b)) (append-nil l) (keyed g h)

  behind : {l : List ℕ} {d : Bool} {a b : ℕ} → Tells fs [] false a → Tells fs l d b → Tells fs l d (joined a b)
  behind g h = tells_joined g h

  module _ (at : ℕ → ℕ) where
    -- number x tells of formula x
    Right : ℕ → Type 0
    Right x = Tells fs (loose (tree_of fs x)) (delegates (tree_of fs x)) (at x)

    -- a field of each sort
    right_principal : (y : ℕ) → (record_of fs y).kind ≡ 1 → Right y → Tells fs [] false (at y)
    unfolding Right
    right_principal y k h = subst (λ X. Tells fs (loose X) (delegates X) (at y)) (principal_is fs ok y k) h

    right_key : (y : ℕ) → ((record_of fs y).kind ≡ 2) ⊎ ((record_of fs y).kind ≡ 16) → Right y → Tells fs (loose_field (key_of fs y)) false (at y)
    unfolding Right
    right_key y k h = go (key_of fs y) (subst (λ X. Tells fs (loose X) (delegates X) (at y)) (leaf_is fs ok y k) h)
      where
        go : (K : KeyField) → Tells fs (loose (key_leaf K)) (delegates (key_leaf K)) (at y) → Tells fs (loose_field K) false (at y)
        go (by_name n) h = h
        go (by_variable n) h = h

    -- the number of a record by its kind
    by_kind : (n k a b c : ℕ) → FormulaKind k → n < 256 → (record_of fs n).kind ≡ k → name_of fs n ≡ a
        → EachField (λ s y. T (refers s) → Right y) (record { kind = k; first = a; second = b; third = c })
        → EachField (λ s y. MayBe s (record_of fs y).kind) (record { kind = k; first = a; second = b; third = c })
        → Tells fs (loose (built (tree_of fs) (record_of fs) (record { kind = k; first = a; second = b; third = c })))
        (delegates (built (tree_of fs) (record_of fs) (record { kind = k; first = a; second = b; third = c })))
        (variables_of at n (record { kind = k; first = a; second = b; third = c }))
    unfolding built body_of bodies variables_of Right
    by_kind n k a b c kind1 s e m h g = behind blank (behind blank blank)
    by_kind n k a b c kind2 s e m h g = behind blank (behind blank blank)
    by_kind n k a b c kind3 s e m h g = behind blank (behind blank blank)
    by_kind n k a b c kind4 s e m h g = tells_joined (h.0 tt) (ahead (h.1 tt) blank)
    by_kind n k a b c kind5 s e m h g = keyed (h.0 tt) (ahead (right_key b g.1 (h.1 tt)) (right_principal c g.2 (h.2 tt)))
    by_kind n k a b c kind6 s e m h g = keyed (h.0 tt) (ahead (right_key b g.1 (h.1 tt)) (right_principal c g.2 (h.2 tt)))
    by_kind n k a b c kind7 s e m h g = tells_joined (h.0 tt) (ahead (h.1 tt) blank)
    by_kind n k a b c kind8 s e m h g =
        behind (right_principal a g.0 (h.0 tt)) (ahead (right_key b g.1 (h.1 tt)) (right_principal c g.2 (h.2 tt)))
    by_kind n k a b c kind9 s e m h g = ahead (right_key a g.0 (h.0 tt)) (ahead (right_principal b g.1 (h.1 tt)) blank)
    by_kind n k a b c kind10 s e m h g = behind (right_principal a g.0 (h.0 tt)) (ahead (h.1 tt) (right_principal c g.2 (h.2 tt)))
    by_kind n k a b c kind11 s e m h g = ahead (h.0 tt) (ahead blank blank)
    by_kind n k a b c kind12 s e m h g = behind (right_principal a g.0 (h.0 tt)) (ahead (h.1 tt) blank)
    by_kind n k a b c kind13 s e m h g = behind (right_principal a g.0 (h.0 tt)) (ahead (h.1 tt) blank)
    by_kind n k a b c kind14 s e m h g = behind (right_principal a g.0 (h.0 tt)) (ahead (h.1 tt) blank)
    by_kind n k a b c kind15 s e m h g = behind (right_principal a g.0 (h.0 tt)) (ahead (h.1 tt) blank)
    by_kind n k a b c kind16 s e m h g =
        record {
          says = just n s e (λ z. let y : ◌≡◌ {A = ℕ} 0 1 = cc in omega arith) (sym m, tt) (omega arith);
          small = omega arith;
          delegation = lt-leb 512 (1 + n) (omega arith);
        }
    by_kind n k a b c kind17 s e m h g = record { says = none refl refl; small = omega arith; delegation = refl }

    module _ (few : length fs ≤ 256) (num : (x : ℕ) → x < length fs → at x ≡ variables_of at x (record_of fs x)) where
      right_below : (n x : ℕ) → x < n → x < length fs → Right x
      unfolding Right
      right_below zero x b l = absurd (omega arith)
      right_below (suc n) x b l =
          let r = record_of fs x in
          let g = ok.earlier x l in
          let near : (y : ℕ) → y < x → Right y = λ y h. right_below n y (omega arith) (omega arith) in
          rw (tree_is fs ok x l, num x l)
          (by_kind x r.kind r.first r.second r.third (kind_of_lem fs ok x l) (omega arith) refl refl
          ((λ t. near r.first (g.0 t)), (λ t. near r.second (g.1 t)), (λ t. near r.third (g.2 t))) (ok.sorts x l))

      pub right : (x : ℕ) → x < length fs → Tells fs (loose (tree_of fs x)) (delegates (tree_of fs x)) (at x)
      unfolding Right
      right x l = right_below (suc x) x (omega arith) l

-- READING A NUMBER: as a test on the names, and as a statement
every_same : (m : ℕ) (l : List ℕ) → All (λ n. n ≡ m) l → every (λ n. eqb n m) l ≡ true
every_same m [] h = refl
every_same m (n ∷ l) h = rw (eq-eqb n m h.0) (every_same m l h.1)

every_other : (m n : ℕ) (l : List ℕ) → Among n l → (n ≡ m → ⊥) → every (λ n. eqb n m) l ≡ false
every_other m n [] x'' d = elim x'' [ ]
every_other m n (k ∷ l) (inl e) d = rw (ne_eqb k m (λ z. d (e ∙ z))) refl
every_other m n (k ∷ l) (inr i) d = go (eqb k m) (every_other m n l i d)
  where
    go : (b : Bool) → every (λ n. eqb n m) l ≡ false → (b && every (λ n. eqb n m) l) ≡ false
    go true e = e
    go false e = refl

some_left : (n : ℕ) (l : List ℕ) → Among n l → is_empty l ≡ false
some_left n [] i = elim i [ ]
some_left n (k ∷ l) i = refl

module _ (fs : List Record) (l : List ℕ) (s : ℕ) where
  pub says_loose : Says fs l s → not (eqb s 0) ≡ not (is_empty l)
  says_loose (none e d) = rw (e, d) refl
  says_loose (just v small kind some all d) = let (n, i) = some_member l some in rw (d, some_left n l i, ne_eqb (1 + v) 0 (λ z. omega arith)) refl
  says_loose (several a b i j u d) = rw (d, some_left a l i) refl

  module _ (ok : Formulas fs) (v : ℕ) (kind : (record_of fs v).kind ≡ 16) where
    says_allowed : v < 256 → Says fs l s → (eqb s 0 || eqb s (1 + v)) ≡ every (λ n. eqb n (name_of fs v)) l
    says_allowed few (none e d) = rw (e, d) refl
    says_allowed few (just w small kind' some all d) =
        elim (ℕ_discrete w v) [
          | yes e ↦ rw (every_same (name_of fs v) l (rw e at all), d, ne_eqb (1 + w) 0 (λ z. omega arith), eq-eqb (1 + w) (1 + v) (omega arith)) refl
          | no u ↦
              let (n, i) = some_member l some in
              let other : n ≡ name_of fs v → ⊥ = λ e. u (same_variable fs ok w v kind' kind (sym (all_at (λ n. n ≡ name_of fs w) n l all i) ∙ e)) in
              rw (every_other (name_of fs v) n l i other, d, ne_eqb (1 + w) 0 (λ z. omega arith), ne_eqb (1 + w) (1 + v) (λ z. u (omega arith))) refl
        ]
    says_allowed few (several a b i j u d) =
        elim (ℕ_discrete a (name_of fs v)) [
          | yes e ↦ rw (every_other (name_of fs v) b l j (λ z. u (e ∙ sym z)), d, ne_eqb 257 (1 + v) (λ z. omega arith)) refl
          | no e ↦ rw (every_other (name_of fs v) a l i e, d, ne_eqb 257 (1 + v) (λ z. omega arith)) refl
        ]

    -- the names are all of v, and there is one, just where the number is that of v
    pub says_just : Says fs l s → v < 256 → s ≡ 1 + v → (l ≡ [] → ⊥) × All (λ n. n ≡ name_of fs v) l
    says_just (none e d) few g = absurd (omega arith)
    says_just (just w small kind' some all d) few g = let e : w ≡ v = omega arith in (some, rw e at all)
    says_just (several a b i j u d) few g = absurd (omega arith)

    pub just_says : Says fs l s → (l ≡ [] → ⊥) → All (λ n. n ≡ name_of fs v) l → s ≡ 1 + v
    just_says (none e d) some all = absurd (some e)
    just_says (just w small kind' some' all' d) some all =
        let (n, i) = some_member l some in
        let e = same_variable fs ok w v kind' kind (sym (all_at (λ n. n ≡ name_of fs w) n l all' i) ∙ all_at (λ n. n ≡ name_of fs v) n l all i) in
        d ∙ ap (λ w. 1 + w) e
    just_says (several a b i j u d) some all =
        absurd (u (all_at (λ n. n ≡ name_of fs v) a l all i ∙ sym (all_at (λ n. n ≡ name_of fs v) b l all j)))

tells_allowed : (fs : List Record) (ok : Formulas fs) (l : List ℕ) (d : Bool) (s v : ℕ) → (record_of fs v).kind ≡ 16 → v < 256 → Tells fs l d s
    → (eqb s 0 || eqb s (1 + v)) ≡ (not d && every (λ n. eqb n (name_of fs v)) l)
tells_allowed fs ok l d s v kind few h =
    elim (dec_lt s 512) [
      | yes m ↦
          let e : s % 512 ≡ s = omega arith in
          rw (sym h.delegation ∙ lt-leb 512 s m) (says_allowed fs l s ok v kind few (rw e at h.says))
      | no m ↦ rw (sym h.delegation ∙ le-leb 512 s (omega arith), ne_eqb s 0 (λ z. omega arith), ne_eqb s (1 + v) (λ z. omega arith)) refl
    ]

-- WHAT THE NUMBERS OF A BOOK SAY, whatever stood in the table before
module _ (t₀ : List ℕ) (rs : List Record) (room : index_size ≤ length t₀) (b : Book rs) where
  pub told : (x : ℕ) → x < length (formulas rs)
      → Tells (formulas rs) (loose (tree_of (formulas rs) x)) (delegates (tree_of (formulas rs) x)) (variables_in (filled t₀ [] rs) x)
  told = right (formulas rs) (contents rs b).formulas_ok (variables_in (filled t₀ [] rs)) (formula_limit_lem rs b) (numbered t₀ rs room b)

  pub variables_shown : (x : ℕ) → x < length (formulas rs) → Says (formulas rs) (loose (tree_of (formulas rs) x)) (variables_in (filled t₀ [] rs) x % 512)
  variables_shown x l = (told x l).says

  pub variables_small : (x : ℕ) → x < length (formulas rs) → variables_in (filled t₀ [] rs) x < 1024
  variables_small x l = (told x l).small

  pub delegates_shown : (x : ℕ) → x < length (formulas rs) → leb 512 (variables_in (filled t₀ [] rs) x) ≡ delegates (tree_of (formulas rs) x)
  delegates_shown x l = (told x l).delegation

  pub loose_shown : (x : ℕ) → x < length (formulas rs) → loose_in (filled t₀ [] rs) x ≡ not (is_closed (tree_of (formulas rs) x))
  unfolding loose_in
  loose_shown x l = says_loose (formulas rs) _ _ (told x l).says

  pub allowed_shown : (v x : ℕ) → (record_of (formulas rs) v).kind ≡ 16 → x < length (formulas rs)
      → allows_by (filled t₀ [] rs) v x ≡ may_delegate (name_of (formulas rs) v) (tree_of (formulas rs) x)
  unfolding allows_by
  allowed_shown v x k l =
      let few = formula_limit_lem rs b in
      let m = is_record (formulas rs) v (λ z. omega arith) in
      tells_allowed (formulas rs) (contents rs b).formulas_ok _ _ _ v k (omega arith) (told x l)

  -- just the variable v
  pub just_shown : (v x : ℕ) → (record_of (formulas rs) v).kind ≡ 16 → x < length (formulas rs) → variables_in (filled t₀ [] rs) x % 512 ≡ 1 + v
      → (loose (tree_of (formulas rs) x) ≡ [] → ⊥) × All (λ n. n ≡ name_of (formulas rs) v) (loose (tree_of (formulas rs) x))
  just_shown v x k l e =
      let few = formula_limit_lem rs b in
      let m = is_record (formulas rs) v (λ z. omega arith) in
      says_just (formulas rs) _ _ (contents rs b).formulas_ok v k (told x l).says (omega arith) e

  pub shown_just : (v x : ℕ) → (record_of (formulas rs) v).kind ≡ 16 → x < length (formulas rs) → (loose (tree_of (formulas rs) x) ≡ [] → ⊥)
      → All (λ n. n ≡ name_of (formulas rs) v) (loose (tree_of (formulas rs) x)) → variables_in (filled t₀ [] rs) x % 512 ≡ 1 + v
  shown_just v x k l some all = just_says (formulas rs) _ _ (contents rs b).formulas_ok v k (told x l).says some all

-- THE FAULT OF A RECORD BY THE INDEX is its fault by the records: refusals 23 and 22 come behind those of references that dangle or are of a
-- wrong sort.
same_order : (a b c d e w w' f g l l' h : Bool) (z : ℕ) → (c ≡ false → d ≡ false → w ≡ w') → (c ≡ false → l ≡ l')
    → cond a 3 (cond b 9 (cond c 4 (cond d 5 (cond e 6 (cond w 23 (cond f 7 (cond g 10 (cond l 22 (cond h 11 z)))))))))
    ≡ cond a 3 (cond b 9 (cond c 4 (cond d 5 (cond e 6 (cond w' 23 (cond f 7 (cond g 10 (cond l' 22 (cond h 11 z)))))))))
same_order true b c d e w w' f g l l' h z p q = refl
same_order false true c d e w w' f g l l' h z p q = refl
same_order false false true d e w w' f g l l' h z p q = refl
same_order false false false true e w w' f g l l' h z p q = refl
same_order false false false false e w w' f g l l' h z p q = rw (p refl refl, q refl) refl

-- two tests that agree on each field
each_same : (p q : Sort → ℕ → Bool) (r : Record) → EachField (λ s x. p s x ≡ q s x) r → each_field p r ≡ each_field q r
each_same p q r h = rw (h.0, h.1, h.2) refl

-- the references of a record that does not dangle
refers_within : (n : Counts) (r : Record) → is_dangling n r ≡ false → EachField (λ s x. T (refers s) → x < n.formulas) r
unfolding is_dangling
refers_within n r e =
    each_field_lem (λ s x. not (refers s) || ltb x n.formulas) (λ s x. T (refers s) → x < n.formulas) (refers_T n.formulas) r
    (subst (λ x. T (not x)) (sym e) tt)

-- the fields of a record of kind 17 that refers to formulas, of the sorts that it asks for
delegation_fields : (look : ℕ → Record) (n k a b c : ℕ) → k ≡ 17
    → EachField (λ s x. T (refers s) → x < n) (record { kind = k; first = a; second = b; third = c })
    → EachField (λ s x. T (fits s (look x).kind)) (record { kind = k; first = a; second = b; third = c }) → ((look a).kind ≡ 16) × (b < n)
unfolding body_of bodies
delegation_fields look n k a b c e h g =
    let h' = rw e at h in
    let g' = rw e at g in
    (eqb→eq (look a).kind 16 g'.0, h'.1 tt)

module _ (t₀ : List ℕ) (past : List Record) (room : index_size ≤ length t₀) (b : Book past) (r : Record) where
  same_loose : is_dangling (counts_of past) r ≡ false → has_loose (loose_in (filled t₀ [] past)) r ≡ has_loose (is_open_in (formulas past)) r
  unfolding has_loose
  same_loose e =
      let h = refers_within (counts_of past) r e in
      let b = body_of r.kind in
      ap (λ x. leb 32 r.kind && not x)
      (each_same (λ s x. not (refers s) || not (loose_in (filled t₀ [] past) x)) (λ s x. not (refers s) || not (is_open_in (formulas past) x)) r
      (field b.first r.first h.0, field b.second r.second h.1, field b.third r.third h.2))
    where
      field : (s : Sort) (x : ℕ) → (T (refers s) → x < length (formulas past))
          → (not (refers s) || not (loose_in (filled t₀ [] past) x)) ≡ (not (refers s) || not (is_open_in (formulas past) x))
      field s x h = go (refers s) h
        where
          go : (v : Bool) → (T v → x < length (formulas past)) → (not v || not (loose_in (filled t₀ [] past) x)) ≡ (not v || not (is_open_in (formulas past) x))
          go true h = ap not (loose_shown t₀ past room b x (h tt))
          go false h = refl

  same_delegation : is_dangling (counts_of past) r ≡ false → is_misfit (formula_at past) r ≡ false
      → is_wrong_delegation (allows_by (filled t₀ [] past)) r ≡ is_wrong_delegation (allows_in (formulas past)) r
  unfolding is_wrong_delegation is_misfit formula_at
  same_delegation e d =
      elim (ℕ_discrete r.kind 17) [
        | yes k ↦
            let g = each_field_lem (λ s x. fits s (formula_at past x).kind) (λ s x. T (fits s (formula_at past x).kind)) (λ s x u. u) r (subst (λ x. T (not x)) (sym d) tt) in
            let h = delegation_fields (formula_at past) (length (formulas past)) r.kind r.first r.second r.third k (refers_within (counts_of past) r e) g in
            ap (λ x. eqb r.kind 17 && not x) (allowed_shown t₀ past room b r.first r.second h.0 h.1)
        | no n ↦ rw (ne_eqb r.kind 17 n) refl
      ]

  in_order : (again : Bool) → fault_of (counts_of past) (formula_at past) (allows_by (filled t₀ [] past)) (loose_in (filled t₀ [] past)) again r
      ≡ fault_of (counts_of past) (formula_at past) (allows_in (formulas past)) (is_open_in (formulas past)) again r
  unfolding fault_of
  in_order again =
      same_order (out_of_order (counts_of past) r.kind) (over_limit (counts_of past) r.kind) (is_dangling (counts_of past) r) (is_misfit (formula_at past) r)
      (is_not_rising (formula_at past) r) (is_wrong_delegation (allows_by (filled t₀ [] past)) r) (is_wrong_delegation (allows_in (formulas past)) r) (is_to_sender r)
      (is_no_statement (formula_at past) r) (has_loose (loose_in (filled t₀ [] past)) r) (has_loose (is_open_in (formulas past)) r) (is_after_last (counts_of past) r) (cond again 8 0)
      same_delegation same_loose

  pub fault_indexed : (again : Bool)
      → fault_of (counts_of past) (look_in (length (formulas past)) (filled t₀ [] past)) (allows_by (filled t₀ [] past)) (loose_in (filled t₀ [] past)) again r
      ≡ fault_of (counts_of past) (formula_at past) (allows_in (formulas past)) (is_open_in (formulas past)) again r
  fault_indexed again =
      ap (λ look. fault_of (counts_of past) look (allows_by (filled t₀ [] past)) (loose_in (filled t₀ [] past)) again r) (look_law t₀ past b room)
      ∙ in_order again
