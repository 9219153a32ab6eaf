-- The text of a formula by its shape: what stands before the inner formula, its text, what stands behind, and what follows.
-- Assumes nothing.
use Prim.Native.Nat.{ℕ, ◌<◌}
use native.Mathlib.Omega.{arith}
use mathlib.Core.Path.{◌≡◌, refl, sym, ap, ◌∙◌, subst, fun_ext}
use mathlib.Core.Logic.{◌⊎◌, inl, inr}
use mathlib.Core.List.{List, [], ◌∷◌, ◌++◌, append_assoc, append-nil}
use mathlib.Core.Bool.{Bool, true, false, cond, ◌||◌}
use lib.ListN.{length}
use lib.Dec.{T, eqb, eqb→eq}
use borrow.Author.Tests.{eq-eqb, eqb-true, eqb-false}
use Rattle.logic.specs.declared.Record.{Record}
use Rattle.logic.specs.declared.Audience.{Audience}
use Rattle.logic.specs.declared.Audience.TheVariants.{Owner, Guest}
use Rattle.logic.specs.Kind.{body_of, bodies, refers}
use Rattle.logic.specs.Book.{EachField, MayBe}
use Rattle.format.specs.Index.{look_in}
use Rattle.logic.specs.Formula.{KeyField, Tree, key_field, record_of, built, tree_of}
use Rattle.logic.specs.Formula.KeyField.{by_name, by_variable}
use Rattle.logic.specs.Text.{ascii, decimal, principal_text, field_text, guest_datum_text, datum_number, datum_for, shown, text}
use Rattle.logic.proofs.Tests.{T_and, true_T}
use Rattle.logic.proofs.Parts.{key_leaf}
use Rattle.logic.proofs.Cases.{FormulaKind}
use Rattle.logic.proofs.Cases.FormulaKind.{kind1, kind2, kind3, kind4, kind5, kind6, kind7, kind8, kind9, kind10, kind11, kind12, kind13, kind14, kind15, kind16, kind17}
use Rattle.logic.proofs.Formulas.{Formulas, kind_of_lem, tree_is, leaf_is}
use Rattle.logic.proofs.DatumNumber.{datum_number_lem}
use Rattle.written.proofs.Laws.{look_is}
use Rattle.written.specs.Stated.{records_in}
use Rattle.text.specs.Printing.{text_in, list_in}
use Rattle.words.specs.Words.{is_leaf, inner_of, letter_of, is_hidden, leaf_text, opening, every_text, before, sealing, closing, owner, behind, is_pair, goes_on, ending}

-- the members at the end of a bracketed list, with the bracket behind them
abbrev list_text : (ℕ → List ℕ) → Tree → List ℕ
list_text naming t = (shown naming t).members ++ ascii ")"

-- what follows behind the inner formula: the rest of a list, the second formula, or nothing
abbrev right : (ℕ → List ℕ) → (ℕ → Tree) → Record → List ℕ
right naming tree r = cond (eqb r.kind 4) (list_text naming (tree r.second)) (cond (eqb r.kind 7) (text naming (tree r.second)) [])

-- the text of a leaf, where `naming` says how a datum prints
abbrev named : (ℕ → List ℕ) → Record → List ℕ
named naming r = cond (eqb r.kind 3) (naming r.first) (letter_of r.kind ∷ decimal r.first)

abbrev shaped : (ℕ → List ℕ) → (ℕ → Tree) → (ℕ → Record) → Record → List ℕ
shaped naming tree look r =
    cond (is_leaf r.kind) (named naming r)
    (before look r ++ (text naming (tree (inner_of r)) ++ (behind look r ++ right naming tree r)))

-- Texts taken apart, over plain lists.
listed : (o X w m e : List ℕ) → o ++ (X ++ w ++ m) ++ e ≡ o ++ (X ++ ((w ++ []) ++ (m ++ e)))
listed o X w m e = simp (append_assoc, append-nil)

apart : (b i h s : List ℕ) → b ++ (i ++ (h ++ s)) ≡ b ++ (i ++ h) ++ s
apart b i h s = simp append_assoc

sealed : (o X s k w p : List ℕ) → o ++ X ++ s ++ k ++ w ++ p ≡ o ++ (X ++ (((s ++ k) ++ (w ++ p)) ++ []))
sealed o X s k w p = simp (append_assoc, append-nil)

two_inner : (o X w Y : List ℕ) → o ++ X ++ w ++ Y ≡ o ++ (X ++ ((w ++ []) ++ Y))
two_inner o X w Y = simp (append_assoc, append-nil)

shared : (p o X w q : List ℕ) → p ++ o ++ X ++ w ++ q ≡ p ++ o ++ (X ++ ((w ++ q) ++ []))
shared p o X w q = simp (append_assoc, append-nil)

owned : (X w q : List ℕ) → X ++ w ++ q ≡ X ++ ((w ++ q) ++ [])
owned X w q = simp (append_assoc, append-nil)

last : (o X : List ℕ) → o ++ X ≡ o ++ (X ++ [])
last o X = simp append-nil

-- a key or a variable prints in a field as it does by itself
leaf_text_lem : (naming : ℕ → List ℕ) (K : KeyField) → text naming (key_leaf K) ≡ field_text K
unfolding shown
leaf_text_lem naming (by_name n) = refl
leaf_text_lem naming (by_variable v) = refl

module _ (naming : ℕ → List ℕ) (tree : ℕ → Tree) (look : ℕ → Record) (q : (y : ℕ) → ((look y).kind ≡ 2) ⊎ ((look y).kind ≡ 16) → tree y ≡ key_leaf (key_field (look y))) where
  key_text_lem : (y : ℕ) → ((look y).kind ≡ 2) ⊎ ((look y).kind ≡ 16) → text naming (tree y) ≡ field_text (key_field (look y))
  key_text_lem y k = ap (text naming) (q y k) ∙ leaf_text_lem naming (key_field (look y))

  text_built : (k a b c : ℕ) → FormulaKind k
      → EachField (λ s y. MayBe s (look y).kind) (record { kind = k; first = a; second = b; third = c })
      → text naming (built tree look (record { kind = k; first = a; second = b; third = c }))
      ≡ shaped naming tree look (record { kind = k; first = a; second = b; third = c })
  unfolding built body_of bodies shown inner_of opening before sealing closing owner behind
  text_built k a b c kind1 h = refl
  text_built k a b c kind2 h = refl
  text_built k a b c kind3 h = refl
  text_built k a b c kind4 h = listed (ascii "(") (text naming (tree a)) (ascii ", ") (shown naming (tree b)).members (ascii ")")
  text_built k a b c kind5 h =
      sealed (ascii "{") (text naming (tree a)) (ascii "}") (field_text (key_field (look b))) (ascii " from ") (principal_text (look c).first)
  text_built k a b c kind6 h =
      sealed (ascii "{") (text naming (tree a)) (ascii "}") (field_text (key_field (look b))) (ascii "' from ") (principal_text (look c).first)
  text_built k a b c kind7 h = two_inner (ascii "<") (text naming (tree a)) (ascii ">") (text naming (tree b))
  text_built k a b c kind8 h =
      rw (key_text_lem b h.1) (shared (principal_text (look a).first) (ascii " -") (field_text (key_field (look b))) (ascii "- ") (principal_text (look c).first))
  text_built k a b c kind9 h = rw (key_text_lem a h.0) (owned (field_text (key_field (look a))) (ascii " of ") (principal_text (look b).first))
  text_built k a b c kind10 h = shared (principal_text (look a).first) (ascii " =") (text naming (tree b)) (ascii "= ") (principal_text (look c).first)
  text_built k a b c kind11 h = last (ascii "fresh ") (text naming (tree a))
  text_built k a b c kind12 h = last (principal_text (look a).first ++ ascii " believes ") (text naming (tree b))
  text_built k a b c kind13 h = last (principal_text (look a).first ++ ascii " sees ") (text naming (tree b))
  text_built k a b c kind14 h = last (principal_text (look a).first ++ ascii " said ") (text naming (tree b))
  text_built k a b c kind15 h = last (principal_text (look a).first ++ ascii " controls ") (text naming (tree b))
  text_built k a b c kind16 h = refl
  text_built k a b c kind17 h = last (every_text (look a).first) (text naming (tree b))

  -- in a list a conjunction has its members, and any other formula is one member
  list_built : (k a b c : ℕ) → k ≡ 4
      → list_text naming (built tree look (record { kind = k; first = a; second = b; third = c }))
      ≡ text naming (tree a) ++ (behind look (record { kind = k; first = a; second = b; third = c })
      ++ right naming tree (record { kind = k; first = a; second = b; third = c }))
  unfolding built shown sealing closing owner behind
  list_built k a b c e = rw e (simp append_assoc)

  last_built : (k a b c : ℕ) → FormulaKind k → (k ≡ 4 → ⊥)
      → list_text naming (built tree look (record { kind = k; first = a; second = b; third = c }))
      ≡ text naming (built tree look (record { kind = k; first = a; second = b; third = c })) ++ ascii ")"
  unfolding built shown
  last_built k a b c kind1 d = refl
  last_built k a b c kind2 d = refl
  last_built k a b c kind3 d = refl
  last_built k a b c kind4 d = absurd (d refl)
  last_built k a b c kind5 d = refl
  last_built k a b c kind6 d = refl
  last_built k a b c kind7 d = refl
  last_built k a b c kind8 d = refl
  last_built k a b c kind9 d = refl
  last_built k a b c kind10 d = refl
  last_built k a b c kind11 d = refl
  last_built k a b c kind12 d = refl
  last_built k a b c kind13 d = refl
  last_built k a b c kind14 d = refl
  last_built k a b c kind15 d = refl
  last_built k a b c kind16 d = refl
  last_built k a b c kind17 d = refl

pair_kind : (k : ℕ) → is_pair k ≡ true → (k ≡ 4) ⊎ (k ≡ 7)
pair_kind k p = go (eqb k 4) refl p
  where
    go : (b : Bool) → eqb k 4 ≡ b → (b || eqb k 7) ≡ true → (k ≡ 4) ⊎ (k ≡ 7)
    go true e p = inl (eqb-true k 4 e)
    go false e p = inr (eqb-true k 7 p)

pub pair_on : (k : ℕ) → k ≡ 4 → is_pair k ≡ true
pair_on k e = rw e

-- a conjunction is no name
pair_inside : (k : ℕ) → k ≡ 4 → is_leaf k ≡ false
pair_inside k e = rw e

-- the inner formula is an earlier one, and so is the second of two
inner_earlier : (x k a b c : ℕ) → FormulaKind k → is_leaf k ≡ false
    → EachField (λ s y. T (refers s) → y < x) (record { kind = k; first = a; second = b; third = c })
    → inner_of (record { kind = k; first = a; second = b; third = c }) < x
unfolding body_of bodies inner_of
inner_earlier x k a b c kind1 l h = absurd (let z : ◌≡◌ {A = ℕ} 0 1 = cc in omega arith)
inner_earlier x k a b c kind2 l h = absurd (let z : ◌≡◌ {A = ℕ} 0 1 = cc in omega arith)
inner_earlier x k a b c kind3 l h = absurd (let z : ◌≡◌ {A = ℕ} 0 1 = cc in omega arith)
inner_earlier x k a b c kind4 l h = h.0 tt
inner_earlier x k a b c kind5 l h = h.0 tt
inner_earlier x k a b c kind6 l h = h.0 tt
inner_earlier x k a b c kind7 l h = h.0 tt
inner_earlier x k a b c kind8 l h = h.1 tt
inner_earlier x k a b c kind9 l h = h.0 tt
inner_earlier x k a b c kind10 l h = h.1 tt
inner_earlier x k a b c kind11 l h = h.0 tt
inner_earlier x k a b c kind12 l h = h.1 tt
inner_earlier x k a b c kind13 l h = h.1 tt
inner_earlier x k a b c kind14 l h = h.1 tt
inner_earlier x k a b c kind15 l h = h.1 tt
inner_earlier x k a b c kind16 l h = absurd (let z : ◌≡◌ {A = ℕ} 0 1 = cc in omega arith)
inner_earlier x k a b c kind17 l h = h.1 tt

second_earlier : (x k a b c : ℕ) → is_pair k ≡ true
    → EachField (λ s y. T (refers s) → y < x) (record { kind = k; first = a; second = b; third = c }) → b < x
unfolding body_of bodies
second_earlier x k a b c p h = go (pair_kind k p)
  where
    go : (k ≡ 4) ⊎ (k ≡ 7) → b < x
    go (inl e) = (rw e at h).1 tt
    go (inr e) = (rw e at h).1 tt

-- A leaf prints as its audience may read it: the number found by a datum's name is its own.
named_leaf : (a : Audience) (fs : List Record) (x : ℕ) (r : Record) → (r.kind ≡ 3 → datum_number fs r.first ≡ x)
    → named (datum_for a fs) r ≡ leaf_text a x r
unfolding leaf_text
named_leaf a fs x r e = go a (eqb r.kind 3) refl
  where
    go : (a : Audience) (b : Bool) → eqb r.kind 3 ≡ b
        → cond (eqb r.kind 3) (datum_for a fs r.first) (letter_of r.kind ∷ decimal r.first)
        ≡ cond (is_hidden a r.kind) (guest_datum_text x) (letter_of r.kind ∷ decimal r.first)
    go Owner true h = let k = eqb-true r.kind 3 h in rw k refl
    go Owner false h = rw h refl
    go Guest true h = rw h (ap guest_datum_text (e (eqb-true r.kind 3 h)))
    go Guest false h = rw h refl

-- The same of formula x of an index: r is its record.
module _ (a : Audience) (f : ℕ) (t : List ℕ) where
  -- how a datum prints
  abbrev naming : ℕ → List ℕ
  naming = datum_for a (records_in f t)

  -- what follows behind the inner formula of r
  abbrev pub right_in : Record → List ℕ
  right_in r = right naming (tree_of (records_in f t)) r

  module _ (ok : Formulas (records_in f t)) (x : ℕ) (l : x < length (records_in f t)) (r : Record) (e : r ≡ look_in f t x) where
    here : record_of (records_in f t) x ≡ r
    here = sym (look_is f t x) ∙ sym e

    pub kind_here : FormulaKind r.kind
    kind_here = subst (λ (q : Record). FormulaKind q.kind) here (kind_of_lem (records_in f t) ok x l)

    tree_here : tree_of (records_in f t) x ≡ built (tree_of (records_in f t)) (record_of (records_in f t)) r
    tree_here = tree_is (records_in f t) ok x l ∙ ap (built (tree_of (records_in f t)) (record_of (records_in f t))) here

    earlier_here : EachField (λ s y. T (refers s) → y < x) r
    earlier_here = subst (λ (q : Record). EachField (λ s y. T (refers s) → y < x) q) here (ok.earlier x l)

    shape_here : text naming (tree_of (records_in f t) x) ≡ shaped naming (tree_of (records_in f t)) (look_in f t) r
    shape_here =
        ap (text naming) tree_here
        ∙ text_built naming (tree_of (records_in f t)) (record_of (records_in f t)) (leaf_is (records_in f t) ok) r.kind r.first r.second r.third kind_here
        (subst (λ (q : Record). EachField (λ s y. MayBe s (record_of (records_in f t) y).kind) q) here (ok.sorts x l))
        ∙ ap (λ (look : ℕ → Record). shaped naming (tree_of (records_in f t)) look r) (sym (fun_ext (look_is f t)))

    number_here : r.kind ≡ 3 → datum_number (records_in f t) r.first ≡ x
    number_here k =
        ap (λ (q : Record). datum_number (records_in f t) q.first) (sym here)
        ∙ datum_number_lem (records_in f t) ok x (ap (λ (q : Record). q.kind) here ∙ k)

    pub leaf_here : is_leaf r.kind ≡ true → text_in a f t x ≡ leaf_text a x r
    unfolding text_in
    leaf_here h = shape_here ∙ rw h (named_leaf a (records_in f t) x r number_here)

    -- i is the inner formula
    pub open_text : {i : ℕ} → i ≡ inner_of r → is_leaf r.kind ≡ false
        → text_in a f t x ≡ before (look_in f t) r ++ (text_in a f t i ++ (behind (look_in f t) r ++ right_in r))
    unfolding text_in
    open_text d h = rw d (shape_here ∙ rw h)

    -- the same in two parts: what follows stands last
    pub front_text : {i : ℕ} → i ≡ inner_of r → is_leaf r.kind ≡ false
        → text_in a f t x ≡ before (look_in f t) r ++ (text_in a f t i ++ behind (look_in f t) r) ++ right_in r
    front_text {i} d h = open_text d h ∙ apart (before (look_in f t) r) (text_in a f t i) (behind (look_in f t) r) (right_in r)

    pub list_text_lem : r.kind ≡ 4 → list_in a f t x ≡ text_in a f t r.first ++ (behind (look_in f t) r ++ right_in r)
    unfolding text_in list_in
    list_text_lem h =
        ap (list_text naming) tree_here
        ∙ list_built naming (tree_of (records_in f t)) (record_of (records_in f t)) (leaf_is (records_in f t) ok) r.kind r.first r.second r.third h
        ∙ ap (λ (look : ℕ → Record). text naming (tree_of (records_in f t) r.first) ++ (behind look r ++ right_in r)) (sym (fun_ext (look_is f t)))

    -- a conjunction's list, with the bracket before it
    pub bracket_text : r.kind ≡ 4 → text_in a f t x ≡ ascii "(" ++ list_in a f t x
    unfolding inner_of before opening
    bracket_text h =
        let d : r.first ≡ inner_of r = rw h in
        let b : before (look_in f t) r ≡ ascii "(" = rw h in
        open_text d (pair_inside r.kind h) ∙ rw (b, list_text_lem h)

    pub comma_text : r.kind ≡ 4 → behind (look_in f t) r ≡ ascii ", "
    unfolding sealing closing owner behind
    comma_text h = rw h

    last_text : (r.kind ≡ 4 → ⊥) → list_in a f t x ≡ text_in a f t x ++ ascii ")"
    unfolding text_in list_in
    last_text d =
        ap (list_text naming) tree_here
        ∙ last_built naming (tree_of (records_in f t)) (record_of (records_in f t)) (leaf_is (records_in f t) ok) r.kind r.first r.second r.third kind_here d
        ∙ ap (λ (z : Tree). text naming z ++ ascii ")") (sym tree_here)

    pub inner_below : {i : ℕ} → i ≡ inner_of r → is_leaf r.kind ≡ false → i < x
    inner_below d h = rw d (inner_earlier x r.kind r.first r.second r.third kind_here h earlier_here)

    pub second_below : is_pair r.kind ≡ true → r.second < x
    second_below h = second_earlier x r.kind r.first r.second r.third h earlier_here

    pub first_below : r.kind ≡ 4 → r.first < x
    unfolding inner_of
    first_below h = let e : r.first ≡ inner_of r = rw h in inner_below e (pair_inside r.kind h)

  -- What follows: a list goes on, or has its last member, or a second formula follows, or nothing.
  module _ (r : Record) where
    pub on_kinds : goes_on (look_in f t) r ≡ true → (r.kind ≡ 4) × ((look_in f t r.second).kind ≡ 4)
    unfolding goes_on
    on_kinds h =
        let z = T_and (eqb r.kind 4) (eqb (look_in f t r.second).kind 4) (true_T (goes_on (look_in f t) r) h) in
        (eqb→eq r.kind 4 z.0, eqb→eq (look_in f t r.second).kind 4 z.1)

    pub right_list : goes_on (look_in f t) r ≡ true → right_in r ≡ list_in a f t r.second
    unfolding list_in
    right_list h = rw (eq-eqb r.kind 4 (on_kinds h).0)

    pub right_none : is_pair r.kind ≡ false → right_in r ≡ []
    right_none h = go (eqb r.kind 4) (eqb r.kind 7) h
      where
        go : (a b : Bool) → (a || b) ≡ false
            → cond a (list_text naming (tree_of (records_in f t) r.second)) (cond b (text naming (tree_of (records_in f t) r.second)) []) ≡ []
        go true b h = absurd (let z : ◌≡◌ {A = ℕ} 0 1 = cc in omega arith)
        go false true h = absurd (let z : ◌≡◌ {A = ℕ} 0 1 = cc in omega arith)
        go false false h = refl

    pub right_one : Formulas (records_in f t) → r.second < length (records_in f t) → goes_on (look_in f t) r ≡ false → is_pair r.kind ≡ true
        → right_in r ≡ text_in a f t r.second ++ ending r.kind
    unfolding goes_on list_in text_in ending
    right_one ok l g p = go (pair_kind r.kind p)
      where
        go : (r.kind ≡ 4) ⊎ (r.kind ≡ 7) → right_in r ≡ text_in a f t r.second ++ ending r.kind
        go (inl e) =
            let n : (look_in f t r.second).kind ≡ 4 → ⊥ = eqb-false (look_in f t r.second).kind 4 (rw (eq-eqb r.kind 4 e) at g) in
            rw (eq-eqb r.kind 4 e) (last_text ok r.second l (look_in f t r.second) refl n)
        go (inr e) = rw e (sym (append-nil (text naming (tree_of (records_in f t) r.second))))
