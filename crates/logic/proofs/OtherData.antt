-- Lists of records that differ only in the names of data: they have the same places, the same written facts and the same goals, and the
-- trees of the one are those of the other with the data renamed. So the same facts follow, and a guest reads the same. Assumes nothing.
use Prim.Native.Nat.{ℕ, zero, suc, ◌+◌, ◌≤◌, ◌<◌}
use mathlib.Core.Path.{◌≡◌, refl, sym, ◌∙◌, ap, ap₂, subst, fun_ext}
use mathlib.Core.Logic.{◌⊎◌, inl, inr}
use mathlib.Core.List.{List, [], ◌∷◌, ◌++◌, map}
use mathlib.Core.Bool.{Bool, true, false, cond, not, ◌&&◌}
use native.Mathlib.Omega.{arith}
use native.Mathlib.Decide.{dec_lt}
use native.Mathlib.Nat.{add-zero}
use lib.ListN.{length, get_or, take, length-append, get_or-eq_default}
use lib.Dec.{T, eqb, eqb→eq}
use Rattle.logic.specs.declared.Record.{Record}
use Rattle.logic.specs.declared.Audience.TheVariants.{Guest}
use Rattle.logic.specs.Kind.{body_of, bodies, refers, is_formula, is_formula_record}
use Rattle.logic.specs.Record.{no_record}
use Rattle.logic.specs.Count.{of_kind, formulas, principals, assumptions, messages, goals}
use Rattle.logic.specs.Book.{All, EachField, MayBe}
use Rattle.logic.specs.SameButData.{EqualOrData, SameButData}
use Rattle.logic.specs.Formula.{Tree, loose, is_empty, record_of, name_of, no_tree, built, trees_behind, tree_of, Recorded}
use Rattle.logic.specs.Formula.Tree.{datum}
use Rattle.logic.specs.Fact.{Fact, goal_fact, initial}
use Rattle.logic.specs.Fact.Fact.{Sees, Believes, BelievesFresh, BelievesSaid, BelievesBelieves}
use Rattle.logic.specs.Derivation.{Among, Derivable}
use Rattle.logic.specs.Written.{meaning, is_principal, is_sentence, is_written, is_malformed, opened, stated_on, goal_fact_on, fact_in}
use Rattle.logic.specs.Place.{F, rank, place, ranked, fact_of, fact_at}
use Rattle.logic.specs.Text.{guest_datum_text, datum_number, datum_for, fact_text}
use Rattle.logic.proofs.Tests.{T_false}
use Rattle.logic.proofs.Parts.{kind_of}
use Rattle.logic.proofs.Cases.{FormulaKind}
use Rattle.logic.proofs.Cases.FormulaKind.{kind1, kind2, kind3, kind4, kind5, kind6, kind7, kind8, kind9, kind10, kind11, kind12, kind13, kind14, kind15, kind16, kind17}
use Rattle.logic.proofs.Formulas.{Formulas, is_record, kind_of_lem, tree_is, kind_is}
use Rattle.logic.proofs.DatumNumber.{datum_number_lem}
use Rattle.logic.proofs.Contents.{Contents, in_class}
use Rattle.logic.proofs.Meaning.{IsPrincipal, Valid, is_fact}
use Rattle.logic.proofs.Initial.{assumed_on, delivered_on, initial_on, in_book, asks, initial_valid, initial_means}
use Rattle.logic.proofs.Renaming.{rename, renamed, rename_loose, renamed_follows, renamed_text}

-- RECORDS ONE BY ONE: the kinds are the same, and so is every record that is no datum.

kind_same : (r q : Record) → EqualOrData r q → r.kind ≡ q.kind
kind_same r q (inl e) = ap (λ x. x.kind) e
kind_same r q (inr (k, j)) = k ∙ sym j

other_same : (r q : Record) → EqualOrData r q → (r.kind ≡ 3 → ⊥) → r ≡ q
other_same r q (inl e) n = e
other_same r q (inr (k, j)) n = absurd (n k)

-- the relation goes both ways
either_back : (r q : Record) → EqualOrData r q → EqualOrData q r
either_back r q (inl e) = inl (sym e)
either_back r q (inr (k, j)) = inr (j, k)

pub data_back : (rs qs : List Record) → SameButData rs qs → SameButData qs rs
data_back [] [] s = tt
data_back [] (q ∷ qs) s = absurd s
data_back (r ∷ rs) [] s = absurd s
data_back (r ∷ rs) (q ∷ qs) s = (either_back r q s.0, data_back rs qs s.1)

pub same_length : (rs qs : List Record) → SameButData rs qs → length rs ≡ length qs
same_length [] [] s = refl
same_length [] (q ∷ qs) s = absurd s
same_length (r ∷ rs) [] s = absurd s
same_length (r ∷ rs) (q ∷ qs) s = ap suc (same_length rs qs s.1)

-- at each number, and where there is no record
same_at : (rs qs : List Record) → SameButData rs qs → (x : ℕ) → EqualOrData (get_or rs x no_record) (get_or qs x no_record)
same_at [] [] s x = inl refl
same_at [] (q ∷ qs) s x = absurd s
same_at (r ∷ rs) [] s x = absurd s
same_at (r ∷ rs) (q ∷ qs) s zero = s.0
same_at (r ∷ rs) (q ∷ qs) s (suc x) = same_at rs qs s.1 x

same_front : (n : ℕ) (rs qs : List Record) → SameButData rs qs → SameButData (take n rs) (take n qs)
same_front zero rs qs s = tt
same_front (suc n) [] [] s = tt
same_front (suc n) [] (q ∷ qs) s = absurd s
same_front (suc n) (r ∷ rs) [] s = absurd s
same_front (suc n) (r ∷ rs) (q ∷ qs) s = (s.0, same_front n rs qs s.1)

-- CLASSES: a class of both is related like them, and is the same where it has no data
same_class : (p : ℕ → Bool) (rs qs : List Record) → SameButData rs qs → SameButData (of_kind p rs) (of_kind p qs)
unfolding of_kind
same_class p [] [] s = tt
same_class p [] (q ∷ qs) s = absurd s
same_class p (r ∷ rs) [] s = absurd s
same_class p (r ∷ rs) (q ∷ qs) s =
    subst (λ b. SameButData (cond (p r.kind) (r ∷ of_kind p rs) (of_kind p rs)) (cond b (q ∷ of_kind p qs) (of_kind p qs)))
    (ap p (kind_same r q s.0)) (go (same_class p rs qs s.1) (p r.kind))
  where
    go : SameButData (of_kind p rs) (of_kind p qs) → (b : Bool)
        → SameButData (cond b (r ∷ of_kind p rs) (of_kind p rs)) (cond b (q ∷ of_kind p qs) (of_kind p qs))
    go h true = (s.0, h)
    go h false = h

equal_class : (p : ℕ → Bool) → T (not (p 3)) → (rs qs : List Record) → SameButData rs qs → of_kind p rs ≡ of_kind p qs
unfolding of_kind
equal_class p n [] [] s = refl
equal_class p n [] (q ∷ qs) s = absurd s
equal_class p n (r ∷ rs) [] s = absurd s
equal_class p n (r ∷ rs) (q ∷ qs) (inl e, s) = ap₂ (λ x l. cond (p x.kind) (x ∷ l) l) e (equal_class p n rs qs s)
equal_class p n (r ∷ rs) (q ∷ qs) (inr (k, j), s) =
    none r k ∙ (equal_class p n rs qs s ∙ sym (none q j))
  where
    none : (x : Record) → x.kind ≡ 3 → {l : List Record} → cond (p x.kind) (x ∷ l) l ≡ l
    none x h {l} = ap (λ b. cond b (x ∷ l) l) (ap p h ∙ T_false (p 3) n)

pub same_formulas : (rs qs : List Record) → SameButData rs qs → SameButData (formulas rs) (formulas qs)
same_formulas = same_class is_formula_record

pub same_assumptions : (rs qs : List Record) → SameButData rs qs → assumptions rs ≡ assumptions qs
same_assumptions = equal_class (λ k. eqb k 32) tt

pub same_messages : (rs qs : List Record) → SameButData rs qs → messages rs ≡ messages qs
same_messages = equal_class (λ k. eqb k 33) tt

pub same_goals : (rs qs : List Record) → SameButData rs qs → goals rs ≡ goals qs
same_goals = equal_class (λ k. eqb k 34) tt

same_principals : (rs qs : List Record) → SameButData rs qs → principals rs ≡ principals qs
same_principals = equal_class (λ k. eqb k 1) tt

-- PLACES depend on kinds alone.

same_ranked : (fs hs : List Record) → SameButData fs hs → (a : ℕ) → ranked fs a ≡ ranked hs a
unfolding ranked
same_ranked [] [] s a = refl
same_ranked [] (q ∷ hs) s a = absurd s
same_ranked (r ∷ fs) [] s a = absurd s
same_ranked (r ∷ fs) (q ∷ hs) s zero =
    ap₂ (λ k n. cond (eqb k 1) 0 (suc n)) (kind_same r q s.0) (same_ranked fs hs s.1 zero)
same_ranked (r ∷ fs) (q ∷ hs) s (suc a) =
    ap suc (ap (λ k. ranked fs (cond (eqb k 1) a (suc a))) (kind_same r q s.0) ∙ same_ranked fs hs s.1 (cond (eqb q.kind 1) a (suc a)))

module _ (fs hs : List Record) (s : SameButData fs hs) where
  pub same_F : F fs ≡ F hs
  unfolding F
  same_F = rw (same_principals fs hs s, same_length fs hs s)

  same_rank : (x : ℕ) → rank fs x ≡ rank hs x
  unfolding rank
  same_rank x = ap length (same_principals (take x fs) (take x hs) (same_front x fs hs s))

  pub same_place : (g : Fact ℕ) → place fs g ≡ place hs g
  unfolding place
  same_place (Sees P x) = rw (same_rank P, same_principals fs hs s, same_length fs hs s)
  same_place (Believes P x) = rw (same_rank P, same_principals fs hs s, same_length fs hs s)
  same_place (BelievesFresh P x) = rw (same_rank P, same_principals fs hs s, same_length fs hs s)
  same_place (BelievesSaid P Q x) = rw (same_rank P, same_rank Q, same_principals fs hs s, same_length fs hs s)
  same_place (BelievesBelieves P Q x) = rw (same_rank P, same_rank Q, same_principals fs hs s, same_length fs hs s)

  pub same_fact_at : (i : ℕ) → fact_at fs i ≡ fact_at hs i
  unfolding fact_at fact_of
  same_fact_at i =
      let e : ranked fs ≡ ranked hs = fun_ext (same_ranked fs hs s) in
      rw (e, same_principals fs hs s, same_length fs hs s)

  -- STATEMENTS: a belief in a datum is not opened, and the record of a statement is no datum's
  kinds_same : (x : ℕ) → (record_of fs x).kind ≡ (record_of hs x).kind
  kinds_same x = kind_same (record_of fs x) (record_of hs x) (same_at fs hs s x)

  record_same : (x : ℕ) → ((record_of fs x).kind ≡ 3 → ⊥) → record_of fs x ≡ record_of hs x
  record_same x = other_same (record_of fs x) (record_of hs x) (same_at fs hs s x)

  opened_same : (p x : ℕ) → opened fs p x ≡ opened hs p x
  unfolding opened
  opened_same p x = go (record_of fs x) (record_of hs x) (same_at fs hs s x)
    where
      on : Record → Fact ℕ
      on r =
          cond (eqb r.kind 11) (BelievesFresh p r.first)
          (cond (eqb r.kind 14) (BelievesSaid p r.first r.second)
          (cond (eqb r.kind 12) (BelievesBelieves p r.first r.second)
          (Believes p x)))

      go : (r q : Record) → EqualOrData r q → on r ≡ on q
      go r q (inl e) = ap on e
      go r q (inr (k, j)) = rw (k, j) refl

  stated_same : (x : ℕ) → ((record_of fs x).kind ≡ 12) ⊎ ((record_of fs x).kind ≡ 13) → stated_on fs (record_of fs x) ≡ stated_on hs (record_of hs x)
  stated_same x h =
      let q = record_of hs x in
      ap (stated_on fs) (record_same x (no_datum (record_of fs x).kind h))
      ∙ ap (λ f. cond (eqb q.kind 12) f (Sees q.first q.second)) (opened_same q.first q.second)
    where
      no_datum : (k : ℕ) → (k ≡ 12) ⊎ (k ≡ 13) → k ≡ 3 → ⊥
      no_datum k (inl e) z = omega arith
      no_datum k (inr e) z = omega arith

-- TREES. Where there is no record there is no tree.

trees_count : (fs : List Record) (ts : List Tree) (rs : List Record) → length (trees_behind fs ts rs) ≡ length ts + length rs
unfolding trees_behind
trees_count fs ts [] = sym (add-zero (length ts))
trees_count fs ts (r ∷ rs) =
    trees_count fs (ts ++ (built (λ x. get_or ts x no_tree) (record_of fs) r ∷ [])) rs ∙ simp length-append (omega arith)

beyond : (fs : List Record) (x : ℕ) → length fs ≤ x → tree_of fs x ≡ no_tree
unfolding tree_of
beyond fs x l = get_or-eq_default (trees_behind fs [] fs) no_tree {n = x} (rw (trees_count fs [] fs) (omega arith))

-- a record that is built from renamed trees and the same principals, keys and variables has the renamed tree
module _ (ρ : ℕ → ℕ) (tree tree' : ℕ → Tree) (look look' : ℕ → Record) (other : (y : ℕ) → ((look y).kind ≡ 3 → ⊥) → look y ≡ look' y) where
  principal_same : (y : ℕ) → (look y).kind ≡ 1 → look' y ≡ look y
  principal_same y k = sym (other y (λ z. omega arith))

  variable_same : (y : ℕ) → (look y).kind ≡ 16 → look' y ≡ look y
  variable_same y k = sym (other y (λ z. omega arith))

  key_same : (y : ℕ) → ((look y).kind ≡ 2) ⊎ ((look y).kind ≡ 16) → look' y ≡ look y
  key_same y (inl k) = sym (other y (λ z. omega arith))
  key_same y (inr k) = variable_same y k

  built_renamed : (k a b c : ℕ) → FormulaKind k → (k ≡ 3 → ρ a ≡ a)
      → EachField (λ s y. T (refers s) → tree' y ≡ rename ρ (tree y)) (record { kind = k; first = a; second = b; third = c })
      → EachField (λ s y. MayBe s (look y).kind) (record { kind = k; first = a; second = b; third = c })
      → built tree' look' (record { kind = k; first = a; second = b; third = c })
      ≡ rename ρ (built tree look (record { kind = k; first = a; second = b; third = c }))
  unfolding built body_of bodies
  built_renamed k a b c kind1 d h m = refl
  built_renamed k a b c kind2 d h m = refl
  built_renamed k a b c kind3 d h m = ap datum (sym (d refl))
  built_renamed k a b c kind4 d h m = rw (h.0 tt, h.1 tt)
  built_renamed k a b c kind5 d h m = rw (h.0 tt, key_same b m.1, principal_same c m.2)
  built_renamed k a b c kind6 d h m = rw (h.0 tt, key_same b m.1, principal_same c m.2)
  built_renamed k a b c kind7 d h m = rw (h.0 tt, h.1 tt)
  built_renamed k a b c kind8 d h m = rw (principal_same a m.0, key_same b m.1, principal_same c m.2)
  built_renamed k a b c kind9 d h m = rw (key_same a m.0, principal_same b m.1)
  built_renamed k a b c kind10 d h m = rw (principal_same a m.0, h.1 tt, principal_same c m.2)
  built_renamed k a b c kind11 d h m = rw (h.0 tt)
  built_renamed k a b c kind12 d h m = rw (principal_same a m.0, h.1 tt)
  built_renamed k a b c kind13 d h m = rw (principal_same a m.0, h.1 tt)
  built_renamed k a b c kind14 d h m = rw (principal_same a m.0, h.1 tt)
  built_renamed k a b c kind15 d h m = rw (principal_same a m.0, h.1 tt)
  built_renamed k a b c kind16 d h m = refl
  built_renamed k a b c kind17 d h m = rw (variable_same a m.0, h.1 tt)

datum_is : (fs : List Record) → Formulas fs → (x : ℕ) → (record_of fs x).kind ≡ 3 → tree_of fs x ≡ datum (name_of fs x)
unfolding built
datum_is fs ok x k = tree_is fs ok x (is_record fs x (λ z. omega arith)) ∙ simp k

-- the other name of the datum with the name n: it stands in the record of the same number
abbrev other_name : (fs hs : List Record) → ℕ → ℕ
other_name fs hs n = name_of hs (datum_number fs n)

module _ (fs hs : List Record) (s : SameButData fs hs) (ok : Formulas fs) (also : Formulas hs) where
  other_name_lem : (x : ℕ) → (record_of fs x).kind ≡ 3 → other_name fs hs (name_of fs x) ≡ name_of hs x
  other_name_lem x k = ap (name_of hs) (datum_number_lem fs ok x k)

  tree_step : (x : ℕ) → x < length fs → x < length hs → EqualOrData (record_of fs x) (record_of hs x)
      → ((y : ℕ) → y < x → tree_of hs y ≡ rename (other_name fs hs) (tree_of fs y)) → tree_of hs x ≡ rename (other_name fs hs) (tree_of fs x)
  tree_step x l m (inl e) near =
      let r = record_of fs x in
      let g = ok.earlier x l in
      tree_is hs also x m
      ∙ (ap (built (tree_of hs) (record_of hs)) (sym e)
      ∙ (built_renamed (other_name fs hs) (tree_of fs) (tree_of hs) (record_of fs) (record_of hs) (record_same fs hs s)
      r.kind r.first r.second r.third (kind_of_lem fs ok x l) (λ k. other_name_lem x k ∙ ap (λ q. q.first) (sym e))
      ((λ t. near r.first (g.0 t)), (λ t. near r.second (g.1 t)), (λ t. near r.third (g.2 t))) (ok.sorts x l)
      ∙ ap (rename (other_name fs hs)) (sym (tree_is fs ok x l))))
  tree_step x l m (inr (k, j)) near =
      datum_is hs also x j ∙ (ap datum (sym (other_name_lem x k)) ∙ ap (rename (other_name fs hs)) (sym (datum_is fs ok x k)))

  tree_below : (n x : ℕ) → x < n → tree_of hs x ≡ rename (other_name fs hs) (tree_of fs x)
  tree_below zero x b = absurd (omega arith)
  tree_below (suc n) x b =
      let e = same_length fs hs s in
      elim (dec_lt x (length fs)) [
        | yes l ↦ tree_step x l (omega arith) (same_at fs hs s x) (λ y h. tree_below n y (omega arith))
        | no o ↦ beyond hs x (omega arith) ∙ ap (rename (other_name fs hs)) (sym (beyond fs x (omega arith)))
      ]

  -- THE TREES OF THE OTHER LIST are those of this one, renamed
  pub tree_renamed : (x : ℕ) → tree_of hs x ≡ rename (other_name fs hs) (tree_of fs x)
  tree_renamed x = tree_below (suc x) x (omega arith)

  pub recorded_renamed : (t : Tree) → Recorded fs t → Recorded hs (rename (other_name fs hs) t)
  recorded_renamed t (x, l, e) = (x, subst (λ m. x < m) (same_length fs hs s) l, tree_renamed x ∙ ap (rename (other_name fs hs)) e)

  -- THE SAME FACTS MAY BE WRITTEN
  same_principal_test : (p : ℕ) → is_principal fs p ≡ is_principal hs p
  same_principal_test p = ap (λ k. eqb k 1) (kinds_same fs hs s p)

  same_sentence_test : (x : ℕ) → is_sentence fs x ≡ is_sentence hs x
  same_sentence_test x =
      ap₂ (λ k l. is_formula k && is_empty l) (kinds_same fs hs s x) (sym (ap loose (tree_renamed x) ∙ rename_loose (other_name fs hs) (tree_of fs x)))

  pub same_written : (f : Fact ℕ) → is_written fs f ≡ is_written hs f
  same_written (Sees p x) = rw (same_principal_test p, same_sentence_test x)
  same_written (Believes p x) = rw (same_principal_test p, same_sentence_test x, kinds_same fs hs s x)
  same_written (BelievesFresh p x) = rw (same_principal_test p, same_sentence_test x)
  same_written (BelievesSaid p q x) = rw (same_principal_test p, same_principal_test q, same_sentence_test x)
  same_written (BelievesBelieves p q x) = rw (same_principal_test p, same_principal_test q, same_sentence_test x)

  pub same_malformed : (f : List ℕ) → is_malformed fs f ≡ is_malformed hs f
  unfolding is_malformed
  same_malformed f = rw (same_written (fact_in f))

  -- and mean the renamed
  same_name : (p : ℕ) → IsPrincipal fs p → name_of hs p ≡ name_of fs p
  same_name p k = ap (λ r. r.first) (sym (record_same fs hs s p (λ z. omega arith)))

  pub meaning_renamed : (f : Fact ℕ) → Valid fs f → meaning hs f ≡ renamed (other_name fs hs) (meaning fs f)
  meaning_renamed (Sees p x) v = rw (same_name p v.0, tree_renamed x)
  meaning_renamed (Believes p x) v = rw (same_name p v.0, tree_renamed x)
  meaning_renamed (BelievesFresh p x) v = rw (same_name p v.0, tree_renamed x)
  meaning_renamed (BelievesSaid p q x) v = rw (same_name p v.0, same_name q v.1, tree_renamed x)
  meaning_renamed (BelievesBelieves p q x) v = rw (same_name p v.0, same_name q v.1, tree_renamed x)

  meanings_renamed : (l : List (Fact ℕ)) → All (Valid fs) l → map (meaning hs) l ≡ map (renamed (other_name fs hs)) (map (meaning fs) l)
  meanings_renamed [] v = refl
  meanings_renamed (f ∷ l) v = ap₂ (λ g k. g ∷ k) (meaning_renamed f v.0) (meanings_renamed l v.1)

  -- THE GUEST READS THE SAME: the number of a datum goes with its name
  number_goes : (n : ℕ) → Recorded fs (datum n) → datum_for Guest fs n ≡ datum_for Guest hs (other_name fs hs n)
  number_goes n (x, l, e) =
      let k : (record_of fs x).kind ≡ 3 = sym (kind_is fs ok x l) ∙ ap kind_of e in
      let g = datum_is fs ok x k in
      let a : n ≡ name_of fs x = cc in
      let d : datum_number fs n ≡ x = ap (datum_number fs) a ∙ datum_number_lem fs ok x k in
      ap guest_datum_text
      (d ∙ (sym (datum_number_lem hs also x (sym (kinds_same fs hs s x) ∙ k)) ∙ ap (λ y. datum_number hs (name_of hs y)) (sym d)))

  pub guest_text : (f : Fact ℕ) → Valid fs f → fact_text (datum_for Guest fs) (meaning fs f) ≡ fact_text (datum_for Guest hs) (meaning hs f)
  guest_text f v =
      renamed_text (other_name fs hs) (Recorded fs) (datum_for Guest fs) (datum_for Guest hs) number_goes (meaning fs f) (is_fact fs ok f v)
      ∙ ap (fact_text (datum_for Guest hs)) (sym (meaning_renamed f v))

-- BOOKS

-- two functions that agree on each member
pub same_images : {A B : Type 0} (f g : A → B) (l : List A) → ((a : A) → Among a l → f a ≡ g a) → map f l ≡ map g l
same_images f g [] h = refl
same_images f g (a ∷ l) h = ap₂ (λ b k. b ∷ k) (h a (inl refl)) (same_images f g l (λ b m. h b (inr m)))

module _ (rs qs : List Record) (s : SameButData rs qs) (c : Contents rs) (d : Contents qs) where
  -- what an assumption or a goal refers to is a statement
  same_assumed : (r : Record) → Among r (assumptions rs) → assumed_on (formulas rs) r ≡ assumed_on (formulas qs) r
  unfolding assumed_on body_of bodies
  same_assumed r m =
      let h = in_class (λ k. eqb k 32) r rs m in
      stated_same (formulas rs) (formulas qs) (same_formulas rs qs s) r.first (in_book rs c 32 r h.0 (eqb→eq r.kind 32 h.1)).0

  pub same_goal : (r : Record) → Among r (goals rs) → goal_fact_on (formulas rs) r ≡ goal_fact_on (formulas qs) r
  unfolding goal_fact_on body_of bodies
  same_goal r m =
      let h = in_class (λ k. eqb k 34) r rs m in
      stated_same (formulas rs) (formulas qs) (same_formulas rs qs s) r.second (in_book rs c 34 r h.0 (eqb→eq r.kind 34 h.1)).1

  same_initial_on : (m : ℕ) → initial_on rs m ≡ initial_on qs m
  unfolding initial_on
  same_initial_on m =
      rw (← same_assumptions rs qs s, ← same_messages rs qs s)
      (ap (λ l. l ++ map delivered_on (take m (messages rs)))
      (same_images (assumed_on (formulas rs)) (assumed_on (formulas qs)) (assumptions rs) same_assumed))

  initial_renamed : (m : ℕ) → initial qs m ≡ map (renamed (other_name (formulas rs) (formulas qs))) (initial rs m)
  initial_renamed m =
      sym (initial_means qs d m)
      ∙ (ap (map (meaning (formulas qs))) (sym (same_initial_on m))
      ∙ (meanings_renamed (formulas rs) (formulas qs) (same_formulas rs qs s) c.formulas_ok d.formulas_ok
      (initial_on rs m) (initial_valid rs c m)
      ∙ ap (map (renamed (other_name (formulas rs) (formulas qs)))) (initial_means rs c m)))

  -- WHAT FOLLOWS HERE FOLLOWS THERE
  pub follows_there : (m : ℕ) (f : Fact ℕ) → Valid (formulas rs) f
      → Derivable (formulas rs) (initial rs m) (meaning (formulas rs) f) → Derivable (formulas qs) (initial qs m) (meaning (formulas qs) f)
  follows_there m f v k =
      let fs = formulas rs in
      let hs = formulas qs in
      let e = same_formulas rs qs s in
      rw (initial_renamed m, meaning_renamed fs hs e c.formulas_ok d.formulas_ok f v)
      (renamed_follows (other_name fs hs) (Recorded fs) (Recorded hs) (recorded_renamed fs hs e c.formulas_ok d.formulas_ok)
      (initial rs m) (meaning fs f) k)

  pub goal_there : (m : ℕ) (r : Record) → Among r (goals rs)
      → Derivable (formulas rs) (initial rs m) (goal_fact (formulas rs) r) → Derivable (formulas qs) (initial qs m) (goal_fact (formulas qs) r)
  goal_there m r i k =
      let fs = formulas rs in
      let hs = formulas qs in
      let a = asks rs c r i in
      let b = asks qs d r (subst (Among r) (same_goals rs qs s) i) in
      let e : meaning hs (goal_fact_on fs r) ≡ goal_fact hs r = ap (meaning hs) (same_goal r i) ∙ b.1 in
      subst (Derivable hs (initial qs m)) e
      (follows_there m (goal_fact_on fs r) a.0 (subst (Derivable fs (initial rs m)) (sym a.1) k))
