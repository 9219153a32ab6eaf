-- The pass over records finds the instances: formula x passes as formula y with a key put for v just if its tree is that of y with one key put
-- for v throughout. Assumes nothing.
use Prim.Native.Nat.{ℕ, zero, suc, ◌+◌, ◌<◌, ◌≤◌}
use native.Mathlib.Decide.{ℕ_discrete}
use native.Mathlib.Omega.{arith}
use mathlib.Core.Path.{◌≡◌, refl, sym, ap, ap₂, subst, ◌∙◌}
use mathlib.Core.Logic.{◌≢◌}
use mathlib.Core.List.{List, [], ◌∷◌, map}
use mathlib.Core.Bool.{Bool, true, false, cond, not, ◌&&◌}
use lib.ListN.{length, set, replicate, length-set, length-replicate}
use lib.Seq.{get_or-set_same, get_or-set_other}
use lib.Dec.{T, ltb, eqb, eqb→eq, nltb→le}
use borrow.Author.Tests.{eqb-true, eq-eqb, ne_eqb}
use Rattle.logic.specs.declared.Record.{Record}
use Rattle.logic.specs.Kind.{body_of, bodies}
use Rattle.logic.specs.Book.{All}
use Rattle.logic.specs.Formula.{Tree, record_of, name_of, tree_of}
use Rattle.logic.specs.Formula.Tree.{principal, key, datum, conjunction, encrypted, signed, combined, shared_key, public_key, shared_secret, fresh, believes, sees, said, controls, variable, for_every}
use Rattle.logic.specs.Instance.{put}
use Rattle.logic.proofs.Tests.{T_nor, T_and, and_T, eq_T}
use Rattle.logic.proofs.Parts.{parts, kind_of, leaf_name}
use Rattle.logic.proofs.Cases.{FormulaKind}
use Rattle.logic.proofs.Cases.FormulaKind.{kind1, kind2, kind3, kind4, kind5, kind6, kind7, kind8, kind9, kind10, kind11, kind12, kind13, kind14, kind15, kind16, kind17}
use Rattle.logic.proofs.Formulas.{Formulas, references, all_references, is_record, kind_of_lem, kind_is, key_is, variable_is, parts_are, same_tree}
use Rattle.logic.proofs.Putting.{Inner, same_parts, no_name as nameless, put_kind, put_parts}
use Rattle.logic.proofs.RuleOn.{InstanceOn}
use Rattle.std.specs.Prelude.{Option, Some, None}
use Rattle.matching.specs.Instance.{Images, as_image, image_in, is_free, may_stand, may_all_stand, with_images, fields_of, is_fixed, is_kept, onward, are_kept, is_instance_in}

-- WHAT PUTTING A KEY DOES to a tree of kinds 4 to 15: it puts it in each part.
inner : (k : ℕ) → T (not (is_fixed k)) → Inner k
inner k t = let h = T_nor (ltb k 4) (ltb 15 k) t in (nltb→le k 4 h.0, nltb→le 15 k h.1)

record Puts (v n : ℕ) (X : Tree) : Type 0 where
  same_kind : kind_of (put v n X) ≡ kind_of X
  no_name : (leaf_name (put v n X) ≡ 0) × (leaf_name X ≡ 0)
  in_parts : parts (put v n X) ≡ map (put v n) (parts X)

puts : (v n : ℕ) (X : Tree) → T (not (is_fixed (kind_of X))) → Puts v n X
puts v n X t =
    let i = inner (kind_of X) t in
    let k = put_kind v n X i in
    record { same_kind = k; no_name = (nameless (put v n X) (rw k i), nameless X i); in_parts = put_parts v n X i }

-- the trees of the other kinds stay, but for the variable itself
stays : (v n : ℕ) (X : Tree) → T (is_fixed (kind_of X)) → X ≢ variable v → put v n X ≡ X
stays v n (principal m) e d = refl
stays v n (key m) e d = refl
stays v n (datum m) e d = refl
stays v n (conjunction X Y) e d = absurd e
stays v n (encrypted X K R) e d = absurd e
stays v n (signed X K R) e d = absurd e
stays v n (combined X Y) e d = absurd e
stays v n (shared_key P K Q) e d = absurd e
stays v n (public_key K Q) e d = absurd e
stays v n (shared_secret P X Q) e d = absurd e
stays v n (fresh X) e d = absurd e
stays v n (believes P X) e d = absurd e
stays v n (sees P X) e d = absurd e
stays v n (said P X) e d = absurd e
stays v n (controls P X) e d = absurd e
stays v n (variable w) e d = rw (ne_eqb w v (λ z. d (ap variable z))) refl
stays v n (for_every w Z) e d = refl

-- The fields that the pass goes through are the references of a record.
fields_built : (k a b c : ℕ) → FormulaKind k → T (not (is_fixed k))
    → fields_of k (record { kind = k; first = a; second = b; third = c }) ≡ references (record { kind = k; first = a; second = b; third = c })
unfolding fields_of body_of bodies
fields_built k a b c kind1 t = absurd t
fields_built k a b c kind2 t = absurd t
fields_built k a b c kind3 t = absurd t
fields_built k a b c kind4 t = refl
fields_built k a b c kind5 t = refl
fields_built k a b c kind6 t = refl
fields_built k a b c kind7 t = refl
fields_built k a b c kind8 t = refl
fields_built k a b c kind9 t = refl
fields_built k a b c kind10 t = refl
fields_built k a b c kind11 t = refl
fields_built k a b c kind12 t = refl
fields_built k a b c kind13 t = refl
fields_built k a b c kind14 t = refl
fields_built k a b c kind15 t = refl
fields_built k a b c kind16 t = absurd t
fields_built k a b c kind17 t = absurd t

-- An image is none or a formula.
no_both : {A : Type 0} {o : Option ℕ} {x : ℕ} → o ≡ None → o ≡ Some x → A
no_both e d = absurd (let z : ◌≡◌ {A = Option ℕ} None (Some _) = sym e ∙ d in let n : ◌≡◌ {A = ℕ} 0 1 = cc in omega arith)

one_image : {o : Option ℕ} {x y : ℕ} → o ≡ Some x → o ≡ Some y → x ≡ y
one_image e d = cc

free_is : (o : Option ℕ) (x y : ℕ) → T (is_free o x) → o ≡ Some y → y ≡ x
free_is o x y s e = eqb→eq y x (subst (λ (u : Option ℕ). T (is_free u x)) e s)

-- Below, v is a variable of the formulas fs of a book, and n is the name of the key that is put for it.
module _ (fs : List Record) (ok : Formulas fs) (few : length fs ≤ 256) (v : ℕ) (kv : (record_of fs v).kind ≡ 16) where
  abbrev R : ℕ → Record
  R x = record_of fs x

  abbrev name : ℕ
  name = name_of fs v

  -- j has the image x in a table
  abbrev Stands : (n j x : ℕ) → Type 0
  Stands n j x = tree_of fs x ≡ put name n (tree_of fs j)

  -- the images of the formulas below m are right
  abbrev Right : (n : ℕ) (t : Images) (m : ℕ) → Type 0
  Right n t m = (j : ℕ) → j < m → (x : ℕ) → image_in t j ≡ Some x → Stands n j x

  -- each image is a formula, and there is room for all
  record Table (t : Images) : Type 0 where
    size : length t ≡ 256
    numbers : (j x : ℕ) → image_in t j ≡ Some x → x < length fs

  -- a formula of the book is an image
  is_image : (x : ℕ) → x < length fs → as_image x ≡ Some x
  is_image x l = rw (ne_eqb x 256 (λ e. omega arith))

  image_set : (t : Images) (j x : ℕ) → Table t → j < 256 → x < length fs → image_in (set t j (as_image x)) j ≡ Some x
  image_set t j x h l m = get_or-set_same t j (as_image x) None (rw h.size l) ∙ is_image x m

  image_other : (t : Images) (j x i : ℕ) → i ≢ j → image_in (set t j (as_image x)) i ≡ image_in t i
  image_other t j x i d = get_or-set_other t j i (as_image x) None d

  -- an image in the table with one more
  image_at : (t : Images) (j x i y : ℕ) → Table t → j < 256 → x < length fs → image_in (set t j (as_image x)) i ≡ Some y → i ≡ j → y ≡ x
  image_at t j x i y h l m d q = one_image d (ap (image_in (set t j (as_image x))) q ∙ image_set t j x h l m)

  set_table : (t : Images) (j x : ℕ) → Table t → j < 256 → x < length fs → Table (set t j (as_image x))
  set_table t j x h l m =
      record {
        size = length-set t j (as_image x) ∙ h.size;
        numbers = λ i y d. elim (ℕ_discrete i j) [
          | yes q ↦ rw (image_at t j x i y h l m d q) m
          | no q ↦ h.numbers i y (sym (image_other t j x i q) ∙ d)
        ];
      }

  -- A FIELD j with the image x, both formulas: it may stand and the images are right with it, just if it is right and they are without it.
  module _ (n : ℕ) (t : Images) (m : ℕ) (h : Table t) (j x : ℕ) (low : j < m) (lj : j < length fs) (lx : x < length fs) where
    one_if : T (may_stand t j x) → Right n (set t j (as_image x)) m → Stands n j x × Right n t m
    unfolding may_stand
    one_if s r =
        let here : Stands n j x = r j low x (image_set t j x h (omega arith) lx) in (
          here,
          λ i l y d. elim (ℕ_discrete i j) [
            | yes q ↦ rw (q, free_is (image_in t j) x y s (ap (image_in t) (sym q) ∙ d)) here
            | no q ↦ r i l y (image_other t j x i q ∙ d)
          ],
        )

    one_only : Stands n j x → Right n t m → T (may_stand t j x) × Right n (set t j (as_image x)) m
    unfolding may_stand
    one_only here r = (
      go (image_in t j) refl,
      λ i l y d. elim (ℕ_discrete i j) [
        | yes q ↦ rw (image_at t j x i y h (omega arith) lx d q, q) here
        | no q ↦ r i l y (sym (image_other t j x i q) ∙ d)
      ],
    )
      where
        go : (o : Option ℕ) → image_in t j ≡ o → T (is_free o x)
        go None e = tt
        go (Some y) e = eq_T y x (same_tree fs ok y x (h.numbers j y e) lx (r j low y e ∙ sym here))

  -- THE FIELDS js with the images xs, one after the other.
  abbrev puts_to : (n : ℕ) (js xs : List ℕ) → Type 0
  puts_to n js xs = map (tree_of fs) xs ≡ map (put name n) (map (tree_of fs) js)

  module _ (n m : ℕ) where
    abbrev Early : List ℕ → Type 0
    Early js = All (λ j. (j < m) × (j < length fs)) js

    abbrev Numbers : List ℕ → Type 0
    Numbers xs = All (λ x. x < length fs) xs

    fields_table : (js xs : List ℕ) (t : Images) → Early js → Numbers xs → Table t → Table (with_images t js xs)
    unfolding with_images
    fields_table [] xs t a b h = h
    fields_table (j ∷ js) [] t a b h = h
    fields_table (j ∷ js) (x ∷ xs) t a b h = fields_table js xs (set t j (as_image x)) a.1 b.1 (set_table t j x h (let l = a.0.1 in omega arith) b.0)

    fields_if : (js xs : List ℕ) (t : Images) → Early js → Numbers xs → Table t → T (may_all_stand t js xs) → Right n (with_images t js xs) m
        → puts_to n js xs × Right n t m
    unfolding may_all_stand with_images
    fields_if [] [] t a b h s r = (refl, r)
    fields_if [] (x ∷ xs) t a b h s r = absurd s
    fields_if (j ∷ js) [] t a b h s r = absurd s
    fields_if (j ∷ js) (x ∷ xs) t a b h s r =
        let u = T_and (may_stand t j x) _ s in
        let w = fields_if js xs (set t j (as_image x)) a.1 b.1 (set_table t j x h (let l = a.0.1 in omega arith) b.0) u.1 r in
        let z = one_if n t m h j x a.0.0 a.0.1 b.0 u.0 w.1 in
        (ap₂ (λ e l. e ∷ l) z.0 w.0, z.1)

    fields_only : (js xs : List ℕ) (t : Images) → Early js → Numbers xs → Table t → puts_to n js xs → Right n t m
        → T (may_all_stand t js xs) × Right n (with_images t js xs) m
    unfolding may_all_stand with_images
    fields_only [] [] t a b h e r = (tt, r)
    fields_only [] (x ∷ xs) t a b h e r = absurd (let z : ◌≡◌ {A = ℕ} 0 1 = cc in omega arith)
    fields_only (j ∷ js) [] t a b h e r = absurd (let z : ◌≡◌ {A = ℕ} 0 1 = cc in omega arith)
    fields_only (j ∷ js) (x ∷ xs) t a b h e r =
        let z = one_only n t m h j x a.0.0 a.0.1 b.0 (cc) r in
        let w = fields_only js xs (set t j (as_image x)) a.1 b.1 (set_table t j x h (let l = a.0.1 in omega arith) b.0) (cc) z.1 in
        (and_T (may_stand t j x) _ z.0 w.0, w.1)

  -- A FORMULA i OF KINDS 4 TO 15 has the image x just if x is of its kind, and its fields have those of x.
  module _ (n i x : ℕ) (li : i < length fs) (lx : x < length fs) (moves : T (not (is_fixed (R i).kind))) where
    putting : Puts name n (tree_of fs i)
    putting = puts name n (tree_of fs i) (rw (kind_is fs ok i li) moves)

    stands_if : (R i).kind ≡ (R x).kind → puts_to n (references (R i)) (references (R x)) → Stands n i x
    stands_if k e =
        let ki = kind_is fs ok i li in
        let kx = kind_is fs ok x lx in
        let nameless = (puts name n (tree_of fs x) (rw (kx, ← k) moves)).no_name.1 in
        same_parts (tree_of fs x) (put name n (tree_of fs i))
        (kx ∙ (sym k ∙ (sym ki ∙ sym putting.same_kind))) (nameless ∙ sym putting.no_name.0)
        (parts_are fs ok x lx ∙ (e ∙ (ap (map (put name n)) (sym (parts_are fs ok i li)) ∙ sym putting.in_parts)))

    stands_only : Stands n i x → ((R i).kind ≡ (R x).kind) × puts_to n (references (R i)) (references (R x))
    stands_only e = (
      sym (kind_is fs ok i li) ∙ (sym putting.same_kind ∙ (ap kind_of (sym e) ∙ kind_is fs ok x lx)),
      sym (parts_are fs ok x lx) ∙ (ap parts e ∙ (putting.in_parts ∙ ap (map (put name n)) (parts_are fs ok i li))),
    )

    fields_own : fields_of (R i).kind (R i) ≡ references (R i)
    fields_own = fields_built (R i).kind (R i).first (R i).second (R i).third (kind_of_lem fs ok i li) moves

    fields_image : (R i).kind ≡ (R x).kind → fields_of (R i).kind (R x) ≡ references (R x)
    fields_image k =
        ap (λ m. fields_of m (R x)) k
        ∙ fields_built (R x).kind (R x).first (R x).second (R x).third (kind_of_lem fs ok x lx) (rw (← k) moves)

  earlier_own : (n i : ℕ) → i < length fs → Early n i (references (R i))
  earlier_own n i l =
      let g = ok.earlier i l in
      let near : (j : ℕ) → j < i → (j < i) × (j < length fs) = λ j h. (h, omega arith) in
      all_references (λ j. (j < i) × (j < length fs)) (R i) ((λ u. near (R i).first (g.0 u)), (λ u. near (R i).second (g.1 u)), (λ u. near (R i).third (g.2 u)))

  numbers_image : (n m x : ℕ) → x < length fs → Numbers n m (references (R x))
  numbers_image n m x l =
      let g = ok.earlier x l in
      let near : (j : ℕ) → j < x → j < length fs = λ j h. omega arith in
      all_references (λ j. j < length fs) (R x) ((λ u. near (R x).first (g.0 u)), (λ u. near (R x).second (g.1 u)), (λ u. near (R x).third (g.2 u)))

  -- A FORMULA i OTHER THAN v, of any kind, with the image x.
  module _ (n : ℕ) (t : Images) (h : Table t) (i x : ℕ) (li : i < length fs) (lx : x < length fs) (other : i ≢ v) where
    abbrev js : List ℕ
    js = fields_of (R i).kind (R i)

    abbrev xs : List ℕ
    xs = fields_of (R i).kind (R x)

    itself : T (is_fixed (R i).kind) → put name n (tree_of fs i) ≡ tree_of fs i
    itself f =
        stays name n (tree_of fs i) (rw (kind_is fs ok i li) f)
        (λ z. other (same_tree fs ok i v li (is_record fs v (λ y. omega arith)) (z ∙ sym (variable_is fs ok v kv))))

    kept_shape : is_kept R v t i (Some x) ≡ cond (is_fixed (R i).kind) (eqb x i) (cond (eqb (R i).kind (R x).kind) (may_all_stand t js xs) false)
    unfolding is_kept
    kept_shape = rw (ne_eqb i v other)

    onward_shape : onward R v t i (Some x) ≡ cond (is_fixed (R i).kind) t (cond (eqb (R i).kind (R x).kind) (with_images t js xs) t)
    unfolding onward
    onward_shape = rw (ne_eqb i v other)

    kept_table : Table (onward R v t i (Some x))
    kept_table = rw onward_shape (go (is_fixed (R i).kind) (eqb (R i).kind (R x).kind) refl refl)
      where
        go : (f k : Bool) → is_fixed (R i).kind ≡ f → eqb (R i).kind (R x).kind ≡ k → Table (cond f t (cond k (with_images t js xs) t))
        go true k ef ek = h
        go false true ef ek =
            let moves : T (not (is_fixed (R i).kind)) = rw ef tt in
            let k = eqb-true (R i).kind (R x).kind ek in
            rw (fields_own n i x li lx moves, fields_image n i x li lx moves k)
            (fields_table n i (references (R i)) (references (R x)) t (earlier_own n i li) (numbers_image n i x lx) h)
        go false false ef ek = h

    kept_if : T (is_kept R v t i (Some x)) → Right n (onward R v t i (Some x)) i → Stands n i x × Right n t i
    kept_if s r = go (is_fixed (R i).kind) (eqb (R i).kind (R x).kind) refl refl (subst T kept_shape s) (subst (λ u. Right n u i) onward_shape r)
      where
        go : (f k : Bool) → is_fixed (R i).kind ≡ f → eqb (R i).kind (R x).kind ≡ k
            → T (cond f (eqb x i) (cond k (may_all_stand t js xs) false)) → Right n (cond f t (cond k (with_images t js xs) t)) i → Stands n i x × Right n t i
        go true k ef ek s r = (ap (tree_of fs) (eqb→eq x i s) ∙ sym (itself (rw ef tt)), r)
        go false true ef ek s r =
            let moves : T (not (is_fixed (R i).kind)) = rw ef tt in
            let k = eqb-true (R i).kind (R x).kind ek in
            let a = fields_own n i x li lx moves in
            let b = fields_image n i x li lx moves k in
            let w = fields_if n i (references (R i)) (references (R x)) t (earlier_own n i li) (numbers_image n i x lx) h (rw (a, b) at s) (rw (a, b) at r) in
            (stands_if n i x li lx moves k w.0, w.1)
        go false false ef ek s r = absurd s

    kept_only : Stands n i x → Right n t i → T (is_kept R v t i (Some x)) × Right n (onward R v t i (Some x)) i
    kept_only e r = rw (kept_shape, onward_shape) (go (is_fixed (R i).kind) refl)
      where
        go : (f : Bool) → is_fixed (R i).kind ≡ f
            → T (cond f (eqb x i) (cond (eqb (R i).kind (R x).kind) (may_all_stand t js xs) false))
            × Right n (cond f t (cond (eqb (R i).kind (R x).kind) (with_images t js xs) t)) i
        go true ef = (eq_T x i (same_tree fs ok x i lx li (e ∙ itself (rw ef tt))), r)
        go false ef =
            let moves : T (not (is_fixed (R i).kind)) = rw ef tt in
            let z = stands_only n i x li lx moves e in
            let a = fields_own n i x li lx moves in
            let b = fields_image n i x li lx moves z.0 in
            rw (eq-eqb (R i).kind (R x).kind z.0, a, b)
            (fields_only n i (references (R i)) (references (R x)) t (earlier_own n i li) (numbers_image n i x lx) h z.1 r)

  -- A STEP OF THE PASS, at a formula i other than v.
  right_more : (n : ℕ) (t : Images) (i : ℕ) → Right n t i → ((x : ℕ) → image_in t i ≡ Some x → Stands n i x) → Right n t (suc i)
  right_more n t i r here j l x d = elim (ℕ_discrete j i) [ yes q ↦ rw q (here x (ap (image_in t) (sym q) ∙ d)) | no q ↦ r j (omega arith) x d ]

  right_less : (n : ℕ) (t : Images) (i : ℕ) → Right n t (suc i) → Right n t i
  right_less n t i r j l d = r j (omega arith) d

  module _ (t : Images) (h : Table t) (i : ℕ) (li : i < length fs) (other : i ≢ v) where
    step_table : Table (onward R v t i (image_in t i))
    unfolding onward
    step_table = go (image_in t i) refl
      where
        go : (o : Option ℕ) → image_in t i ≡ o → Table (onward R v t i o)
        go None e = h
        go (Some x) e = kept_table 0 t h i x li (h.numbers i x e) other

    step_if : (n : ℕ) → T (is_kept R v t i (image_in t i)) → Right n (onward R v t i (image_in t i)) i → Right n t (suc i)
    unfolding onward
    step_if n s r = go (image_in t i) refl s r
      where
        go : (o : Option ℕ) → image_in t i ≡ o → T (is_kept R v t i o) → Right n (onward R v t i o) i → Right n t (suc i)
        go None e s r = right_more n t i r (λ y d. no_both e d)
        go (Some x) e s r = let w = kept_if n t h i x li (h.numbers i x e) other s r in right_more n t i w.1 (λ y d. rw (one_image d e) w.0)

    step_only : (n : ℕ) → Right n t (suc i) → T (is_kept R v t i (image_in t i)) × Right n (onward R v t i (image_in t i)) i
    unfolding is_kept onward
    step_only n r = go (image_in t i) refl
      where
        go : (o : Option ℕ) → image_in t i ≡ o → T (is_kept R v t i o) × Right n (onward R v t i o) i
        go None e = (tt, right_less n t i r)
        go (Some x) e = kept_only n t h i x li (h.numbers i x e) other (r i (omega arith) x e) (right_less n t i r)

  -- AT THE VARIABLE the image is the key, and the table stays
  variable_in : v < length fs
  variable_in = is_record fs v (λ z. omega arith)

  variable_onward : (t : Images) (o : Option ℕ) → onward R v t v o ≡ t
  unfolding onward
  variable_onward t None = refl
  variable_onward t (Some x) = rw (eq-eqb v v refl) refl

  variable_kept : (t : Images) (x : ℕ) → is_kept R v t v (Some x) ≡ eqb (R x).kind 2
  unfolding is_kept
  variable_kept t x = rw (eq-eqb v v refl)

  put_variable : (n : ℕ) → put name n (tree_of fs v) ≡ key n
  put_variable n = rw (variable_is fs ok v kv, eq-eqb name name refl)

  -- any key does, as long as the variable has no image
  key_for : (t : Images) → Table t → T (is_kept R v t v (image_in t v)) → (n : ℕ) × ((x : ℕ) → image_in t v ≡ Some x → Stands n v x)
  key_for t h s = go (image_in t v) refl s
    where
      go : (o : Option ℕ) → image_in t v ≡ o → T (is_kept R v t v o) → (n : ℕ) × ((x : ℕ) → image_in t v ≡ Some x → Stands n v x)
      go None e s = (0, λ y d. no_both e d)
      go (Some x) e s =
          let here : Stands (name_of fs x) v x =
          key_is fs ok x (eqb→eq (R x).kind 2 (subst T (variable_kept t x) s)) ∙ sym (put_variable (name_of fs x)) in
          (name_of fs x, λ y d. rw (one_image d e) here)

  key_only : (n : ℕ) (t : Images) → Table t → Right n t (suc v) → T (is_kept R v t v (image_in t v))
  unfolding is_kept
  key_only n t h r = go (image_in t v) refl
    where
      go : (o : Option ℕ) → image_in t v ≡ o → T (is_kept R v t v o)
      go None e = tt
      go (Some x) e =
          subst T (sym (variable_kept t x))
          (eq_T _ 2 (sym (kind_is fs ok x (h.numbers v x e)) ∙ ap kind_of (r v (omega arith) x e ∙ put_variable n)))

  -- THE PASS, below m. Below v it says the same for every key.
  below_if : (m : ℕ) → m ≤ v → (t : Images) → Table t → T (are_kept R v t m) → (n : ℕ) → Right n t m
  unfolding are_kept
  below_if zero l t h s n = λ j k x d. absurd (omega arith)
  below_if (suc i) l t h s n =
      let li : i < length fs = let b = variable_in in omega arith in
      let other : i ≢ v = λ e. omega arith in
      let u = T_and (is_kept R v t i (image_in t i)) _ s in
      step_if t h i li other n u.0 (below_if i (omega arith) _ (step_table t h i li other) u.1 n)

  pass_if : (m : ℕ) → m ≤ length fs → (t : Images) → Table t → T (are_kept R v t m) → (n : ℕ) × Right n t m
  unfolding are_kept
  pass_if zero l t h s = (0, λ j k x d. absurd (omega arith))
  pass_if (suc i) l t h s =
      let u = T_and (is_kept R v t i (image_in t i)) _ s in
      go (λ t h s. pass_if i (omega arith) t h s) u.0 u.1 (ℕ_discrete i v)
    where
      go : ((t : Images) → Table t → T (are_kept R v t i) → (n : ℕ) × Right n t i) → T (is_kept R v t i (image_in t i))
          → T (are_kept R v (onward R v t i (image_in t i)) i) → Dec (i ≡ v) → (n : ℕ) × Right n t (suc i)
      go again a b (yes e) =
          let k = key_for t h (subst (λ j. T (is_kept R v t j (image_in t j))) e a) in
          let c : T (are_kept R v t v) = subst (λ w. T (are_kept R v w v)) (variable_onward t (image_in t v)) (subst (λ j. T (are_kept R v (onward R v t j (image_in t j)) j)) e b) in
          (k.0, subst (λ j. Right k.0 t (suc j)) (sym e) (right_more k.0 t v (below_if v (omega arith) t h c k.0) k.1))
      go again a b (no e) =
          let w = again (onward R v t i (image_in t i)) (step_table t h i (omega arith) e) b in
          (w.0, step_if t h i (omega arith) e w.0 a w.1)

  pass_only : (m : ℕ) → m ≤ length fs → (t : Images) → Table t → (n : ℕ) → Right n t m → T (are_kept R v t m)
  unfolding are_kept
  pass_only zero l t h n r = tt
  pass_only (suc i) l t h n r = go (λ t h r. pass_only i (omega arith) t h n r) (ℕ_discrete i v)
    where
      go : ((t : Images) → Table t → Right n t i → T (are_kept R v t i)) → Dec (i ≡ v)
          → T (is_kept R v t i (image_in t i) && are_kept R v (onward R v t i (image_in t i)) i)
      go again (yes e) =
          let here : T (is_kept R v t i (image_in t i)) = subst (λ j. T (is_kept R v t j (image_in t j))) (sym e) (key_only n t h (subst (λ j. Right n t (suc j)) e r)) in
          let same : onward R v t i (image_in t i) ≡ t = subst (λ j. onward R v t j (image_in t j) ≡ t) (sym e) (variable_onward t (image_in t v)) in
          and_T (is_kept R v t i (image_in t i)) (are_kept R v (onward R v t i (image_in t i)) i) here (subst (λ w. T (are_kept R v w i)) (sym same) (again t h (right_less n t i r)))
      go again (no e) =
          let w = step_only t h i (omega arith) e n r in
          and_T (is_kept R v t i (image_in t i)) (are_kept R v (onward R v t i (image_in t i)) i) w.0 (again (onward R v t i (image_in t i)) (step_table t h i (omega arith) e) w.1)

  -- AT FIRST only y has an image
  blank_image : (k j : ℕ) → image_in (replicate k None) j ≡ None
  blank_image zero j = refl
  blank_image (suc k) zero = refl
  blank_image (suc k) (suc j) = blank_image k j

  blank_table : Table (replicate 256 None)
  blank_table = record { size = length-replicate {A = Option ℕ} 256 None; numbers = λ j x d. no_both (blank_image 256 j) d }

  module _ (y x : ℕ) (ly : y < length fs) (lx : x < length fs) where
    first_table : Table (set (replicate 256 None) y (as_image x))
    first_table = set_table (replicate 256 None) y x blank_table (omega arith) lx

    -- WHAT PASSES is an instance, as trees, and an instance passes
    pub instance_if : T (is_instance_in R v y x) → InstanceOn fs v y x
    unfolding is_instance_in
    instance_if s =
        let w = pass_if (1 + y) (omega arith) _ first_table s in
        (w.0, w.1 y (omega arith) x (image_set (replicate 256 None) y x blank_table (omega arith) lx))

    pub instance_only : InstanceOn fs v y x → T (is_instance_in R v y x)
    unfolding is_instance_in
    instance_only (n, e) =
        pass_only (1 + y) (omega arith) _ first_table n
        (λ j l z d. elim (ℕ_discrete j y) [
          | yes q ↦ rw (image_at (replicate 256 None) y x j z blank_table (omega arith) lx d q, q) e
          | no q ↦ no_both (image_other (replicate 256 None) y x j q ∙ blank_image 256 j) d
        ])
