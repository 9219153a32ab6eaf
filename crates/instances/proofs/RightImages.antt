-- THE IMAGE OF A FORMULA IS RIGHT: it is the record that is the formula with the key put for the variable, if there is such a record.
use Prim.Native.Nat.{ℕ, zero, suc, ◌+◌, ◌-◌, ◌<◌, ◌≤◌}
use native.Mathlib.Omega.{arith}
use native.Mathlib.Decide.{dec_lt, ℕ_discrete}
use mathlib.Core.Path.{◌≡◌, refl, sym, ◌∙◌, ap, ap₂, subst}
use mathlib.Core.Logic.{◌⊎◌, inl, inr, ⊎_elim}
use mathlib.Core.Bool.{Bool, true, false, cond, ◌&&◌}
use mathlib.Core.List.{List, [], ◌∷◌, map}
use lib.ListN.{length, get_or, length-set, replicate, length-replicate}
use lib.Seq.{get_or-set_same, get_or-set_other}
use lib.Dec.{T, ltb}
use borrow.Author.Tests.{eqb-true, eqb-false, eq-eqb, ne_eqb, lt-ltb}
use Rattle.logic.specs.declared.Record.{Record}
use Rattle.logic.specs.Book.{All, EachField, Whole}
use Rattle.logic.specs.Formula.{Tree, loose, may_delegate, record_of, name_of, tree_of}
use Rattle.logic.specs.Formula.Tree.{variable}
use Rattle.logic.specs.Instance.{put}
use Rattle.logic.proofs.Tests.{eqb_same}
use Rattle.logic.proofs.Table.{formula_bounds}
use Rattle.logic.proofs.Loose.{put_same}
use Rattle.logic.proofs.Parts.{parts, kind_of}
use Rattle.logic.proofs.Member.{all_imp}
use Rattle.logic.proofs.Formulas.{is_record, references, all_references, kind_of_lem, kind_is, key_is, variable_is, parts_are, same_tree}
use Rattle.logic.proofs.ByKind.{for_every_is}
use Rattle.format.specs.Index.{packed}
use Rattle.format.specs.Variables.{variables_in}
use Rattle.format.proofs.Packing.{whole_fields, packed_same}
use Rattle.chains.specs.Chain.{found_in}
use Rattle.chains.proofs.Chain.{found_at, found_some}
use Rattle.instances.specs.Images.{has_just, count_just, list_just, no_image, place_found, field_image, mapped, image_of, images_upto}
use Rattle.logic.proofs.Putting.{Inner, same_parts, no_name, put_kind, put_parts, parts_allowed, leaf_closed, own_name}
use Rattle.instances.proofs.Listed.{Member, count_rises, listed_at, listed_one}
use Rattle.instances.proofs.Told.{Told, told_record}
use Rattle.instances.proofs.Mapped.{same_references, mapped_references, mapped_whole}

-- formula y with the key k put for the variable v is formula i, or, where i is none, no formula
pub record Right (fs : List Record) (v k y i : ℕ) : Type 0 where
  pub small : i ≤ 256
  pub sound : i < 256 → (i < length fs) × (tree_of fs i ≡ put (name_of fs v) (name_of fs k) (tree_of fs y))
  pub complete : (x : ℕ) → x < length fs → tree_of fs x ≡ put (name_of fs v) (name_of fs k) (tree_of fs y) → i ≡ x

-- LISTS
pub empty_or : (l : List ℕ) → (l ≡ []) ⊎ (l ≡ [] → ⊥)
empty_or [] = inl refl
empty_or (n ∷ l) = inr (λ e. let z : ◌≡◌ {A = ℕ} 0 1 = cc in omega arith)

all_unmap : (f : ℕ → Tree) (P : Tree → Type 0) (l : List ℕ) → All P (map f l) → All (λ x. P (f x)) l
all_unmap f P [] h = tt
all_unmap f P (x ∷ l) h = (h.0, all_unmap f P l h.1)

all_unmap_numbers : (f : ℕ → ℕ) (P : ℕ → Type 0) (l : List ℕ) → All P (map f l) → All (λ x. P (f x)) l
all_unmap_numbers f P [] h = tt
all_unmap_numbers f P (x ∷ l) h = (h.0, all_unmap_numbers f P l h.1)

all_two : (P Q R : ℕ → Type 0) → ((x : ℕ) → P x → Q x → R x) → (l : List ℕ) → All P l → All Q l → All R l
all_two P Q R f [] h g = tt
all_two P Q R f (x ∷ l) h g = (f x h.0 g.0, all_two P Q R f l h.1 g.1)

module _ (fs : List Record) (t : List ℕ) (told : Told fs t) (v k : ℕ) (kv : (record_of fs v).kind ≡ 16) (kk : (record_of fs k).kind ≡ 2) where
  abbrev vname : ℕ
  vname = name_of fs v

  abbrev kname : ℕ
  kname = name_of fs k

  abbrev RightFor : (y i : ℕ) → Type 0
  RightFor y i = Right fs v k y i

  -- WHERE NOTHING IS PUT, the image is the formula itself
  stays : (y : ℕ) → y < length fs → loose (tree_of fs y) ≡ [] → RightFor y y
  stays y l e =
      let p = put_same vname kname (tree_of fs y) e in
      record {
        small = omega (arith, told.few);
        sound = λ m. (l, sym p);
        complete = λ x m d. same_tree fs told.ok y x l m (sym (d ∙ p));
      }

  -- THE IMAGE OF v ITSELF is the key
  put_variable : put vname kname (tree_of fs v) ≡ tree_of fs k
  put_variable = rw (variable_is fs told.ok v kv, key_is fs told.ok k kk, eqb_same vname)

  in_k : k < length fs
  in_k = is_record fs k (λ z. omega arith)

  of_variable : RightFor v k
  of_variable =
      record {
        small = omega (arith, told.few, in_k);
        sound = λ m. (in_k, sym put_variable);
        complete = λ x m d. same_tree fs told.ok k x in_k m (sym (d ∙ put_variable));
      }

  -- A FIELD: what has not just v has no variable
  closed_field : (f : ℕ) → f < length fs → T (may_delegate vname (tree_of fs f)) → has_just t v f ≡ false → loose (tree_of fs f) ≡ []
  unfolding has_just
  closed_field f l a e =
      ⊎_elim (λ d. d) (λ n. absurd (eqb-false (variables_in t f) (1 + v) e (told.just f v l kv a n))) (empty_or (loose (tree_of fs f)))

  module _ (images : List ℕ) (y : ℕ) (ly : y < length fs) (before : (g : ℕ) → g < y → has_just t v g ≡ true → RightFor g (get_or images g 0)) where
    abbrev image : ℕ → ℕ
    image = field_image t v images

    field_right : (f : ℕ) → f < y → T (may_delegate vname (tree_of fs f)) → RightFor f (image f)
    unfolding field_image
    field_right f m a = go (has_just t v f) refl
      where
        go : (b : Bool) → has_just t v f ≡ b → RightFor f (cond (b && ltb f 256) (get_or images f 0) f)
        go true e = rw (lt-ltb f 256 (omega (arith, told.few))) (before f m e)
        go false e = stays f (omega arith) (closed_field f (omega arith) a e)

    -- THE RECORD OF y with its fields mapped
    abbrev own : Record
    own = record_of fs y

    abbrev sought : Record
    sought = mapped t v images own

    module _ (inner : Inner own.kind) (allowed : T (may_delegate vname (tree_of fs y))) where
      kind_y : kind_of (tree_of fs y) ≡ own.kind
      kind_y = kind_is fs told.ok y ly

      inner_y : Inner (kind_of (tree_of fs y))
      inner_y = subst Inner (sym kind_y) inner

      fields_right : All (λ f. RightFor f (image f)) (references own)
      fields_right =
          let e = told.ok.earlier y ly in
          all_two (λ f. f < y) (λ f. T (may_delegate vname (tree_of fs f))) (λ f. RightFor f (image f)) field_right (references own)
          (all_references (λ f. f < y) own (e.0, e.1, e.2))
          (all_unmap (tree_of fs) (λ P. T (may_delegate vname P)) (references own)
          (subst (All (λ P. T (may_delegate vname P))) (parts_are fs told.ok y ly) (parts_allowed vname (tree_of fs y) allowed)))

      sought_references : references sought ≡ map image (references own)
      sought_references = mapped_references t v images own.kind own.first own.second own.third (kind_of_lem fs told.ok y ly)

      sought_whole : EachField Whole sought
      sought_whole =
          mapped_whole t v images own.kind own.first own.second own.third (kind_of_lem fs told.ok y ly) inner (told.ok.whole y ly)
          (all_imp (λ f. RightFor f (image f)) (λ f. image f ≤ 256) (λ f r. r.small) (references own) fields_right)

      sought_kind : sought.kind ≡ own.kind
      unfolding mapped
      sought_kind = refl

      -- what is put goes to the parts
      parts_y : parts (put vname kname (tree_of fs y)) ≡ map (put vname kname) (map (tree_of fs) (references own))
      parts_y = put_parts vname kname (tree_of fs y) inner_y ∙ ap (map (put vname kname)) (parts_are fs told.ok y ly)

      -- a record that is sought is y with the key put
      mapped_trees : (l : List ℕ) → All (λ f. RightFor f (image f)) l → All (λ f. image f < length fs) l → map (tree_of fs) (map image l) ≡ map (put vname kname) (map (tree_of fs) l)
      mapped_trees [] r b = refl
      mapped_trees (f ∷ l) r b = ap₂ (λ (X : Tree) Y. X ∷ Y) (r.0.sound (omega (arith, b.0, told.few))).1 (mapped_trees l r.1 b.1)

      found_right : (j : ℕ) → j < length fs → record_of fs j ≡ sought → tree_of fs j ≡ put vname kname (tree_of fs y)
      found_right j l e =
          let kj : kind_of (tree_of fs j) ≡ own.kind = kind_is fs told.ok j l ∙ (ap (λ r. r.kind) e ∙ sought_kind) in
          let g = told.ok.earlier j l in
          let near : All (λ f. f < length fs) (references (record_of fs j)) =
          all_references (λ f. f < length fs) (record_of fs j) ((λ u. let h = g.0 u in omega arith), (λ u. let h = g.1 u in omega arith), (λ u. let h = g.2 u in omega arith)) in
          let refs : references (record_of fs j) ≡ map image (references own) = ap references e ∙ sought_references in
          let b = all_unmap_numbers image (λ f. f < length fs) (references own) (subst (All (λ f. f < length fs)) refs near) in
          same_parts (tree_of fs j) (put vname kname (tree_of fs y)) (kj ∙ (sym kind_y ∙ sym (put_kind vname kname (tree_of fs y) inner_y)))
          (no_name (tree_of fs j) (subst Inner (sym kj) inner)
          ∙ sym (no_name (put vname kname (tree_of fs y)) (subst Inner (sym (put_kind vname kname (tree_of fs y) inner_y)) inner_y)))
          (parts_are fs told.ok j l ∙ (ap (map (tree_of fs)) refs ∙ (mapped_trees (references own) fields_right b ∙ sym parts_y)))

      -- and the record that is y with the key put is the one that is sought
      images_are : (l m : List ℕ) → All (λ f. RightFor f (image f)) l → All (λ f. f < length fs) m → map (tree_of fs) m ≡ map (put vname kname) (map (tree_of fs) l) → m ≡ map image l
      images_are [] [] r b e = refl
      images_are [] (x ∷ m) r b e = absurd (let z : ◌≡◌ {A = ℕ} 0 1 = cc in omega arith)
      images_are (f ∷ l) [] r b e = absurd (let z : ◌≡◌ {A = ℕ} 0 1 = cc in omega arith)
      images_are (f ∷ l) (x ∷ m) r b e = ap₂ (λ (a : ℕ) c. a ∷ c) (sym (r.0.complete x b.0 (cc))) (images_are l m r.1 b.1 (cc))

      is_sought : (x : ℕ) → x < length fs → tree_of fs x ≡ put vname kname (tree_of fs y) → record_of fs x ≡ sought
      is_sought x l e =
          let kx : (record_of fs x).kind ≡ own.kind = sym (kind_is fs told.ok x l) ∙ (ap kind_of e ∙ (put_kind vname kname (tree_of fs y) inner_y ∙ kind_y)) in
          let g = told.ok.earlier x l in
          let near : All (λ f. f < length fs) (references (record_of fs x)) =
          all_references (λ f. f < length fs) (record_of fs x) ((λ u. let h = g.0 u in omega arith), (λ u. let h = g.1 u in omega arith), (λ u. let h = g.2 u in omega arith)) in
          same_references (record_of fs x) sought (kind_of_lem fs told.ok x l) (subst Inner (sym kx) inner) (sought_kind ∙ sym kx) (told.ok.whole x l) sought_whole
          (images_are (references own) (references (record_of fs x)) fields_right near (sym (parts_are fs told.ok x l) ∙ (ap parts e ∙ parts_y)) ∙ sym sought_references)

      -- THE SEARCH FOR IT
      at_record : (j : ℕ) → j < length fs → get_or t j 0 ≡ packed sought → record_of fs j ≡ sought
      at_record j l e =
          packed_same (record_of fs j) sought (whole_fields (record_of fs j) (told.ok.whole j l)) (whole_fields sought sought_whole) (sym (told.placed j l) ∙ e)

      searched : (c : ℕ) → found_in t (packed sought) (length fs) ≡ c → RightFor y (place_found c)
      searched zero e =
          record {
            small = omega arith;
            sound = λ m. absurd (omega arith);
            complete = λ x l d. absurd (found_some t (packed sought) (length fs) x l (told.placed x l ∙ ap packed (is_sought x l d)) e);
          }
      searched (suc j) e =
          let h = found_at t (packed sought) (length fs) j e in
          let r = at_record j h.0 h.1 in
          subst (RightFor y) (sym (place j))
          (record {
            small = omega (arith, h.0, told.few);
            sound = λ m. (h.0, found_right j h.0 r);
            complete = λ x l d. told.ok.once j x h.0 l (r ∙ sym (is_sought x l d));
          })
        where
          place : (j : ℕ) → place_found (suc j) ≡ j
          place j = rw (ne_eqb (suc j) 0 (λ z. omega arith)) (let p : suc j - 1 ≡ j = omega arith in p)

    -- A FORMULA WITH JUST v is v, or of kinds 4 to 15
    inner_or_v : T (may_delegate vname (tree_of fs y)) → (loose (tree_of fs y) ≡ [] → ⊥) → (y ≡ v) ⊎ Inner own.kind
    inner_or_v a n =
        let b = formula_bounds own.kind (told.ok.kinds y ly) in
        elim (ℕ_discrete own.kind 16) [
          | yes e ↦ inl (same_tree fs told.ok y v ly (is_record fs v (λ z. omega arith))
              (variable_is fs told.ok y e
              ∙ (ap variable (own_name vname (name_of fs y) (subst (λ X. T (may_delegate vname X)) (variable_is fs told.ok y e) a)) ∙ sym (variable_is fs told.ok v kv))))
          | no d ↦ elim (ℕ_discrete own.kind 17) [
            | yes e ↦ absurd (subst (λ X. T (may_delegate vname X)) (for_every_is fs told.ok y e) a)
            | no c ↦ elim (dec_lt own.kind 4) [
              | yes l ↦ absurd (n (leaf_closed (tree_of fs y) (omega (arith, kind_is fs told.ok y ly))))
              | no l ↦ inr (omega arith, omega (arith, b.1))
            ]
          ]
        ]

    pub image_right : has_just t v y ≡ true → RightFor y (image_of t (length fs) v k images y)
    unfolding has_just image_of
    image_right e =
        let h = told.just_told y v ly kv (eqb-true (variables_in t y) (1 + v) e) in
        elim (ℕ_discrete y v) [
          | yes d ↦ rw (eq-eqb y v d, d) of_variable
          | no d ↦ rw (ne_eqb y v d, told_record fs t told y ly)
              (⊎_elim (λ z. absurd (d z)) (λ i. searched i h.0 _ refl) (inner_or_v h.0 h.1))
        ]

  -- THE IMAGES OF ALL FORMULAS WITH JUST v, listed upwards: each has its image where the next ones ask for it
  abbrev pub listed : List ℕ
  listed = list_just t v (length fs) (replicate 256 0)

  abbrev pub images : ℕ → List ℕ
  images i = images_upto t (length fs) v k listed i

  wide : length (replicate {A = ℕ} 256 0) ≡ 256
  wide = length-replicate {A = ℕ} 256 0

  images_length : (i : ℕ) → length (images i) ≡ 256
  unfolding images_upto
  images_length zero = length-replicate {A = ℕ} 256 no_image
  images_length (suc i) = length-set (images i) _ _ ∙ images_length i

  -- those that stand before place i have theirs
  Pictured : ℕ → Type 0
  Pictured i = (f : ℕ) → f < length fs → has_just t v f ≡ true → count_just t v f < i → RightFor f (get_or (images i) f 0)

  member : (i : ℕ) → i < count_just t v (length fs) → Member t v (replicate 256 0) wide (length fs) i (get_or listed i 0)
  member i l = listed_one t v (replicate 256 0) wide (length fs) i told.few l

  next_right : (i : ℕ) → i < count_just t v (length fs) → Pictured i → RightFor (get_or listed i 0) (image_of t (length fs) v k (images i) (get_or listed i 0))
  unfolding Pictured
  next_right i l p =
      let m = member i l in
      image_right (images i) (get_or listed i 0) m.below
      (λ g b e. p g (omega (arith, m.below)) e (omega (arith, count_rises t v g (get_or listed i 0) b e, m.place))) m.has

  pictured : (i : ℕ) → i ≤ count_just t v (length fs) → Pictured i
  unfolding Pictured images_upto
  pictured zero l f lf e b = absurd (omega arith)
  pictured (suc i) l f lf e b =
      let y = get_or listed i 0 in
      let m = member i (omega arith) in
      elim (ℕ_discrete f y) [
        | yes d ↦ subst (λ z. RightFor z (get_or (images (suc i)) z 0)) (sym d)
            (subst (RightFor y) (sym (get_or-set_same (images i) y _ 0 (omega (arith, m.below, told.few, images_length i)))) (next_right i (omega arith) (pictured i (omega arith))))
        | no d ↦
            let z = listed_at t v (replicate 256 0) wide f (length fs) told.few lf e in
            let o : count_just t v f ≡ i → ⊥ = λ c. d (sym z ∙ ap (λ j. get_or listed j 0) c) in
            subst (RightFor f) (sym (get_or-set_other (images i) y f _ 0 d)) (pictured i (omega arith) f lf e (omega arith))
      ]

  -- EACH IMAGE THAT GOES INTO A ROW is right
  pub listed_right : (i : ℕ) → i < count_just t v (length fs) → RightFor (get_or listed i 0) (image_of t (length fs) v k (images i) (get_or listed i 0))
  listed_right i l = next_right i l (pictured i (omega arith))

  pub listed_member : (i : ℕ) → i < count_just t v (length fs) → (get_or listed i 0 < length fs) × (has_just t v (get_or listed i 0) ≡ true)
  listed_member i l = let m = member i l in (m.below, m.has)

  pub listed_place : (y : ℕ) → y < length fs → has_just t v y ≡ true → (count_just t v y < count_just t v (length fs)) × (get_or listed (count_just t v y) 0 ≡ y)
  listed_place y l e = (count_rises t v y (length fs) l e, listed_at t v (replicate 256 0) wide y (length fs) told.few l e)
