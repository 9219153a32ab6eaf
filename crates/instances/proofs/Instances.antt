-- THE ROWS ARE THE INSTANCES: for what may stand under a kind 17, row y has just the records that are y with one key put for its variable.
use Prim.Native.Nat.{ℕ, zero, suc, ◌+◌, ◌*◌, ◌/◌, ◌%◌, ◌<◌, ◌≤◌}
use native.Mathlib.Nat.{div-eq_of_lt}
use native.Mathlib.Omega.{arith}
use native.Mathlib.Decide.{ℕ_discrete}
use mathlib.Core.Path.{◌≡◌, refl, sym, ◌∙◌, ap, subst}
use mathlib.Core.Logic.{⊎_elim}
use mathlib.Core.Bool.{Bool, true, false, cond, not, ◌&&◌}
use mathlib.Core.List.{List, [], ◌∷◌}
use lib.ListN.{length, get_or, replicate, length-replicate, get_or-replicate}
use lib.Pow.{pow_pos}
use lib.Dec.{T, eqb, leb, eqb→eq}
use borrow.Author.Tests.{eqb-true, eq-eqb, le-leb}
use Rattle.logic.specs.declared.Record.{Record}
use Rattle.logic.specs.Kind.{body_of, bodies}
use Rattle.logic.specs.Formula.{loose, delegates, every, may_delegate, record_of, name_of, tree_of}
use Rattle.logic.specs.Formula.Tree.{key}
use Rattle.logic.specs.Instance.{put}
use Rattle.logic.proofs.Tests.{T_and}
use Rattle.logic.proofs.Loose.{put_same}
use Rattle.logic.proofs.Parts.{kind_of, leaf_name}
use Rattle.logic.proofs.Formulas.{is_record, kind_is, key_is, same_tree}
use Rattle.logic.proofs.ByKind.{fields}
use Rattle.logic.proofs.RuleOn.{InstanceOn}
use Rattle.facts.specs.Facts.{bit_at}
use Rattle.lanes.proofs.Sets.{Uses, apart}
use Rattle.format.specs.Index.{index_size, record_in}
use Rattle.format.specs.Variables.{variables_in}
use Rattle.instances.specs.Images.{has_just, count_just, list_just}
use Rattle.instances.specs.Rows.{with_bit, own_one, own_upto, imaged_upto, key_one, keys_upto, put_for, variable_one, variables_upto, instances_of}
use Rattle.logic.proofs.Putting.{put_key}
use Rattle.lanes.proofs.Bits.{Grows, grows_same, grows_then}
use Rattle.instances.proofs.Bits.{bit_grows, bit_here, bit_only}
use Rattle.instances.proofs.Told.{Told, told_record}
use Rattle.instances.proofs.RightImages.{empty_or, listed, listed_right, listed_member, listed_place}

-- WHAT ONLY GROWS
module _ (t : List ℕ) where
  own_grows : (j : ℕ) (u : List ℕ) → Grows u (own_upto t j u)
  unfolding own_upto own_one
  own_grows zero u = grows_same u
  own_grows (suc y) u = go (eqb (variables_in t y) 0) (own_grows y u)
    where
      go : (b : Bool) → Grows u (own_upto t y u) → Grows u (cond b (with_bit (own_upto t y u) y y) (own_upto t y u))
      go true g = grows_then u (own_upto t y u) (with_bit (own_upto t y u) y y) g (bit_grows (own_upto t y u) y y)
      go false g = g

  module _ (n v : ℕ) where
    imaged_grows : (k : ℕ) (a : List ℕ) (i : ℕ) (u : List ℕ) → Grows u (imaged_upto t n v k a i u)
    unfolding imaged_upto
    imaged_grows k a zero u = grows_same u
    imaged_grows k a (suc i) u = grows_then u (imaged_upto t n v k a i u) _ (imaged_grows k a i u) (bit_grows (imaged_upto t n v k a i u) _ _)

    one_grows : (a : List ℕ) (m k : ℕ) (u : List ℕ) → Grows u (key_one t n v a m k u)
    unfolding key_one
    one_grows a m k u = go (eqb (record_in t k).kind 2)
      where
        go : (b : Bool) → Grows u (cond b (imaged_upto t n v k a m u) u)
        go true = imaged_grows k a m u
        go false = grows_same u

    keys_grows : (a : List ℕ) (m k : ℕ) (u : List ℕ) → Grows u (keys_upto t n v a m k u)
    unfolding keys_upto
    keys_grows a m zero u = grows_same u
    keys_grows a m (suc k) u = grows_then u (keys_upto t n v a m k u) _ (keys_grows a m k u) (one_grows a m k (keys_upto t n v a m k u))

    variable_grows : (u : List ℕ) → Grows u (variable_one t n v u)
    unfolding variable_one put_for
    variable_grows u = go (eqb (record_in t v).kind 16)
      where
        go : (b : Bool) → Grows u (cond b (keys_upto t n v (list_just t v n (replicate 256 0)) (count_just t v n) n u) u)
        go true = keys_grows (list_just t v n (replicate 256 0)) (count_just t v n) n u
        go false = grows_same u

  variables_grows : (n v : ℕ) (u : List ℕ) → Grows u (variables_upto t n v u)
  unfolding variables_upto
  variables_grows n zero u = grows_same u
  variables_grows n (suc v) u = grows_then u (variables_upto t n v u) _ (variables_grows n v u) (variable_grows n v (variables_upto t n v u))

  pub instances_long : (n : ℕ) (u : List ℕ) → length (instances_of t n u) ≡ length u
  unfolding instances_of
  instances_long n u = go (leb n 256 && leb index_size (length t))
    where
      go : (b : Bool) → length (cond b (variables_upto t n n (own_upto t n u)) u) ≡ length u
      go true = (variables_grows n n (own_upto t n u)).long ∙ (own_grows n u).long
      go false = refl

-- WHAT A ROW MAY HAVE
pub data Made (fs : List Record) (t : List ℕ) (y x : ℕ) : Type 0 where
  -- y itself, which has no variable
  as_it_is : y < length fs → variables_in t y ≡ 0 → x ≡ y → Made fs t y x
  -- y, which has just v, with the key k put for v
  with_key : (v k : ℕ) → (record_of fs v).kind ≡ 16 → y < length fs → variables_in t y ≡ 1 + v → x < length fs
      → tree_of fs x ≡ put (name_of fs v) (name_of fs k) (tree_of fs y) → Made fs t y x

blank : (b : ℕ) → bit_at 0 b ≡ false
unfolding bit_at
blank b = rw (div-eq_of_lt (pow_pos b))

record Sound (fs : List Record) (t u : List ℕ) : Type 0 where
  wide : length u ≡ 2048
  made : (y x : ℕ) → y < 512 → x < 256 → Uses u y x → Made fs t y x

module _ (fs : List Record) (t : List ℕ) where
  none_sound : Sound fs t (replicate 2048 0)
  none_sound =
      record {
        wide = length-replicate {A = ℕ} 2048 0;
        made = λ y x ly lx h. apart (h ∙ (ap (λ w. bit_at w (x % 64)) (get_or-replicate 2048 (y * 4 + x / 64) 0 0 (omega arith)) ∙ blank (x % 64)));
      }

  bit_sound : (u : List ℕ) (y x : ℕ) → Sound fs t u → y < 256 → (x < 256 → Made fs t y x) → Sound fs t (with_bit u y x)
  bit_sound u y x s ly m =
      record {
        wide = (bit_grows u y x).long ∙ s.wide;
        made = λ a b la lb h. ⊎_elim (λ p. s.made a b la lb p)
            (λ q. let c = q.0 in let d = q.1 in subst (λ z. Made fs t z b) (sym c) (subst (Made fs t y) (sym d) (m q.2)))
            (bit_only u y x s.wide ly a b lb h);
      }

module _ (fs : List Record) (t : List ℕ) (told : Told fs t) where
  abbrev n : ℕ
  n = length fs

  -- FORMULAS WITHOUT VARIABLES in their own rows
  own_sound : (j : ℕ) (u : List ℕ) → j ≤ n → Sound fs t u → Sound fs t (own_upto t j u)
  unfolding own_upto own_one
  own_sound zero u l s = s
  own_sound (suc y) u l s = go (eqb (variables_in t y) 0) refl (own_sound y u (omega arith) s)
    where
      go : (b : Bool) → eqb (variables_in t y) 0 ≡ b → Sound fs t (own_upto t y u) → Sound fs t (cond b (with_bit (own_upto t y u) y y) (own_upto t y u))
      go true e h = bit_sound fs t (own_upto t y u) y y h (omega (arith, told.few)) (λ m. as_it_is (omega arith) (eqb-true (variables_in t y) 0 e) refl)
      go false e h = h

  own_there : (y j : ℕ) (u : List ℕ) → length u ≡ 2048 → j ≤ n → y < j → variables_in t y ≡ 0 → Uses (own_upto t j u) y y
  unfolding own_upto own_one
  own_there y zero u w l b e = absurd (omega arith)
  own_there y (suc j) u w l b e = elim (ℕ_discrete y j) [
    | yes d ↦
        let z : variables_in t j ≡ 0 = subst (λ i. variables_in t i ≡ 0) d e in
        subst (λ i. Uses (own_upto t (suc j) u) i i) (sym d) (rw z (bit_here (own_upto t j u) j j ((own_grows t j u).long ∙ w) (omega (arith, told.few)) (omega (arith, told.few))))
    | no d ↦ go (eqb (variables_in t j) 0) (own_there y j u w (omega arith) (omega arith) e)
  ]
    where
      go : (b : Bool) → Uses (own_upto t j u) y y → Uses (cond b (with_bit (own_upto t j u) j j) (own_upto t j u)) y y
      go true h = (bit_grows (own_upto t j u) j j).stay y y h
      go false h = h

  -- A KEY FOR A VARIABLE
  module _ (v k : ℕ) (kv : (record_of fs v).kind ≡ 16) (kk : (record_of fs k).kind ≡ 2) where
    abbrev a : List ℕ
    a = listed fs t told v k kv kk

    imaged_sound : (i : ℕ) (u : List ℕ) → i ≤ count_just t v n → Sound fs t u → Sound fs t (imaged_upto t n v k a i u)
    unfolding imaged_upto has_just
    imaged_sound zero u l s = s
    imaged_sound (suc i) u l s =
        let m = listed_member fs t told v k kv kk i (omega arith) in
        let r = listed_right fs t told v k kv kk i (omega arith) in
        bit_sound fs t (imaged_upto t n v k a i u) (get_or a i 0) _ (imaged_sound i u (omega arith) s) (omega (arith, m.0, told.few))
        (λ b. with_key v k kv m.0 (eqb-true (variables_in t (get_or a i 0)) (1 + v) m.1) (r.sound b).0 (r.sound b).1)

    imaged_there : (y x i : ℕ) (u : List ℕ) → length u ≡ 2048 → i ≤ count_just t v n → y < n → has_just t v y ≡ true → count_just t v y < i → x < n
        → tree_of fs x ≡ put (name_of fs v) (name_of fs k) (tree_of fs y) → Uses (imaged_upto t n v k a i u) y x
    unfolding imaged_upto
    imaged_there y x zero u w l ly e b lx h = absurd (omega arith)
    imaged_there y x (suc i) u w l ly e b lx h = elim (ℕ_discrete (count_just t v y) i) [
      | yes d ↦
          let p : get_or a i 0 ≡ y = ap (λ j. get_or a j 0) (sym d) ∙ (listed_place fs t told v k kv kk y ly e).1 in
          let r = listed_right fs t told v k kv kk i (omega arith) in
          let q = r.complete x lx (h ∙ ap (λ z. put (name_of fs v) (name_of fs k) (tree_of fs z)) (sym p)) in
          let g = bit_here (imaged_upto t n v k a i u) y x ((imaged_grows t n v k a i u).long ∙ w) (omega (arith, told.few)) (omega (arith, told.few)) in
          subst (λ z. Uses (with_bit (imaged_upto t n v k a i u) (get_or a i 0) z) y x) (sym q) (subst (λ z. Uses (with_bit (imaged_upto t n v k a i u) z x) y x) (sym p) g)
      | no d ↦ (bit_grows (imaged_upto t n v k a i u) _ _).stay y x (imaged_there y x i u w (omega arith) ly e (omega arith) lx h)
    ]

  -- EACH KEY FOR A VARIABLE
  is_kind : (x c : ℕ) → x < n → eqb (record_in t x).kind c ≡ true → (record_of fs x).kind ≡ c
  is_kind x c l e = ap (λ r. r.kind) (sym (told_record fs t told x l)) ∙ eqb-true (record_in t x).kind c e

  has_kind : (x c : ℕ) → x < n → (record_of fs x).kind ≡ c → (record_in t x).kind ≡ c
  has_kind x c l e = ap (λ r. r.kind) (told_record fs t told x l) ∙ e

  module _ (v : ℕ) (kv : (record_of fs v).kind ≡ 16) where
    abbrev just : List ℕ
    just = list_just t v n (replicate 256 0)

    abbrev many : ℕ
    many = count_just t v n

    keys_sound : (k : ℕ) (u : List ℕ) → k ≤ n → Sound fs t u → Sound fs t (keys_upto t n v just many k u)
    unfolding keys_upto key_one
    keys_sound zero u l s = s
    keys_sound (suc k) u l s = go (eqb (record_in t k).kind 2) refl (keys_sound k u (omega arith) s)
      where
        go : (b : Bool) → eqb (record_in t k).kind 2 ≡ b → Sound fs t (keys_upto t n v just many k u)
            → Sound fs t (cond b (imaged_upto t n v k just many (keys_upto t n v just many k u)) (keys_upto t n v just many k u))
        go true e h = imaged_sound v k kv (is_kind k 2 (omega arith) e) many (keys_upto t n v just many k u) (omega arith) h
        go false e h = h

    module _ (y x : ℕ) (ly : y < n) (e : has_just t v y ≡ true) (lx : x < n) where
      keys_there : (k j : ℕ) (u : List ℕ) → length u ≡ 2048 → j ≤ n → k < j → (record_of fs k).kind ≡ 2
          → tree_of fs x ≡ put (name_of fs v) (name_of fs k) (tree_of fs y) → Uses (keys_upto t n v just many j u) y x
      unfolding keys_upto key_one
      keys_there k zero u w l b c h = absurd (omega arith)
      keys_there k (suc j) u w l b c h = elim (ℕ_discrete k j) [
        | yes d ↦
            let cj : (record_of fs j).kind ≡ 2 = subst (λ i. (record_of fs i).kind ≡ 2) d c in
            let hj : tree_of fs x ≡ put (name_of fs v) (name_of fs j) (tree_of fs y) = h ∙ ap (λ i. put (name_of fs v) (name_of fs i) (tree_of fs y)) d in
            rw (eq-eqb (record_in t j).kind 2 (has_kind j 2 (omega arith) cj))
            (imaged_there v j kv cj y x many (keys_upto t n v just many j u) ((keys_grows t n v just many j u).long ∙ w) (omega arith) ly e (listed_place fs t told v j kv cj y ly e).0 lx hj)
        | no d ↦ (one_grows t n v just many j (keys_upto t n v just many j u)).stay y x (keys_there k j u w (omega arith) (omega arith) c h)
      ]

  -- EACH VARIABLE
  variables_sound : (v : ℕ) (u : List ℕ) → v ≤ n → Sound fs t u → Sound fs t (variables_upto t n v u)
  unfolding variables_upto variable_one put_for
  variables_sound zero u l s = s
  variables_sound (suc v) u l s = go (eqb (record_in t v).kind 16) refl (variables_sound v u (omega arith) s)
    where
      go : (b : Bool) → eqb (record_in t v).kind 16 ≡ b → Sound fs t (variables_upto t n v u)
          → Sound fs t (cond b (keys_upto t n v (list_just t v n (replicate 256 0)) (count_just t v n) n (variables_upto t n v u)) (variables_upto t n v u))
      go true e h = keys_sound v (is_kind v 16 (omega arith) e) n (variables_upto t n v u) (omega arith) h
      go false e h = h

  variables_there : (y x v j : ℕ) (u : List ℕ) → length u ≡ 2048 → j ≤ n → v < j → (record_of fs v).kind ≡ 16 → y < n → has_just t v y ≡ true → x < n
      → (k : ℕ) → (record_of fs k).kind ≡ 2 → tree_of fs x ≡ put (name_of fs v) (name_of fs k) (tree_of fs y) → Uses (variables_upto t n j u) y x
  unfolding variables_upto variable_one put_for
  variables_there y x v zero u w l b kv ly e lx k kk h = absurd (omega arith)
  variables_there y x v (suc j) u w l b kv ly e lx k kk h = elim (ℕ_discrete v j) [
    | yes d ↦
        let kj : (record_of fs j).kind ≡ 16 = subst (λ i. (record_of fs i).kind ≡ 16) d kv in
        let ej : has_just t j y ≡ true = subst (λ i. has_just t i y ≡ true) d e in
        let hj : tree_of fs x ≡ put (name_of fs j) (name_of fs k) (tree_of fs y) = h ∙ ap (λ i. put (name_of fs i) (name_of fs k) (tree_of fs y)) d in
        rw (eq-eqb (record_in t j).kind 16 (has_kind j 16 (omega arith) kj))
        (keys_there j kj y x ly ej lx k n (variables_upto t n j u) ((variables_grows t n j u).long ∙ w) (omega arith) (is_record fs k (λ z. omega arith)) kk hj)
    | no d ↦ (variable_grows t n j (variables_upto t n j u)).stay y x (variables_there y x v j u w (omega arith) (omega arith) kv ly e lx k kk h)
  ]

  -- ALL ROWS, in a table that was blank
  abbrev blanks : List ℕ
  blanks = replicate 2048 0

  abbrev pub rows : List ℕ
  rows = instances_of t n blanks

  rows_sound : Sound fs t rows
  unfolding instances_of
  rows_sound = go (leb n 256 && leb index_size (length t))
    where
      go : (b : Bool) → Sound fs t (cond b (variables_upto t n n (own_upto t n blanks)) blanks)
      go true = variables_sound n (own_upto t n blanks) (omega arith) (own_sound n blanks (omega arith) (none_sound fs t))
      go false = none_sound fs t

  -- A ROW HAS FORMULAS ALONE
  pub inside : (y x : ℕ) → y < 512 → x < 256 → Uses rows y x → x < length fs
  inside y x ly lx h = go (rows_sound.made y x ly lx h)
    where
      go : Made fs t y x → x < length fs
      go (as_it_is l e d) = subst (λ z. z < length fs) (sym d) l
      go (with_key v k kv l e m d) = m

  -- and only formulas have a row
  pub of_formulas : (y x : ℕ) → y < 512 → x < 256 → Uses rows y x → y < length fs
  of_formulas y x ly lx h = go (rows_sound.made y x ly lx h)
    where
      go : Made fs t y x → y < length fs
      go (as_it_is l e d) = l
      go (with_key v k kv l e m d) = l

  pub rows_wide : length rows ≡ 2048
  rows_wide = rows_sound.wide

  -- two variables that are each the only one of a formula are the same
  same_only : (v w : ℕ) (l : List ℕ) → (l ≡ [] → ⊥) → T (every (λ z. eqb z v) l) → T (every (λ z. eqb z w) l) → v ≡ w
  same_only v w [] e a b = absurd (e refl)
  same_only v w (z ∷ l) e a b =
      sym (eqb→eq z v (T_and (eqb z v) (every (λ z. eqb z v) l) a).0) ∙ eqb→eq z w (T_and (eqb z w) (every (λ z. eqb z w) l) b).0

  module _ (d : ℕ) (kd : (record_of fs d).kind ≡ 17) where
    abbrev var : ℕ
    var = (record_of fs d).first

    in_d : d < length fs
    in_d = is_record fs d (λ z. omega arith)

    var_kind : (record_of fs var).kind ≡ 16
    unfolding body_of bodies
    var_kind = (fields fs told.ok d 17 kd (λ z. omega arith)).0

    rows_are : rows ≡ variables_upto t n n (own_upto t n blanks)
    unfolding instances_of
    rows_are = rw (le-leb n 256 told.few, le-leb index_size (length t) told.long)

    module _ (y x : ℕ) (ly : y < length fs) (lx : x < length fs) (under : T (may_delegate (name_of fs var) (tree_of fs y))) where
      none_other : T (not (delegates (tree_of fs y))) × T (every (λ z. eqb z (name_of fs var)) (loose (tree_of fs y)))
      none_other = T_and (not (delegates (tree_of fs y))) (every (λ z. eqb z (name_of fs var)) (loose (tree_of fs y))) under

      made_instance : Made fs t y x → InstanceOn fs var y x
      made_instance (as_it_is l e d) = (0, ap (tree_of fs) d ∙ sym (put_same (name_of fs var) 0 (tree_of fs y) (told.none_told y ly e)))
      made_instance (with_key v k kv l e m h) =
          let j = told.just_told y v ly kv e in
          let s : name_of fs v ≡ name_of fs var =
          same_only (name_of fs v) (name_of fs var) (loose (tree_of fs y)) j.1
          (T_and (not (delegates (tree_of fs y))) (every (λ z. eqb z (name_of fs v)) (loose (tree_of fs y))) j.0).1 none_other.1 in
          (name_of fs k, h ∙ ap (λ z. put z (name_of fs k) (tree_of fs y)) s)

      -- WHAT STANDS IN A ROW is an instance
      pub only : Uses rows y x → InstanceOn fs var y x
      only h = made_instance (rows_sound.made y x (omega (arith, told.few)) (omega (arith, told.few)) h)

      -- AND EVERY INSTANCE STANDS THERE
      key_record : (m k : ℕ) → k < length fs → tree_of fs k ≡ key m → ((record_of fs k).kind ≡ 2) × (name_of fs k ≡ m)
      key_record m k l e =
          let c : (record_of fs k).kind ≡ 2 = sym (kind_is fs told.ok k l) ∙ ap kind_of e in
          (c, ap leaf_name (sym (key_is fs told.ok k c) ∙ e))

      as_itself : (m : ℕ) → tree_of fs x ≡ put (name_of fs var) m (tree_of fs y) → loose (tree_of fs y) ≡ [] → Uses rows y x
      as_itself m h e =
          let s : x ≡ y = same_tree fs told.ok x y lx ly (h ∙ put_same (name_of fs var) m (tree_of fs y) e) in
          let g = own_there y n blanks (length-replicate {A = ℕ} 2048 0) (omega arith) ly (told.none y ly none_other.0 e) in
          subst (λ z. Uses rows y z) (sym s) (rw rows_are ((variables_grows t n n (own_upto t n blanks)).stay y y g))

      by_key : (m : ℕ) → tree_of fs x ≡ put (name_of fs var) m (tree_of fs y) → (loose (tree_of fs y) ≡ [] → ⊥) → Uses rows y x
      unfolding has_just
      by_key m h e =
          let (k, l, c) = put_key fs told.ok (name_of fs var) m (tree_of fs y) e under (x, lx, h) in
          let q = key_record m k l c in
          rw rows_are
          (variables_there y x var n (own_upto t n blanks) ((own_grows t n blanks).long ∙ length-replicate {A = ℕ} 2048 0) (omega arith)
          (is_record fs var (λ z. omega (arith, var_kind))) var_kind ly (eq-eqb (variables_in t y) (1 + var) (told.just y var ly var_kind under e)) lx k q.0
          (h ∙ ap (λ z. put (name_of fs var) z (tree_of fs y)) (sym q.1)))

      pub each : InstanceOn fs var y x → Uses rows y x
      each (m, h) = ⊎_elim (as_itself m h) (by_key m h) (empty_or (loose (tree_of fs y)))
