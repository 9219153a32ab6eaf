-- Laws that the proofs of this crate cite, over plain variables. Assumes nothing.
use Prim.Native.Nat.{ℕ, zero, suc, ◌+◌, ◌*◌, ◌<◌, ◌≤◌}
use native.Mathlib.Numerals.{add-one}
use native.Mathlib.Omega.{arith}
use native.Mathlib.Decide.{ℕ_discrete, dec_lt}
use mathlib.Core.Path.{◌≡◌, sym, ap, ◌∙◌, subst}
use mathlib.Core.List.{List}
use mathlib.Core.Bool.{Bool, true, false, ◌&&◌}
use lib.ListN.{get_or, set}
use lib.Dec.{ltb, leb}
use borrow.Author.Tests.{ne_eqb, le-leb, lt-leb, lt-ltb, le-ltb}
use Rattle.flat.specs.Layout.{field_at, kind_at, first_at, second_at, rank_at, receiver_at, message_at}
use Rattle.rules.specs.Rules.{row_has, NoneBetween}
use Rattle.tables.specs.Links.{is_statement, about_of, in_front, linked_one, linked_upto, linked}
use Rattle.tables.specs.Deliveries.{delivery_at, delivered_upto, deliveries_of}
use Rattle.tables.specs.Delegations.{under_one, under_upto, delegated_one, delegated_upto, delegations_of}
use Rattle.tables.specs.Users.{used, used_in, parts, asks_second, asked, entered_upto, taken_over, row_upto, shared_one, shared_upto, users_of}

-- at the end of a loop
pub end_at : (f : ℕ → List ℕ → List ℕ) (u : List ℕ) (x n : ℕ) {v : List ℕ} → v ≡ f x u → x ≡ n → v ≡ f n u
end_at f u x n e h = e ∙ ap (λ (k : ℕ). f k u) h

-- a number outside a range
outside : (k m n : ℕ) → (m ≤ k → k < n → ⊥) → false ≡ (leb m k && ltb k n)
outside k m n o = elim (dec_lt k m) [
  | yes l ↦ rw (lt-leb m k l)
  | no l ↦ elim (dec_lt k n) [ yes h ↦ absurd (o (omega arith) h) | no h ↦ rw (le-leb m k (omega arith), le-ltb k n (omega arith)) ]
]

module _ (b : List ℕ) where
  module _ (y : ℕ) {k : ℕ} (e : k ≡ kind_at b y) where
    pub is_stated : 8 ≤ k → k < 11 → true ≡ is_statement b y
    unfolding is_statement
    is_stated l h = rw (← e, le-leb 8 k l, lt-ltb k 11 h)

    pub not_stated : (8 ≤ k → k < 11 → ⊥) → false ≡ is_statement b y
    unfolding is_statement
    not_stated n = rw (← e) (outside k 8 11 n)

    pub about_public : {x : ℕ} → k ≡ 9 → x ≡ first_at b y → x ≡ about_of b y
    unfolding about_of
    about_public h f = rw (← e, h) f

    pub about_shared : {x : ℕ} → (k ≡ 9 → ⊥) → x ≡ second_at b y → x ≡ about_of b y
    unfolding about_of
    about_shared h f = rw (← e, ne_eqb k 9 h) f

  module _ (links : List ℕ) where
    pub not_linked : (y : ℕ) {t : Bool} → t ≡ is_statement b y → t ≡ false → links ≡ linked_one b y links
    unfolding linked_one
    not_linked y e h = rw (← e, h)

    pub linked_one_lem : (y : ℕ) {t : Bool} {k : ℕ} → t ≡ is_statement b y → t ≡ true → k ≡ about_of b y
        → set (set links (256 + y) (get_or links k 0)) k y ≡ linked_one b y links
    unfolding linked_one in_front
    linked_one_lem y e h f = rw (← e, h, ← f)

    pub linked_more : (y : ℕ) {l m : List ℕ} → l ≡ linked_upto b y links → m ≡ linked_one b y l → m ≡ linked_upto b (y + 1) links
    unfolding linked_upto
    linked_more y e f = rw (add-one y, ← e) f

    module _ (n : ℕ) where
      pub too_many : 256 < n → links ≡ linked b n links
      unfolding linked
      too_many l = rw (lt-leb n 256 l)

      pub linked_all : {m : List ℕ} → n ≤ 256 → m ≡ linked_upto b n links → m ≡ linked b n links
      unfolding linked
      linked_all l e = rw (le-leb n 256 l) e

-- USERS
module _ (k : ℕ) where
  pub asks_controlled : k ≡ 15 → true ≡ asks_second k
  unfolding asks_second
  asks_controlled e = rw e

  pub asks_key : 5 ≤ k → k < 8 → true ≡ asks_second k
  unfolding asks_second
  asks_key l h = rw (ne_eqb k 15 (λ e. omega arith), le-leb 5 k l, lt-ltb k 8 h)

  pub asks_none : (k ≡ 15 → ⊥) → (5 ≤ k → k < 8 → ⊥) → false ≡ asks_second k
  unfolding asks_second
  asks_none n o = rw (ne_eqb k 15 n) (outside k 5 8 o)

-- WHO LETS CONTROL. x is in row y or not
module _ (rows : List ℕ) (y d : ℕ) where
  module _ (x : ℕ) {t : Bool} (e : t ≡ row_has rows y x) where
    pub under_none : t ≡ false → rows ≡ under_one rows y d x
    unfolding under_one
    under_none h = rw (← e, h)

    pub under_one_lem : {v : List ℕ} → t ≡ true → v ≡ used rows (256 + x) d → v ≡ under_one rows y d x
    unfolding under_one
    under_one_lem h f = rw (← e, h) f

  -- what is passed over is not in the row
  under_skip : (x z : ℕ) → x < z → NoneBetween (under_upto rows y d (suc x)) y x z → under_upto rows y d z ≡ under_upto rows y d (suc x)
  unfolding under_upto under_one
  under_skip x zero l h = absurd (omega arith)
  under_skip x (suc z) l h = elim (ℕ_discrete x z) [
    | yes e ↦ ap (λ (k : ℕ). under_upto rows y d (suc k)) (sym e)
    | no n ↦
        let m : x < z = omega arith in
        let s = under_skip x z m (λ j a b. h j a (omega arith)) in
        rw (s, h z m (omega arith))
  ]

  pub under_more : (x z : ℕ) {v w : List ℕ} → v ≡ under_upto rows y d x → w ≡ under_one v y d x → x < z → NoneBetween w y x z → w ≡ under_upto rows y d z
  unfolding under_upto
  under_more x z e f l h =
      let g = f ∙ ap (λ (v : List ℕ). under_one v y d x) e in
      g ∙ sym (under_skip x z l (subst (λ (w : List ℕ). NoneBetween w y x z) g h))

  pub under_end : (x : ℕ) {v : List ℕ} → v ≡ under_upto rows y d x → x ≡ 256 → v ≡ under_upto rows y d 256
  under_end x e h = e ∙ ap (under_upto rows y d) h

module _ (b rows : List ℕ) where
  module _ (d : ℕ) {k : ℕ} (e : k ≡ kind_at b d) where
    pub not_delegated : (k ≡ 17 → ⊥) → rows ≡ delegated_one b d rows
    unfolding delegated_one
    not_delegated n = rw (← e, ne_eqb k 17 n)

    pub delegated_one_lem : {c y : ℕ} {v : List ℕ} → k ≡ 17 → c ≡ second_at b d → y ≡ second_at b c → v ≡ under_upto rows y d 256 → v ≡ delegated_one b d rows
    unfolding delegated_one
    delegated_one_lem h ec ey f = rw (← e, h, ← ec, ← ey) f

  pub delegated_more : (d : ℕ) {v w : List ℕ} → v ≡ delegated_upto b d rows → w ≡ delegated_one b d v → w ≡ delegated_upto b (d + 1) rows
  unfolding delegated_upto
  delegated_more d e f = rw (add-one d, ← e) f

  module _ (n : ℕ) where
    pub none_delegated : 256 < n → rows ≡ delegations_of b n rows
    unfolding delegations_of
    none_delegated l = rw (lt-leb n 256 l)

    pub all_delegated : {v : List ℕ} → n ≤ 256 → v ≡ delegated_upto b n rows → v ≡ delegations_of b n rows
    unfolding delegations_of
    all_delegated l e = rw (le-leb n 256 l) e

module _ (b u : List ℕ) where
  pub used_parts : (r : ℕ) {x y p q : ℕ} {v w z a : List ℕ} → x ≡ first_at b r → y ≡ second_at b r → v ≡ used u x r → w ≡ used v y r
      → p ≡ field_at b x 6 → z ≡ used w p r → q ≡ field_at b y 6 → a ≡ used z q r → a ≡ used_in u r (parts b r)
  unfolding used_in parts
  used_parts r ex ey ev ew ep ez eq ea = rw (ea, eq, ez, ep, ew, ev, ey, ex)

  pub shared_none : (t : ℕ) {s : Bool} → s ≡ is_statement b t → s ≡ false → u ≡ shared_one b t u
  unfolding shared_one
  shared_none t e h = rw (← e, h)

  pub shared_row : (t : ℕ) {s : Bool} {k : ℕ} {v : List ℕ} → s ≡ is_statement b t → s ≡ true → k ≡ about_of b t → v ≡ row_upto u t k 4 → v ≡ shared_one b t u
  unfolding shared_one
  shared_row t e h f g = rw (← e, h, ← f) g

  pub shared_more : (t : ℕ) {v w : List ℕ} → v ≡ shared_upto b t u → w ≡ shared_one b t v → w ≡ shared_upto b (t + 1) u
  unfolding shared_upto
  shared_more t e f = rw (add-one t, ← e) f

module _ (b u : List ℕ) where
  module _ (r : ℕ) {k : ℕ} {v : List ℕ} (ev : v ≡ used u r r) (ek : k ≡ kind_at b r) where
    pub asked_parts : {w : List ℕ} → k ≡ 4 → w ≡ used_in v r (parts b r) → w ≡ used_in u r (asked b r)
    unfolding used_in asked parts
    asked_parts h e = rw (← ek, h, ← ev) e

    pub asked_none : {t : Bool} → (k ≡ 4 → ⊥) → t ≡ asks_second k → t ≡ false → v ≡ used_in u r (asked b r)
    unfolding used_in asked
    asked_none n e h = rw (← ek, ne_eqb k 4 n, ← e, h) ev

    pub asked_second : {t : Bool} {y : ℕ} {w : List ℕ} → (k ≡ 4 → ⊥) → t ≡ asks_second k → t ≡ true → y ≡ second_at b r → w ≡ used v y r
        → w ≡ used_in u r (asked b r)
    unfolding used_in asked
    asked_second n e h ey ew = rw (← ek, ne_eqb k 4 n, ← e, h, ← ev, ← ey) ew

  pub entered_more : (r : ℕ) {v w : List ℕ} → v ≡ entered_upto b r u → w ≡ used_in v r (asked b r) → w ≡ entered_upto b (r + 1) u
  unfolding entered_upto
  entered_more r e f = rw (add-one r, ← e) f

  module _ (n : ℕ) where
    pub not_entered : 256 < n → u ≡ users_of b n u
    unfolding users_of
    not_entered l = rw (lt-leb n 256 l)

    pub all_entered : {v w : List ℕ} → n ≤ 256 → v ≡ entered_upto b n u → w ≡ shared_upto b n v → w ≡ users_of b n u
    unfolding users_of
    all_entered l e f = rw (le-leb n 256 l, ← e) f

pub row_more : (u : List ℕ) (t k j : ℕ) {v w : List ℕ} → v ≡ row_upto u t k j → w ≡ taken_over v t k j → w ≡ row_upto u t k (j + 1)
unfolding row_upto
row_more u t k j e f = rw (add-one j, ← e) f

pub row_end : (u : List ℕ) (t k j : ℕ) {v : List ℕ} → v ≡ row_upto u t k j → j ≡ 4 → v ≡ row_upto u t k 4
row_end u t k j e h = e ∙ ap (row_upto u t k) h

-- DELIVERIES
module _ (b ds : List ℕ) where
  pub delivery_is : (m : ℕ) {q r x : ℕ} → q ≡ receiver_at b m → r ≡ rank_at b q → x ≡ message_at b m → r * 256 + x ≡ delivery_at b m
  unfolding delivery_at
  delivery_is m e f h = rw (← e, ← f, ← h)

  pub delivered_more : (m : ℕ) {v : List ℕ} {d : ℕ} → v ≡ delivered_upto b m ds → d ≡ delivery_at b m → set v m d ≡ delivered_upto b (m + 1) ds
  unfolding delivered_upto
  delivered_more m e f = rw (add-one m, ← e, ← f)

  module _ (n : ℕ) where
    pub none_listed : 16 < n → ds ≡ deliveries_of b n ds
    unfolding deliveries_of
    none_listed l = rw (lt-leb n 16 l)

    pub all_listed : {v : List ℕ} → n ≤ 16 → v ≡ delivered_upto b n ds → v ≡ deliveries_of b n ds
    unfolding deliveries_of
    all_listed l e = rw (le-leb n 16 l) e
