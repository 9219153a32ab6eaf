-- Every statement stands in the chain of what it is about, and the chains lead to records of the book alone. Assumes nothing.
use Prim.Native.Nat.{ℕ, zero, suc, ◌+◌, ◌-◌, ◌<◌, ◌≤◌}
use native.Mathlib.Omega.{arith}
use native.Mathlib.Decide.{ℕ_discrete}
use mathlib.Core.Path.{◌≡◌, refl, sym, ap, ◌∙◌, subst}
use mathlib.Core.List.{List}
use mathlib.Core.Bool.{Bool, true, false, cond}
use lib.ListN.{length, get_or, set, replicate, length-set, length-replicate}
use lib.Seq.{get_or-set_same, get_or-set_other}
use lib.Dec.{eqb, leb, ltb}
use borrow.Author.Tests.{lt-ltb, le-leb, leb-true, ltb-true, eq-eqb, ne_eqb}
use Rattle.logic.proofs.Bytes.{Bytes}
use Rattle.flat.specs.Layout.{field_at, kind_at, first_at, second_at}
use Rattle.lanes.proofs.Sets.{apart, and_both}
use Rattle.rules.specs.Rules.{last_about, before}
use Rattle.rules.proofs.Tables.{On, here, later, Chained, before_below}
use Rattle.tables.specs.Links.{is_statement, about_of, in_front, linked_one, linked_upto, linked}

-- STATEMENTS
module _ (b : List ℕ) (y : ℕ) where
  pub statement_kind : is_statement b y ≡ true → (8 ≤ kind_at b y) × (kind_at b y < 11)
  unfolding is_statement
  statement_kind e = let p = and_both (leb 8 (kind_at b y)) (ltb (kind_at b y) 11) (sym e) in (leb-true 8 (kind_at b y) (sym p.0), ltb-true (kind_at b y) 11 (sym p.1))

  pub statement_is : 8 ≤ kind_at b y → kind_at b y < 11 → true ≡ is_statement b y
  unfolding is_statement
  statement_is l h = rw (le-leb 8 (kind_at b y) l, lt-ltb (kind_at b y) 11 h)

  pub about_nine : kind_at b y ≡ 9 → about_of b y ≡ first_at b y
  unfolding about_of
  about_nine e = rw (eq-eqb (kind_at b y) 9 e)

  pub about_other : (kind_at b y ≡ 9 → ⊥) → about_of b y ≡ second_at b y
  unfolding about_of
  about_other n = rw (ne_eqb (kind_at b y) 9 n)

-- what is 0 in a table that begins as zeros
pub zeros : (m k : ℕ) → ◌≡◌ {A = ℕ} (get_or (replicate m 0) k 0) 0
zeros zero k = refl
zeros (suc m) zero = refl
zeros (suc m) (suc k) = zeros m k

-- THE LINKS WITH A STATEMENT IN FRONT
module _ (links : List ℕ) (k y : ℕ) (wide : length links ≡ 512) (lk : k < 256) (ly : y < 256) where
  pub front_last : get_or (in_front links k y) k 0 ≡ y
  unfolding in_front
  front_last = get_or-set_same (set links (256 + y) (get_or links k 0)) k y 0 (rw length-set (omega arith))

  pub front_before : get_or (in_front links k y) (256 + y) 0 ≡ get_or links k 0
  unfolding in_front
  front_before =
      get_or-set_other (set links (256 + y) (get_or links k 0)) k (256 + y) y 0 (λ e. omega arith)
      ∙ get_or-set_same links (256 + y) (get_or links k 0) 0 (omega arith)

  pub front_other : (j : ℕ) → (j ≡ k → ⊥) → (j ≡ 256 + y → ⊥) → get_or (in_front links k y) j 0 ≡ get_or links j 0
  unfolding in_front
  front_other j nk ny =
      get_or-set_other (set links (256 + y) (get_or links k 0)) k j y 0 nk ∙ get_or-set_other links (256 + y) j (get_or links k 0) 0 ny

pub front_length_lem : (links : List ℕ) (k y : ℕ) → length (in_front links k y) ≡ length links
unfolding in_front
front_length_lem links k y = simp length-set refl

-- CHAINS
before_is : (links : List ℕ) (t v : ℕ) → get_or links (256 + t) 0 ≡ v → v < t → before links t ≡ v
unfolding before
before_is links t v e l = rw (e, lt-ltb v t l)

before_same : (l m : List ℕ) (t : ℕ) → get_or m (256 + t) 0 ≡ get_or l (256 + t) 0 → before l t ≡ before m t
unfolding before
before_same l m t e = rw e

-- a chain below n stays as it is where the links of the records below n do
on_same : (l m : List ℕ) (y n : ℕ) → ((s : ℕ) → s < n → get_or m (256 + s) 0 ≡ get_or l (256 + s) 0) → (t : ℕ) → t < n → On l y t → On m y t
on_same l m y n f t h (here _ z e) = here t z e
on_same l m y n f t h (later _ z o) =
    later t z (subst (On m y) (before_same l m t (f t h)) (on_same l m y n f (before l t) (let d = before_below l t z in omega arith) o))

-- what holds with the first n records linked; the last statement is below n, and 0 where there is none
pub record Chains (b links : List ℕ) (n : ℕ) : Type 0 where
  pub wide : length links ≡ 512
  pub below : (k : ℕ) → get_or links k 0 < 1 + (n - 1)
  pub stands : (y : ℕ) → y < n → true ≡ is_statement b y → On links y (get_or links (about_of b y) 0)

module _ (b : List ℕ) (bytes : Bytes b) where
  about_below : (y : ℕ) → about_of b y < 256
  unfolding about_of field_at
  about_below y = go (eqb (kind_at b y) 9)
    where
      go : (v : Bool) → cond v (first_at b y) (second_at b y) < 256
      go true = bytes _
      go false = bytes _

  module _ (links : List ℕ) (n : ℕ) (some : n ≡ 0 → ⊥) (h : n < 256) (so : Chains b links n) where
    abbrev front : List ℕ
    front = in_front links (about_of b n) n

    last_is : get_or front (about_of b n) 0 ≡ n
    last_is = front_last links (about_of b n) n so.wide (about_below n) h

    link_is : get_or front (256 + n) 0 ≡ get_or links (about_of b n) 0
    link_is = front_before links (about_of b n) n so.wide (about_below n) h

    other_is : (j : ℕ) → (j ≡ about_of b n → ⊥) → (j ≡ 256 + n → ⊥) → get_or front j 0 ≡ get_or links j 0
    other_is = front_other links (about_of b n) n so.wide (about_below n) h

    front_below : (k : ℕ) → get_or front k 0 < 1 + (suc n - 1)
    front_below k = elim (ℕ_discrete k (about_of b n)) [
      | yes e ↦ rw (e, last_is) (omega arith)
      | no d ↦ elim (ℕ_discrete k (256 + n)) [
        | yes e ↦ rw (e, link_is) (let l = so.below (about_of b n) in omega arith)
        | no c ↦ rw (other_is k d c) (let l = so.below k in omega arith)
      ]
    ]

    -- the chains of before stand as they are: the new statement is in front of one of them
    kept : (y k : ℕ) → On links y (get_or links k 0) → On front y (get_or links k 0)
    kept y k o =
        on_same links front y n (λ s l. other_is (256 + s) (λ e. let a = about_below n in omega arith) (λ e. omega arith)) (get_or links k 0)
        (let l = so.below k in omega arith)
        o

    front_stands : (y : ℕ) → y < suc n → true ≡ is_statement b y → On front y (get_or front (about_of b y) 0)
    front_stands y l e = elim (ℕ_discrete y n) [
      | yes q ↦ rw (q, last_is) (here n some refl)
      | no d ↦
          let o = so.stands y (omega arith) e in
          elim (ℕ_discrete (about_of b y) (about_of b n)) [
            | yes q ↦
                let z = so.below (about_of b n) in
                rw (q, last_is) (later n some (rw (before_is front n (get_or links (about_of b n) 0) link_is (omega arith)) (kept y (about_of b n) (rw q at o))))
            | no c ↦ rw (other_is (about_of b y) c (λ q. let a = about_below y in omega arith)) (kept y (about_of b y) o)
          ]
    ]

    in_front_lem : Chains b front (suc n)
    in_front_lem = record { wide = front_length_lem links (about_of b n) n ∙ so.wide; below = front_below; stands = front_stands }

  -- a record that is no statement
  passed_by : (links : List ℕ) (n : ℕ) → is_statement b n ≡ false → Chains b links n → Chains b links (suc n)
  passed_by links n e so =
      record {
        wide = so.wide;
        below = λ k. let l = so.below k in omega arith;
        stands = λ y l t. elim (ℕ_discrete y n) [ yes q ↦ apart (t ∙ ap (is_statement b) q ∙ e) | no d ↦ so.stands y (omega arith) t ];
      }

  module _ (first : (kind_at b 0 ≡ 8 → ⊥) × (kind_at b 0 ≡ 9 → ⊥) × (kind_at b 0 ≡ 10 → ⊥)) where
    not_first : (n : ℕ) → is_statement b n ≡ true → n ≡ 0 → ⊥
    not_first n e z =
        let k = statement_kind b 0 (ap (is_statement b) (sym z) ∙ e) in
        let n8 = first.0 in
        let n9 = first.1 in
        let n10 = first.2 in
        omega arith

    -- one record more
    one_more_lem : (links : List ℕ) (n : ℕ) → n < 256 → Chains b links n → Chains b (linked_one b n links) (suc n)
    unfolding linked_one
    one_more_lem links n l so = go (is_statement b n) refl
      where
        go : (v : Bool) → is_statement b n ≡ v → Chains b (cond v (in_front links (about_of b n) n) links) (suc n)
        go true e = in_front_lem links n (not_first n e) l so
        go false e = passed_by links n e so

    pub chains : (n : ℕ) → n ≤ 256 → Chains b (linked_upto b n (replicate 512 0)) n
    unfolding linked_upto
    chains zero l = record { wide = length-replicate {A = ℕ} 512 0; below = λ k. rw (zeros 512 k) (omega arith); stands = λ y h e. absurd (omega arith) }
    chains (suc n) l = one_more_lem (linked_upto b n (replicate 512 0)) n (omega arith) (chains n (omega arith))

    -- CHAINED: every statement stands in the chain of its key or secret
    pub chained : (n : ℕ) → n ≤ 256 → Chained b (linked b n (replicate 512 0)) n
    unfolding linked last_about
    chained n l =
        rw (le-leb n 256 l)
        (record {
          shared = λ y h e. rw (← about_other b y (λ z. omega arith)) ((chains n l).stands y h (statement_is b y (omega arith) (omega arith)));
          public = λ y h e. rw (← about_nine b y e) ((chains n l).stands y h (statement_is b y (omega arith) (omega arith)));
          secret = λ y h e. rw (← about_other b y (λ z. omega arith)) ((chains n l).stands y h (statement_is b y (omega arith) (omega arith)));
        })

    -- the chains lead to records of the book
    pub linked_below : (n : ℕ) → n ≤ 256 → 0 < n → (k : ℕ) → get_or (linked b n (replicate 512 0)) k 0 < n
    unfolding linked
    linked_below n l h k = rw (le-leb n 256 l) (let z = (chains n l).below k in omega arith)
