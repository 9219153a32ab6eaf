-- Laws that the proofs of the pass over instances cite, over plain variables. Assumes nothing.
use Prim.Native.Nat.{ℕ, ◌+◌, ◌-◌, ◌<◌}
use native.Mathlib.Numerals.{one-add}
use native.Mathlib.Omega.{arith}
use mathlib.Core.Path.{◌≡◌, refl, sym, ap, ◌∙◌}
use mathlib.Core.Bool.{Bool, true, false, ◌&&◌}
use lib.ListN.{set}
use lib.Dec.{eqb}
use borrow.Author.Tests.{eq-eqb, ne_eqb}
use Rattle.std.specs.Prelude.{Some, None}
use Rattle.logic.specs.declared.Record.{Record}
use Rattle.matching.specs.Instance.{Images, as_image, image_in, may_stand, may_all_stand, with_images, has_three, fields_of, is_fixed, is_kept, onward, are_kept, left_by}

and_true : (b : Bool) → (b && true) ≡ b
and_true true = refl
and_true false = refl

-- The fields of two records of kind k, one after the other: what is found of each, and the table behind it.
module _ (t : Images) (k : ℕ) (r q : Record) where
  abbrev Found : Bool → Images → Type 0
  Found b u = (b ≡ may_all_stand t (fields_of k r) (fields_of k q)) × (u ≡ with_images t (fields_of k r) (fields_of k q))

  pub one_field : {b₁ : Bool} {t₁ : Images} → (b₁ ≡ may_stand t r.first q.first) × (t₁ ≡ set t r.first (as_image q.first)) → k ≡ 11 → Found b₁ t₁
  unfolding fields_of may_all_stand with_images
  one_field e k = (rw (eq-eqb _ 11 k, and_true (may_stand t r.first q.first)) e.0, rw (eq-eqb _ 11 k) e.1)

  module _ {b₁ b₂ three : Bool} {t₁ t₂ : Images} (e : (b₁ ≡ may_stand t r.first q.first) × (t₁ ≡ set t r.first (as_image q.first))) (n : k ≡ 11 → ⊥)
      (f : (b₂ ≡ may_stand t₁ r.second q.second) × (t₂ ≡ set t₁ r.second (as_image q.second))) (h : three ≡ has_three k) where
    module _ (m : three ≡ false) where
      pub two_fields : (b : Bool) → b ≡ (b₁ && b₂) → Found b t₂
      unfolding fields_of may_all_stand with_images
      two_fields b d =
          let s = sym h ∙ m in (
            d ∙ rw (ne_eqb k 11 n, s, e.0, f.0, e.1, and_true (may_stand (set t r.first (as_image q.first)) r.second q.second)) refl,
            f.1 ∙ rw (ne_eqb k 11 n, s, e.1) refl,
          )

    module _ (m : three ≡ true) {b₃ : Bool} {t₃ : Images} (g : (b₃ ≡ may_stand t₂ r.third q.third) × (t₃ ≡ set t₂ r.third (as_image q.third))) where
      pub three_fields : (b : Bool) → b ≡ (b₁ && (b₂ && b₃)) → Found b t₃
      unfolding fields_of may_all_stand with_images
      three_fields b d =
          let s = sym h ∙ m in
          let t₂ = set (set t r.first (as_image q.first)) r.second (as_image q.second) in (
            d ∙ rw (ne_eqb k 11 n, s, e.0, f.0, g.0, f.1, e.1, and_true (may_stand t₂ r.third q.third)) refl,
            g.1 ∙ rw (ne_eqb k 11 n, s, f.1, e.1) refl,
          )

-- Formula i, with the image x.
module _ (look : ℕ → Record) (v : ℕ) (t : Images) (i : ℕ) where
  abbrev Kept : Bool → Images → Type 0
  Kept b u = (b ≡ is_kept look v t i (image_in t i)) × (u ≡ onward look v t i (image_in t i))

  pub without_image : None ≡ image_in t i → Kept true t
  unfolding is_kept onward
  without_image e = (rw (← e), rw (← e))

  module _ {x : ℕ} (ex : Some x ≡ image_in t i) {q : Record} (eq : q ≡ look x) where
    pub for_variable : i ≡ v → Kept (eqb q.kind 2) t
    unfolding is_kept onward
    for_variable e = (rw (← ex, eq-eqb i v e, eq), rw (← ex, eq-eqb i v e))

    module _ (other : i ≡ v → ⊥) {r : Record} (er : r ≡ look i) {fixed : Bool} (ef : fixed ≡ is_fixed r.kind) where
      pub for_itself : fixed ≡ true → Kept (eqb x i) t
      unfolding is_kept onward
      for_itself e =
          let s : is_fixed (look i).kind ≡ true = ap (λ (y : Record). is_fixed y.kind) (sym er) ∙ (sym ef ∙ e) in
          (rw (← ex, ne_eqb i v other, s), rw (← ex, ne_eqb i v other, s))

      module _ (e : fixed ≡ false) where
        moves : is_fixed (look i).kind ≡ false
        moves = ap (λ (y : Record). is_fixed y.kind) (sym er) ∙ (sym ef ∙ e)

        pub another_kind : (r.kind ≡ q.kind → ⊥) → Kept false t
        unfolding is_kept onward
        another_kind n =
            let m = ne_eqb (look i).kind (look x).kind (λ z. n (ap (λ (y : Record). y.kind) er ∙ (z ∙ ap (λ (y : Record). y.kind) (sym eq)))) in
            (rw (← ex, ne_eqb i v other, moves, m), rw (← ex, ne_eqb i v other, moves, m))

        pub by_fields : r.kind ≡ q.kind → {b : Bool} {u : Images} → Found t r.kind r q b u → Kept b u
        unfolding is_kept onward
        by_fields k f =
            let m = eq-eqb (look i).kind (look x).kind (ap (λ (y : Record). y.kind) (sym er) ∙ (k ∙ ap (λ (y : Record). y.kind) eq)) in (
              f.0 ∙ rw (← ex, ne_eqb i v other, moves, m, er, eq) refl,
              f.1 ∙ rw (← ex, ne_eqb i v other, moves, m, er, eq) refl,
            )

-- The formulas from i down: formula i is the first.
module _ (look : ℕ → Record) (v : ℕ) (t : Images) (i : ℕ) {b : Bool} {u : Images} (k : Kept look v t i b u) where
  pub down_stops : b ≡ false → (false ≡ are_kept look v t (1 + i)) × (u ≡ left_by look v t (1 + i))
  unfolding are_kept left_by
  down_stops n = let f = sym k.0 ∙ n in (rw (one-add, f) refl, rw (one-add, f) k.1)

  -- j is what is left of them
  left_with : (j : ℕ) → b ≡ true → j ≡ i → (are_kept look v u j ≡ are_kept look v t (1 + i)) × (left_by look v u j ≡ left_by look v t (1 + i))
  unfolding are_kept left_by
  left_with j n e = let f = sym k.0 ∙ n in (rw (one-add, f, k.1, e) refl, rw (one-add, f, k.1, e) refl)

  pub down_more : b ≡ true → 0 < i
      → (are_kept look v u (1 + (i - 1)) ≡ are_kept look v t (1 + i)) × (left_by look v u (1 + (i - 1)) ≡ left_by look v t (1 + i))
  down_more n l = left_with (1 + (i - 1)) n (omega arith)

  pub down_ends : b ≡ true → i ≡ 0 → (true ≡ are_kept look v t (1 + i)) × (u ≡ left_by look v t (1 + i))
  unfolding are_kept left_by
  down_ends n e = left_with 0 n (sym e)
