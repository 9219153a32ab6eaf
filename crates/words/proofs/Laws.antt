-- Laws that the proofs cite, over plain variables. Assumes nothing.
use Prim.Native.Nat.{ℕ, ◌+◌, ◌<◌, ◌≤◌}
use mathlib.Core.Path.{◌≡◌, refl, ap}
use mathlib.Core.Logic.{◌⊎◌, inl, inr}
use mathlib.Core.List.{List, [], ◌∷◌, ◌++◌}
use mathlib.Core.Bool.{Bool, true, false, cond}
use lib.ListN.{length, get_or}
use lib.Dec.{eqb}
use borrow.Author.Tests.{eq-eqb, ne_eqb, lt-leb, le-leb}
use Rattle.logic.specs.declared.Record.{Record}
use Rattle.logic.specs.declared.Audience.{Audience}
use Rattle.logic.specs.Formula.{key_field}
use Rattle.logic.specs.Text.{decimal, field_text}
use Rattle.words.specs.Words.{is_leaf, letter_of, is_hidden, leaf_text, is_named, inner_of, opening, every_text, before, sealing, has_owner, owner, is_pair, goes_on, ending}
use Rattle.words.specs.Lengths.{capped, front_length, length_by}

-- the text of a key field: K and V have their own letters
pub field_text_lem : (r : Record) {c : ℕ} → c ≡ cond (eqb r.kind 16) 86 75 → field_text (key_field r) ≡ c ∷ decimal r.first
field_text_lem r e = go (eqb r.kind 16) refl e
  where
    go : (b : Bool) → eqb r.kind 16 ≡ b → {c : ℕ} → c ≡ cond b 86 75 → field_text (key_field r) ≡ c ∷ decimal r.first
    go true h e = rw (h, e) refl
    go false h e = rw (h, e) refl

-- By kind. n is the name number of the field's formula.
module _ (look : ℕ → Record) (r : Record) where
  pub before_every : {n : ℕ} → r.kind ≡ 17 → n ≡ (look r.first).first → before look r ≡ every_text n
  unfolding before
  before_every h k = rw (eq-eqb r.kind 17 h, ← k) refl

  pub before_named : {n : ℕ} {b : Bool} → (r.kind ≡ 17 → ⊥) → b ≡ is_named r.kind → b ≡ true → n ≡ (look r.first).first → before look r ≡ 80 ∷ decimal n ++ opening r.kind
  unfolding before
  before_named d e h k = rw (ne_eqb r.kind 17 d, ← e, h, ← k)

  pub before_plain : {b : Bool} → (r.kind ≡ 17 → ⊥) → b ≡ is_named r.kind → b ≡ false → before look r ≡ opening r.kind
  unfolding before
  before_plain d e h = rw (ne_eqb r.kind 17 d, ← e, h)

  pub sealing_none : (r.kind < 5) ⊎ ((5 ≤ r.kind) × (6 < r.kind)) → sealing look r ≡ []
  unfolding sealing
  sealing_none (inl l) = rw (lt-leb 5 r.kind l)
  sealing_none (inr h) = rw (le-leb 5 r.kind h.0, lt-leb r.kind 6 h.1)

  -- q is the record of the key or variable, c its letter
  pub sealing_in : {q : Record} {c : ℕ} → 5 ≤ r.kind → r.kind ≤ 6 → q ≡ look r.second → c ≡ cond (eqb q.kind 16) 86 75
      → sealing look r ≡ (125 ∷ []) ++ (c ∷ decimal q.first)
  unfolding sealing
  sealing_in {q} l m k e = rw (le-leb 5 r.kind l, le-leb r.kind 6 m, ← k) (ap (λ (t : List ℕ). (125 ∷ []) ++ t) (field_text_lem q e))

  pub owner_second : {n : ℕ} → r.kind ≡ 9 → n ≡ (look r.second).first → owner look r ≡ 80 ∷ decimal n
  unfolding owner
  owner_second e k = rw (eq-eqb r.kind 9 e, ← k)

  pub owner_third : {n : ℕ} {b : Bool} → (r.kind ≡ 9 → ⊥) → b ≡ has_owner r.kind → b ≡ true → n ≡ (look r.third).first → owner look r ≡ 80 ∷ decimal n
  unfolding owner
  owner_third d e h k = rw (ne_eqb r.kind 9 d, ← e, h, ← k)

  pub owner_none : {b : Bool} → (r.kind ≡ 9 → ⊥) → b ≡ has_owner r.kind → b ≡ false → owner look r ≡ []
  unfolding owner
  owner_none d e h = rw (ne_eqb r.kind 9 d, ← e, h)

-- THE TEXT OF A LEAF: w is its text where its name is hidden, or where it is not
module _ (a : Audience) (x : ℕ) (r : Record) {b : Bool} (d : b ≡ is_hidden a r.kind) where
  pub leaf_hidden : b ≡ true → leaf_text a x r ≡ (78 ∷ []) ++ (35 ∷ decimal x)
  unfolding leaf_text
  leaf_hidden h = rw (← d, h) refl

  pub leaf_named : {c : ℕ} → b ≡ false → c ≡ letter_of r.kind → leaf_text a x r ≡ c ∷ decimal r.first
  unfolding leaf_text
  leaf_named h e = rw (← d, h, e) refl

-- THE LENGTH OF A FORMULA: k is what stands in the table for the inner formula, and s for the second.
module _ (a : Audience) (look : ℕ → Record) (ls : List ℕ) (x : ℕ) (r : Record) where
  pub leaf_length_is : {n : ℕ} {b : Bool} → b ≡ is_leaf r.kind → b ≡ true → n ≡ capped (length (leaf_text a x r)) → n ≡ length_by a look ls x r
  unfolding length_by
  leaf_length_is d h e = rw (← d, h) e

  module _ {i k s : ℕ} {l g : Bool} (d : l ≡ is_leaf r.kind) (h : l ≡ false) (ei : i ≡ inner_of r) (ek : k ≡ get_or ls i 0) (es : s ≡ get_or ls r.second 0) (eg : g ≡ goes_on look r) where
    pub list_length_is : {m n : ℕ} → g ≡ true → m ≡ capped (k + 2) → n ≡ capped (m + s) → n ≡ length_by a look ls x r
    unfolding length_by
    list_length_is b em en = rw (← d, h, ← eg, b, ← ei, ← ek, ← es, ← em) en

    module _ {n : ℕ} {p : Bool} (z : g ≡ false) (en : n ≡ front_length look r k) (ep : p ≡ is_pair r.kind) where
      pub front_length_is : p ≡ false → n ≡ length_by a look ls x r
      unfolding length_by
      front_length_is b = rw (← d, h, ← eg, z, ← ep, b, ← ei, ← ek) en

      pub pair_length_is : {e m v : ℕ} → p ≡ true → e ≡ length (ending r.kind) → m ≡ capped (s + e) → v ≡ capped (n + m) → v ≡ length_by a look ls x r
      unfolding length_by
      pair_length_is b ee em ev = rw (← d, h, ← eg, z, ← ep, b, ← ei, ← ek, ← es, ← ee, ← em, ← en) ev
