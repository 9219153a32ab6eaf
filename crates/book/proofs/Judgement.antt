-- Entering a record, in terms of the counts n and the index t: the answer by what the tests say. Assumes nothing.
use Prim.Native.Nat.{ℕ, suc}
use mathlib.Core.Path.{◌≡◌, refl, sym, ap, ◌∙◌}
use mathlib.Core.List.{List}
use mathlib.Core.Bool.{Bool, true, false, cond}
use lib.ListN.{length, get_or}
use borrow.Author.Tests.{eq-eqb, ne_eqb}
use Rattle.std.specs.Prelude.{Option, Some, None}
use Rattle.logic.specs.declared.Cause.{Cause}
use Rattle.logic.specs.declared.Refusal.{Refusal}
use Rattle.logic.specs.Refusal.{number_of}
use Rattle.logic.specs.declared.Record.{Record}
use Rattle.logic.specs.declared.Counts.{Counts}
use Rattle.logic.specs.Kind.{body_of, size_of, is_field}
use Rattle.logic.specs.Record.{record_at}
use Rattle.logic.specs.Refusal.Entry.{present, added, turned_away}
use Rattle.logic.specs.Reading.{fault_of}
use Rattle.logic.specs.Entering.{number_in}
use Rattle.format.specs.Index.{look_in}
use Rattle.format.specs.Variables.{loose_in, allows_by}
use Rattle.book.proofs.Laws.{no_field, some_field}
use Rattle.book.specs.Read.{place_among, is_among, fault_in, appended_in, enter_in}

-- a refusal at the number of the record
pub away : {e : Refusal} {k : Cause} {p i : ℕ} → e ≡ record { cause = k; place = p } → p ≡ i → turned_away (number_of e.cause) e.place ≡ turned_away (number_of k) i
away e q = rw (e, q)

-- i records are present; `short` says that there is too little space; s are the bytes of the record
module _ (n : Counts) (t : List ℕ) (i : ℕ) (short : Bool) (s : List ℕ) where
  pub enter_empty : length s ≡ 0 → turned_away 2 i ≡ enter_in n t i short s
  unfolding enter_in
  enter_empty e = rw (eq-eqb (length s) 0 e)

  module _ (z : length s ≡ 0 → ⊥) (m : ℕ) (em : m ≡ size_of (body_of (get_or s 0 0))) where
    pub enter_unknown : m ≡ 1 → turned_away 1 i ≡ enter_in n t i short s
    unfolding enter_in
    enter_unknown e = rw (ne_eqb (length s) 0 z, no_field (get_or s 0 0) (sym em ∙ e))

    module _ (h : m ≡ 1 → ⊥) where
      known : is_field (body_of (get_or s 0 0)).first ≡ true
      known = some_field (get_or s 0 0) (λ d. h (em ∙ d))

      pub enter_length : (length s ≡ m → ⊥) → turned_away 2 i ≡ enter_in n t i short s
      unfolding enter_in
      enter_length l = rw (ne_eqb (length s) 0 z, known, ← em, ne_eqb (length s) m l)

      module _ (l : length s ≡ m) (r : Record) (er : r ≡ record_at s) (o : Option ℕ) (eo : o ≡ cond (is_among n t r) (Some (place_among n t r)) None) where
        whole : enter_in n t i short s ≡ cond (is_among n t r) (present (place_among n t r)) (appended_in (fault_in n t r) short i n r)
        unfolding enter_in
        whole = rw (ne_eqb (length s) 0 z, known, ← em, eq-eqb (length s) m l, ← er) refl

        pub enter_present : {p : ℕ} → o ≡ Some p → present p ≡ enter_in n t i short s
        enter_present {p} h = go (is_among n t r) (sym h ∙ eo) ∙ sym whole
          where
            go : (q : Bool) → Some p ≡ cond q (Some (place_among n t r)) None → present p ≡ cond q (present (place_among n t r)) (appended_in (fault_in n t r) short i n r)
            go true e = let d : p ≡ place_among n t r = cc in ap present d
            go false e = absurd (cc)

        module _ (k : o ≡ None) where
          among : is_among n t r ≡ false
          among = go (is_among n t r) (sym k ∙ eo)
            where
              go : (q : Bool) → None ≡ cond q (Some (place_among n t r)) None → q ≡ false
              go true e = absurd (cc)
              go false e = refl

          module _ (f : ℕ) (ef : f ≡ fault_of n (look_in n.formulas t) (allows_by t) (loose_in t) false r) where
            fault : fault_in n t r ≡ f
            unfolding fault_in
            fault = rw among (sym ef)

            pub enter_fault : (g : ℕ) → f ≡ suc g → turned_away f i ≡ enter_in n t i short s
            enter_fault g e = sym (whole ∙ rw (among, fault, e) refl)

            pub enter_short : f ≡ 0 → short ≡ true → turned_away 12 i ≡ enter_in n t i short s
            enter_short e u = sym (whole ∙ rw (among, fault, e, u) refl)

            pub enter_added : {x : ℕ} → f ≡ 0 → short ≡ false → x ≡ number_in n r.kind → added x ≡ enter_in n t i short s
            enter_added e u v = rw v (sym (whole ∙ rw (among, fault, e, u) refl))
