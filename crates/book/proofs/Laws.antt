-- Laws of reading one record and of counting, over plain variables. Assumes nothing.
use Prim.Native.Nat.{ℕ, suc, ◌+◌, ◌<◌, ◌≤◌}
use native.Mathlib.Omega.{arith}
use mathlib.Core.Path.{◌≡◌, refl, sym, ap, subst, ◌∙◌}
use mathlib.Core.List.{List, [], ◌∷◌}
use mathlib.Core.Bool.{Bool, true, false, cond, not, ◌||◌}
use lib.ListN.{length, get_or, take, set}
use lib.Seq.{length-take-le}
use lib.Dec.{T, eqb, eqb→eq}
use borrow.Author.Tests.{eq-eqb, ne_eqb, lt-ltb, le-ltb}
use Rattle.logic.specs.declared.Record.{Record}
use Rattle.logic.specs.declared.Counts.{Counts}
use Rattle.logic.specs.declared.Cause.{Cause}
use Rattle.logic.specs.Refusal.{number_of}
use Rattle.std.specs.Prelude.{Option, Some, None, Err, ◌==◌, position}
use Rattle.std.specs.Option.{unwrap_or}
use Rattle.logic.specs.declared.Cause.TheVariants.{NoSpace}
use Rattle.std.specs.List.{position_or_len}
use Rattle.std.proofs.lemmas.List.Recursion.{is_position_or_len}
use mir.Val.{bool_byte}
use Rattle.faults.specs.Fault.{told_fault}
use Rattle.logic.specs.Kind.{bodies, body_of, size_of, is_field, is_formula_record}
use Rattle.logic.specs.Record.{record_at}
use Rattle.logic.specs.Count.{of_kind, counts_of}
use Rattle.logic.specs.Book.{All}
use Rattle.logic.proofs.Tests.{T_true}
use Rattle.logic.proofs.Table.{at_each_kind, kinds, formula_bounds}
use Rattle.logic.proofs.Table.Kinds.{formula, assumption, message, goal}
use Rattle.logic.specs.Reading.{out_of_order, over_limit, is_dangling, is_misfit, is_not_rising, is_wrong_delegation, is_to_sender, is_no_statement, has_loose, is_after_last, fault_of}
use Rattle.format.specs.Index.{packed, slot_of, look_in, position_in}
use Rattle.format.specs.Variables.{variables_from, loose_in, allows_by}
use Rattle.book.specs.declared.Cursor.{Cursor}
use Rattle.logic.specs.declared.Refusal.{Refusal}
use Rattle.book.specs.Read.{records_in, one_more, place_among, is_among, fault_in, fault_at_in, note_in, bare_with, bound, behind, ReadIs}

module _ (n : Counts) (k : ℕ) where
  pub more_formulas : {p : ℕ} → is_formula_record k ≡ true → p ≡ cond (eqb k 1) (n.principals + 1) n.principals
      → record { formulas = n.formulas + 1; principals = p; assumptions = n.assumptions; messages = n.messages; goals = n.goals } ≡ one_more n k
  unfolding one_more
  more_formulas e ep =
      let b = formula_bounds k (subst T (sym e) tt) in
      rw (e, ne_eqb k 32 (omega arith), ne_eqb k 33 (omega arith), ne_eqb k 34 (omega arith), ep) refl

  pub more_others : {a m g : ℕ} → is_formula_record k ≡ false → a ≡ cond (eqb k 32) (n.assumptions + 1) n.assumptions
      → m ≡ cond (eqb k 33) (n.messages + 1) n.messages → g ≡ cond (eqb k 34) (n.goals + 1) n.goals
      → record { formulas = n.formulas; principals = n.principals; assumptions = a; messages = m; goals = g } ≡ one_more n k
  unfolding one_more
  more_others e ea em eg = rw (e, ne_eqb k 1 no_principal, ea, em, eg) refl
    where
      no_principal : k ≡ 1 → ⊥
      no_principal d = subst T (ap is_formula_record (sym d) ∙ e) tt

-- the place of the next record, if it is a formula
pub slot_formula : (n : Counts) (k : ℕ) → is_formula_record k ≡ true → n.formulas ≡ slot_of n k
unfolding slot_of
slot_formula n k e =
    let b = formula_bounds k (subst T (sym e) tt) in
    rw (ne_eqb k 32 (omega arith), ne_eqb k 33 (omega arith), ne_eqb k 34 (omega arith)) refl

-- one more where it counts
pub plus_one : (p : Bool) (n : ℕ) {k : ℕ} → k ≡ bool_byte p → n + k ≡ cond p (n + 1) n
plus_one true n e = rw e
plus_one false n e = rw e (omega arith)

-- the place of a formula record, as a search from the front tells it
module _ (n : Counts) (t : List ℕ) (r : Record) (l : n.formulas ≤ length t) where
  place_searched : position_in (packed r) (take n.formulas t) ≡ position_or_len (λ y. packed r == y) (take n.formulas t)
  unfolding position_in
  place_searched = is_position_or_len (position_in (packed r)) (λ y. packed r == y) refl (λ y ys. let e : (k : ℕ) → suc k ≡ 1 + k = λ k. omega arith in ap (cond (eqb (packed r) y) 0) (e (position_in (packed r) ys))) (take n.formulas t)

  pub place_told : is_formula_record r.kind ≡ true → {o : Option ℕ} → o ≡ position (λ y. packed r == y) (take n.formulas t)
      → o ≡ cond (is_among n t r) (Some (place_among n t r)) None
  unfolding is_among place_among
  place_told f e = e ∙ rw (f, ← place_searched, length-take-le n.formulas t l) refl

  pub no_place : is_formula_record r.kind ≡ false → None ≡ cond (is_among n t r) (Some (place_among n t r)) None
  unfolding is_among
  no_place f = rw f

-- What is put for the variables of a record of kind k, where v is their number and b the bound below which it is 0; and the next bound.
module _ (n : Counts) (k v b : ℕ) (t : List ℕ) where
  pub noted_other : is_formula_record k ≡ false → (b ≡ bare_with k b) × (t ≡ note_in n k v t)
  unfolding note_in bare_with
  noted_other e = (rw e refl, rw e refl)

  module _ (e : is_formula_record k ≡ true) where
    pub noted_bare : {u : List ℕ} → k < b → v ≡ 0 → u ≡ set t (variables_from + n.formulas) 0 → (b ≡ bare_with k b) × (u ≡ note_in n k v t)
    unfolding note_in bare_with
    noted_bare l z g = (rw (e, lt-ltb k b l) refl, rw (e, z) g)

    pub noted_formula : {u : List ℕ} → b ≤ k → u ≡ set t (variables_from + n.formulas) v → (0 ≡ bare_with k b) × (u ≡ note_in n k v t)
    unfolding note_in bare_with
    noted_formula l g = (rw (e, le-ltb k b l) refl, rw e g)

-- The same for a formula, by whether none before it has a variable.
module _ (n : Counts) (k v : ℕ) (t : List ℕ) (e : is_formula_record k ≡ true) where
  pub noted_still : (p : Bool) {u : List ℕ} → p ≡ true → k < 16 → (k < bound p → v ≡ 0) → u ≡ set t (variables_from + n.formulas) 0
      → (16 ≡ bare_with k (bound p)) × (u ≡ note_in n k v t)
  noted_still true d l z g = noted_bare n k v 16 t e l (z l) g
  noted_still false d l z g = absurd (subst T (sym d) tt)

  pub noted_first : (p : Bool) {u : List ℕ} → 16 ≤ k → u ≡ set t (variables_from + n.formulas) v → (0 ≡ bare_with k (bound p)) × (u ≡ note_in n k v t)
  noted_first true l g = noted_formula n k v 16 t e l g
  noted_first false l g = noted_formula n k v 0 t e (omega arith) g

  pub noted_later : (p : Bool) {u : List ℕ} → p ≡ false → u ≡ set t (variables_from + n.formulas) v → (0 ≡ bare_with k (bound p)) × (u ≡ note_in n k v t)
  noted_later true d g = absurd (subst T d tt)
  noted_later false d g = noted_formula n k v 0 t e (omega arith) g

-- A record of one byte has no field, and so no kind; any other has a first field.
pub no_field : (k : ℕ) → size_of (body_of k) ≡ 1 → is_field (body_of k).first ≡ false
unfolding body_of bodies
no_field k e =
    go (is_field (body_of k).first) (eqb (size_of (body_of k)) 1) (eq-eqb (size_of (body_of k)) 1 e)
    (at_each_kind (λ k b. not (is_field b.first) || not (eqb (size_of b) 1)) tt (λ k. tt) k)
  where
    go : (x y : Bool) → y ≡ true → T (not x || not y) → x ≡ false
    go false y d t = refl
    go true true d t = absurd t
    go true false d t = absurd (subst T (sym d) tt)

pub some_field : (k : ℕ) → (size_of (body_of k) ≡ 1 → ⊥) → is_field (body_of k).first ≡ true
unfolding body_of bodies
some_field k e =
    go (is_field (body_of k).first) (eqb (size_of (body_of k)) 1) (ne_eqb (size_of (body_of k)) 1 e)
    (at_each_kind (λ k b. is_field b.first || eqb (size_of b) 1) tt (λ k. tt) k)
  where
    go : (x y : Bool) → y ≡ false → T (x || y) → x ≡ true
    go true y d t = refl
    go false y d t = absurd (subst T d t)

-- Of tests in order the first that holds decides, whatever comes behind them all; where none holds, what comes behind does.
stays : (v : Bool) (k m : ℕ) {y z : ℕ} → (y ≡ suc m → z ≡ suc m) → cond v (suc k) y ≡ suc m → cond v (suc k) z ≡ suc m
stays true k m h e = e
stays false k m h e = h e

passes : (v : Bool) (k : ℕ) {y z w : ℕ} → (y ≡ 0 → z ≡ w) → cond v (suc k) y ≡ 0 → cond v (suc k) z ≡ w
passes true k h e = absurd (omega arith)
passes false k h e = h e

module _ (a b c d e w f g l h : Bool) where
  abbrev ordered : ℕ → ℕ
  ordered z = cond a 3 (cond b 9 (cond c 4 (cond d 5 (cond e 6 (cond w 23 (cond f 7 (cond g 10 (cond l 22 (cond h 11 z)))))))))

  stays_all : (z m : ℕ) → ordered 0 ≡ suc m → ordered z ≡ suc m
  stays_all z m =
      stays a 2 m (stays b 8 m (stays c 3 m (stays d 4 m (stays e 5 m (stays w 22 m (stays f 6 m (stays g 9 m (stays l 21 m (stays h 10 m
      (λ k. absurd (omega arith)))))))))))

  passes_all : (z : ℕ) → ordered 0 ≡ 0 → ordered z ≡ z
  passes_all z =
      passes a 2 (passes b 8 (passes c 3 (passes d 4 (passes e 5 (passes w 22 (passes f 6 (passes g 9 (passes l 21 (passes h 10 (λ k. refl))))))))))

-- The record at the front of the bytes s, where z is the size of its kind.
module _ (n : Counts) (t s : List ℕ) where
  module _ (z : ℕ) (ez : z ≡ size_of (body_of (get_or s 0 0))) where
    pub unread_kind : z ≡ 1 → 1 ≡ fault_at_in n t s
    unfolding fault_at_in
    unread_kind e = rw (no_field (get_or s 0 0) (sym ez ∙ e))

    module _ (h : z ≡ 1 → ⊥) where
      known : is_field (body_of (get_or s 0 0)).first ≡ true
      known = some_field (get_or s 0 0) (λ d. h (ez ∙ d))

      pub unread_length : length s < z → 2 ≡ fault_at_in n t s
      unfolding fault_at_in
      unread_length l = rw (known, ← ez, lt-ltb (length s) z l)

      pub read_on : {f : ℕ} → z ≤ length s → f ≡ fault_in n t (record_at s) → f ≡ fault_at_in n t s
      unfolding fault_at_in
      read_on l g = rw (known, ← ez, le-ltb (length s) z l) g

    pub read_behind : (c : Cursor) → record { at = c.at + z } ≡ behind s c
    read_behind c = rw ez

  -- Its fault, from what the tests say. That it is there already is the last of them.
  module _ {r : Record} {f : ℕ} (er : r ≡ record_at s) (ef : f ≡ fault_of n (look_in n.formulas t) (allows_by t) (loose_in t) false r) where
    look : ℕ → Record
    look = look_in n.formulas t

    pub fault_before : (m : ℕ) → f ≡ suc m → f ≡ fault_in n t (record_at s)
    unfolding fault_in fault_of look
    fault_before m e =
        rw (← er) (e ∙ sym (stays_all (out_of_order n r.kind) (over_limit n r.kind) (is_dangling n r) (is_misfit look r) (is_not_rising look r)
        (is_wrong_delegation (allows_by t) r) (is_to_sender r) (is_no_statement look r) (has_loose (loose_in t) r) (is_after_last n r) (cond (is_among n t r) 8 0) m (sym ef ∙ e)))

    pub fault_last : {q : Bool} {y : ℕ} → f ≡ 0 → q ≡ is_among n t r → y ≡ cond q 8 0 → y ≡ fault_in n t (record_at s)
    unfolding fault_in fault_of look
    fault_last {q} e eq ey =
        rw (← er, ← eq) (ey ∙ sym (passes_all (out_of_order n r.kind) (over_limit n r.kind) (is_dangling n r) (is_misfit look r) (is_not_rising look r)
        (is_wrong_delegation (allows_by t) r) (is_to_sender r) (is_no_statement look r) (has_loose (loose_in t) r) (is_after_last n r) (cond q 8 0) (sym ef ∙ e)))

-- A record that is not read has its fault, at its number.
pub untold : {e : Refusal} {k : Cause} {f p i : ℕ} (s : List ℕ) (c : Cursor) → e ≡ record { cause = k; place = p } → number_of k ≡ f → p ≡ i → ReadIs (Err e) f i s c
untold {f = f} {i = i} s c e q r = subst (λ (e : Refusal). (number_of e.cause ≡ f) × (e.place ≡ i)) (sym e) (q, r)

-- What is sound has no fault.
pub sound_zero : {x : ℕ} {v : Bool} → v ≡ eqb x 0 → v ≡ true → 0 ≡ x
sound_zero e h = sym (eqb→eq _ 0 (subst T (sym h ∙ e) tt))

-- What is not sound has a fault, and a cause.
pub cause_told : (f : Option Cause) {x : ℕ} {k : Cause} → told_fault f ≡ x → k ≡ unwrap_or f NoSpace → eqb x 0 ≡ false → number_of k ≡ x
cause_told (Some e) p q h = ap number_of q ∙ p
cause_told None p q h = absurd (subst T h (subst (λ (y : ℕ). T (eqb y 0)) p tt))

-- The records of a book are its formula records, assumptions, messages and goals.
pub records_counted : (rs : List Record) → All (λ r. T (is_field (body_of r.kind).first)) rs → records_in (counts_of rs) ≡ length rs
unfolding of_kind
records_counted [] h = refl
records_counted (r ∷ rs) h =
    let e = records_counted rs h.1 in
    elim (kinds r.kind h.0) [
      | formula f ↦
          let b = formula_bounds r.kind f in
          rw (T_true (is_formula_record r.kind) f, ne_eqb r.kind 32 (λ e. omega arith), ne_eqb r.kind 33 (λ e. omega arith), ne_eqb r.kind 34 (λ e. omega arith)) (omega arith)
      | assumption k ↦ rw k (omega arith)
      | message k ↦ rw k (omega arith)
      | goal k ↦ rw k (omega arith)
    ]
