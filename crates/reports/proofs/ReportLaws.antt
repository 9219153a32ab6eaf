-- Laws that the proofs of the functions cite, over plain variables.
use Prim.Native.Nat.{ℕ, zero, suc, ◌+◌, ◌*◌, ◌≤◌, ◌<◌}
use native.Mathlib.Numerals.{add-one}
use native.Mathlib.Decide.{ℕ_discrete}
use native.Mathlib.Omega.{arith}
use mathlib.Core.Path.{◌≡◌, refl, sym, ap, ap₂, ◌∙◌}
use mathlib.Core.List.{List, [], ◌∷◌, ◌++◌, append_assoc, append-nil}
use mathlib.Core.Bool.{Bool, true, false, cond, not}
use lib.ListN.{length, get_or, set, replicate, take, length-append, length-map, length-take}
use lib.Seq.{sets, get_or-set_same, get_or-set_other, take_all}
use borrow.Author.Tests.{ne_eqb, lt-ltb, le-ltb}
use Rattle.logic.specs.declared.Record.{Record}
use Rattle.logic.specs.Place.{rank}
use Rattle.logic.specs.Honesty.{is_to_be_believed, is_before, belief_byte, Pair, pair, pair_bytes, report_bytes}
use Rattle.format.specs.Index.{unpacked, look_in, message_in}
use Rattle.digits.specs.Puts.{Appends}
use Rattle.digits.proofs.Puts.{Writes, writes_none, writes_then, writes_as, front_written}
use Rattle.written.specs.Stated.{records_in}
use Rattle.written.proofs.Laws.{look_is}
use Rattle.places.specs.Places.{Sized, belief_place}
use Rattle.places.proofs.Laws.{opened_is}
use Rattle.walks.specs.Walk.{walk_from}
use Rattle.reports.specs.Pairs.{Ranked, is_named, named_below, of_message, pairs_upto, pairs_in}

-- RANKS: one more is listed
pub ranked_more : (fs : List Record) (x : ℕ) (ranks : List ℕ) {r : ℕ} → Ranked fs x ranks → x < length ranks → r ≡ rank fs x → Ranked fs (x + 1) (set ranks x r)
ranked_more fs x ranks {r} h l e y b =
    elim (ℕ_discrete y x) [
      | yes d ↦ (rw (d, get_or-set_same ranks x r 0 l) e)
      | no d ↦ get_or-set_other ranks x y r 0 d ∙ h y (omega arith)
    ]

-- behind the formulas the rank is the number of principals
pub rank_past : (fs : List Record) (x : ℕ) {n p : ℕ} → Sized fs n p → n ≤ x → p ≡ rank fs x
unfolding rank
rank_past fs x s l = s.principals ∙ rw (take_all x fs (let e = s.formulas in omega arith)) refl

-- at most f formulas are there
pub sized_within : (f : ℕ) (index : List ℕ) {n p : ℕ} → Sized (records_in f index) n p → n ≤ f
unfolding records_in
sized_within f index s = let e = s.formulas ∙ (length-map (take f index) unpacked ∙ length-take f index) in omega arith

-- THE TESTS
pub byte_is : (f : ℕ) (index t : List ℕ) (m P x : ℕ) {n p a b z v : ℕ} {r : Record} {c : Bool} → Sized (records_in f index) n p → r ≡ look_in f index x
    → a ≡ rank (records_in f index) P → b ≡ rank (records_in f index) r.first → z ≡ belief_place n p a x r b → v ≡ get_or t z 0 → c ≡ is_before m v
    → c ≡ is_before m (belief_byte (records_in f index) t P x)
byte_is f index t m P x s er ea eb ez ev ec =
    ec ∙ ap (λ (w : ℕ). is_before m w) (ev ∙ ap (λ (w : ℕ). get_or t w 0) (ez ∙ opened_is f index s P x ea er eb))

module _ (f : ℕ) (index t marks : List ℕ) (m p x : ℕ) where
  abbrev fs : List Record
  fs = records_in f index

  pub unmarked : {i v : ℕ} → i ≡ x → v ≡ get_or marks (2 * i + 1) 0 → v ≡ 0 → false ≡ is_named fs t marks m p x
  unfolding is_named
  unmarked ei ev e = rw (← ei, ← ev, e) refl

  pub unasked : {i v k : ℕ} {b : Bool} → i ≡ x → v ≡ get_or marks (2 * i + 1) 0 → (v ≡ 0 → ⊥) → k ≡ (look_in f index x).kind → b ≡ is_to_be_believed k → b ≡ false
      → b ≡ is_named fs t marks m p x
  unfolding is_named
  unasked ei ev n ek eb e = rw (← ei, ← ev, ne_eqb _ 0 n, ← look_is f index _, ei, ← ek, ← eb, e) refl

  pub named_is : {i v k : ℕ} {b c : Bool} → i ≡ x → v ≡ get_or marks (2 * i + 1) 0 → (v ≡ 0 → ⊥) → k ≡ (look_in f index x).kind → b ≡ is_to_be_believed k → b ≡ true
      → c ≡ is_before m (belief_byte fs t p x) → not c ≡ is_named fs t marks m p x
  unfolding is_named
  named_is ei ev n ek eb e ec = rw (← ec, ← look_is f index x, ← ek, ← eb, e, ← ei, ← ev, ne_eqb _ 0 n) refl

-- BYTES: those of lists one behind the other
pub report_append : (k l : List Pair) → report_bytes (k ++ l) ≡ report_bytes k ++ report_bytes l
unfolding report_bytes
report_append [] l = refl
report_append (a ∷ k) l = ap (λ (s : List ℕ). pair_bytes a ++ s) (report_append k l) ∙ sym (append_assoc (pair_bytes a) (report_bytes k) (report_bytes l))

pub pairs_one : (m x : ℕ) → report_bytes (pair m x ∷ []) ≡ pair_bytes (pair m x)
unfolding report_bytes
pairs_one m x = append-nil (pair_bytes (pair m x))

module _ (named : ℕ → Bool) (m : ℕ) where
  pub named_none : (o : List ℕ) (at : ℕ) → Writes o at (report_bytes (named_below named m 0)) o at
  unfolding named_below report_bytes
  named_none o at = writes_none o at

  named_step : (x : ℕ) {c : Bool} → c ≡ named x
      → report_bytes (named_below named m x) ++ report_bytes (cond c (pair m x ∷ []) []) ≡ report_bytes (named_below named m (x + 1))
  unfolding named_below
  named_step x {c} e =
      sym (report_append (named_below named m x) (cond c (pair m x ∷ []) []))
      ∙ ap (λ (d : Bool). report_bytes (named_below named m x ++ cond d (pair m x ∷ []) [])) e
      ∙ ap (λ (n : ℕ). report_bytes (named_below named m n)) (sym (add-one x))

  pub named_more : {o p q : List ℕ} {at a b : ℕ} (x : ℕ) {c : Bool} → Writes o at (report_bytes (named_below named m x)) p a → c ≡ named x → c ≡ true
      → Writes p a (pair_bytes (pair m x)) q b → Writes o at (report_bytes (named_below named m (x + 1))) q b
  named_more x {c} h e t g =
      writes_as (ap (λ (l : List ℕ). report_bytes (named_below named m x) ++ l) (sym (pairs_one m x)) ∙ named_step x (sym t ∙ e)) (writes_then h g)

  pub named_less : {o p : List ℕ} {at a : ℕ} (x : ℕ) {c : Bool} → Writes o at (report_bytes (named_below named m x)) p a → c ≡ named x → c ≡ false
      → Writes o at (report_bytes (named_below named m (x + 1))) p a
  unfolding report_bytes
  named_less x {c} h e t = writes_as (sym (append-nil (report_bytes (named_below named m x))) ∙ named_step x (sym t ∙ e)) h

module _ (look : ℕ → Record) (fs : List Record) (t : List ℕ) (n : ℕ) (message : ℕ → Record) where
  pub pairs_none : (o : List ℕ) (at : ℕ) → Writes o at (report_bytes (pairs_upto look fs t n message 0)) o at
  unfolding pairs_upto report_bytes
  pairs_none o at = writes_none o at

  pub pairs_more : {o p q : List ℕ} {at a b : ℕ} (k : ℕ) → Writes o at (report_bytes (pairs_upto look fs t n message k)) p a
      → Writes p a (report_bytes (of_message look fs t n (k + 1) (message (k + 1)))) q b → Writes o at (report_bytes (pairs_upto look fs t n message (k + 1))) q b
  unfolding pairs_upto
  pairs_more k h g =
      writes_as (sym (report_append (pairs_upto look fs t n message k) (of_message look fs t n (k + 1) (message (k + 1))))
      ∙ ap (λ (i : ℕ). report_bytes (pairs_upto look fs t n message k ++ of_message look fs t n i (message i))) (add-one k)
      ∙ ap (λ (i : ℕ). report_bytes (pairs_upto look fs t n message i)) (sym (add-one k)))
      (writes_then h g)

-- HOW LONG A REPORT IS: four bytes for a formula of a message at the most
named_short : (named : ℕ → Bool) (m n : ℕ) → length (report_bytes (named_below named m n)) ≤ 4 * n
unfolding named_below report_bytes
named_short named m zero = omega arith
named_short named m (suc n) =
    let h = named_short named m n in
    let g = least (named n) in
    rw (report_append (named_below named m n) (cond (named n) (pair m n ∷ []) []), length-append) (omega arith)
  where
    least : (b : Bool) → length (report_bytes (cond b (pair m n ∷ []) [])) ≤ 4
    least true = omega arith
    least false = omega arith

pub report_short : (look : ℕ → Record) (fs : List Record) (t : List ℕ) (n : ℕ) (message : ℕ → Record) (k : ℕ) → n ≤ 256
    → length (report_bytes (pairs_upto look fs t n message k)) ≤ 1024 * k
unfolding pairs_upto report_bytes of_message
report_short look fs t n message zero l = omega arith
report_short look fs t n message (suc k) l =
    let h = report_short look fs t n message k l in
    let g = named_short (is_named fs t (walk_from look (message (suc k)).first (message (suc k)).third (replicate 512 0)) (suc k) (message (suc k)).first) (suc k) n in
    rw (report_append (pairs_upto look fs t n message k) (of_message look fs t n (suc k) (message (suc k))), length-append) (omega arith)

-- the whole, at the front of the buffer that a writer was made from
pub report_is : (index : List ℕ) (f k : ℕ) (t : List ℕ) {o q q' p : List ℕ} {a e i : ℕ} → f ≤ 256 → i ≡ f → k ≤ 65535 → (p ≡ o) × (a ≡ 0)
    → Writes p a (report_bytes (pairs_upto (look_in i index) (records_in i index) t i (message_in index) k)) q e → q' ≡ q
    → (q' ≡ sets o 0 (report_bytes (pairs_in index f k t))) × (e ≡ length (report_bytes (pairs_in index f k t)))
unfolding pairs_in
report_is index f k t {i = i} l d few w h g =
    let short = report_short (look_in i index) (records_in i index) t i (message_in index) k (omega arith) in
    let x = front_written {m = 67107840} w h g (omega arith) (omega arith) in
    rw (le-ltb 256 f l, ← d) (x.0, x.1)

pub report_none : (index : List ℕ) (f k : ℕ) (t o : List ℕ) → 256 < f
    → (o ≡ sets o 0 (report_bytes (pairs_in index f k t))) × (0 ≡ length (report_bytes (pairs_in index f k t)))
unfolding pairs_in report_bytes
report_none index f k t o l = rw (lt-ltb 256 f l) (refl, refl)

pub message_is : (look : ℕ → Record) (fs : List Record) (t : List ℕ) (f m : ℕ) {o q marks : List ℕ} {at e : ℕ} {r s : Record} → r ≡ s
    → marks ≡ walk_from look r.first r.third (replicate 512 0)
    → Appends o at (report_bytes (named_below (is_named fs t marks m r.first) m f)) q e
    → Appends o at (report_bytes (of_message look fs t f m s)) q e
unfolding of_message
message_is look fs t f m er ew h = rw (← er, ← ew) h

-- the pairs depend on the messages 1 to k alone
pub pairs_by : (look : ℕ → Record) (fs : List Record) (t : List ℕ) (n : ℕ) (message other : ℕ → Record) (k : ℕ)
    → ((m : ℕ) → 1 ≤ m → m ≤ k → message m ≡ other m) → pairs_upto look fs t n message k ≡ pairs_upto look fs t n other k
unfolding pairs_upto
pairs_by look fs t n message other zero h = refl
pairs_by look fs t n message other (suc k) h =
    ap₂ (λ (a b : List Pair). a ++ b) (pairs_by look fs t n message other k (λ m l j. h m l (omega arith)))
    (ap (of_message look fs t n (suc k)) (h (suc k) (omega arith) (omega arith)))
