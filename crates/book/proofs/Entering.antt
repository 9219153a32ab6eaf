-- Entering a record: what is appended gives a book with one record more, and what is present is there already.
use Prim.Native.Nat.{ℕ, zero, suc, ◌+◌, ◌-◌, ◌≤◌, ◌<◌}
use native.Mathlib.Omega.{arith}
use mathlib.Core.Path.{◌≡◌, refl, sym, ap, ◌∙◌, subst}
use mathlib.Core.Bool.{Bool, true, false, not, cond}
use mathlib.Core.List.{List, [], ◌∷◌, ◌++◌, append_assoc, append-nil}
use lib.ListN.{length, get_or, take, drop, length-append, length-take, length-drop}
use lib.Seq.{take_all, take_at, drop_at, length-take-le}
use lib.Dec.{T, eqb, ltb, eqb→eq, ltb→lt, nltb→le}
use borrow.Author.Tests.{ltb-false}
use Rattle.logic.specs.declared.Record.{Record}
use Rattle.logic.specs.Kind.{body_of, is_field, size_of, is_formula_record}
use Rattle.logic.specs.Record.{record_at, bytes_of, bytes, no_record}
use Rattle.logic.specs.Count.{formulas, counts_of, position_of}
use Rattle.logic.specs.Refusal.{Outcome, Entry}
use Rattle.logic.specs.Refusal.Outcome.{accepted, refused}
use Rattle.logic.specs.Refusal.Entry.{present, added, turned_away}
use Rattle.logic.specs.Reading.{is_repeated, fault, reading}
use Rattle.logic.specs.Entering.{number_in, appended, enter_behind, enter_after, entering, written}
use Rattle.logic.specs.Book.{Book}
use Rattle.logic.proofs.Tests.{T_and}
use Rattle.logic.proofs.Bytes.{Bytes, record_whole, front_take, bytes_append, bytes_take}
use Rattle.logic.proofs.Same.{place_found_lem}
use Rattle.logic.proofs.Proper.{sound_proper}
use Rattle.logic.proofs.Follows.{follows_snoc}
use Rattle.logic.proofs.BookRead.{accepted_is_book, book_is_accepted, accepted_once}

-- whether a record was not turned away
abbrev pub is_entered : Entry → Bool
is_entered (present i) = true
is_entered (added i) = true
is_entered (turned_away f i) = false

-- what comes of the tests 1 and 2: the bytes are those of one record of a known kind
pub record OneRecord (rs : List Record) (short : Bool) (s : List ℕ) (x : Entry) : Type 0 where
  pub known : T (is_field (body_of (get_or s 0 0)).first)
  pub size : length s ≡ size_of (body_of (get_or s 0 0))
  pub then :
      cond (is_repeated rs (record_at s)) (present (position_of (record_at s) (formulas rs))) (appended (fault rs (record_at s)) short rs (record_at s))
      ≡ x

pub one_record : (rs : List Record) (short : Bool) (s : List ℕ) (x : Entry) → T (is_entered x) → enter_behind rs short s ≡ x → OneRecord rs short s x
unfolding enter_behind
one_record rs short s x t e =
    go (eqb (length s) 0) (is_field (body_of (get_or s 0 0)).first) (eqb (length s) (size_of (body_of (get_or s 0 0)))) (λ t. t)
    (eqb→eq (length s) _) e
  where
    on : Entry
    on = cond (is_repeated rs (record_at s)) (present (position_of (record_at s) (formulas rs))) (appended (fault rs (record_at s)) short rs (record_at s))

    away : (f i : ℕ) → turned_away f i ≡ x → ⊥
    away f i e = subst (λ (y : Entry). T (is_entered y)) (sym e) t

    go : (a b c : Bool) → (T b → T (is_field (body_of (get_or s 0 0)).first)) → (T c → length s ≡ size_of (body_of (get_or s 0 0)))
        → cond a (turned_away 2 (length rs)) (cond (not b) (turned_away 1 (length rs)) (cond (not c) (turned_away 2 (length rs)) on)) ≡ x
        → OneRecord rs short s x
    go true b c f g e = absurd (away 2 (length rs) e)
    go false false c f g e = absurd (away 1 (length rs) e)
    go false true false f g e = absurd (away 2 (length rs) e)
    go false true true f g e = record { known = f tt; size = g tt; then = e }

-- what it takes that the bytes s are appended behind the records rs
pub record Appends (rs : List Record) (short : Bool) (s : List ℕ) (i : ℕ) : Type 0 where
  pub known : T (is_field (body_of (get_or s 0 0)).first)
  pub size : length s ≡ size_of (body_of (get_or s 0 0))
  pub new : T (not (is_repeated rs (record_at s)))
  pub sound : fault rs (record_at s) ≡ 0
  pub room : T (not short)
  pub number : i ≡ number_in (counts_of rs) (record_at s).kind

-- two answers of different sorts are not equal
differ : (i j : ℕ) → present i ≡ added j → ⊥
differ i j e = let z : ◌≡◌ {A = ℕ} 0 1 = cc in omega arith

appended_is : (f : ℕ) (short : Bool) (rs : List Record) (r : Record) (i : ℕ) → appended f short rs r ≡ added i
    → (f ≡ 0) × T (not short) × (i ≡ number_in (counts_of rs) r.kind)
appended_is zero true rs r i e = absurd (let z : ◌≡◌ {A = ℕ} 0 1 = cc in omega arith)
appended_is zero false rs r i e = (refl, tt, (cc))
appended_is (suc f) short rs r i e = absurd (let z : ◌≡◌ {A = ℕ} 0 1 = cc in omega arith)

pub added_appends : (rs : List Record) (short : Bool) (s : List ℕ) (i : ℕ) → enter_behind rs short s ≡ added i → Appends rs short s i
added_appends rs short s i e =
    let h = one_record rs short s (added i) tt e in
    let a = go (is_repeated rs (record_at s)) h.then in
    let b = appended_is (fault rs (record_at s)) short rs (record_at s) i a.1 in
    record {
      known = h.known;
      size = h.size;
      new = a.0;
      sound = b.0;
      room = b.1;
      number = b.2;
    }
  where
    go : (d : Bool) → cond d (present (position_of (record_at s) (formulas rs))) (appended (fault rs (record_at s)) short rs (record_at s)) ≡ added i
        → T (not d) × (appended (fault rs (record_at s)) short rs (record_at s) ≡ added i)
    go true e = absurd (differ (position_of (record_at s) (formulas rs)) i e)
    go false e = (tt, e)

-- what it takes that the bytes s are found present as formula i
pub record Found (rs : List Record) (s : List ℕ) (i : ℕ) : Type 0 where
  pub known : T (is_field (body_of (get_or s 0 0)).first)
  pub size : length s ≡ size_of (body_of (get_or s 0 0))
  pub repeated : T (is_repeated rs (record_at s))
  pub number : i ≡ position_of (record_at s) (formulas rs)

appended_new : (f : ℕ) (short : Bool) (rs : List Record) (r : Record) (i : ℕ) → appended f short rs r ≡ present i → ⊥
appended_new zero true rs r i e = let z : ◌≡◌ {A = ℕ} 0 1 = cc in omega arith
appended_new zero false rs r i e = let z : ◌≡◌ {A = ℕ} 0 1 = cc in omega arith
appended_new (suc f) short rs r i e = let z : ◌≡◌ {A = ℕ} 0 1 = cc in omega arith

pub present_found : (rs : List Record) (short : Bool) (s : List ℕ) (i : ℕ) → enter_behind rs short s ≡ present i → Found rs s i
present_found rs short s i e =
    let h = one_record rs short s (present i) tt e in
    let a = go (is_repeated rs (record_at s)) h.then in
    record { known = h.known; size = h.size; repeated = a.0; number = a.1 }
  where
    go : (d : Bool) → cond d (present (position_of (record_at s) (formulas rs))) (appended (fault rs (record_at s)) short rs (record_at s)) ≡ present i
        → T d × (i ≡ position_of (record_at s) (formulas rs))
    go true e = (tt, (cc))
    go false e = absurd (appended_new (fault rs (record_at s)) short rs (record_at s) i e)

pub found_at : (rs : List Record) (s : List ℕ) (i : ℕ) → Found rs s i
    → (i < length (formulas rs)) × (get_or (formulas rs) i no_record ≡ record_at s)
unfolding is_repeated
found_at rs s i f =
    let l = ltb→lt (position_of (record_at s) (formulas rs)) (length (formulas rs)) (T_and (is_formula_record (record_at s).kind) _ f.repeated).1 in
    rw f.number (l, place_found_lem (record_at s) (formulas rs) l)

-- a record that is not turned away is entered behind the records of an accepted book
pub record Behind (b : List ℕ) (used : ℕ) (s : List ℕ) (x : Entry) : Type 0 where
  pub records : List Record
  pub fits : used ≤ length b
  pub read : reading (take used b) ≡ accepted records
  pub entry : enter_behind records (ltb (length b - used) (length s)) s ≡ x

pub entered_behind : (b : List ℕ) (used : ℕ) (s : List ℕ) (x : Entry) → T (is_entered x) → entering b used s ≡ x → Behind b used s x
unfolding entering
entered_behind b used s x t e = go (ltb (length b) used) refl (reading (take used b)) refl e
  where
    go : (c : Bool) → ltb (length b) used ≡ c → (o : Outcome (List Record)) → reading (take used b) ≡ o
        → cond c (turned_away 12 0) (enter_after o (ltb (length b - used) (length s)) s) ≡ x → Behind b used s x
    go true l o h e = absurd (subst (λ (y : Entry). T (is_entered y)) (sym e) t)
    go false l (refused f i) h e = absurd (subst (λ (y : Entry). T (is_entered y)) (sym e) t)
    go false l (accepted rs) h e = record { records = rs; fits = ltb-false (length b) used l; read = h; entry = e }

-- an appended record has room
pub added_room : (b : List ℕ) (used : ℕ) (s : List ℕ) (i : ℕ) → entering b used s ≡ added i → used + length s ≤ length b
added_room b used s i e =
    let h = entered_behind b used s (added i) tt e in
    let l = nltb→le (length b - used) (length s) (added_appends h.records _ s i h.entry).room in
    omega (arith, h.fits)

-- the book behind which it is appended, then its bytes
written_front : (b s : List ℕ) (used i : ℕ) → used ≤ length b → take (used + length s) (written (added i) b used s) ≡ take used b ++ s
written_front b s used i l =
    ap (take (used + length s)) (sym (append_assoc (take used b) s (drop (used + length s) b)))
    ∙ take_at (take used b ++ s) _ (used + length s) (rw (length-append, length-take-le used b l))

one_book : (rs : List Record) (short : Bool) (s : List ℕ) (i : ℕ) → Bytes s → Book rs → Appends rs short s i
    → Book (rs ++ (record_at s ∷ [])) × (bytes (rs ++ (record_at s ∷ [])) ≡ bytes rs ++ s)
unfolding record_at bytes
one_book rs short s i b k h = (
  follows_snoc [] rs (record_at s) k (sound_proper rs (record_at s) h.known (record_whole s b) h.sound),
  bytes_append rs (record_at s ∷ [])
      ∙ ap (λ (x : List ℕ). bytes rs ++ x)
      (append-nil (bytes_of (record_at s)) ∙ sym (front_take s b (omega (arith, h.size))) ∙ take_all (size_of (body_of (get_or s 0 0))) s (omega (arith, h.size))),
)

-- what is appended makes a book with one record more
pub added_accepted : (b : List ℕ) (used : ℕ) (s : List ℕ) (i : ℕ) (rs : List Record) → Bytes b → Bytes s
    → entering b used s ≡ added i → reading (take used b) ≡ accepted rs
    → reading (take (used + length s) (written (added i) b used s)) ≡ accepted (rs ++ (record_at s ∷ []))
added_accepted b used s i rs c d e r =
    let h = entered_behind b used s (added i) tt e in
    let k = accepted_is_book (take used b) rs (bytes_take used b c) r in
    let same : h.records ≡ rs = accepted_once (take used b) h.records rs h.read r in
    let a = rw same at (added_appends h.records _ s i h.entry) in
    let n = one_book rs _ s i d k.1 a in
    ap reading (written_front b s used i h.fits)
    ∙ book_is_accepted (take used b ++ s) (rs ++ (record_at s ∷ [])) (n.1 ∙ rw k.0, n.0)

-- its number in its own count
pub added_number : (b : List ℕ) (used : ℕ) (s : List ℕ) (i : ℕ) (rs : List Record) → entering b used s ≡ added i
    → reading (take used b) ≡ accepted rs → i ≡ number_in (counts_of rs) (get_or s 0 0)
unfolding record_at
added_number b used s i rs e r =
    let h = entered_behind b used s (added i) tt e in
    let same : h.records ≡ rs = accepted_once (take used b) h.records rs h.read r in
    rw same at (added_appends h.records _ s i h.entry).number

-- other bytes stay
pub written_before : (b s : List ℕ) (used i : ℕ) → used ≤ length b → take used (written (added i) b used s) ≡ take used b
written_before b s used i l = take_at (take used b) _ used (length-take-le used b l)

pub written_beyond : (b s : List ℕ) (used i : ℕ) → used ≤ length b
    → drop (used + length s) (written (added i) b used s) ≡ drop (used + length s) b
written_beyond b s used i l =
    ap (drop (used + length s)) (sym (append_assoc (take used b) s (drop (used + length s) b)))
    ∙ drop_at (take used b ++ s) _ (used + length s) (rw (length-append, length-take-le used b l))

pub written_length : (b s : List ℕ) (used i : ℕ) → used + length s ≤ length b → length (written (added i) b used s) ≡ length b
written_length b s used i l = simp (length-append, length-take, length-drop) (omega arith)

-- a formula that is present: it is formula i, and nothing is written
pub record IsPresent (b : List ℕ) (used : ℕ) (s : List ℕ) (i : ℕ) : Type 0 where
  pub records : List Record
  pub read : reading (take used b) ≡ accepted records
  pub within : i < length (formulas records)
  pub equal : get_or (formulas records) i no_record ≡ record_at s
  pub unchanged : written (entering b used s) b used s ≡ b

pub present_is : (b : List ℕ) (used : ℕ) (s : List ℕ) (i : ℕ) → entering b used s ≡ present i → IsPresent b used s i
present_is b used s i e =
    let h = entered_behind b used s (present i) tt e in
    let f = found_at h.records s i (present_found h.records _ s i h.entry) in
    record {
      records = h.records;
      read = h.read;
      within = f.0;
      equal = f.1;
      unchanged = rw e;
    }
