-- The reader's promise: bytes are accepted with some records if and only if these are the records of a book and the
-- bytes are theirs. And what a scan has read before its first fault is a book too, whose bytes stand at the front.
use Prim.Native.Nat.{ℕ, zero, suc, ◌≤◌, ◌<◌}
use native.Mathlib.Nat.{not-suc-le-zero, le_refl}
use native.Mathlib.Omega.{arith}
use mathlib.Core.Path.{◌≡◌, refl, sym, ap, ◌∙◌}
use mathlib.Core.List.{List, [], ◌∷◌, ◌++◌, append-nil, append_assoc}
use lib.ListN.{length, get_or, drop, length-append}
use lib.Seq.{append_snoc, drop_at}
use lib.Dec.{T, lit<, ltb, nltb→le, not_T, ltb→lt}
use Rattle.logic.specs.declared.Record.{Record}
use Rattle.logic.specs.Kind.{body_of, is_field, size_of}
use Rattle.logic.specs.Record.{record_at, bytes_of, bytes}
use Rattle.logic.specs.Refusal.Outcome.{accepted, refused}
use Rattle.logic.specs.Reading.{is_unknown, fault, fault_at, Scan, on_fault, scan, judged, reading}
use Rattle.logic.specs.Book.{Proper, Follows, Book, IsBook}
use Rattle.logic.proofs.Tests.{T_not_not, not_not_T}
use Rattle.logic.proofs.Bytes.{Bytes, bytes_join, record_bytes, record_whole, front_bytes, bytes_drop, bytes_of_length, record_at_bytes_of}
use Rattle.logic.proofs.Proper.{cond_zero, zero_cond, sound_proper, proper_sound}
use Rattle.logic.proofs.Scan.{scan_on, scan_is, scan_end, scan_step, left_fewer}

-- the record at the front of s has no fault behind `past`
pub record Passes (past : List Record) (s : List ℕ) : Type 0 where
  pub known : T (is_field (body_of (get_or s 0 0)).first)
  pub whole : size_of (body_of (get_or s 0 0)) ≤ length s
  pub sound : fault past (record_at s) ≡ 0

pub fault_passes : (past : List Record) (s : List ℕ) → fault_at past s ≡ 0 → Passes past s
unfolding fault_at
fault_passes past s e =
    let a = cond_zero (is_unknown (get_or s 0 0)) 0 _ e in
    let b = cond_zero (ltb (length s) (size_of (body_of (get_or s 0 0)))) 1 _ a.1 in
    record {
      known = T_not_not (is_field (body_of (get_or s 0 0)).first) a.0;
      whole = nltb→le (length s) _ b.0;
      sound = b.1;
    }

pub passes_fault : (past : List Record) (s : List ℕ) → Passes past s → fault_at past s ≡ 0
unfolding fault_at
passes_fault past s h =
    zero_cond (is_unknown (get_or s 0 0)) 1 _ (not_not_T (is_field (body_of (get_or s 0 0)).first) h.known)
    (zero_cond (ltb (length s) (size_of (body_of (get_or s 0 0)))) 2 _
    (not_T (ltb (length s) (size_of (body_of (get_or s 0 0)))) (λ t. let l = ltb→lt (length s) (size_of (body_of (get_or s 0 0))) t in
    omega (arith, h.whole)))
    h.sound)

-- a record that is read without a fault may stand where it stands
pub step_proper : (past : List Record) (s : List ℕ) → Bytes s → fault_at past s ≡ 0 → Proper past (record_at s)
unfolding record_at
step_proper past s b e =
    let h = fault_passes past s e in
    sound_proper past (record_at s) h.known (record_whole s b) h.sound

-- What a scan of s behind `past` finds: it reads some records, which may stand there, and then either all bytes are
-- read or the record at the front of those that are left is faulty.
pub record Ran (past : List Record) (s : List ℕ) (z : Scan) : Type 0 where
  pub found : List Record
  pub rest : List ℕ
  pub records : z.records ≡ past ++ found
  pub follows : Follows past found
  pub whole : s ≡ bytes found ++ rest
  pub number : z.number ≡ 0 → rest ≡ []
  pub fault : 0 < length rest → z.number ≡ fault_at (past ++ found) rest

-- one record, with its fault or 0, and what is found behind it
ran_step : (past : List Record) (s : List ℕ) (z : Scan) → Bytes s → (f : ℕ) → fault_at past s ≡ f
    → Ran (past ++ (record_at s ∷ [])) (drop (size_of (body_of (get_or s 0 0))) s) z → Ran past s (on_fault f past z)
unfolding bytes
ran_step past s z b zero e h =
    record {
      found = record_at s ∷ h.found;
      rest = h.rest;
      records = rw append_snoc at h.records;
      follows = (step_proper past s b e, h.follows);
      whole = front_bytes s b (fault_passes past s e).whole ∙ rw (h.whole, append_assoc);
      number = h.number;
      fault = λ l. rw append_snoc at (h.fault l);
    }
ran_step past s z b (suc f) e h =
    record {
      found = [];
      rest = s;
      records = sym (append-nil past);
      follows = tt;
      whole = refl;
      number = λ e. absurd (omega arith);
      fault = λ l. rw append-nil (sym e);
    }

ran_end : (past : List Record) → Ran past [] (scan_on past [])
unfolding bytes
ran_end past =
    rw scan_end (record {
      found = [];
      rest = [];
      records = sym (append-nil past);
      follows = tt;
      whole = refl;
      number = λ e. refl;
      fault = λ l. absurd (not-suc-le-zero l);
    })

pub ran : (n : ℕ) (past : List Record) (s : List ℕ) → length s ≤ n → Bytes s → Ran past s (scan_on past s)
ran zero past [] l b = ran_end past
ran zero past (k ∷ s) l b = absurd (not-suc-le-zero l)
ran (suc n) past [] l b = ran_end past
ran (suc n) past (k ∷ s) l b =
    rw (scan_step past (k ∷ s) (omega arith))
    (ran_step past (k ∷ s) _ b (fault_at past (k ∷ s)) refl
    (ran n (past ++ (record_at (k ∷ s) ∷ [])) (drop (size_of (body_of k)) (k ∷ s)) (omega (arith, left_fewer k s))
    (bytes_drop (size_of (body_of k)) (k ∷ s) b)))

pub scan_ran : (s : List ℕ) → Bytes s → Ran [] s (scan s)
scan_ran s b = rw scan_is (ran (length s) [] s (le_refl (length s)) b)

-- The scan of a run of records that may stand behind `past` gets behind them.

pub pass_one : (past : List Record) (r : Record) (rest : List ℕ) → Proper past r → fault_at past (bytes_of r ++ rest) ≡ 0
unfolding bytes_of
pass_one past r rest h =
    passes_fault past (bytes_of r ++ rest) (record {
      known = h.known;
      whole = rw length-append (omega (arith, bytes_of_length r));
      sound = rw (record_at_bytes_of r rest h.whole) (proper_sound past r h);
    })

some_bytes : (r : Record) (rest : List ℕ) → 0 < length (bytes_of r ++ rest)
unfolding bytes_of
some_bytes r rest = omega arith

pub scan_one : (past : List Record) (r : Record) (rest : List ℕ) → Proper past r
    → scan_on past (bytes_of r ++ rest) ≡ scan_on (past ++ (r ∷ [])) rest
unfolding bytes_of
scan_one past r rest h =
    scan_step past (bytes_of r ++ rest) (some_bytes r rest)
    ∙ rw (pass_one past r rest h, record_at_bytes_of r rest h.whole, drop_at (bytes_of r) rest (size_of (body_of r.kind)) (bytes_of_length r))

pub scan_bytes : (past rs : List Record) (rest : List ℕ) → Follows past rs → scan_on past (bytes rs ++ rest) ≡ scan_on (past ++ rs) rest
unfolding bytes
scan_bytes past [] rest h = rw append-nil
scan_bytes past (r ∷ rs) rest h =
    ap (scan_on past) (append_assoc (bytes_of r) (bytes rs) rest)
    ∙ scan_one past r (bytes rs ++ rest) h.0
    ∙ rw append_snoc at (scan_bytes (past ++ (r ∷ [])) rs rest h.1)

judged_number : (n : ℕ) (rs qs : List Record) → judged n rs ≡ accepted qs → n ≡ 0
judged_number zero rs qs e = refl
judged_number (suc n) rs qs e = cc

pub judged_records : (n : ℕ) (rs qs : List Record) → judged n rs ≡ accepted qs → rs ≡ qs
judged_records zero rs qs e = cc
judged_records (suc n) rs qs e = cc

-- "accepted if and only if all the rules above hold"

pub accepted_is_book : (s : List ℕ) (rs : List Record) → ((i : ℕ) → get_or s i 0 < 256) → reading s ≡ accepted rs → IsBook s rs
unfolding reading
accepted_is_book s rs b e =
    let h = scan_ran s b in
    let n = judged_number (scan s).number (scan s).records rs e in
    let m = judged_records (scan s).number (scan s).records rs e in
    let f : h.found ≡ rs = sym h.records ∙ m in
    (sym (h.whole ∙ rw (h.number n, append-nil, f)), rw f at h.follows)

-- the scan of the bytes of a book, and of others behind them
pub scan_book : (rs : List Record) (rest : List ℕ) → Book rs → scan (bytes rs ++ rest) ≡ scan_on rs rest
scan_book rs rest b = scan_is (bytes rs ++ rest) ∙ scan_bytes [] rs rest b

pub book_is_accepted : (s : List ℕ) (rs : List Record) → IsBook s rs → reading s ≡ accepted rs
unfolding reading
book_is_accepted s rs h =
    let z = ap scan (sym h.0 ∙ sym (append-nil (bytes rs))) ∙ scan_book rs [] h.1 ∙ scan_end rs in
    rw z

-- "otherwise the first faulty record with the first number that fits"
pub fault_is_refused : (rs : List Record) (rest : List ℕ) (f : ℕ) → Book rs → 0 < length rest → fault_at rs rest ≡ suc f
    → reading (bytes rs ++ rest) ≡ refused (suc f) (length rs)
unfolding reading
fault_is_refused rs rest f b l e =
    let z = scan_book rs rest b ∙ scan_step rs rest l in
    rw (z, e)

-- the elements of a book are bytes
pub follows_bytes : (past rs : List Record) → Follows past rs → Bytes (bytes rs)
unfolding bytes
follows_bytes past [] h = λ i. lit< tt
follows_bytes past (r ∷ rs) h =
    bytes_join (bytes_of r) (bytes rs) (record_bytes r h.0.known h.0.whole) (follows_bytes (past ++ (r ∷ [])) rs h.1)

-- accepted bytes have one list of records, and equal records are of equal bytes
pub accepted_once : (s : List ℕ) (rs qs : List Record) → reading s ≡ accepted rs → reading s ≡ accepted qs → rs ≡ qs
accepted_once s rs qs e f = cc

pub accepted_bytes : (s t : List ℕ) (rs : List Record) → Bytes s → Bytes t → reading s ≡ accepted rs → reading t ≡ accepted rs → s ≡ t
accepted_bytes s t rs b c e f = sym (accepted_is_book s rs b e).0 ∙ (accepted_is_book t rs c f).0

-- what was read before the first fault is a book, and its bytes stand at the front
pub scan_follows : (s : List ℕ) → Bytes s → Book (scan s).records
scan_follows s b = let h = scan_ran s b in rw h.records h.follows

pub scan_front : (s : List ℕ) → Bytes s → (rest : List ℕ) × (s ≡ bytes (scan s).records ++ rest)
scan_front s b = let h = scan_ran s b in (h.rest, rw h.records h.whole)
