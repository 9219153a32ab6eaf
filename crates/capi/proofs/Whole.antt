-- NO ANSWER LOSES ANYTHING BY PACKING: what include/cogalbin.h takes out of the number that a call returns is what the definitions
-- say. The book and a listing's table are made of bytes; a goal number has 32 bits. Assumes nothing.
use Prim.Native.Nat.{ℕ, zero, suc, ◌+◌, ◌*◌, ◌-◌, ◌/◌, ◌<◌, ◌≤◌, min}
use native.Mathlib.Omega.{arith}
use mathlib.Core.Path.{◌≡◌, refl}
use mathlib.Core.Logic.{inl, inr}
use mathlib.Core.List.{List, [], ◌∷◌}
use mathlib.Core.Bool.{Bool, true, false, cond, not, ◌&&◌}
use lib.ListN.{length, get_or, take}
use lib.Seq.{length-take-le}
use lib.Dec.{T, ltb, leb, eqb, lit≤, lit<, leb→le}
use borrow.Author.Tests.{ltb-false}
use Rattle.logic.specs.declared.Record.{Record}
use Rattle.logic.specs.declared.Audience.{Audience}
use Rattle.logic.specs.Kind.{body_of, size_of}
use Rattle.logic.specs.Record.{record_at}
use Rattle.logic.specs.Count.{formulas, counts_of, position_of}
use Rattle.logic.specs.Refusal.{Outcome, Entry}
use Rattle.logic.specs.Refusal.Outcome.{accepted, refused}
use Rattle.logic.specs.Refusal.Entry.{present, added, turned_away}
use Rattle.logic.specs.Reading.{is_unknown, is_repeated, fault, reading, counted}
use Rattle.logic.specs.Book.{Book}
use Rattle.logic.specs.Entering.{number_in, appended, enter_behind, enter_after, entering}
use Rattle.logic.specs.Place.{F}
use Rattle.logic.specs.Written.{meaning, fact_in, is_malformed}
use Rattle.logic.specs.Survey.{held, SurveyedAfter, Surveyed}
use Rattle.logic.specs.Step.{CheckedAfter, Checked, goal_of}
use Rattle.logic.specs.Proof.{Answer, Promises, ProvedAfter, Proved}
use Rattle.logic.specs.Proof.Answer.{reached, not_reached}
use Rattle.logic.specs.Text.{datum_for, fact_text, text_fitting, text_after, text_for, length_told, texting}
use Rattle.logic.specs.Listing.{Part, part_after, part_for, part_told, listing_told}
use Rattle.logic.specs.Listing.Part.{piece, over}
use Rattle.logic.specs.Reason.{Reason, row, reasons, reason_of, reason_told}
use Rattle.logic.specs.Honesty.{Pair, IsReport, report_bytes, ReportedAfter, Reported}
use Rattle.logic.proofs.Tests.{T_and}
use Rattle.logic.proofs.Bytes.{Bytes}
use Rattle.logic.proofs.Same.{place_le}
use Rattle.logic.proofs.Follows.{formula_limit_lem, principal_limit_lem, assumption_limit_lem, message_limit_lem, goal_limit_lem}
use Rattle.logic.proofs.BookRead.{accepted_is_book}
use Rattle.capi.specs.Packing.{packed_refusal, packed_outcome, alone, counts, answer, nothing, part, packed_entry}
use Rattle.capi.proofs.Apart.{Refuses, Says, CountsIn, AnswerIn, NumberIn, PartIn, EntryIn, refusal_apart, none, number_apart, counts_apart, held_apart, proof_apart, piece_apart, over_apart, present_apart, added_apart}
use Rattle.capi.proofs.Bounds.{either_way, records_limit, fault_small, reading_bounds, survey_few, report_few, VerdictBounds, verdict_bounds, verdict_few}
use Rattle.capi.proofs.Room.{PartBounds, part_bounds}

-- what is said of a refusal
abbrev Small : (f i : ℕ) → Type 0
Small f i = (0 < f) × (f < 256) × (i ≤ 65535)

small : (f i : ℕ) → Small f i → Refuses f i (packed_refusal f i)
small f i h = refusal_apart f i h.0 h.1 (let l = h.2 in omega arith)

of_book : (s : List ℕ) → Bytes s → (f i : ℕ) → reading s ≡ refused f i → Small f i
of_book s b f i e = let h = reading_bounds s f i b e in let l = h.2 in (h.0, h.1, omega arith)

module _ (s : List ℕ) (b : Bytes s) where
  is_book : (rs : List Record) → reading s ≡ accepted rs → Book rs
  is_book rs e = (accepted_is_book s rs b e).1

  -- cogalbin_read
  pub read_says : Says CountsIn (counted (reading s)) (packed_outcome counts (counted (reading s)))
  read_says = go (reading s) refl
    where
      go : (z : Outcome (List Record)) → reading s ≡ z → Says CountsIn (counted z) (packed_outcome counts (counted z))
      go (refused f i) e = small f i (of_book s b f i e)
      go (accepted rs) e =
          let k = is_book rs e in
          (none (counts (counts_of rs)), counts_apart (counts_of rs) (formula_limit_lem rs k) (principal_limit_lem rs k) (assumption_limit_lem rs k) (message_limit_lem rs k) (goal_limit_lem rs k))

  -- cogalbin_places
  pub places_says : Says (λ rs. NumberIn (F (formulas rs))) (reading s) (packed_outcome (λ rs. F (formulas rs)) (reading s))
  places_says = go (reading s) refl
    where
      back : (v : ℕ) → 256 * v / 256 ≡ v
      back v = omega arith

      go : (z : Outcome (List Record)) → reading s ≡ z → Says (λ rs. NumberIn (F (formulas rs))) z (packed_outcome (λ rs. F (formulas rs)) z)
      go (refused f i) e = small f i (of_book s b f i e)
      go (accepted rs) e = (none (F (formulas rs)), back (F (formulas rs)))

  -- cogalbin_survey
  pub survey_says : (t t' : List ℕ) (o : Outcome ℕ) → Surveyed s t t' o → Says NumberIn o (packed_outcome alone o)
  survey_says t t' o h = go (reading s) refl h
    where
      go : (z : Outcome (List Record)) → reading s ≡ z → SurveyedAfter z t t' o → Says NumberIn o (packed_outcome alone o)
      go (refused f i) e (d, k) = rw d (small f i (of_book s b f i e))
      go (accepted rs) e (inl (l, d, k)) = rw d (small 14 0 (lit< tt, lit< tt, lit≤ tt))
      go (accepted rs) e (inr (l, (u, y, d, k))) =
          let n = survey_few rs u (is_book rs e) y (λ v. ltb 0 v) in rw d (none (alone (held u)), number_apart (held u) (omega arith))

  -- cogalbin_honesty
  pub honesty_says : (t t' : List ℕ) (o : Outcome ℕ) → Reported s t t' o → Says NumberIn o (packed_outcome alone o)
  honesty_says t t' o h = go (reading s) refl h
    where
      put : (rs : List Record) (u : List ℕ) (ps : List Pair) → Book rs → IsReport rs u ps → (c : Bool)
          → Says NumberIn (length_told (cond c (refused 14 0) (accepted (report_bytes ps)))) (packed_outcome alone (length_told (cond c (refused 14 0) (accepted (report_bytes ps)))))
      put rs u ps k r true = small 14 0 (lit< tt, lit< tt, lit≤ tt)
      put rs u ps k r false =
          let n = report_few rs u ps k r in (none (alone (length (report_bytes ps))), number_apart (length (report_bytes ps)) (omega arith))

      go : (z : Outcome (List Record)) → reading s ≡ z → ReportedAfter z t t' o → Says NumberIn o (packed_outcome alone o)
      go (refused f i) e (d, k) = rw d (small f i (of_book s b f i e))
      go (accepted rs) e (u, y, (ps, r, d, k)) = rw d (put rs u ps (is_book rs e) r (ltb (length t) (length (report_bytes ps))))

  -- cogalbin_prove
  answer_says : (rs : List Record) → Book rs → (g : ℕ) (d d' : List ℕ) (a : Answer) → Promises rs g d d' a → Says AnswerIn (accepted a) (packed_outcome answer (accepted a))
  answer_says rs k g d d' (not_reached h) (x, y, (t, z, e)) =
      let n = survey_few rs t k z (λ v. leb 1 v && leb v (1 + (goal_of rs g).first)) in
      (none (answer (not_reached h)), held_apart h (omega arith))
  answer_says rs k g d d' (reached c l h) (p, e, m, q, w, (t, z, u)) =
      let n = survey_few rs t k z (λ v. leb 1 v && leb v (1 + (goal_of rs g).first)) in
      let f = verdict_few rs g (take l d') p.accepts in
      let x = f.0 in
      let y = f.1 in
      let v = length-take-le l d' (omega arith) in
      (none (answer (reached c l h)), proof_apart c l h (omega arith) (omega arith) (omega arith))

  pub prove_says : (g : ℕ) (work work' d d' : List ℕ) (o : Outcome Answer) → g < 4294967296 → Proved s g work work' d d' o → Says AnswerIn o (packed_outcome answer o)
  prove_says g work work' d d' o l h = go (reading s) refl h
    where
      go : (z : Outcome (List Record)) → reading s ≡ z → ProvedAfter z g work work' d d' o → Says AnswerIn o (packed_outcome answer o)
      go (refused f i) e (y, k) = rw y (small f i (of_book s b f i e))
      go (accepted rs) e (inl (m, y, k)) = rw y (refusal_apart 13 g (lit< tt) (lit< tt) (omega arith))
      go (accepted rs) e (inr (m, inl (n, y, k))) = rw y (small 14 0 (lit< tt, lit< tt, lit≤ tt))
      go (accepted rs) e (inr (m, inr (v, w, x, u, (a, y, k)))) = rw y (answer_says rs (is_book rs e) g d d' a k)

  -- cogalbin_check
  verdict_says : (o : Outcome Unit) → VerdictBounds o → Says (λ u r. r ≡ 0) o (packed_outcome nothing o)
  verdict_says (accepted u) h = (refl, refl)
  verdict_says (refused f i) h = small f i h

  pub check_says : (g : ℕ) (d : List ℕ) (o : Outcome Unit) → g < 4294967296 → Checked s g d o → Says (λ u r. r ≡ 0) o (packed_outcome nothing o)
  check_says g d o l h = go (reading s) refl h
    where
      go : (z : Outcome (List Record)) → reading s ≡ z → CheckedAfter z g d o → Says (λ u r. r ≡ 0) o (packed_outcome nothing o)
      go (refused f i) e y = rw y (small f i (of_book s b f i e))
      go (accepted rs) e (inl (m, y)) = rw y (refusal_apart 13 g (lit< tt) (lit< tt) (omega arith))
      go (accepted rs) e (inr (m, v)) = verdict_says o (verdict_bounds rs g d o v)

  -- cogalbin_text and cogalbin_guest_text
  abbrev TextBounds : Outcome (List ℕ) → Type 0
  TextBounds (accepted t) = length t ≤ 4096
  TextBounds (refused f i) = Small f i

  fitting : (n : ℕ) (t : List ℕ) → TextBounds (text_fitting n t)
  fitting n t = go (ltb (min 4096 n) (length t)) refl
    where
      go : (c : Bool) → ltb (min 4096 n) (length t) ≡ c → TextBounds (cond c (refused 15 0) (accepted t))
      go true e = (lit< tt, lit< tt, lit≤ tt)
      go false e = let l = ltb-false (min 4096 n) (length t) e in omega arith

  text_bounds : (a : Audience) (f : List ℕ) (n : ℕ) → TextBounds (text_for a s f n)
  unfolding text_for
  text_bounds a f n = go (reading s) refl
    where
      go : (z : Outcome (List Record)) → reading s ≡ z → TextBounds (text_after a z f n)
      go (refused m i) e = of_book s b m i e
      go (accepted rs) e =
          either_way TextBounds (is_malformed (formulas rs) f) (refused 17 0) (text_fitting n (fact_text (datum_for a (formulas rs)) (meaning (formulas rs) (fact_in f))))
          (lit< tt, lit< tt, lit≤ tt) (fitting n (fact_text (datum_for a (formulas rs)) (meaning (formulas rs) (fact_in f))))

  pub text_says : (a : Audience) (f t : List ℕ) → Says NumberIn (texting a s f t) (packed_outcome alone (texting a s f t))
  unfolding texting
  text_says a f t = go (text_for a s f (length t)) (text_bounds a f (length t))
    where
      go : (z : Outcome (List ℕ)) → TextBounds z → Says NumberIn (length_told z) (packed_outcome alone (length_told z))
      go (accepted u) h = (none (alone (length u)), number_apart (length u) (omega arith))
      go (refused m i) h = small m i h

  -- cogalbin_list
  pub list_says : (a : Audience) (t : List ℕ) (from : ℕ) (u : List ℕ) → Bytes t → Says PartIn (listing_told a s t from u) (packed_outcome part (listing_told a s t from u))
  unfolding listing_told part_for
  list_says a t from u h = go (part_for a s t from (length u)) (after (reading s) refl)
    where
      after : (z : Outcome (List Record)) → reading s ≡ z → PartBounds (part_after a z t from (length u))
      after (refused f i) e = of_book s b f i e
      after (accepted rs) e = part_bounds a rs (is_book rs e) t h from (length u)

      go : (z : Outcome (Part (List ℕ))) → PartBounds z → Says PartIn (part_told z) (packed_outcome part (part_told z))
      go (accepted (piece v n)) (k, m) = (none (part (piece (length v) n)), piece_apart (length v) n (omega arith) (omega arith))
      go (accepted over) k = (none (part over), over_apart)
      go (refused f i) k = small f i k

-- cogalbin_enter
abbrev EntryBounds : Entry → Type 0
EntryBounds (present i) = i ≤ 256
EntryBounds (added i) = i ≤ 256
EntryBounds (turned_away f i) = Small f i

entry_says : (e : Entry) → EntryBounds e → EntryIn e (packed_entry e)
entry_says (present i) h = present_apart i (omega arith)
entry_says (added i) h = added_apart i (omega arith)
entry_says (turned_away f i) h = small f i h

bytes_take : (n : ℕ) (s : List ℕ) → Bytes s → Bytes (take n s)
bytes_take zero s b i = lit< tt
bytes_take (suc n) [] b i = lit< tt
bytes_take (suc n) (x ∷ s) b zero = b zero
bytes_take (suc n) (x ∷ s) b (suc i) = bytes_take n s (λ j. b (suc j)) i

module _ (rs : List Record) (k : Book rs) (short : Bool) where
  here : (f : ℕ) → 0 < f → f < 256 → Small f (length rs)
  here f p l = let m = records_limit rs k in (p, l, omega arith)

  number_bounds : (c : ℕ) → number_in (counts_of rs) c ≤ 256
  unfolding number_in
  number_bounds c =
      either_way P (eqb c 32) (counts_of rs).assumptions _ (let l = assumption_limit_lem rs k in omega arith)
      (either_way P (eqb c 33) ((counts_of rs).messages + 1) _ (let l = message_limit_lem rs k in omega arith)
      (either_way P (eqb c 34) (counts_of rs).goals (counts_of rs).formulas (let l = goal_limit_lem rs k in omega arith) (formula_limit_lem rs k)))
    where
      P : ℕ → Type 0
      P i = i ≤ 256

  appended_bounds : (f : ℕ) (r : Record) → f ≤ 23 → EntryBounds (appended f short rs r)
  appended_bounds (suc f) r l = here (suc f) (omega arith) (omega arith)
  appended_bounds zero r l =
      either_way EntryBounds short (turned_away 12 (length rs)) (added (number_in (counts_of rs) r.kind)) (here 12 (lit< tt) (lit< tt)) (number_bounds r.kind)

  behind_bounds : (s : List ℕ) → EntryBounds (enter_behind rs short s)
  unfolding enter_behind
  behind_bounds s =
      let two = here 2 (lit< tt) (lit< tt) in
      either_way EntryBounds (eqb (length s) 0) (turned_away 2 (length rs)) _ two
      (either_way EntryBounds (is_unknown (get_or s 0 0)) (turned_away 1 (length rs)) _ (here 1 (lit< tt) (lit< tt))
      (either_way EntryBounds (not (eqb (length s) (size_of (body_of (get_or s 0 0))))) (turned_away 2 (length rs)) _ two
      (either_way EntryBounds (is_repeated rs (record_at s)) (present (position_of (record_at s) (formulas rs))) (appended (fault rs (record_at s)) short rs (record_at s))
      (let l = place_le (record_at s) (formulas rs) in let m = formula_limit_lem rs k in omega arith)
      (appended_bounds (fault rs (record_at s)) (record_at s) (fault_small rs (record_at s))))))

pub enter_says : (b : List ℕ) (used : ℕ) (s : List ℕ) → Bytes b → EntryIn (entering b used s) (packed_entry (entering b used s))
unfolding entering
enter_says b used s h = entry_says (entering b used s) bounds
  where
    short : Bool
    short = ltb (length b - used) (length s)

    after : (z : Outcome (List Record)) → reading (take used b) ≡ z → EntryBounds (enter_after z short s)
    after (refused f i) e = of_book (take used b) (bytes_take used b h) f i e
    after (accepted rs) e = behind_bounds rs (accepted_is_book (take used b) rs (bytes_take used b h) e).1 short s

    bounds : EntryBounds (entering b used s)
    bounds =
        either_way EntryBounds (ltb (length b) used) (turned_away 12 0) (enter_after (reading (take used b)) short s) (lit< tt, lit< tt, lit≤ tt)
        (after (reading (take used b)) refl)

-- cogalbin_reason
each_short : List Reason → Bool
each_short [] = true
each_short (r ∷ l) = leb (length r.sentence) 80 && each_short l

short_row : (l : List Reason) (n : ℕ) (d : Reason) → T (each_short l) → length d.sentence ≤ 80 → length (get_or l n d).sentence ≤ 80
unfolding each_short
short_row [] n d t k = k
short_row (r ∷ l) zero d t k = leb→le (length r.sentence) 80 (T_and (leb (length r.sentence) 80) (each_short l) t).0
short_row (r ∷ l) (suc n) d t k = short_row l n d (T_and (leb (length r.sentence) 80) (each_short l) t).1 k

-- no sentence has more than 80 bytes
pub sentence_limit : (n : ℕ) → length (reason_of n).sentence ≤ 80
unfolding reason_of reasons each_short
sentence_limit n = short_row reasons n (row "" "") tt (lit≤ tt)

pub reason_says : (n : ℕ) (b : List ℕ) → Says NumberIn (reason_told n b) (packed_outcome alone (reason_told n b))
unfolding reason_told
reason_says n b = go (ltb (length b) (length (reason_of n).sentence))
  where
    go : (c : Bool) → Says NumberIn (length_told (cond c (refused 14 0) (accepted (reason_of n).sentence))) (packed_outcome alone (length_told (cond c (refused 14 0) (accepted (reason_of n).sentence))))
    go true = small 14 0 (lit< tt, lit< tt, lit≤ tt)
    go false = (none (alone (length (reason_of n).sentence)), number_apart (length (reason_of n).sentence) (let l = sentence_limit n in omega arith))
