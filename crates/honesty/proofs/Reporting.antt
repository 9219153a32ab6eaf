-- What the tables of the operation come to: the pairs are the report of the book.
use Prim.Native.Nat.{ℕ, ◌+◌, ◌-◌, ◌≤◌}
use native.Mathlib.Omega.{arith}
use mathlib.Core.Path.{◌≡◌, refl, sym, ap, ap₂, subst, fun_ext, ◌∙◌}
use mathlib.Core.Logic.{⊎_elim}
use mathlib.Core.List.{List, [], ◌++◌}
use lib.ListN.{length, drop, take, replicate, length-replicate}
use lib.Seq.{sets}
use borrow.Author.Tests.{le-ltb}
use Rattle.logic.specs.declared.Record.{Record}
use Rattle.logic.specs.declared.Counts.{Counts}
use Rattle.logic.specs.Count.{formulas, messages}
use Rattle.logic.specs.Refusal.{Outcome}
use Rattle.logic.specs.Refusal.Outcome.{accepted, refused}
use Rattle.logic.specs.Reading.{reading}
use Rattle.logic.specs.Formula.{record_of}
use Rattle.logic.specs.Fact.{initial}
use Rattle.logic.specs.Place.{F}
use Rattle.logic.specs.Survey.{IsSurvey, Surveyed, SurveyedAfter}
use Rattle.logic.specs.Text.{length_told, at_front}
use Rattle.logic.specs.Reason.{whole}
use Rattle.logic.specs.Honesty.{message_of, Pair, IsReport, report_bytes, ReportedAfter, Reported}
use Rattle.logic.proofs.Follows.{formula_limit_lem, message_limit_lem}
use Rattle.logic.proofs.Limits.{size_limit}
use Rattle.format.specs.Index.{index_size, filled, look_in, message_in}
use Rattle.format.proofs.Indexing.{book_indexed, message_shown}
use Rattle.book.proofs.OpenBook.{Opened}
use Rattle.digits.proofs.Puts.{front_is}
use Rattle.written.specs.Stated.{records_in}
use Rattle.written.proofs.Laws.{look_is}
use Rattle.written.proofs.Records.{records_is}
use Rattle.reports.specs.Pairs.{pairs_upto, pairs_in}
use Rattle.reports.proofs.ReportLaws.{report_short, pairs_by}
use Rattle.reports.proofs.TheReport.{pairs_report}

pub reported_refused : (x b : List ℕ) (f i : ℕ) → reading x ≡ refused f i → Reported x b b (refused f i)
reported_refused x b f i e = rw e (refl, refl)

-- the pairs by an index whose records and messages are known
pairs_read : (index t : List ℕ) {f g k j : ℕ} {look : ℕ → Record} {fs : List Record} → f ≤ 256 → look_in f index ≡ look → records_in f index ≡ fs → f ≡ g → k ≡ j
    → pairs_in index f k t ≡ pairs_upto look fs t g (message_in index) j
unfolding pairs_in
pairs_read index t {f} l a b c d = rw (le-ltb 256 f l, ← a, ← b, ← c, ← d) refl

-- The book x was read into the table ix, at first t₀, and n counts its records.
module _ (x t₀ ix : List ℕ) (n : Counts) (room : index_size ≤ length t₀) (h : Opened x t₀ ix n) where
  abbrev rs : List Record
  rs = h.records

  count : n.formulas ≡ length (formulas rs)
  count = ap (λ (m : Counts). m.formulas) h.counts

  sent : n.messages ≡ length (messages rs)
  sent = ap (λ (m : Counts). m.messages) h.counts

  pub few : n.formulas ≤ 256
  few = omega (arith, count, formula_limit_lem rs h.proper)

  pub fewer : n.messages ≤ 16
  fewer = omega (arith, sent, message_limit_lem rs h.proper)

  records_here : records_in n.formulas ix ≡ formulas rs
  records_here = ap₂ records_in count h.table ∙ records_is t₀ rs room h.proper

  looks_here : look_in n.formulas ix ≡ record_of (formulas rs)
  looks_here = fun_ext (λ y. look_is n.formulas ix y ∙ ap (λ (fs : List Record). record_of fs y) records_here)

  message_here : (m : ℕ) → 1 ≤ m → m ≤ length (messages rs) → message_in ix m ≡ message_of (messages rs) m
  message_here m l k =
      let e : m ≡ m - 1 + 1 = omega arith in
      ap (message_in ix) e ∙ ap (λ (t : List ℕ). message_in t (m - 1 + 1)) h.table
      ∙ message_shown t₀ (filled t₀ [] rs) rs (book_indexed t₀ rs room h.proper) h.proper (m - 1) (omega arith)

  -- the pairs by the index are those by the book
  pairs_here : (t : List ℕ) → pairs_in ix n.formulas n.messages t
      ≡ pairs_upto (record_of (formulas rs)) (formulas rs) t (length (formulas rs)) (message_of (messages rs)) (length (messages rs))
  pairs_here t =
      pairs_read ix t few looks_here records_here count sent
      ∙ pairs_by (record_of (formulas rs)) (formulas rs) t (length (formulas rs)) (message_in ix) (message_of (messages rs)) (length (messages rs)) message_here

  -- no report has more than 16,384 bytes
  pub report_fits : (t : List ℕ) → length (report_bytes (pairs_in ix n.formulas n.messages t)) ≤ 16384
  report_fits t =
      let b = report_short (record_of (formulas rs)) (formulas rs) t (length (formulas rs)) (message_of (messages rs)) (length (messages rs)) (formula_limit_lem rs h.proper) in
      let l = message_limit_lem rs h.proper in
      rw (pairs_here t) (omega arith)

  -- the survey's table begins with the survey
  survey_here : (t t' : List ℕ) (o : Outcome ℕ) → 38912 ≤ length t → Surveyed x t t' o
      → (u : List ℕ) × IsSurvey (formulas rs) (initial rs) u × (t' ≡ u ++ drop (F (formulas rs)) t)
  survey_here t t' o l s =
      let w : SurveyedAfter (accepted rs) t t' o = subst (λ (r : Outcome (List Record)). SurveyedAfter r t t' o) h.read s in
      ⊎_elim
      (λ z. absurd (let b = size_limit rs h.proper in omega (arith, z.0)))
      (λ z. (z.1.0, z.1.1, z.1.3)) w

  -- WHAT THE OPERATION ANSWERS: t is the table of the survey, q the table of the pairs, k their length
  pub reported : (t t' p q b b' : List ℕ) (k : ℕ) (o u : Outcome ℕ) → 38912 ≤ length t → Surveyed x t t' o → 16384 ≤ length p
      → q ≡ sets p 0 (report_bytes (pairs_in ix n.formulas n.messages t')) → k ≡ length (report_bytes (pairs_in ix n.formulas n.messages t'))
      → (u ≡ length_told (whole (length b) (take k q))) × (b' ≡ at_front (whole (length b) (take k q)) b) → Reported x b b' u
  reported t t' p q b b' k o u l s m eq ek g =
      let v = survey_here t t' o l s in
      let ps = pairs_in ix n.formulas n.messages t' in
      let e : take k q ≡ report_bytes ps = front_is (report_bytes ps) p eq ek (let z = report_fits t' in omega arith) in
      let r : IsReport rs v.0 ps =
      subst (λ (qs : List Pair). IsReport rs v.0 qs) (sym (pairs_here t'))
      (subst (λ (z : List ℕ). IsReport rs v.0 (pairs_upto (record_of (formulas rs)) (formulas rs) z (length (formulas rs)) (message_of (messages rs)) (length (messages rs)))) (sym v.2)
      (pairs_report rs h.proper (formula_limit_lem rs h.proper) v.0 (drop (F (formulas rs)) t) v.1)) in
      subst (λ (z : Outcome (List Record)). ReportedAfter z b b' u) (sym h.read)
      (v.0, v.1, (ps, r, g.0 ∙ ap (λ (z : List ℕ). length_told (whole (length b) z)) e, g.1 ∙ ap (λ (z : List ℕ). at_front (whole (length b) z) b) e))

  -- the same with the tables as they are made
  pub reported_here : (t' q b b' : List ℕ) (k : ℕ) (o u : Outcome ℕ) → Surveyed x (replicate 38912 0) t' o
      → q ≡ sets (replicate 16384 0) 0 (report_bytes (pairs_in ix n.formulas n.messages t')) → k ≡ length (report_bytes (pairs_in ix n.formulas n.messages t'))
      → (u ≡ length_told (whole (length b) (take k q))) × (b' ≡ at_front (whole (length b) (take k q)) b) → Reported x b b' u
  reported_here t' q b b' k o u s eq ek g =
      reported (replicate 38912 0) t' (replicate 16384 0) q b b' k o u
      (subst (λ (z : ℕ). 38912 ≤ z) (sym (length-replicate {A = ℕ} 38912 0)) (omega arith)) s
      (subst (λ (z : ℕ). 16384 ≤ z) (sym (length-replicate {A = ℕ} 16384 0)) (omega arith)) eq ek g

  pub pairs_fit : (t' q : List ℕ) (k : ℕ) → length q ≡ length {A = ℕ} (replicate 16384 0) → k ≡ length (report_bytes (pairs_in ix n.formulas n.messages t')) → k ≤ length q
  pairs_fit t' q k e ek = let l = report_fits t' in let z : length q ≡ 16384 = e ∙ length-replicate {A = ℕ} 16384 0 in omega arith
