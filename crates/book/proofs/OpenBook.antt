-- Entering into a book that was read and indexed: the answer in terms of the index is the answer in terms of the records.
-- Assumes nothing.
use Prim.Native.Nat.{ℕ, zero, suc, ◌+◌, ◌-◌, ◌<◌, ◌≤◌}
use native.Mathlib.Omega.{arith}
use mathlib.Core.Path.{◌≡◌, refl, sym, ap, subst, ◌∙◌}
use mathlib.Core.List.{List, [], ◌++◌}
use mathlib.Core.Bool.{Bool, true, false}
use lib.ListN.{length, take, drop, take-append-drop}
use lib.Seq.{take_at, length-take-le}
use lib.Dec.{T, ltb}
use borrow.Author.Tests.{lt-ltb, le-ltb}
use Rattle.logic.specs.declared.Refusal.{Refusal}
use Rattle.logic.specs.declared.Record.{Record}
use Rattle.logic.specs.declared.Counts.{Counts}
use Rattle.std.specs.Prelude.{Result, Ok, Err}
use Rattle.std.specs.Result.{is_err}
use Rattle.logic.specs.Kind.{body_of, is_field}
use Rattle.logic.specs.Record.{record_at}
use Rattle.logic.specs.Count.{formulas, assumptions, messages, goals, counts_of}
use Rattle.logic.specs.Refusal.{number_of, Outcome, told, told_entered, Entry}
use Rattle.logic.specs.Refusal.Outcome.{accepted, refused}
use Rattle.logic.specs.Refusal.Entry.{turned_away}
use Rattle.logic.specs.Reading.{scan, reading, counted}
use Rattle.logic.specs.Book.{All, Book, EachField, Whole}
use Rattle.logic.specs.declared.Entered.{Entered}
use Rattle.logic.specs.declared.Entered.TheVariants.{Present, Added}
use Rattle.logic.specs.Entering.{appended, enter_behind, entering, written}
use Rattle.format.specs.Index.{index_size, filled, indexing, indexed_after, indexed}
use Rattle.logic.proofs.Bytes.{Bytes, record_whole}
use Rattle.logic.proofs.Follows.{book_known}
use Rattle.logic.proofs.BookRead.{judged_records, accepted_is_book, scan_follows}
use Rattle.format.proofs.Indexing.{filled_behind}
use Rattle.book.specs.Read.{Small, appended_in, enter_in}
use Rattle.book.proofs.Laws.{records_counted}
use Rattle.book.proofs.Stage.{place_law, among_law, fault_law, book_small}

-- the records of a book are its formula records, assumptions, messages and goals
pub all_records : (rs : List Record) → All (λ r. T (is_field (body_of r.kind).first)) rs
    → length (formulas rs) + (length (assumptions rs) + (length (messages rs) + length (goals rs))) ≡ length rs
all_records rs h = records_counted rs h

-- the index gives what the records give
same_end : (f : ℕ) (short : Bool) (rs : List Record) (r : Record) → appended_in f short (length rs) (counts_of rs) r ≡ appended f short rs r
same_end zero short rs r = refl
same_end (suc f) short rs r = refl

pub enter_law : (t₀ : List ℕ) (rs : List Record) (short : Bool) (s : List ℕ) → index_size ≤ length t₀ → Book rs → EachField Whole (record_at s)
    → enter_in (counts_of rs) (filled t₀ [] rs) (length rs) short s ≡ enter_behind rs short s
unfolding enter_in enter_behind
enter_law t₀ rs short s room p w =
    rw (among_law t₀ room rs p (record_at s) w, place_law t₀ room rs p (record_at s) w, fault_law t₀ room rs p (record_at s) w, same_end) refl

-- The book x was read into the table t, at first t₀: its records are `records`.
pub record Opened (x t₀ t : List ℕ) (n : Counts) : Type 0 where
  pub records : List Record
  pub read : reading x ≡ accepted records
  pub proper : Book records
  pub counts : n ≡ counts_of records
  pub table : t ≡ filled t₀ [] records

-- The reader answered o for the book x.
module _ (x : List ℕ) (o : Result Counts Refusal) (e : told o ≡ counted (reading x)) where
  pub read_refused : {f : Refusal} → o ≡ Err f → reading x ≡ refused (number_of f.cause) f.place
  read_refused {f} h = go (reading x) e
    where
      go : (z : Outcome (List Record)) → told o ≡ counted z → z ≡ refused (number_of f.cause) f.place
      go (accepted rs) p = absurd (let q : told (Err f) ≡ accepted (counts_of rs) = rw h at p in let z : ◌≡◌ {A = ℕ} 0 1 = cc in omega arith)
      go (refused m i) p =
          let q : told (Err f) ≡ refused m i = rw h at p in
          let a : number_of f.cause ≡ m = cc in
          let b : f.place ≡ i = cc in
          rw (a, b) refl

  pub read_accepted : {n : Counts} → o ≡ Ok n → (rs : List Record) × (reading x ≡ accepted rs) × (n ≡ counts_of rs)
  read_accepted {n} h = go (reading x) refl e
    where
      go : (z : Outcome (List Record)) → reading x ≡ z → told o ≡ counted z → (rs : List Record) × (reading x ≡ accepted rs) × (n ≡ counts_of rs)
      go (refused m i) k p = absurd (let q : accepted n ≡ refused m i = rw h at p in let z : ◌≡◌ {A = ℕ} 0 1 = cc in omega arith)
      go (accepted rs) k p = let q : accepted n ≡ accepted (counts_of rs) = rw h at p in (rs, k, (cc))

-- what the reader answered, by a test
pub was_refused : (o : Result Counts Refusal) → is_err o ≡ true → (f : Refusal) × (o ≡ Err f)
was_refused (Ok n) e = absurd (let z : ◌≡◌ {A = ℕ} 0 1 = cc in omega arith)
was_refused (Err f) e = (f, refl)

pub was_accepted : (o : Result Counts Refusal) → is_err o ≡ false → (n : Counts) × (o ≡ Ok n)
was_accepted (Ok n) e = (n, refl)
was_accepted (Err f) e = absurd (let z : ◌≡◌ {A = ℕ} 0 1 = cc in omega arith)

-- what is entered and not added is present, and nothing is written
pub stays_written : (b s : List ℕ) (used : ℕ) (e : Entered) → ((i : ℕ) → e ≡ Added i → ⊥) → b ≡ written (told_entered (Ok e)) b used s
stays_written b s used (Present i) h = refl
stays_written b s used (Added i) h = absurd (h i refl)

-- the records of an accepted book are those that the scan found
scan_records : (x : List ℕ) (rs : List Record) → reading x ≡ accepted rs → (scan x).records ≡ rs
unfolding reading
scan_records x rs e = judged_records (scan x).number (scan x).records rs e

opened : (x t₀ t : List ℕ) (n : Counts) (rs : List Record) → Bytes x → reading x ≡ accepted rs → n ≡ counts_of rs → t ≡ filled t₀ [] rs
    → Opened x t₀ t n
opened x t₀ t n rs b k m et =
    record {
      records = rs;
      read = k;
      proper = (accepted_is_book x rs b k).1;
      counts = m;
      table = et;
    }

-- a table that was filled
pub open_filled : (x t₀ t : List ℕ) (o : Result Counts Refusal) → told o ≡ counted (reading x) → t ≡ filled t₀ [] (scan x).records
    → {n : Counts} → Bytes x → o ≡ Ok n → Opened x t₀ t n
open_filled x t₀ t o e et b h =
    let (rs, k, m) = read_accepted x o e h in
    opened x t₀ t _ rs b k m (et ∙ ap (filled t₀ []) (scan_records x rs k))

-- a table that is too short
pub too_short : (x t₀ : List ℕ) → length t₀ < index_size → (refused 14 0 ≡ indexing t₀ x) × (t₀ ≡ indexed t₀ x)
unfolding indexing indexed
too_short x t₀ l = (rw (lt-ltb (length t₀) index_size l), rw (lt-ltb (length t₀) index_size l))

-- The table t₀ has room, and was lent to be indexed.
module _ (x t₀ : List ℕ) (room : index_size ≤ length t₀) where
  indexing_is : indexing t₀ x ≡ counted (reading x)
  unfolding indexing
  indexing_is = rw (le-ltb (length t₀) index_size room)

  indexed_is : indexed t₀ x ≡ indexed_after (reading x) t₀
  unfolding indexed
  indexed_is = rw (le-ltb (length t₀) index_size room)

  -- what the index says of the book
  module _ (o : Result Counts Refusal) (e : told o ≡ indexing t₀ x) where
    pub refused_book : (f : Refusal) → o ≡ Err f → reading x ≡ refused (number_of f.cause) f.place
    refused_book f h = read_refused x o (e ∙ indexing_is) h

    pub open_book : (t : List ℕ) (n : Counts) → Bytes x → t ≡ indexed t₀ x → o ≡ Ok n → Opened x t₀ t n
    open_book t n b et h =
        let (rs, k, m) = read_accepted x o (e ∙ indexing_is) h in
        opened x t₀ t n rs b k m (et ∙ indexed_is ∙ ap (λ z. indexed_after z t₀) k)

  -- a table that was filled is the index of an accepted book
  module _ (o : Result Counts Refusal) (e : told o ≡ counted (reading x)) (t : List ℕ) (et : t ≡ filled t₀ [] (scan x).records) where
    pub index_stays : {n : Counts} → o ≡ Ok n → (told (Ok n) ≡ indexing t₀ x) × (t ≡ indexed t₀ x)
    index_stays h =
        let (rs, k, m) = read_accepted x o e h in
        (sym (ap told h) ∙ e ∙ sym indexing_is, et ∙ ap (filled t₀ []) (scan_records x rs k) ∙ sym (indexed_is ∙ ap (λ z. indexed_after z t₀) k))

    -- of a refused book the numbers u, which were copied before, are put back
    pub index_goes : {f : Refusal} {u t' : List ℕ} (w : List ℕ) → Bytes x → o ≡ Err f → u ≡ take index_size t₀ ++ w → t' ≡ take index_size u ++ drop index_size t
        → (told (Err f) ≡ indexing t₀ x) × (t' ≡ indexed t₀ x)
    index_goes {u = u} w b h eu e' =
        let front = take_at (take index_size t₀) w index_size (length-take-le index_size t₀ room) in
        let behind = filled_behind t₀ [] (scan x).records (scan_follows x b) in
        let back : take index_size u ++ drop index_size t ≡ t₀ = rw (eu, front, et, behind) (take-append-drop index_size t₀) in
        (sym (ap told h) ∙ e ∙ sym indexing_is, e' ∙ back ∙ sym (indexed_is ∙ ap (λ z. indexed_after z t₀) (read_refused x o e h)))

module _ {x t₀ t : List ℕ} {n : Counts} (room : index_size ≤ length t₀) (h : Opened x t₀ t n) where
  pub opened_small : Small n
  opened_small = subst (λ (m : Counts). Small m) (sym h.counts) (book_small h.records h.proper)

  pub opened_enter : (short : Bool) (s : List ℕ) → Bytes s
      → enter_in n t (n.formulas + (n.assumptions + (n.messages + n.goals))) short s ≡ enter_behind h.records short s
  opened_enter short s b =
      ap (λ (m : Counts). enter_in m t (m.formulas + (m.assumptions + (m.messages + m.goals))) short s) h.counts
      ∙ ap (λ (u : List ℕ). enter_in (counts_of rs) u (length (formulas rs) + (length (assumptions rs) + (length (messages rs) + length (goals rs)))) short s) h.table
      ∙ ap (λ (i : ℕ). enter_in (counts_of rs) (filled t₀ [] rs) i short s) (all_records rs (book_known rs h.proper))
      ∙ enter_law t₀ rs short s room h.proper (record_whole s b)
    where
      rs : List Record
      rs = h.records

-- Entering, from what was read.
module _ (b : List ℕ) (used : ℕ) (s : List ℕ) where
  pub false_length : length b < used → turned_away 12 0 ≡ entering b used s
  unfolding entering
  false_length l = rw (lt-ltb (length b) used l)

  module _ (l : used ≤ length b) where
    pub enter_refused : (f i : ℕ) → reading (take used b) ≡ refused f i → turned_away f i ≡ entering b used s
    unfolding entering
    enter_refused f i e = rw (le-ltb (length b) used l, e)

    pub enter_opened : {t₀ t : List ℕ} {n : Counts} {e : Entry} (room : index_size ≤ length t₀) (h : Opened (take used b) t₀ t n) → Bytes s
        → e ≡ enter_in n t (n.formulas + (n.assumptions + (n.messages + n.goals))) (ltb (length b - used) (length s)) s → e ≡ entering b used s
    unfolding entering
    enter_opened room h c k = k ∙ opened_enter room h (ltb (length b - used) (length s)) s c ∙ rw (le-ltb (length b) used l, h.read) refl
