-- What the reader knows at its reading place, and what a turn of its loop does to that. Assumes nothing.
use Prim.Native.Nat.{ℕ, suc, ◌+◌, ◌-◌, ◌<◌, ◌≤◌, zero-le}
use native.Mathlib.Omega.{arith}
use native.Mathlib.Decide.{dec_lt}
use mathlib.Core.Path.{◌≡◌, refl, sym, ap, subst, ◌∙◌}
use mathlib.Core.List.{List, [], ◌∷◌, ◌++◌}
use mathlib.Core.Bool.{Bool, true, false, cond, not, ◌&&◌}
use lib.ListN.{length, get_or, take, drop, set, length-set, length-append, length-drop, drop_of_length-le}
use lib.Seq.{take_all, drop-drop}
use lib.Dec.{T, eqb, ltb, ltb→lt}
use Rattle.logic.specs.declared.Cause.{Cause}
use Rattle.logic.specs.declared.Cause.TheVariants.{UnknownKind, WrongLength, OutOfOrder, DanglingReference, WrongSort, NamesNotRising, SenderIsReceiver, RepeatedFormula, OverLimit, NotStatement, MessageAfterLast, NoSpace, NoSuchGoal, ShortBuffer, LongText, BadStepKind, MalformedFact, PremiseNotEarlier, DoesNotFollow, NotTheGoal, TooManySteps, LooseVariable, WrongDelegation}
use Rattle.logic.specs.declared.Refusal.{Refusal}
use Rattle.logic.specs.declared.Record.{Record}
use Rattle.logic.specs.declared.Counts.{Counts}
use Rattle.std.specs.Prelude.{Result, Ok, Err}
use Rattle.logic.specs.Kind.{body_of, size_of, is_formula_record, refers}
use Rattle.logic.specs.Record.{record_at}
use Rattle.logic.specs.Count.{of_kind, formulas, counts_of, position_of}
use Rattle.logic.specs.Refusal.{number_of, told}
use Rattle.logic.specs.Refusal.Outcome.{accepted}
use Rattle.logic.specs.Reading.{scan, on_fault, judged, reading, counted, fault, fault_at, is_repeated}
use Rattle.logic.specs.Book.{Book, EachField, Whole, Proper}
use Rattle.format.specs.Index.{index_size, unpacked, noted, entered, filled}
use Rattle.format.specs.Variables.{variables_from, variables_in, variables_of}
use Rattle.logic.proofs.Scan.{scan_on, scan_is, scan_end, scan_step}
use Rattle.logic.proofs.Bytes.{Bytes, bytes_drop, record_whole}
use Rattle.logic.proofs.Table.{known_small}
use Rattle.logic.proofs.Follows.{book_known, follows_snoc, of_kind_append, formula_limit_lem, principal_limit_lem, assumption_limit_lem, message_limit_lem, goal_limit_lem}
use Rattle.logic.proofs.BookRead.{fault_passes, step_proper}
use Rattle.format.proofs.Indexing.{filled_more, filled_length, seek_law}
use Rattle.format.proofs.Packing.{whole_fields, unpacked_packed}
use Rattle.format.proofs.Variables.{unseen_none, number_kept, number_new, fault_indexed}
use Rattle.book.specs.declared.Cursor.{Cursor}
use Rattle.book.specs.Read.{Small, one_more, place_among, is_among, fault_in, fault_at_in, records_in, variables_next, note_in, stored, Unseen, Bare, bare_with, behind, ReadIs}
use Rattle.book.specs.Chain.{heads_with, next_with}
use Rattle.book.proofs.Laws.{records_counted}
use Rattle.chains.proofs.Chain.{Chained}
use Rattle.book.proofs.Chain.{chained_noted, chained_more}
use Rattle.book.specs.declared.Got.{Got}

-- the part of a book from a place on
pub rest_whole : (s : List ℕ) (at : ℕ) → take (length s - at) (drop at s) ≡ drop at s
rest_whole s at = take_all (length s - at) (drop at s) (simp length-drop (omega arith))

-- At the cursor c the records `past` have been read from the book s: n counts them, the table t, at first t₀, has them,
-- and going on from here gives the scan of the whole book.
pub record Reached (s t₀ t : List ℕ) (n : Counts) (c : Cursor) : Type 0 where
  pub past : List Record
  pub proper : Book past
  pub counts : n ≡ counts_of past
  pub table : t ≡ filled t₀ [] past
  pub going : scan_on past (drop c.at s) ≡ scan s

pub start : (s t₀ : List ℕ) (n : Counts) (c : Cursor) → n ≡ record { formulas = 0; principals = 0; assumptions = 0; messages = 0; goals = 0 }
    → c ≡ record { at = 0 } → Reached s t₀ t₀ n c
unfolding filled of_kind
start s t₀ n c en ec =
    record {
      past = [];
      proper = tt;
      counts = en;
      table = refl;
      going = rw ec (sym (scan_is s));
    }

-- the counts of a book keep to the limits
pub book_small : (rs : List Record) → Book rs → Small (counts_of rs)
book_small rs b =
    record {
      formulas = formula_limit_lem rs b;
      principals = principal_limit_lem rs b;
      assumptions = assumption_limit_lem rs b;
      messages = message_limit_lem rs b;
      goals = goal_limit_lem rs b;
    }

pub small : {s t₀ t : List ℕ} {n : Counts} {c : Cursor} → Reached s t₀ t n c → Small n
small {n = n} h = subst (λ (m : Counts). Small m) (sym h.counts) (book_small h.past h.proper)

-- In terms of the index a record has the fault that it has behind the records.
module _ (t₀ : List ℕ) (room : index_size ≤ length t₀) (past : List Record) (b : Book past) (r : Record) (w : EachField Whole r) where
  pub place_law : place_among (counts_of past) (filled t₀ [] past) r ≡ position_of r (formulas past)
  unfolding place_among
  place_law = seek_law t₀ past r b room w

  pub among_law : is_among (counts_of past) (filled t₀ [] past) r ≡ is_repeated past r
  unfolding is_among is_repeated
  among_law = rw place_law

  pub fault_law : fault_in (counts_of past) (filled t₀ [] past) r ≡ fault past r
  unfolding fault_in fault
  fault_law = rw among_law (fault_indexed t₀ past room b r (is_repeated past r))

pub fault_at_law : (t₀ : List ℕ) (past : List Record) (s : List ℕ) → index_size ≤ length t₀ → Book past → Bytes s
    → fault_at_in (counts_of past) (filled t₀ [] past) s ≡ fault_at past s
unfolding fault_at_in fault_at
fault_at_law t₀ past s room b h = rw (fault_law t₀ room past b (record_at s) (record_whole s h))

-- what is put for the variables leaves the length
noted_in : (n : Counts) (k v : ℕ) (t : List ℕ) → length (note_in n k v t) ≡ length t
unfolding note_in
noted_in n k v t = go (is_formula_record k)
  where
    go : (b : Bool) → length (cond b (set t (variables_from + n.formulas) v) t) ≡ length t
    go true = length-set t (variables_from + n.formulas) v
    go false = refl

-- counting one record more
length_more : (p : ℕ → Bool) (rs : List Record) (r : Record)
    → length (of_kind p (rs ++ (r ∷ []))) ≡ cond (p r.kind) (length (of_kind p rs) + 1) (length (of_kind p rs))
unfolding of_kind
length_more p rs r = rw (of_kind_append, length-append) (go (p r.kind))
  where
    go : (x : Bool) → length (of_kind p rs) + length (cond x (r ∷ []) []) ≡ cond x (length (of_kind p rs) + 1) (length (of_kind p rs))
    go true = refl
    go false = omega arith

pub count_more : (rs : List Record) (r : Record) → one_more (counts_of rs) r.kind ≡ counts_of (rs ++ (r ∷ []))
unfolding one_more
count_more rs r =
    λ i. record {
      formulas = sym (length_more is_formula_record rs r) i;
      principals = sym (length_more (λ k. eqb k 1) rs r) i;
      assumptions = sym (length_more (λ k. eqb k 32) rs r) i;
      messages = sym (length_more (λ k. eqb k 33) rs r) i;
      goals = sym (length_more (λ k. eqb k 34) rs r) i;
    }

-- one record more, and the bound behind it
bare_more : (t : List ℕ) (past : List Record) (r : Record) (b : ℕ) → Proper past r → index_size ≤ length t → Bare t (length (formulas past)) b
    → (r.kind < b → variables_of (variables_in t) (length (formulas past)) r ≡ 0)
    → Bare (entered t (counts_of past) r) (one_more (counts_of past) r.kind).formulas (bare_with r.kind b)
unfolding one_more bare_with
bare_more t past r b p room q z = go (is_formula_record r.kind) refl (ltb r.kind b) (ltb→lt r.kind b)
  where
    u : List ℕ
    u = entered t (counts_of past) r

    f : ℕ
    f = length (formulas past)

    old : 0 < b → Unseen u f
    old l x m = number_kept t past r p x m ∙ q.1 l x m

    go : (v : Bool) → is_formula_record r.kind ≡ v → (w : Bool) → (T w → r.kind < b) → Bare u (cond v (f + 1) f) (cond (v && not w) 0 b)
    go true d true k = (
      q.0,
      λ l x m. elim (dec_lt x f) [
        | yes i ↦ old l x i
        | no i ↦ let e : x ≡ f = omega arith in ap (variables_in u) e ∙ number_new t past r p room (subst T (sym d) tt) ∙ z (k tt)
      ],
    )
    go true d false k = (zero-le, λ l. absurd (omega arith))
    go false d w k = (q.0, old)

-- no cause has the number 0
pub cause_number : (e : Cause) → (m : ℕ) × (number_of e ≡ suc m)
cause_number UnknownKind = (0, refl)
cause_number WrongLength = (1, refl)
cause_number OutOfOrder = (2, refl)
cause_number DanglingReference = (3, refl)
cause_number WrongSort = (4, refl)
cause_number NamesNotRising = (5, refl)
cause_number SenderIsReceiver = (6, refl)
cause_number RepeatedFormula = (7, refl)
cause_number OverLimit = (8, refl)
cause_number NotStatement = (9, refl)
cause_number MessageAfterLast = (10, refl)
cause_number NoSpace = (11, refl)
cause_number NoSuchGoal = (12, refl)
cause_number ShortBuffer = (13, refl)
cause_number LongText = (14, refl)
cause_number BadStepKind = (15, refl)
cause_number MalformedFact = (16, refl)
cause_number PremiseNotEarlier = (17, refl)
cause_number DoesNotFollow = (18, refl)
cause_number NotTheGoal = (19, refl)
cause_number TooManySteps = (20, refl)
cause_number LooseVariable = (21, refl)
cause_number WrongDelegation = (22, refl)

-- the answer and the table, from what the scan found
pub answer : (s t₀ : List ℕ) (past : List Record) (f : ℕ) → scan s ≡ record { records = past; number = f }
    → (counted (reading s) ≡ counted (judged f past)) × (filled t₀ [] (scan s).records ≡ filled t₀ [] past)
unfolding reading
answer s t₀ past f e = (rw e, rw e)

module _ (s t₀ t : List ℕ) (n : Counts) (c : Cursor) (room : index_size ≤ length t₀) (h : Reached s t₀ t n c) where
  -- nothing is left
  pub finish : length s ≤ c.at → (accepted n ≡ counted (reading s)) × (t ≡ filled t₀ [] (scan s).records)
  finish l =
      let e : scan s ≡ record { records = h.past; number = 0 } =
      sym h.going ∙ ap (scan_on h.past) (drop_of_length-le s l) ∙ scan_end h.past in
      let a = answer s t₀ h.past 0 e in
      (ap accepted h.counts ∙ sym a.0, h.table ∙ sym a.1)

  -- one record more is read from the rest of the book
  module _ (l : c.at < length s) (b : Bytes s) where
    rest : List ℕ
    rest = drop c.at s

    rest_some : 0 < length rest
    unfolding rest
    rest_some = simp length-drop (omega arith)

    rest_bytes : Bytes rest
    unfolding rest
    rest_bytes = bytes_drop c.at s b

    same_fault : {f : ℕ} → f ≡ fault_at_in n t rest → f ≡ fault_at h.past rest
    same_fault e =
        e
        ∙ ap (λ (m : Counts). fault_at_in m t rest) h.counts
        ∙ ap (λ (u : List ℕ). fault_at_in (counts_of h.past) u rest) h.table
        ∙ fault_at_law t₀ h.past rest room h.proper rest_bytes

    step : scan s ≡ on_fault (fault_at h.past rest) h.past (scan_on (h.past ++ (record_at rest ∷ [])) (drop (size_of (body_of (get_or rest 0 0))) rest))
    unfolding rest
    step = sym h.going ∙ scan_step h.past rest rest_some

    pub refuse : (e : Refusal) → number_of e.cause ≡ fault_at_in n t (drop c.at s) → e.place ≡ records_in n
        → (told {A = Counts} (Err e) ≡ counted (reading s)) × (t ≡ filled t₀ [] (scan s).records)
    unfolding rest
    refuse e f p =
        let m = cause_number e.cause in
        let g = same_fault f in
        let z : scan s ≡ record { records = h.past; number = suc m.0 } = step ∙ rw (← g, m.1) refl in
        let a = answer s t₀ h.past (suc m.0) z in
        let i : e.place ≡ length h.past = p ∙ ap records_in h.counts ∙ records_counted h.past (book_known h.past h.proper) in
        (rw (m.1, i) (sym a.0), h.table ∙ sym a.1)

    -- what is known behind the record: the cursor d, the table u and the counts m
    pub record Turned (d : Cursor) (u : List ℕ) (m : Counts) : Type 0 where
      pub inside : d.at ≤ length s
      pub above : c.at < d.at
      pub reached : Reached s t₀ u m d

    turn : (d : Cursor) (r : Record) → fault_at_in n t (drop c.at s) ≡ 0 → r ≡ record_at (drop c.at s) → d ≡ behind (drop c.at s) c
        → Turned d (entered t n r) (one_more n r.kind)
    unfolding rest
    turn d r f er ed =
        let g : fault_at h.past rest ≡ 0 = sym (same_fault (sym f)) in
        let p = fault_passes h.past rest g in
        let q = step_proper h.past rest rest_bytes g in
        let w = rw length-drop at p.whole in
        record {
          inside = rw ed (omega arith);
          above = rw ed (omega arith);
          reached = record {
            past = h.past ++ (r ∷ []);
            proper = follows_snoc [] h.past r h.proper (rw er q);
            counts = rw h.counts (count_more h.past r);
            table = rw (h.counts, h.table) (sym (filled_more t₀ [] h.past r));
            going = rw (ed, er, ← drop-drop) (sym (step ∙ rw g refl));
          };
        }

    -- the same from what the reading of the record says of the part of the book that it was lent
    module _ (at : ℕ) (ea : at ≡ c.at) (o : Result Got Refusal)
        (eo : ReadIs o (fault_at_in n t (take (length s - at) (drop at s))) (records_in n) (take (length s - at) (drop at s)) c) where
      from_rest : ReadIs o (fault_at_in n t (drop c.at s)) (records_in n) (drop c.at s) c
      from_rest =
          subst (λ (x : List ℕ). ReadIs o (fault_at_in n t x) (records_in n) x c) (rest_whole s at ∙ ap (λ (k : ℕ). drop k s) ea) eo

      pub refuse_read : {e : Refusal} {a : Result Counts Refusal} → o ≡ Err e → a ≡ Err e → (told a ≡ counted (reading s)) × (t ≡ filled t₀ [] (scan s).records)
      refuse_read {e} {a} g k =
          let x : ReadIs (Err e) (fault_at_in n t (drop c.at s)) (records_in n) (drop c.at s) c =
          subst (λ (o : Result Got Refusal). ReadIs o (fault_at_in n t (drop c.at s)) (records_in n) (drop c.at s) c) g from_rest in
          rw k (refuse e x.0 x.1)

      -- the record that was read
      module _ {y : Got} (g : o ≡ Ok y) where
        got : ReadIs (Ok y) (fault_at_in n t (drop c.at s)) (records_in n) (drop c.at s) c
        got = subst (λ (o : Result Got Refusal). ReadIs o (fault_at_in n t (drop c.at s)) (records_in n) (drop c.at s) c) g from_rest

        proper_read : Proper h.past (record_at (drop c.at s))
        unfolding rest
        proper_read = step_proper h.past rest rest_bytes (sym (same_fault (sym got.0)))

        unpack_read : unpacked y.number ≡ record_at (drop c.at s)
        unpack_read =
            let r = record_at (drop c.at s) in
            let l = known_small r.kind proper_read.known in
            ap unpacked got.2 ∙ unpacked_packed r (whole_fields r proper_read.whole) (omega arith)

        entered_read : {u : List ℕ} → u ≡ stored n y.kind y.number t → u ≡ entered t n (record_at (drop c.at s))
        unfolding note_in noted
        entered_read eu = rw (eu, unpack_read, got.1, got.2) refl

        pub turn_read : {u : List ℕ} {m : Counts} → u ≡ stored n y.kind y.number t → m ≡ one_more n y.kind → Turned y.behind u m
        turn_read eu em = rw (entered_read eu, em, got.1) (turn y.behind (record_at (drop c.at s)) got.0 refl got.4)

        -- a formula that was read has a place among the 256
        pub room_read : T (is_formula_record y.kind) → n.formulas < 256
        room_read f = rw h.counts (proper_read.formula_limit (subst (λ k. T (is_formula_record k)) got.1 f))

        -- and goes into the chains
        pub chain_read : {u : List ℕ} {m : Counts} {heads next hs ns : List ℕ} → Chained t heads next n.formulas
            → (hs ≡ heads_with n y.kind y.hash heads) × (ns ≡ next_with n y.kind y.hash heads next) → u ≡ stored n y.kind y.number t → m ≡ one_more n y.kind → Chained u hs ns m.formulas
        chain_read {heads = heads} {next = next} q e eu em =
            let f = (small h).formulas in
            let w : length t ≡ length t₀ = ap length h.table ∙ filled_length t₀ [] h.past in
            let l : 256 ≤ length t = omega arith in
            let v = variables_next n y.number t in
            rw (eu, em, e.0, e.1, got.3)
            (chained_more (note_in n y.kind v t) heads next n y.kind y.number f (rw (noted_in n y.kind v t) l) (chained_noted t heads next n y.kind y.number f l q v) room_read)

        -- the number of its variables is 0, if its kind is below the bound
        bare_zero : {b : ℕ} → Bare t n.formulas b → (record_at (drop c.at s)).kind < b → variables_of (variables_in t) n.formulas (record_at (drop c.at s)) ≡ 0
        bare_zero q l =
            let r = record_at (drop c.at s) in
            let e = subst (λ (m : Counts). EachField (λ s x. T (refers s) → x < m.formulas) r) (sym h.counts) proper_read.earlier in
            unseen_none (variables_in t) n.formulas n.formulas r e (q.1 (omega arith)) (λ e. omega (arith, q.0)) (λ e. omega (arith, q.0))

        pub bare_read : {b : ℕ} → Bare t n.formulas b → y.kind < b → variables_next n y.number t ≡ 0
        bare_read {b} q l = ap (variables_of (variables_in t) n.formulas) unpack_read ∙ bare_zero q (subst (λ k. k < b) got.1 l)

        pub bound_read : {u : List ℕ} {m : Counts} {b b' : ℕ} → Bare t n.formulas b → u ≡ stored n y.kind y.number t → m ≡ one_more n y.kind → b' ≡ bare_with y.kind b
            → Bare u m.formulas b'
        bound_read {b = b} q eu em eb =
            let r = record_at (drop c.at s) in
            let w : length t ≡ length t₀ = ap length h.table ∙ filled_length t₀ [] h.past in
            let more = subst (λ (i : Counts). Bare t i.formulas b → (r.kind < b → variables_of (variables_in t) i.formulas r ≡ 0)
            → Bare (entered t i r) (one_more i r.kind).formulas (bare_with r.kind b)) (sym h.counts) (bare_more t h.past r b proper_read (omega arith)) in
            rw (entered_read eu, em, eb, got.1) (more q (bare_zero q))
