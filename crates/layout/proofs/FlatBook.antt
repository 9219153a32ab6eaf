-- The flat array of a book says of each formula record what the logic says of it. Assumes nothing.
use Prim.Native.Nat.{ℕ, zero, suc, ◌+◌, ◌*◌, ◌%◌, ◌<◌, ◌≤◌}
use native.Mathlib.Nat.{mod-eq_of_lt, not-suc-le-zero, add-zero}
use native.Mathlib.Decide.{ℕ_discrete}
use native.Mathlib.Omega.{arith}
use mathlib.Core.Path.{◌≡◌, refl, sym, ap, subst, ◌∙◌}
use mathlib.Core.Logic.{◌⊎◌, inl, inr, ⊎_elim, ◌≢◌}
use mathlib.Core.List.{List, [], ◌∷◌}
use mathlib.Core.Bool.{Bool, true, false, cond, not}
use lib.ListN.{length, get_or, set, take, length-append, length-set, take-append-drop}
use lib.Seq.{sets, length-sets, take-suc, get_or-set_same, get_or-set_other}
use lib.Dec.{T, eqb, eqb→eq}
use Rattle.logic.specs.declared.Record.{Record}
use Rattle.logic.specs.Kind.{body_of, bodies, refers}
use Rattle.logic.specs.Record.{no_record}
use Rattle.logic.specs.Count.{of_kind, formulas, principals, assumptions, messages, counts_of}
use Rattle.logic.specs.Book.{EachField, MayBe, Book}
use Rattle.logic.specs.Formula.{clear, is_closed, record_of, tree_of}
use Rattle.logic.specs.Place.{rank}
use Rattle.logic.proofs.Cases.{FormulaKind}
use Rattle.logic.proofs.Cases.FormulaKind.{kind1, kind2, kind3, kind4, kind5, kind6, kind7, kind8, kind9, kind10, kind11, kind12, kind13, kind14, kind15, kind16, kind17}
use Rattle.logic.proofs.Clear.{clear_by, clear_is}
use Rattle.format.specs.Index.{index_size, filled, record_in, assumption_in, message_in}
use Rattle.format.specs.Variables.{loose_in}
use Rattle.format.proofs.Indexing.{Indexed, book_indexed, formula_shown, assumption_shown, message_shown}
use Rattle.format.proofs.Variables.{loose_shown}
use Rattle.logic.proofs.Contents.{Fitting, contents}
use borrow.Author.Tests.{le-leb}
use Rattle.logic.proofs.Follows.{of_kind_append, of_kind_all, all_of_kind, all_at, formula_limit_lem, principal_limit_lem, assumption_limit_lem, message_limit_lem}
use Rattle.logic.proofs.Formulas.{Formulas, kind_of_lem}
use Rattle.logic.proofs.Limits.{principals_of}
use Rattle.logic.proofs.Places.{rank_below}
use Rattle.layout.specs.declared.Form.{Form}
use Rattle.layout.specs.Flat.{byte_of, clear_in, opened_in, bit_in, form_in, eight, principals_in, forms_in, assumptions_in, messages_in, laid_out}

-- a run of stores: what stands elsewhere, and what stands in it
pub sets_out : (l : List ℕ) (i : ℕ) (vs : List ℕ) (j : ℕ) → (j < i) ⊎ (i + length vs ≤ j) → get_or (sets l i vs) j 0 ≡ get_or l j 0
sets_out l i [] j h = refl
sets_out l i (v ∷ vs) j h =
    sets_out (set l i v) (suc i) vs j (⊎_elim (λ a. inl (omega arith)) (λ a. inr (omega arith)) h)
    ∙ get_or-set_other l i j v 0 (⊎_elim (λ a. (λ e. omega arith)) (λ a. (λ e. omega arith)) h)

pub sets_in : (l : List ℕ) (i : ℕ) (vs : List ℕ) (k : ℕ) → k < length vs → i + k < length l → get_or (sets l i vs) (i + k) 0 ≡ get_or vs k 0
sets_in l i [] k h m = absurd (not-suc-le-zero h)
sets_in l i (v ∷ vs) zero h m =
    rw add-zero (sets_out (set l i v) (suc i) vs i (inl (omega arith)) ∙ get_or-set_same l i v 0 (omega arith))
sets_in l i (v ∷ vs) (suc k) h m =
    let e : i + suc k ≡ suc i + k = omega arith in
    rw e (sets_in (set l i v) (suc i) vs k (omega arith) (rw length-set (omega arith)))

-- What the array is to say of record x: `kind` is 0 for a formula with a loose variable, `clear` is that of its tree, `rank` the number of principals before it.
abbrev pub bit_for : List Record → Record → ℕ
bit_for fs r =
    cond (eqb r.kind 11) 2
    (cond (eqb r.kind 14) (3 + rank fs r.first)
    (cond (eqb r.kind 12) (11 + rank fs r.first) 1))

abbrev pub form_for : List Record → ℕ → Form
form_for fs x =
    record {
      kind = cond (is_closed (tree_of fs x)) (record_of fs x).kind 0;
      first = (record_of fs x).first % 256;
      second = (record_of fs x).second % 256;
      third = (record_of fs x).third % 256;
      clear = cond (clear (tree_of fs x)) 1 0;
      rank = rank fs x;
      formula = opened_in (record_of fs x) x;
      bit = bit_for fs (record_of fs x);
    }

-- ranks, one record more
pub rank_more : (fs : List Record) (x : ℕ) → x < length fs → rank fs (suc x) ≡ cond (eqb (record_of fs x).kind 1) (rank fs x + 1) (rank fs x)
unfolding rank of_kind
rank_more fs x l = rw (take-suc fs x no_record l, of_kind_append, length-append) (go (eqb (record_of fs x).kind 1))
  where
    k : ℕ
    k = length (principals (take x fs))

    go : (b : Bool) → k + length (cond b (record_of fs x ∷ []) []) ≡ cond b (k + 1) k
    go true = refl
    go false = omega arith

-- by the kind of a record: the references that a test looks at are to earlier records
module _ (fs : List Record) (B : List ℕ) (x : ℕ) where
  clear_right : (look : ℕ → Bool) → ((y : ℕ) → y < x → eqb (byte_of B y 4) 1 ≡ look y) → (k a b c : ℕ) → FormulaKind k
      → EachField (λ s y. T (refers s) → y < x) (record { kind = k; first = a; second = b; third = c })
      → clear_in B (record { kind = k; first = a; second = b; third = c }) ≡ clear_by look (record { kind = k; first = a; second = b; third = c })
  unfolding clear_in clear_by body_of bodies
  clear_right look h k a b c kind1 e = refl
  clear_right look h k a b c kind2 e = refl
  clear_right look h k a b c kind3 e = refl
  clear_right look h k a b c kind4 e = rw (h a (e.0 tt), h b (e.1 tt))
  clear_right look h k a b c kind5 e = refl
  clear_right look h k a b c kind6 e = refl
  clear_right look h k a b c kind7 e = rw (h a (e.0 tt), h b (e.1 tt))
  clear_right look h k a b c kind8 e = refl
  clear_right look h k a b c kind9 e = refl
  clear_right look h k a b c kind10 e = h b (e.1 tt)
  clear_right look h k a b c kind11 e = h a (e.0 tt)
  clear_right look h k a b c kind12 e = h b (e.1 tt)
  clear_right look h k a b c kind13 e = h b (e.1 tt)
  clear_right look h k a b c kind14 e = h b (e.1 tt)
  clear_right look h k a b c kind15 e = h b (e.1 tt)
  clear_right look h k a b c kind16 e = refl
  clear_right look h k a b c kind17 e = h b (e.1 tt)

  bit_right : ((y : ℕ) → y < x → (record_of fs y).kind ≡ 1 → byte_of B y 5 % 8 ≡ rank fs y) → (k a b c : ℕ) → FormulaKind k
      → EachField (λ s y. T (refers s) → y < x) (record { kind = k; first = a; second = b; third = c })
      → EachField (λ s y. MayBe s (record_of fs y).kind) (record { kind = k; first = a; second = b; third = c })
      → bit_in B (record { kind = k; first = a; second = b; third = c }) ≡ bit_for fs (record { kind = k; first = a; second = b; third = c })
  unfolding bit_in body_of bodies
  bit_right h k a b c kind1 e s = refl
  bit_right h k a b c kind2 e s = refl
  bit_right h k a b c kind3 e s = refl
  bit_right h k a b c kind4 e s = refl
  bit_right h k a b c kind5 e s = refl
  bit_right h k a b c kind6 e s = refl
  bit_right h k a b c kind7 e s = refl
  bit_right h k a b c kind8 e s = refl
  bit_right h k a b c kind9 e s = refl
  bit_right h k a b c kind10 e s = refl
  bit_right h k a b c kind11 e s = refl
  bit_right h k a b c kind12 e s = ap (λ (j : ℕ). 11 + j) (h a (e.0 tt) s.0)
  bit_right h k a b c kind13 e s = refl
  bit_right h k a b c kind14 e s = ap (λ (j : ℕ). 3 + j) (h a (e.0 tt) s.0)
  bit_right h k a b c kind15 e s = refl
  bit_right h k a b c kind16 e s = refl
  bit_right h k a b c kind17 e s = refl

small_mod : (a b : ℕ) → a < b → a % b ≡ a
small_mod a b l = mod-eq_of_lt l

-- the number of a truth
as_one : (c : Bool) → eqb (cond c 1 0) 1 ≡ c
as_one true = refl
as_one false = refl

-- the test for a loose variable is the other way round from that for none
kind_by : (closed : Bool) (k : ℕ) {is_loose : Bool} → is_loose ≡ not closed → cond is_loose 0 k ≡ cond closed k 0
kind_by true k e = rw e
kind_by false k e = rw e

length_forms : (t b : List ℕ) (x : ℕ) → length (forms_in t x b) ≡ length b
unfolding forms_in
length_forms t b zero = refl
length_forms t b (suc x) = length-sets (forms_in t x b) (x * 8) (eight (form_in (forms_in t x b) (principals_in t x) x (loose_in t x) (record_in t x))) ∙ length_forms t b x

module _ (fs : List Record) (ok : Formulas fs) (few : length fs ≤ 256) (small : length (principals fs) ≤ 8)
    (t : List ℕ) (shown : (x : ℕ) → x < length fs → record_in t x ≡ record_of fs x)
    (is_loose : (x : ℕ) → x < length fs → loose_in t x ≡ not (is_closed (tree_of fs x))) (b : List ℕ) (room : 2144 ≤ length b) where
  ranks : (x : ℕ) → x ≤ length fs → principals_in t x ≡ rank fs x
  unfolding principals_in rank of_kind
  ranks zero l = refl
  ranks (suc x) l = rw (shown x l, ranks x (omega arith)) (sym (rank_more fs x l))

  rank_few : (x : ℕ) → rank fs x ≤ 8
  unfolding rank
  rank_few x =
      let e = ap (λ (l : List Record). length (principals l)) (take-append-drop x fs) in
      let h = rw (of_kind_append, length-append) at e in
      omega arith

  -- the records before x stand in the array as they should
  Stored : ℕ → Type 0
  Stored x = (y : ℕ) → y < x → (k : ℕ) → k < 8 → get_or (forms_in t x b) (y * 8 + k) 0 ≡ get_or (eight (form_for fs y)) k 0

  module _ (x : ℕ) (l : x < length fs) (h : Stored x) where
    byte_right : (y : ℕ) → y < x → (k : ℕ) → k < 8 → byte_of (forms_in t x b) y k ≡ get_or (eight (form_for fs y)) k 0
    unfolding byte_of Stored
    byte_right y m k n = rw (small_mod y 256 (omega arith)) (h y m k n)

    form_right : form_in (forms_in t x b) (principals_in t x) x (loose_in t x) (record_in t x) ≡ form_for fs x
    unfolding form_in
    form_right =
        rw (shown x l, ranks x (omega arith))
        (λ i. record {
          kind = kind_by (is_closed (tree_of fs x)) (record_of fs x).kind (is_loose x l) i;
          first = (record_of fs x).first % 256;
          second = (record_of fs x).second % 256;
          third = (record_of fs x).third % 256;
          clear = ap (λ (c : Bool). cond c 1 0) is_clear_lem i;
          rank = small_mod (rank fs x) 256 (let r = rank_few x in omega arith) i;
          formula = opened_in (record_of fs x) x;
          bit = is_bit i;
        })
      where
        r : Record
        r = record_of fs x

        is_clear_lem : clear_in (forms_in t x b) r ≡ clear (tree_of fs x)
        is_clear_lem =
            clear_right fs (forms_in t x b) x (λ y. clear (tree_of fs y))
            (λ y m. rw (byte_right y m 4 (omega arith)) (as_one (clear (tree_of fs y))))
            r.kind r.first r.second r.third (kind_of_lem fs ok x l) (ok.earlier x l)
            ∙ sym (clear_is fs ok x l)

        is_bit : bit_in (forms_in t x b) r ≡ bit_for fs r
        is_bit =
            bit_right fs (forms_in t x b) x
            (λ y m k. rw (byte_right y m 5 (omega arith)) (small_mod (rank fs y) 8 (let s = rank_below fs y k in omega arith)))
            r.kind r.first r.second r.third (kind_of_lem fs ok x l) (ok.earlier x l) (ok.sorts x l)

  stored_none : Stored zero
  unfolding Stored
  stored_none y m k n = absurd (not-suc-le-zero m)

  -- one record more
  step : (x : ℕ) → x < length fs → Stored x → forms_in t (suc x) b ≡ sets (forms_in t x b) (x * 8) (eight (form_for fs x))
  unfolding forms_in
  step x l h = ap (λ (f : Form). sets (forms_in t x b) (x * 8) (eight f)) (form_right x l h)

  stored_more : (x : ℕ) → x < length fs → Stored x → Stored (suc x)
  unfolding Stored
  stored_more x l h y m k n =
      ap (λ (c : List ℕ). get_or c (y * 8 + k) 0) (step x l h)
      ∙ elim (ℕ_discrete y x) [
        | yes d ↦
            let p = sets_in (forms_in t x b) (x * 8) (eight (form_for fs x)) k n (rw (length_forms t b x) (omega arith)) in
            subst (λ (z : ℕ). get_or (sets (forms_in t x b) (x * 8) (eight (form_for fs x))) (z * 8 + k) 0 ≡ get_or (eight (form_for fs z)) k 0) (sym d) p
        | no d ↦ sets_out (forms_in t x b) (x * 8) (eight (form_for fs x)) (y * 8 + k) (inl (omega arith)) ∙ h y (omega arith) k n
      ]

  stored : (x : ℕ) → x ≤ length fs → Stored x
  stored zero l = stored_none
  stored (suc x) l = stored_more x l (stored x (omega arith))

  -- so all of them do
  pub forms_laid : (y : ℕ) → y < length fs → (k : ℕ) → k < 8 → get_or (forms_in t (length fs) b) (y * 8 + k) 0 ≡ get_or (eight (form_for fs y)) k 0
  unfolding Stored
  forms_laid = stored (length fs) (omega arith)

-- two stores
module _ (l : List ℕ) (i j v w : ℕ) where
  two_length : length (set (set l i v) j w) ≡ length l
  two_length = length-set (set l i v) j w ∙ length-set l i v

  two_other : (k : ℕ) → k ≢ i → k ≢ j → get_or (set (set l i v) j w) k 0 ≡ get_or l k 0
  two_other k a b = get_or-set_other (set l i v) j k w 0 b ∙ get_or-set_other l i k v 0 a

  two_first : i ≢ j → i < length l → get_or (set (set l i v) j w) i 0 ≡ v
  two_first a h = get_or-set_other (set l i v) j i w 0 a ∙ get_or-set_same l i v 0 h

  two_second : j < length l → get_or (set (set l i v) j w) j 0 ≡ w
  two_second h = get_or-set_same (set l i v) j w 0 (rw length-set h)

-- Assumptions and messages stand behind the formulas, and change nothing before them.
module _ (t b : List ℕ) where
  length_assumptions : (a : ℕ) → length (assumptions_in t a b) ≡ length b
  unfolding assumptions_in
  length_assumptions zero = refl
  length_assumptions (suc a) = length-set (assumptions_in t a b) (2048 + a) _ ∙ length_assumptions a

  pub assumptions_before : (a j : ℕ) → j < 2048 → get_or (assumptions_in t a b) j 0 ≡ get_or b j 0
  unfolding assumptions_in
  assumptions_before zero j l = refl
  assumptions_before (suc a) j l = get_or-set_other (assumptions_in t a b) (2048 + a) j _ 0 (λ e. omega arith) ∙ assumptions_before a j l

  assumptions_at : (a i : ℕ) → i < a → 2048 + a ≤ length b → get_or (assumptions_in t a b) (2048 + i) 0 ≡ (assumption_in t i).first % 256
  unfolding assumptions_in
  assumptions_at zero i l h = absurd (not-suc-le-zero l)
  assumptions_at (suc a) i l h =
      elim (ℕ_discrete i a) [
        | yes d ↦ rw d (get_or-set_same (assumptions_in t a b) (2048 + a) _ 0 (rw (length_assumptions a) (omega arith)))
        | no d ↦ get_or-set_other (assumptions_in t a b) (2048 + a) (2048 + i) _ 0 (λ e. omega arith) ∙ assumptions_at a i (omega arith) (omega arith)
      ]

  abbrev receiver : ℕ → ℕ
  receiver m = (message_in t (m + 1)).second % 256

  abbrev formula : ℕ → ℕ
  formula m = (message_in t (m + 1)).third % 256

  more : (m : ℕ) → messages_in t (suc m) b ≡ set (set (messages_in t m b) (2112 + m * 2) (receiver m)) (2112 + m * 2 + 1) (formula m)
  unfolding messages_in
  more m = refl

  length_messages : (m : ℕ) → length (messages_in t m b) ≡ length b
  unfolding messages_in
  length_messages zero = refl
  length_messages (suc m) = two_length (messages_in t m b) (2112 + m * 2) (2112 + m * 2 + 1) (receiver m) (formula m) ∙ length_messages m

  pub messages_before : (m j : ℕ) → j < 2112 → get_or (messages_in t m b) j 0 ≡ get_or b j 0
  unfolding messages_in
  messages_before zero j l = refl
  messages_before (suc m) j l =
      two_other (messages_in t m b) (2112 + m * 2) (2112 + m * 2 + 1) (receiver m) (formula m) j (λ e. omega arith) (λ e. omega arith)
      ∙ messages_before m j l

  -- message i, of the first m: its receiver and its formula
  messages_at : (m i : ℕ) → i < m → 2112 + m * 2 ≤ length b
      → (get_or (messages_in t m b) (2112 + i * 2) 0 ≡ receiver i) × (get_or (messages_in t m b) (2112 + i * 2 + 1) 0 ≡ formula i)
  messages_at zero i l h = absurd (not-suc-le-zero l)
  messages_at (suc m) i l h =
      let n = length_messages m in
      elim (ℕ_discrete i m) [
        | yes d ↦
            rw (d, more m) (
              two_first (messages_in t m b) (2112 + m * 2) (2112 + m * 2 + 1) (receiver m) (formula m) (λ e. omega arith) (omega arith),
              two_second (messages_in t m b) (2112 + m * 2) (2112 + m * 2 + 1) (receiver m) (formula m) (omega arith),
            )
        | no d ↦
            let p = messages_at m i (omega arith) (omega arith) in
            rw (more m) (
              two_other (messages_in t m b) (2112 + m * 2) (2112 + m * 2 + 1) (receiver m) (formula m) (2112 + i * 2) (λ e. omega arith) (λ e. omega arith) ∙ p.0,
              two_other (messages_in t m b) (2112 + m * 2) (2112 + m * 2 + 1) (receiver m) (formula m) (2112 + i * 2 + 1) (λ e. omega arith) (λ e. omega arith) ∙ p.1,
            )
      ]

-- THE ARRAY OF A BOOK. Each byte that the search looks at is what the book says.
pub record Laid (rs : List Record) (b : List ℕ) : Type 0 where
  pub form : (x : ℕ) → x < length (formulas rs) → (k : ℕ) → k < 8 → get_or b (x * 8 + k) 0 ≡ get_or (eight (form_for (formulas rs) x)) k 0
  pub assumption : (a : ℕ) → a < length (assumptions rs) → get_or b (2048 + a) 0 ≡ (get_or (assumptions rs) a no_record).first
  pub receiver : (m : ℕ) → m < length (messages rs) → get_or b (2112 + m * 2) 0 ≡ (get_or (messages rs) m no_record).second
  pub message : (m : ℕ) → m < length (messages rs) → get_or b (2112 + m * 2 + 1) 0 ≡ (get_or (messages rs) m no_record).third

-- references of assumptions and messages are formula numbers
statement_below : (fs : List Record) (r : Record) → r.kind ≡ 32 → Fitting fs r → r.first < length fs
unfolding body_of bodies
statement_below fs r e h = let p = rw e at h in p.0.0 tt

message_below : (fs : List Record) (r : Record) → r.kind ≡ 33 → Fitting fs r → (r.second < length fs) × (r.third < length fs)
unfolding body_of bodies
message_below fs r e h = let p = rw e at h in (p.1.0 tt, p.2.0 tt)

-- from the index of the book, whatever stood in the table before
module _ (rs : List Record) (book : Book rs) (t₀ : List ℕ) (size : index_size ≤ length t₀) where
  abbrev t : List ℕ
  t = filled t₀ [] rs

  abbrev x : Indexed t₀ (filled t₀ [] rs) rs
  x = book_indexed t₀ rs size book

  fits : (p : ℕ → Bool) (i : ℕ) → i < length (of_kind p rs)
      → Fitting (formulas rs) (get_or (of_kind p rs) i no_record) × T (p (get_or (of_kind p rs) i no_record).kind)
  fits p i l = (
    all_at (Fitting (formulas rs)) (of_kind p rs) i no_record (all_of_kind (Fitting (formulas rs)) p rs (contents rs book).fitting) l,
    all_at (λ r. T (p r.kind)) (of_kind p rs) i no_record (of_kind_all p rs) l,
  )

  pub laid : (b : List ℕ) → 2144 ≤ length b → Laid rs (laid_out (filled t₀ [] rs) (counts_of rs) b)
  unfolding laid_out
  laid b room =
      let nf = formula_limit_lem rs book in
      let na = assumption_limit_lem rs book in
      let nm = message_limit_lem rs book in
      rw (le-leb (length (formulas rs)) 256 nf, le-leb (length (assumptions rs)) 64 na, le-leb (length (messages rs)) 16 nm)
      (record {
        form = λ y l k n.
            messages_before t c (length (messages rs)) (y * 8 + k) (omega arith)
            ∙ assumptions_before t a (length (assumptions rs)) (y * 8 + k) (omega arith)
            ∙ forms_laid (formulas rs) (contents rs book).formulas_ok nf (rw (principals_of rs) (principal_limit_lem rs book)) t
            (formula_shown t₀ t rs x book) (loose_shown t₀ rs size book) b room y l k n;
        assumption = λ i l.
            let f = fits (λ k. eqb k 32) i l in
            let e = eqb→eq (get_or (assumptions rs) i no_record).kind 32 f.1 in
            messages_before t c (length (messages rs)) (2048 + i) (omega arith)
            ∙ assumptions_at t a (length (assumptions rs)) i l (rw (length_forms t b (length (formulas rs))) (omega arith))
            ∙ rw (assumption_shown t₀ t rs x book i l)
            (small_mod _ 256 (let h = statement_below (formulas rs) (get_or (assumptions rs) i no_record) e f.0 in omega arith));
        receiver = λ i l.
            (messages_at t c (length (messages rs)) i l (long nf na nm)).0 ∙ rw (message_shown t₀ t rs x book i l) (small_mod _ 256 (let h = below i l in omega (arith, h.0)));
        message = λ i l.
            (messages_at t c (length (messages rs)) i l (long nf na nm)).1 ∙ rw (message_shown t₀ t rs x book i l) (small_mod _ 256 (let h = below i l in omega (arith, h.1)));
      })
    where
      a : List ℕ
      a = forms_in t (length (formulas rs)) b

      c : List ℕ
      c = assumptions_in t (length (assumptions rs)) a

      long : length (formulas rs) ≤ 256 → length (assumptions rs) ≤ 64 → length (messages rs) ≤ 16 → 2112 + length (messages rs) * 2 ≤ length c
      long nf na nm = rw (length_assumptions t a (length (assumptions rs)), length_forms t b (length (formulas rs))) (omega arith)

      below : (i : ℕ) → i < length (messages rs)
          → ((get_or (messages rs) i no_record).second < length (formulas rs)) × ((get_or (messages rs) i no_record).third < length (formulas rs))
      below i l =
          let f = fits (λ k. eqb k 33) i l in
          message_below (formulas rs) (get_or (messages rs) i no_record) (eqb→eq (get_or (messages rs) i no_record).kind 33 f.1) f.0
