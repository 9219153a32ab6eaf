-- The index of a book that was read, as the functions of the listing hold it. Assumes nothing.
use Prim.Native.Nat.{ℕ, ◌+◌, ◌-◌, ◌<◌, ◌≤◌}
use native.Mathlib.Omega.{arith}
use mathlib.Core.Path.{◌≡◌, refl, sym, ap, ◌∙◌}
use mathlib.Core.Logic.{⊎_elim}
use mathlib.Core.List.{List, [], ◌∷◌, map}
use lib.ListN.{length, get_or, take, drop, length-map, length-drop, get_or-map}
use lib.Seq.{ext_get_or, get_or-take, get_or-drop, length-take-le}
use lib.Dec.{T, eqb, eqb→eq}
use Rattle.logic.specs.declared.Record.{Record}
use Rattle.logic.specs.declared.Audience.{Audience}
use Rattle.logic.specs.declared.Counts.{Counts}
use Rattle.logic.specs.Record.{no_record}
use Rattle.logic.specs.Count.{principals, formulas, messages, goals}
use Rattle.logic.specs.Book.{All, EachField, Whole, Book}
use Rattle.logic.specs.Refusal.{Outcome}
use Rattle.logic.specs.Refusal.Outcome.{refused}
use Rattle.logic.specs.Reading.{reading}
use Rattle.format.specs.Index.{index_size, messages_from, goals_from, packed, unpacked, filled, record_in, message_in}
use Rattle.logic.specs.Kind.{body_of, bodies, is_statement}
use Rattle.logic.specs.Formula.{record_of}
use Rattle.logic.specs.Text.{length_told, at_front}
use Rattle.logic.specs.Explained.{goal_line_among, goal_line_for, goal_told, goal_in, behind_steps, steps_among, steps_for, steps_told, steps_printed}
use Rattle.logic.specs.Honesty.{message_of, disbelief_among, disbelief_for, disbelief_told, disbelief_in}
use Rattle.logic.specs.Listing.{Part, part_among, part_told, with_part, part_for, listing_told, listing_in}
use Rattle.format.proofs.Packing.{whole_fields, unpacked_packed}
use Rattle.logic.proofs.Follows.{of_kind_all, all_of_kind, book_whole}
use Rattle.format.proofs.Indexing.{Indexed, book_indexed, goal_placed, message_shown, filled_length}
use Rattle.format.proofs.Indexing.Part.{message_part, goal_part}
use Rattle.logic.proofs.Limits.{principals_of}
use Rattle.logic.proofs.Member.{all_at}
use Rattle.logic.proofs.Contents.{Fitting, contents, in_class, among_at}
use Rattle.book.proofs.OpenBook.{Opened, opened_small}
use Rattle.written.specs.Stated.{records_in}
use Rattle.text.specs.Lines.{IsIndex, Stated, messages_in}
use Rattle.places.specs.Places.{goals_in}
use Rattle.text.proofs.Book.{records_here, formulas_here_lem, length_here, noted_here}

-- the goal records
goals_table : (t₀ t : List ℕ) (rs : List Record) → Indexed t₀ t rs → take (length (goals rs)) (drop goals_from t) ≡ map packed (goals rs)
unfolding packed
goals_table t₀ t rs x =
    ext_get_or 0 (take (length gs) (drop goals_from t)) (map packed gs) (long ∙ sym (length-map gs packed)) (λ i l.
    let m = rw long at l in
    rw (get_or-take, get_or-drop) (goal_placed t₀ t rs x i m ∙ sym (get_or-map packed gs i no_record)))
  where
    gs : List Record
    gs = goals rs

    long : length (take (length gs) (drop goals_from t)) ≡ length gs
    long = length-take-le (length gs) (drop goals_from t) (rw length-drop (omega (arith, x.within goal_part, x.size)))

unpacked_goals : (gs : List Record) → All (EachField Whole) gs → All (λ r. T (eqb r.kind 34)) gs → map unpacked (map packed gs) ≡ gs
unpacked_goals [] w k = refl
unpacked_goals (r ∷ gs) w k =
    rw (unpacked_packed r (whole_fields r w.0) (let e = eqb→eq r.kind 34 k.0 in omega arith), unpacked_goals gs w.1 k.1)

goals_is : (t : List ℕ) (rs : List Record) → index_size ≤ length t → Book rs → goals_in (length (goals rs)) (filled t [] rs) ≡ goals rs
unfolding goals_in
goals_is t rs l b =
    ap (map unpacked) (goals_table t (filled t [] rs) rs (book_indexed t rs l b))
    ∙ unpacked_goals (goals rs) (all_of_kind (EachField Whole) (λ k. eqb k 34) rs (book_whole rs b)) (of_kind_all (λ k. eqb k 34) rs)

-- the message records: the one at place i, which has number i + 1, and how many they are
message_in_lem : (index : List ℕ) (k i : ℕ) → i < k → get_or (messages_in k index) i no_record ≡ record_in index (messages_from + i)
unfolding messages_in unpacked
message_in_lem index k i l =
    get_or-map unpacked (take k (drop messages_from index)) i 0 ∙ ap unpacked (get_or-take k (drop messages_from index) i 0 l ∙ get_or-drop messages_from index i 0)

pub message_here : (index : List ℕ) (k m : ℕ) → 1 ≤ m → m ≤ k → message_of (messages_in k index) m ≡ message_in index m
message_here index k m l h =
    message_in_lem index k (m - 1) (omega arith) ∙ ap (record_in index) (let e : messages_from + (m - 1) ≡ messages_from - 1 + m = omega arith in e)

messages_many : (index : List ℕ) (k : ℕ) → k ≤ 16 → index_size ≤ length index → length (messages_in k index) ≡ k
unfolding messages_in
messages_many index k few l =
    length-map (take k (drop messages_from index)) unpacked ∙ length-take-le k (drop messages_from index) (rw length-drop (omega arith))

pub messages_counted : (f : ℕ) (index : List ℕ) (n : Counts) → IsIndex f index n → n.messages ≤ 16 → length (messages_in n.messages index) ≡ n.messages
messages_counted f index n h few = messages_many index n.messages few (let e = h.size in omega arith)

messages_is : (t : List ℕ) (rs : List Record) → index_size ≤ length t → Book rs → messages_in (length (messages rs)) (filled t [] rs) ≡ messages rs
messages_is t rs l b =
    ext_get_or no_record (messages_in (length (messages rs)) u) (messages rs) long (λ i h.
    let m = rw long at h in
    let e : messages_from + i ≡ messages_from - 1 + (i + 1) = omega arith in
    message_in_lem u (length (messages rs)) i m ∙ ap (record_in u) e ∙ message_shown t u rs x b i m)
  where
    u : List ℕ
    u = filled t [] rs

    x : Indexed t u rs
    x = book_indexed t rs l b

    long : length (messages_in (length (messages rs)) u) ≡ length (messages rs)
    long = messages_many u (length (messages rs)) (x.within message_part) x.size

-- The book x was read into the table t, at first t₀, and n counts its records.
module _ (x t₀ t : List ℕ) (n : Counts) (room : index_size ≤ length t₀) (h : Opened x t₀ t n) where
  goals_here : goals_in n.goals t ≡ goals h.records
  goals_here = rw (h.counts, h.table) (goals_is t₀ h.records room h.proper)

  pub listed : (a : Audience) (table : List ℕ) (from : ℕ) (b : List ℕ) {o : Outcome (Part ℕ)} {b' : List ℕ}
      → (o ≡ part_told (part_among a (records_in n.formulas t) (goals_in n.goals t) table from (length b)))
      × (b' ≡ with_part (part_among a (records_in n.formulas t) (goals_in n.goals t) table from (length b)) b)
      → (o ≡ listing_told a x table from b) × (b' ≡ listing_in a x table from b)
  unfolding listing_told listing_in part_for
  listed a table from b g = rw (h.read, ← records_here x t₀ t n room h, ← goals_here) g

-- no more messages than a book may have
pub few_messages : (x t₀ t : List ℕ) (n : Counts) → index_size ≤ length t₀ → Opened x t₀ t n → n.messages ≤ 16
few_messages x t₀ t n room h = let small = opened_small room h in small.messages

pub is_index : (x t₀ t : List ℕ) (n : Counts) → length t₀ ≡ index_size → Opened x t₀ t n → IsIndex n.formulas t n
is_index x t₀ t n e h =
    let room : index_size ≤ length t₀ = omega arith in
    let small = opened_small room h in
    record {
      size = ap length h.table ∙ filled_length t₀ [] h.records ∙ e;
      proper = formulas_here_lem x t₀ t n room h;
      formulas = length_here x t₀ t n room h;
      principals = ap (λ (m : Counts). m.principals) h.counts ∙ sym (ap length (principals_of h.records)) ∙ ap (λ (fs : List Record). length (principals fs)) (sym (records_here x t₀ t n room h));
      few = small.formulas;
      fewer = small.principals;
      goals = small.goals;
      noted = noted_here x t₀ t n room h;
    }

-- each goal asks for a formula of kind 12 or 13
goal_kind : (fs : List Record) (k a b c : ℕ) → k ≡ 34 → Fitting fs (record { kind = k; first = a; second = b; third = c }) → T (is_statement (record_of fs b).kind)
unfolding body_of bodies
goal_kind fs k a b c e h = let g = rw e at h in ⊎_elim (λ y. rw y tt) (λ y. rw y tt) g.1.1

pub goals_stated : (x t₀ t : List ℕ) (n : Counts) → length t₀ ≡ index_size → Opened x t₀ t n → Stated n.formulas t n
goals_stated x t₀ t n e h g l =
    let room : index_size ≤ length t₀ = omega arith in
    let rs = h.records in
    let r = get_or (goals rs) g no_record in
    let few : g < length (goals rs) = (let z = ap (λ (m : Counts). m.goals) h.counts in omega arith) in
    let i = in_class (λ k. eqb k 34) r rs (among_at (goals rs) g few) in
    let z = goal_kind (formulas rs) r.kind r.first r.second r.third (eqb→eq r.kind 34 i.1) (all_at (Fitting (formulas rs)) r rs (contents rs h.proper).fitting i.0) in
    rw (records_here x t₀ t n room h, goals_here x t₀ t n room h) z

-- what is answered by the index is answered by the book, for the line of a goal, of a pair, and for the steps of a derivation
module _ (x t₀ t : List ℕ) (n : Counts) (room : index_size ≤ length t₀) (h : Opened x t₀ t n) where
  pub goal_told_lem : (g : ℕ) (b : List ℕ) {o : Outcome ℕ} {b' : List ℕ}
      → (o ≡ length_told (goal_line_among (records_in n.formulas t) (goals_in n.goals t) g (length b))) × (b' ≡ at_front (goal_line_among (records_in n.formulas t) (goals_in n.goals t) g (length b)) b)
      → (o ≡ goal_told x g b) × (b' ≡ goal_in x g b)
  unfolding goal_told goal_in goal_line_for
  goal_told_lem g b z = rw (h.read, ← records_here x t₀ t n room h, ← goals_here x t₀ t n room h) z

  messages_here : messages_in n.messages t ≡ messages h.records
  messages_here = rw (h.counts, h.table) (messages_is t₀ h.records room h.proper)

  pub disbelief_told_lem : (m y : ℕ) (b : List ℕ) {o : Outcome ℕ} {b' : List ℕ}
      → (o ≡ length_told (disbelief_among (records_in n.formulas t) (messages_in n.messages t) m y (length b))) × (b' ≡ at_front (disbelief_among (records_in n.formulas t) (messages_in n.messages t) m y (length b)) b)
      → (o ≡ disbelief_told x m y b) × (b' ≡ disbelief_in x m y b)
  unfolding disbelief_told disbelief_in disbelief_for
  disbelief_told_lem m y b z = rw (h.read, ← records_here x t₀ t n room h, ← messages_here) z

  pub steps_told_lem : (d : List ℕ) (from : ℕ) (b : List ℕ) {o : Outcome (Part ℕ)} {b' : List ℕ}
      → (o ≡ part_told (steps_among (records_in n.formulas t) d from (length b) (behind_steps from d))) × (b' ≡ with_part (steps_among (records_in n.formulas t) d from (length b) (behind_steps from d)) b)
      → (o ≡ steps_told x d from b) × (b' ≡ steps_printed x d from b)
  unfolding steps_told steps_printed steps_for
  steps_told_lem d from b z = rw (h.read, ← records_here x t₀ t n room h) z

-- a refused book
pub goal_refused : (x : List ℕ) (g : ℕ) (b : List ℕ) (f i : ℕ) → reading x ≡ refused f i → (refused f i ≡ goal_told x g b) × (b ≡ goal_in x g b)
unfolding goal_told goal_in goal_line_for
goal_refused x g b f i e = rw e (refl, refl)

pub disbelief_refused : (x : List ℕ) (m y : ℕ) (b : List ℕ) (f i : ℕ) → reading x ≡ refused f i → (refused f i ≡ disbelief_told x m y b) × (b ≡ disbelief_in x m y b)
unfolding disbelief_told disbelief_in disbelief_for
disbelief_refused x m y b f i e = rw e (refl, refl)

pub steps_refused : (x d : List ℕ) (from : ℕ) (b : List ℕ) (f i : ℕ) → reading x ≡ refused f i → (refused f i ≡ steps_told x d from b) × (b ≡ steps_printed x d from b)
unfolding steps_told steps_printed steps_for
steps_refused x d from b f i e = rw e (refl, refl)

pub listed_refused : (a : Audience) (x table : List ℕ) (from : ℕ) (b : List ℕ) (f i : ℕ) → reading x ≡ refused f i → (refused f i ≡ listing_told a x table from b) × (b ≡ listing_in a x table from b)
unfolding listing_told listing_in part_for
listed_refused a x table from b f i e = rw e (refl, refl)
