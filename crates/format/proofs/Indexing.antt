-- The index of a book: each record of each class stands at its place in the table, other places keep their number,
-- and a look into the table is a look into the book.
use Prim.Native.Nat.{ℕ, ◌+◌, ◌-◌, ◌≤◌, ◌<◌, zero-le}
use native.Mathlib.Nat.{zero-add, not-suc-le-zero}
use native.Mathlib.Decide.{dec_lt, ℕ_discrete}
use native.Mathlib.Omega.{arith}
use mathlib.Core.Path.{◌≡◌, refl, sym, ap, ◌∙◌, subst, fun_ext}
use mathlib.Core.Logic.{◌≢◌, inl, inr}
use mathlib.Core.Bool.{Bool, true, false, not, cond}
use mathlib.Core.List.{List, [], ◌∷◌, ◌++◌, map, append-nil}
use lib.ListN.{length, get_or, set, take, drop, length-set, length-append, length-map, get_or-append, get_or-eq_default, get_or-map}
use lib.Seq.{drop-set-lt, get_or-set_same, get_or-set_other, get_or-append_seam, get_or-take, append_snoc, ext_get_or, length-take-le}
use lib.Dec.{T, eqb, ltb, eqb→eq, T_not}
use borrow.Author.Tests.{ne_eqb, lt-ltb, le-ltb}
use Rattle.logic.specs.declared.Record.{Record}
use Rattle.logic.specs.declared.Counts.{Counts}
use Rattle.logic.specs.Kind.{is_formula_record}
use Rattle.logic.specs.Record.{no_record}
use Rattle.logic.specs.Count.{of_kind, formulas, assumptions, messages, goals, counts_of, formula_at, position_of}
use Rattle.logic.specs.Book.{All, EachField, Whole, Proper, Follows, Book}
use Rattle.format.specs.Index.{assumptions_from, messages_from, goals_from, index_size, packed, slot_of, noted, entered, filled, record_in, look_in, assumption_in, message_in, goal_in, position_in}
use Rattle.format.specs.Variables.{variables_from, variables_in, variables_of}
use Rattle.logic.proofs.Tests.{T_either_way, eq_T}
use Rattle.logic.proofs.Table.{Kinds, kinds, formula_bounds}
use Rattle.logic.proofs.Table.Kinds.{formula, assumption, message, goal}
use Rattle.format.proofs.Packing.{Fields, whole_fields, unpacked_packed, packed_eqb}
use Rattle.logic.proofs.Follows.{of_kind_more, of_kind_other, of_kind_all, all_of_kind, all_at, book_whole, limit_more}

-- WHAT A NOTE OF THE VARIABLES leaves: the length, and the numbers of the records
pub noted_length : (t : List ℕ) (n : Counts) (r : Record) → length (noted t n r) ≡ length t
unfolding noted
noted_length t n r = go (is_formula_record r.kind)
  where
    go : (b : Bool) → length (cond b (set t (variables_from + n.formulas) (variables_of (variables_in t) n.formulas r)) t) ≡ length t
    go true = length-set t _ _
    go false = refl

pub noted_below : (t : List ℕ) (n : Counts) (r : Record) (i : ℕ) → i < variables_from → get_or (noted t n r) i 0 ≡ get_or t i 0
unfolding noted
noted_below t n r i l = go (is_formula_record r.kind)
  where
    go : (b : Bool) → get_or (cond b (set t (variables_from + n.formulas) (variables_of (variables_in t) n.formulas r)) t) i 0 ≡ get_or t i 0
    go true = get_or-set_other t (variables_from + n.formulas) i _ 0 (omega arith)
    go false = refl

noted_behind : (t : List ℕ) (n : Counts) (r : Record) → (T (is_formula_record r.kind) → n.formulas < 256) → drop index_size (noted t n r) ≡ drop index_size t
unfolding noted
noted_behind t n r f = go (is_formula_record r.kind) f
  where
    go : (b : Bool) → (T b → n.formulas < 256)
        → drop index_size (cond b (set t (variables_from + n.formulas) (variables_of (variables_in t) n.formulas r)) t) ≡ drop index_size t
    go true f = let l = f tt in drop-set-lt index_size t (variables_from + n.formulas) _ (omega arith)
    go false f = refl

-- one record more is one number more
pub filled_more : (t : List ℕ) (past rs : List Record) (r : Record)
    → filled t past (rs ++ (r ∷ [])) ≡ entered (filled t past rs) (counts_of (past ++ rs)) r
unfolding filled
filled_more t past [] r = rw append-nil
filled_more t past (q ∷ rs) r =
    rw (← append_snoc past q rs) (filled_more (entered t (counts_of past) q) (past ++ (q ∷ [])) rs r)

pub filled_length : (t : List ℕ) (past rs : List Record) → length (filled t past rs) ≡ length t
unfolding filled
filled_length t past [] = refl
filled_length t past (r ∷ rs) =
    filled_length (entered t (counts_of past) r) (past ++ (r ∷ [])) rs ∙ (length-set (noted t (counts_of past) r) _ _ ∙ noted_length t (counts_of past) r)

-- the four parts of the table
pub data Part : Type 0 where
  formula_part assumption_part message_part goal_part : Part

-- the kinds of record that a part holds
abbrev pub holds : Part → ℕ → Bool
holds formula_part k = is_formula_record k
holds assumption_part k = eqb k 32
holds message_part k = eqb k 33
holds goal_part k = eqb k 34

abbrev pub members : Part → List Record → List Record
members p rs = of_kind (holds p) rs

-- its first place, and how many places it has
abbrev pub base : Part → ℕ
base formula_part = 0
base assumption_part = assumptions_from
base message_part = messages_from
base goal_part = goals_from

abbrev pub room : Part → ℕ
room formula_part = 256
room assumption_part = 64
room message_part = 16
room goal_part = 32

-- the part that a place is in
abbrev part_at : ℕ → Part
part_at i =
    cond (ltb i assumptions_from) formula_part (cond (ltb i messages_from) assumption_part (cond (ltb i goals_from) message_part goal_part))

part_at_lem : (p : Part) (i : ℕ) → i < room p → part_at (base p + i) ≡ p
part_at_lem formula_part i l = rw (lt-ltb (0 + i) assumptions_from (omega arith))
part_at_lem assumption_part i l = rw (le-ltb (assumptions_from + i) assumptions_from (omega arith), lt-ltb (assumptions_from + i) messages_from (omega arith))
part_at_lem message_part i l =
    rw (le-ltb (messages_from + i) assumptions_from (omega arith), le-ltb (messages_from + i) messages_from (omega arith), lt-ltb (messages_from + i) goals_from (omega arith))
part_at_lem goal_part i l =
    rw (le-ltb (goals_from + i) assumptions_from (omega arith), le-ltb (goals_from + i) messages_from (omega arith), le-ltb (goals_from + i) goals_from (omega arith))

part_in : (p : Part) (i : ℕ) → i < room p → base p + i < variables_from
part_in formula_part i l = omega arith
part_in assumption_part i l = omega arith
part_in message_part i l = omega arith
part_in goal_part i l = omega arith

-- the next record of a part goes behind its members
slot_is : (p : Part) (past : List Record) (k : ℕ) → T (holds p k) → slot_of (counts_of past) k ≡ base p + length (members p past)
unfolding slot_of
slot_is formula_part past k t =
    let b = formula_bounds k t in
    rw (ne_eqb k 32 (omega arith), ne_eqb k 33 (omega arith), ne_eqb k 34 (omega arith)) (sym (zero-add _))
slot_is assumption_part past k t = rw (eqb→eq k 32 t)
slot_is message_part past k t = rw (eqb→eq k 33 t)
slot_is goal_part past k t = rw (eqb→eq k 34 t)

-- each known kind is in a part
part_of : (k : ℕ) → Kinds k → (p : Part) × T (holds p k)
part_of k (formula f) = (formula_part, f)
part_of k (assumption e) = (assumption_part, eq_T k 32 e)
part_of k (message e) = (message_part, eq_T k 33 e)
part_of k (goal e) = (goal_part, eq_T k 34 e)

-- there is room for a record that may stand there
room_for : (p : Part) (past : List Record) (r : Record) → Proper past r → T (holds p r.kind) → length (members p past) < room p
room_for formula_part past r h t = h.formula_limit t
room_for assumption_part past r h t = h.assumption_limit (eqb→eq r.kind 32 t)
room_for message_part past r h t = h.message_limit (eqb→eq r.kind 33 t)
room_for goal_part past r h t = h.goal_limit (eqb→eq r.kind 34 t)

-- the table t is that of the records `past`: t₀ is what it was before
pub record Indexed (t₀ t : List ℕ) (past : List Record) : Type 0 where
  pub size : index_size ≤ length t
  pub within : (p : Part) → length (members p past) ≤ room p
  pub placed : (p : Part) (i : ℕ) → i < length (members p past) → get_or t (base p + i) 0 ≡ packed (get_or (members p past) i no_record)
  pub kept : (p : Part) (i : ℕ) → length (members p past) ≤ i → i < room p → get_or t (base p + i) 0 ≡ get_or t₀ (base p + i) 0

-- a record goes to no place of a part that does not hold its kind
elsewhere : (p : Part) (i : ℕ) (past : List Record) (r : Record) → Proper past r → T (not (holds p r.kind)) → i < room p
    → base p + i ≢ slot_of (counts_of past) r.kind
elsewhere p i past r h t l e =
    let (q, u) = part_of r.kind (kinds r.kind h.known) in
    let s : q ≡ p =
    sym (part_at_lem q (length (members q past)) (room_for q past r h u))
    ∙ ap part_at (sym (e ∙ slot_is q past r.kind u))
    ∙ part_at_lem p i l in
    T_not (holds p r.kind) t (subst (λ (x : Part). T (holds x r.kind)) s u)

-- the place of a record that may stand there is in the table
pub slot_in : (past : List Record) (r : Record) → Proper past r → slot_of (counts_of past) r.kind < variables_from
slot_in past r h =
    let (q, u) = part_of r.kind (kinds r.kind h.known) in
    rw (slot_is q past r.kind u) (part_in q (length (members q past)) (room_for q past r h u))

-- the records of a book leave what lies behind the places of the index
pub filled_behind : (t : List ℕ) (past rs : List Record) → Follows past rs → drop index_size (filled t past rs) ≡ drop index_size t
unfolding filled
filled_behind t past [] f = refl
filled_behind t past (r ∷ rs) f =
    let l = slot_in past r f.0 in
    filled_behind (entered t (counts_of past) r) (past ++ (r ∷ [])) rs f.1
    ∙ (drop-set-lt index_size (noted t (counts_of past) r) (slot_of (counts_of past) r.kind) (packed r) (omega arith)
    ∙ noted_behind t (counts_of past) r f.0.formula_limit)

-- the number of one record more, and of the others
placed_here : (t : List ℕ) (s i : ℕ) (ms : List Record) (r : Record) (b : ℕ) → s ≡ b + length ms → s < length t
    → (i < length ms → get_or t (b + i) 0 ≡ packed (get_or ms i no_record))
    → i < length (ms ++ (r ∷ [])) → get_or (set t s (packed r)) (b + i) 0 ≡ packed (get_or (ms ++ (r ∷ [])) i no_record)
placed_here t s i ms r b e u f l =
    let n = rw length-append at l in
    elim (ℕ_discrete i (length ms)) [
      | yes d ↦ rw (d, ← e, get_or-set_same t s (packed r) 0 u, get_or-append_seam)
      | no d ↦ rw (get_or-set_other t s (b + i) (packed r) 0 (omega arith), get_or-append ms (r ∷ []) no_record i (omega arith)) (f (omega arith))
    ]

indexed_set : (t₀ t : List ℕ) (past : List Record) (r : Record) → Indexed t₀ t past → Proper past r
    → Indexed t₀ (set t (slot_of (counts_of past) r.kind) (packed r)) (past ++ (r ∷ []))
indexed_set t₀ t past r x h =
    record {
      size = rw length-set x.size;
      within = λ p. limit_more (holds p) (room p) past r (room_for p past r h) (x.within p);
      placed = λ p i l. elim (T_either_way (holds p r.kind)) [
        | inl u ↦ rw (of_kind_more (holds p) past r u)
            (placed_here t s i (members p past) r (base p) (slot_is p past r.kind u) (let y = slot_in past r h in let z = x.size in omega arith)
            (x.placed p i) (rw (of_kind_more (holds p) past r u) at l))
        | inr u ↦
            let m = rw (of_kind_other (holds p) past r u) at l in
            let w = x.within p in
            let d = elsewhere p i past r h u (omega arith) in
            rw (of_kind_other (holds p) past r u, get_or-set_other t s (base p + i) (packed r) 0 d) (x.placed p i m)
      ];
      kept = λ p i l m. elim (T_either_way (holds p r.kind)) [
        | inl u ↦
            let n = rw (of_kind_more (holds p) past r u, length-append) at l in
            let e = slot_is p past r.kind u in
            let d : base p + i ≢ s = omega arith in
            rw (get_or-set_other t s (base p + i) (packed r) 0 d) (x.kept p i (omega arith) m)
        | inr u ↦
            rw (get_or-set_other t s (base p + i) (packed r) 0 (elsewhere p i past r h u m))
            (x.kept p i (rw (of_kind_other (holds p) past r u) at l) m)
      ];
    }
  where
    s : ℕ
    s = slot_of (counts_of past) r.kind

indexed_noted : (t₀ t : List ℕ) (past : List Record) (r : Record) → Indexed t₀ t past → Indexed t₀ (noted t (counts_of past) r) past
indexed_noted t₀ t past r x =
    record {
      size = rw (noted_length t (counts_of past) r) x.size;
      within = x.within;
      placed = λ p i l. let w = x.within p in noted_below t (counts_of past) r (base p + i) (part_in p i (omega arith)) ∙ x.placed p i l;
      kept = λ p i l m. noted_below t (counts_of past) r (base p + i) (part_in p i m) ∙ x.kept p i l m;
    }

pub indexed_more : (t₀ t : List ℕ) (past : List Record) (r : Record) → Indexed t₀ t past → Proper past r
    → Indexed t₀ (entered t (counts_of past) r) (past ++ (r ∷ []))
indexed_more t₀ t past r x h = indexed_set t₀ (noted t (counts_of past) r) past r (indexed_noted t₀ t past r x) h

-- the records of a book, one after the other
pub indexed_from : (t₀ t : List ℕ) (past rs : List Record) → Indexed t₀ t past → Follows past rs → Indexed t₀ (filled t past rs) (past ++ rs)
unfolding filled
indexed_from t₀ t past [] x f = rw append-nil x
indexed_from t₀ t past (r ∷ rs) x f =
    rw append_snoc at (indexed_from t₀ (entered t (counts_of past) r) (past ++ (r ∷ [])) rs
    (indexed_more t₀ t past r x f.0) f.1)

pub indexed_none : (t : List ℕ) → index_size ≤ length t → Indexed t t []
unfolding of_kind
indexed_none t e =
    record {
      size = e;
      within = λ p. zero-le;
      placed = λ p i l. absurd (not-suc-le-zero l);
      kept = λ p i l m. refl;
    }

-- the table of a book
pub book_indexed : (t : List ℕ) (rs : List Record) → index_size ≤ length t → Book rs → Indexed t (filled t [] rs) rs
book_indexed t rs e b = indexed_from t t [] rs (indexed_none t e) b

-- the records of each class by their number
pub formula_placed : (t₀ t : List ℕ) (rs : List Record) → Indexed t₀ t rs → (i : ℕ) → i < length (formulas rs)
    → get_or t i 0 ≡ packed (get_or (formulas rs) i no_record)
formula_placed t₀ t rs x i l = rw zero-add at (x.placed formula_part i l)

pub goal_placed : (t₀ t : List ℕ) (rs : List Record) → Indexed t₀ t rs → (i : ℕ) → i < length (goals rs)
    → get_or t (goals_from + i) 0 ≡ packed (get_or (goals rs) i no_record)
goal_placed t₀ t rs x i l = x.placed goal_part i l

-- a kind of record is a byte
holds_small : (p : Part) (k : ℕ) → T (holds p k) → k < 256
holds_small formula_part k t = let b = formula_bounds k t in omega arith
holds_small assumption_part k t = let e = eqb→eq k 32 t in omega arith
holds_small message_part k t = let e = eqb→eq k 33 t in omega arith
holds_small goal_part k t = let e = eqb→eq k 34 t in omega arith

-- THE INDEX GIVES EACH RECORD BACK, by its class and its number in the class; messages count from 1
module _ (t₀ t : List ℕ) (rs : List Record) (x : Indexed t₀ t rs) (b : Book rs) where
  shown : (p : Part) (i : ℕ) → i < length (members p rs) → record_in t (base p + i) ≡ get_or (members p rs) i no_record
  shown p i l =
      rw (x.placed p i l)
      (unpacked_packed _
      (whole_fields _ (all_at (EachField Whole) (members p rs) i no_record (all_of_kind (EachField Whole) (holds p) rs (book_whole rs b)) l))
      (holds_small p _ (all_at (λ r. T (holds p r.kind)) (members p rs) i no_record (of_kind_all (holds p) rs) l)))

  pub formula_shown : (i : ℕ) → i < length (formulas rs) → record_in t i ≡ get_or (formulas rs) i no_record
  formula_shown i l = rw zero-add at (shown formula_part i l)

  pub assumption_shown : (i : ℕ) → i < length (assumptions rs) → assumption_in t i ≡ get_or (assumptions rs) i no_record
  assumption_shown = shown assumption_part

  pub message_shown : (i : ℕ) → i < length (messages rs) → message_in t (i + 1) ≡ get_or (messages rs) i no_record
  message_shown i l = let e : messages_from - 1 + (i + 1) ≡ messages_from + i = omega arith in rw e (shown message_part i l)

  pub goal_shown : (i : ℕ) → i < length (goals rs) → goal_in t i ≡ get_or (goals rs) i no_record
  goal_shown = shown goal_part

-- formula x of the table is formula x of the book
pub look_at : (t₀ t : List ℕ) (rs : List Record) → Indexed t₀ t rs → All (EachField Whole) rs
    → (x : ℕ) → look_in (length (formulas rs)) t x ≡ formula_at rs x
unfolding look_in formula_at
look_at t₀ t rs h w x =
    elim (dec_lt x (length (formulas rs))) [
      | yes l ↦
          rw (lt-ltb x (length (formulas rs)) l, formula_placed t₀ t rs h x l)
          (unpacked_packed _ (whole_fields _ (all_at (EachField Whole) (formulas rs) x no_record (all_of_kind (EachField Whole) is_formula_record rs w) l))
          (let k = formula_bounds (get_or (formulas rs) x no_record).kind (all_at (λ r. T (is_formula_record r.kind)) (formulas rs) x no_record (of_kind_all is_formula_record rs) l) in omega arith))
      | no l ↦
          rw (le-ltb x (length (formulas rs)) (omega arith), get_or-eq_default (formulas rs) no_record {n = x} (omega arith))
    ]

pub look_law : (t : List ℕ) (rs : List Record) → Book rs → index_size ≤ length t
    → look_in (length (formulas rs)) (filled t [] rs) ≡ formula_at rs
look_law t rs b e = fun_ext (look_at t (filled t [] rs) rs (book_indexed t rs e b) (book_whole rs b))

-- the place of a record's number among those of some records
pub seek_in : (r : Record) (fs : List Record) → Fields r → All (EachField Whole) fs
    → position_in (packed r) (map packed fs) ≡ position_of r fs
unfolding position_in position_of
seek_in r [] h w = refl
seek_in r (q ∷ fs) h w = rw (packed_eqb r q h (whole_fields q w.0), seek_in r fs h w.1)

-- the numbers of the formula records
pub formulas_table : (t₀ t : List ℕ) (rs : List Record) → Indexed t₀ t rs → take (length (formulas rs)) t ≡ map packed (formulas rs)
unfolding packed
formulas_table t₀ t rs x =
    ext_get_or 0 (take (length fs) t) (map packed fs) (long ∙ sym (length-map fs packed)) (λ i l.
    let m = rw long at l in
    rw get_or-take (formula_placed t₀ t rs x i m ∙ sym (get_or-map packed fs i no_record)))
  where
    fs : List Record
    fs = formulas rs

    long : length (take (length fs) t) ≡ length fs
    long = length-take-le (length fs) t (omega (arith, x.within formula_part, x.size))

pub seek_at : (t₀ t : List ℕ) (rs : List Record) (r : Record) → Indexed t₀ t rs → All (EachField Whole) rs → Fields r
    → position_in (packed r) (take (length (formulas rs)) t) ≡ position_of r (formulas rs)
seek_at t₀ t rs r x w h =
    rw (formulas_table t₀ t rs x) (seek_in r (formulas rs) h (all_of_kind (EachField Whole) is_formula_record rs w))

pub seek_law : (t : List ℕ) (rs : List Record) (r : Record) → Book rs → index_size ≤ length t → EachField Whole r
    → position_in (packed r) (take (length (formulas rs)) (filled t [] rs)) ≡ position_of r (formulas rs)
seek_law t rs r b e w = seek_at t (filled t [] rs) rs r (book_indexed t rs e b) (book_whole rs b) (whole_fields r w)
