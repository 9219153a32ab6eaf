-- Laws that the proofs of the listing's functions cite, over plain variables. Assumes nothing.
use Prim.Native.Nat.{ℕ, zero, suc, ◌+◌, ◌-◌, ◌*◌, ◌/◌, ◌%◌, ◌<◌, ◌≤◌}
use native.Mathlib.Nat.{zero-add, mul-zero, zero-mul, mod-lt, div-lt_iff_lt-mul}
use native.Mathlib.Numerals.{add-one}
use native.Mathlib.Decide.{dec_lt, ℕ_discrete}
use native.Mathlib.Omega.{arith}
use mathlib.Core.Path.{◌≡◌, refl, sym, ap, ap₂, ◌∙◌, subst, fun_ext}
use mathlib.Core.List.{List, [], ◌∷◌, ◌++◌, append_assoc, append-nil}
use mathlib.Core.Bool.{Bool, true, false, cond, ◌&&◌}
use lib.ListN.{length, get_or, set, take, drop, length-append, length-map, length-set, length-drop}
use lib.Seq.{sets, length-sets, get_or-set_same, get_or-set_other, take-length, length-take-le}
use lib.Dec.{eqb, ltb, lit≤}
use borrow.Author.Tests.{eq-eqb, ne_eqb, lt-ltb, le-ltb, le-leb, lt-leb, eqb-true}
use Rattle.logic.specs.declared.Record.{Record}
use Rattle.logic.specs.declared.Audience.{Audience}
use Rattle.logic.specs.declared.Counts.{Counts}
use Rattle.logic.specs.Count.{principals}
use Rattle.logic.specs.Refusal.{Outcome}
use Rattle.logic.specs.Refusal.Outcome.{accepted, refused}
use Rattle.logic.specs.Formula.{record_of, tree_of}
use Rattle.logic.specs.Fact.{Fact}
use Rattle.logic.specs.Fact.Fact.{BelievesSaid, BelievesBelieves}
use Rattle.format.specs.Index.{goals_from, unpacked, look_in}
use Rattle.format.specs.Variables.{loose_in}
use Rattle.logic.specs.Written.{meaning, is_written}
use Rattle.logic.specs.Place as place
use Rattle.logic.specs.Survey.{held}
use Rattle.logic.specs.Text.{ascii, decimal, datum_for, text, fact_text}
use Rattle.logic.specs.Listing.{line_feed, printed, place_line, held_line, goals_line, count_true, marks_by, line_at, line_count, Fitting, fitting, Part, piece_of, part_among, part_told, with_part}
use Rattle.logic.specs.Listing.Part.{piece, over}
use Rattle.logic.proofs.Meaning.{IsPrincipal}
use Rattle.logic.proofs.Places.{rank_below, ranked_rank}
use Rattle.written.specs.Stated.{records_in, is_stated}
use Rattle.text.specs.Printing.{text_in, fact_text_in}
use Rattle.words.specs.Words.{ahead}
use Rattle.text.specs.Lines.{IsIndex, places_of, Named, Prints, LinesIn}
use Rattle.places.specs.Places.{goals_in, mode_of, other_in}
use Rattle.written.proofs.Laws.{Mode, fact_of, stated_as, look_is}
use Rattle.written.proofs.Laws.Mode.{mode1, mode2, mode3, mode4, mode5}
use Rattle.digits.proofs.Put.{sets_append}
use Rattle.digits.proofs.Puts.{Writes, sets_front, front_is, front_written}
use Rattle.places.proofs.Laws.{look_kind, rank_step}
use Rattle.text.proofs.Facts.{text_as}

-- LINES
pub line_written : {o p s q q' : List ℕ} {a r : ℕ} → (p ≡ o) × (a ≡ 0) → Writes p a s q r → q' ≡ q → length s ≤ 4160 → Prints o s q' r
line_written e x g l = let u = front_written {m = 4160} e x g l (lit≤ tt) in record { list = u.0; size = u.1; room = u.2 }

pub prints_as : {o s t q : List ℕ} {r : ℕ} → s ≡ t → Prints o s q r → Prints o t q r
prints_as {o} {s} {t} {q} {r} e u = record { list = rw (← e) u.list; size = rw (← e) u.size; room = u.room }

pub prints_by : {o s q : List ℕ} {r : ℕ} → (q ≡ sets o 0 s) × (r ≡ length s) × (r ≤ 100) → Prints o s q r
prints_by u = record { list = u.0; size = u.1; room = (let l = u.2 in omega arith) }

pub prints_nothing : (o : List ℕ) {s : List ℕ} → s ≡ [] → Prints o s o 0
prints_nothing o e = prints_as (sym e) (record { list = refl; size = refl; room = omega arith })

-- a line that was printed stands at the front
pub line_front : {o s q : List ℕ} {k : ℕ} → Prints o s q k → 4160 ≤ length o → take k q ≡ s
line_front {o} {s} {q} {k} u l = front_is s o u.list u.size (let z = u.room in omega arith)

pub line_length : {o s q : List ℕ} {k : ℕ} → Prints o s q k → length q ≡ length o
line_length {o} {s} u = ap length u.list ∙ length-sets o 0 s

-- what is printed for a text is at most 4,096 bytes long
pub long_printed : (s : List ℕ) → 4096 < length s → printed s ≡ ascii "too long"
long_printed s l = rw (lt-ltb 4096 (length s) l) refl

pub short_printed : (s : List ℕ) → length s ≤ 4096 → printed s ≡ s
short_printed s l = rw (le-ltb 4096 (length s) l) refl

-- RANKS
-- the names of the first r ranks are listed
abbrev pub NamedTo : List Record → List ℕ → ℕ → Type 0
NamedTo fs names r = (a : ℕ) → a < r → get_or names a 0 ≡ place.ranked fs a

pub named_step : (f : ℕ) (t : List ℕ) (x r : ℕ) (names names' : List ℕ) {k : ℕ} → r ≡ place.rank (records_in f t) x → length names ≡ 8
    → place.principal_count (records_in f t) ≤ 8 → NamedTo (records_in f t) names r → k ≡ cond (eqb (look_in f t x).kind 1) 1 0
    → names' ≡ cond (eqb (look_in f t x).kind 1) (set names r x) names → NamedTo (records_in f t) names' (r + k)
named_step f t x r names names' {k} er long few so ek en =
    go (eqb (record_of (records_in f t) x).kind 1) refl
    (ek ∙ ap (λ (b : Bool). cond b 1 0) (look_kind f t x)) (en ∙ ap (λ (b : Bool). cond b (set names r x) names) (look_kind f t x))
  where
    go : (b : Bool) → eqb (record_of (records_in f t) x).kind 1 ≡ b → k ≡ cond b 1 0 → names' ≡ cond b (set names r x) names → NamedTo (records_in f t) names' (r + k)
    go false e ek en a l = rw en (so a (omega arith))
    go true e ek en a l =
        let pr : IsPrincipal (records_in f t) x = eqb-true _ _ e in
        let below = rank_below (records_in f t) x pr in
        elim (ℕ_discrete a r) [
          | yes d ↦ rw (en, d, get_or-set_same names r x 0 (omega arith)) (sym (ap (place.ranked (records_in f t)) er ∙ ranked_rank (records_in f t) x pr))
          | no d ↦ rw (en, get_or-set_other names r a x 0 d) (so a (omega arith))
        ]

-- so far as the first x formulas: r of them are principals
abbrev pub Listed : (f : ℕ) (t : List ℕ) (names : List ℕ) (x r : ℕ) → Type 0
Listed f t names x r = (r ≤ x) × (length names ≡ 8) × (r ≡ place.rank (records_in f t) x) × NamedTo (records_in f t) names r

-- formula x is a principal, and has its place; or it is none
module _ (f : ℕ) (t names : List ℕ) (x r : ℕ) (few : place.principal_count (records_in f t) ≤ 8) (v : Listed f t names x r) where
  pub name_room : eqb (look_in f t x).kind 1 ≡ true → r < 8
  name_room e =
      let l = rank_below (records_in f t) x (eqb-true _ _ (sym (look_kind f t x) ∙ e)) in
      let k = v.2 in
      omega arith

  pub one_listed : eqb (look_in f t x).kind 1 ≡ true → Listed f t (set names r x) (x + 1) (r + 1)
  one_listed e =
      let h : ◌≡◌ {A = ℕ} 1 (cond (eqb (look_in f t x).kind 1) 1 0) = rw e refl in
      let z = v.0 in (
        omega arith,
        (simp length-set) ∙ v.1,
        rank_step f t x v.2 h,
        named_step f t x r names _ v.2 v.1 few v.3 h (rw e refl),
      )

  pub none_listed : eqb (look_in f t x).kind 1 ≡ false → Listed f t names (x + 1) r
  none_listed e =
      let h : ◌≡◌ {A = ℕ} 0 (cond (eqb (look_in f t x).kind 1) 1 0) = rw e refl in
      let z = v.0 in
      let k = rank_step f t x v.2 h in
      (omega arith, v.1, omega arith, v.3)

pub all_named : (fs : List Record) (names : List ℕ) {f r : ℕ} → f ≡ length fs → r ≡ place.rank fs f → NamedTo fs names r → Named fs names
unfolding place.rank
all_named fs names {f} {r} ef er so a l =
    so a (let e : r ≡ length (principals fs) = er ∙ rw (ef, take-length fs) refl in omega arith)

-- THE LINE OF A PLACE
fact_mode : (fs : List Record) (P x m q : ℕ)
    → (3 ≤ m → q ≡ cond (ltb m (3 + place.principal_count fs)) (place.ranked fs (m - 3)) (place.ranked fs (m - (3 + place.principal_count fs))))
    → place.fact_of fs P x m ≡ fact_of (mode_of (place.principal_count fs) m) P q x
unfolding place.fact_of
fact_mode fs P x zero q h = refl
fact_mode fs P x (suc zero) q h = refl
fact_mode fs P x (suc (suc zero)) q h = refl
fact_mode fs P x (suc (suc (suc m))) q h =
    let b = suc (suc (suc m)) in
    rw (ne_eqb b 0 (λ e. omega arith), ne_eqb b 1 (λ e. omega arith), ne_eqb b 2 (λ e. omega arith))
    (go (ltb b (3 + place.principal_count fs)) (h (omega arith)))
  where
    go : (v : Bool) → q ≡ cond v (place.ranked fs (suc (suc (suc m)) - 3)) (place.ranked fs (suc (suc (suc m)) - (3 + place.principal_count fs)))
        → cond v (BelievesSaid P (place.ranked fs (suc (suc (suc m)) - 3)) x) (BelievesBelieves P (place.ranked fs (suc (suc (suc m)) - (3 + place.principal_count fs))) x)
        ≡ fact_of (cond v 4 5) P q x
    go true e = rw e refl
    go false e = rw e refl

mode_fits : (k m : ℕ) → Mode (mode_of k m)
mode_fits k zero = mode1
mode_fits k (suc zero) = mode2
mode_fits k (suc (suc zero)) = mode3
mode_fits k (suc (suc (suc m))) =
    rw (ne_eqb (suc (suc (suc m))) 0 (λ e. omega arith), ne_eqb (suc (suc (suc m))) 1 (λ e. omega arith), ne_eqb (suc (suc (suc m))) 2 (λ e. omega arith))
    (go (ltb (suc (suc (suc m))) (3 + k)))
  where
    go : (v : Bool) → Mode (cond v 4 5)
    go true = mode4
    go false = mode5

other_is : (fs : List Record) (names : List ℕ) (m : ℕ) → Named fs names → m < 3 + 2 * place.principal_count fs → 3 ≤ m
    → other_in names (place.principal_count fs) m
    ≡ cond (ltb m (3 + place.principal_count fs)) (place.ranked fs (m - 3)) (place.ranked fs (m - (3 + place.principal_count fs)))
unfolding other_in
other_is fs names m so l h =
    rw (le-ltb m 3 h)
    (elim (dec_lt m (3 + place.principal_count fs)) [
      | yes b ↦ rw (lt-ltb m (3 + place.principal_count fs) b) (so (m - 3) (omega arith))
      | no b ↦ rw (le-ltb m (3 + place.principal_count fs) (omega arith)) (so (m - (3 + place.principal_count fs)) (omega arith))
    ])

-- where there is a place there is a formula
some_formula : (k f w i : ℕ) → i < k * f * w → 0 < f
some_formula k zero w i l = absurd (let e : k * 0 * w ≡ 0 = rw mul-zero (zero-mul w) in omega arith)
some_formula k (suc f) w i l = omega arith

-- Place i of a book with f formula records fs, k of them principals, in the numbers that the code has.
module _ (fs : List Record) (f k i : ℕ) (ef : f ≡ length fs) (ek : k ≡ place.principal_count fs) (below : i < k * f * (3 + 2 * k)) where
  pub some : 0 < f
  some = some_formula k f (3 + 2 * k) i below

  rank_in : i / (3 + 2 * k) / f < k
  rank_in =
      let r = (div-lt_iff_lt-mul {k = 3 + 2 * k} {x = i} {y = k * f} (omega arith)).1 below in
      (div-lt_iff_lt-mul {k = f} {x = i / (3 + 2 * k)} {y = k} some).1 r

  at_fact : (names : List ℕ) → Named fs names
      → place.fact_at fs i ≡ fact_of (mode_of k (i % (3 + 2 * k))) (get_or names (i / (3 + 2 * k) / f) 0) (other_in names k (i % (3 + 2 * k))) (i / (3 + 2 * k) % f)
  unfolding place.fact_at
  at_fact names so =
      let w = so (i / (3 + 2 * k) / f) (let l = rank_in in omega arith) in
      rw w (rw (ef, ek)
      (fact_mode fs (place.ranked fs (i / (3 + 2 * place.principal_count fs) / length fs)) (i / (3 + 2 * place.principal_count fs) % length fs) (i % (3 + 2 * place.principal_count fs))
      (other_in names (place.principal_count fs) (i % (3 + 2 * place.principal_count fs)))
      (other_is fs names (i % (3 + 2 * place.principal_count fs)) so (mod-lt i (omega arith)))))

module _ (audience : Audience) (f : ℕ) (index : List ℕ) (n : Counts) (h : IsIndex f index n) (names : List ℕ) (so : Named (records_in f index) names) (i : ℕ) (below : i < places_of f n.principals)
    {mode a b x : ℕ} (em : mode ≡ mode_of n.principals (i % (3 + 2 * n.principals))) (ea : a ≡ get_or names (i / (3 + 2 * n.principals) / f) 0)
    (eb : b ≡ other_in names n.principals (i % (3 + 2 * n.principals))) (ex : x ≡ i / (3 + 2 * n.principals) % f) where
  abbrev formulas_here : List Record
  formulas_here = records_in f index

  abbrev look : ℕ → Record
  look = look_in f index

  fact_here : place.fact_at formulas_here i ≡ fact_of mode a b x
  fact_here = at_fact formulas_here f n.principals i h.formulas h.principals below names so ∙ rw (em, ea, eb, ex) refl

  mode_here : Mode mode
  mode_here = subst Mode (sym em) (mode_fits n.principals (i % (3 + 2 * n.principals)))

  look_here : record_of formulas_here ≡ look
  look_here = sym (fun_ext (look_is f index))

  written_here : is_written formulas_here (place.fact_at formulas_here i) ≡ is_stated look (loose_in index) mode a b x
  written_here =
      ap (is_written formulas_here) fact_here
      ∙ stated_as formulas_here (loose_in index) h.noted mode a b x mode_here
      ∙ ap (λ (l : ℕ → Record). is_stated l (loose_in index) mode a b x) look_here

  abbrev naming : ℕ → List ℕ
  naming = datum_for audience formulas_here

  text_here_lem : fact_text naming (meaning formulas_here (place.fact_at formulas_here i)) ≡ fact_text_in audience f index look mode a b x
  unfolding fact_text_in text_in
  text_here_lem =
      ap (λ (g : Fact ℕ). fact_text naming (meaning formulas_here g)) fact_here
      ∙ text_as naming formulas_here mode a b x mode_here
      ∙ ap (λ (l : ℕ → Record). ahead l mode a b ++ text naming (tree_of formulas_here x)) look_here

  in_all : i < place.F formulas_here
  unfolding place.F
  in_all = rw (← h.formulas, ← h.principals) below

  pub no_line : (v : ℕ) {s : Bool} → s ≡ is_stated look (loose_in index) mode a b x → s ≡ false → place_line audience formulas_here i v ≡ []
  unfolding place_line
  no_line v es e = rw (written_here, ← es, e) (go (ltb 0 v) (ltb i (place.F formulas_here)) _)
    where
      go : (y z : Bool) (l : List ℕ) → cond (y && (z && false)) l [] ≡ []
      go true true l = refl
      go true false l = refl
      go false z l = refl

  pub the_line : (v : ℕ) {s : Bool} → 1 ≤ v → s ≡ is_stated look (loose_in index) mode a b x → s ≡ true
      → place_line audience formulas_here i v ≡ decimal (v - 1) ++ ascii " " ++ printed (fact_text_in audience f index look mode a b x) ++ line_feed
  unfolding place_line
  the_line v l es e = rw (written_here, ← es, e, lt-ltb 0 v l, lt-ltb i (place.F formulas_here) in_all, text_here_lem) refl

-- a place that holds 0
pub empty_line : (a : Audience) (fs : List Record) (i v : ℕ) → v ≡ 0 → place_line a fs i v ≡ []
unfolding place_line
empty_line a fs i v e = rw e refl

-- THE LINE WITH A NUMBER
module _ (f : ℕ) (index : List ℕ) (n : Counts) (h : IsIndex f index n) (t : List ℕ) (size : ℕ) (es : size ≡ places_of f n.principals) where
  abbrev forms : List Record
  forms = records_in f index

  abbrev aims : List Record
  aims = goals_in n.goals index

  pub size_is : size ≡ place.F forms
  unfolding place.F
  size_is = es ∙ rw (← h.formulas, ← h.principals) refl

  pub goals_counted : length aims ≡ n.goals
  unfolding goals_in
  goals_counted = length-map (take n.goals (drop goals_from index)) unpacked ∙ length-take-le n.goals (drop goals_from index) (rw length-drop (omega (arith, h.size, h.goals)))

  pub place_number : (a : Audience) (i v : ℕ) → i < size → v ≡ get_or t i 0 → place_line a forms i v ≡ line_at a forms aims t i
  unfolding line_at
  place_number a i v l e = rw (← size_is, lt-ltb i size l, e) refl

  pub held_number : (a : Audience) (i : ℕ) {k : ℕ} → i ≡ size → k ≡ held (take size t) → held_line k ≡ line_at a forms aims t i
  unfolding line_at
  held_number a i l e = rw (← size_is, l, le-ltb size size (omega arith), eq-eqb size size refl, e) refl

  pub goals_number : (a : Audience) (i : ℕ) {r g : ℕ} → size ≤ i → (i ≡ size → ⊥) → r ≡ count_true (marks_by forms aims t) → g ≡ n.goals → goals_line r g ≡ line_at a forms aims t i
  unfolding line_at
  goals_number a i l m er eg = rw (← size_is, le-ltb i size l, ne_eqb i size m, goals_counted, er, eg) refl

-- GOING ON, line by line: `done` is written, and what fits of the lines from number i on is still to come.
pub record Going (line : ℕ → List ℕ) (last from : ℕ) (b₀ b : List ℕ) (at i : ℕ) : Type 0 where
  pub done : List ℕ
  pub bytes : at ≡ length done
  pub fits : at ≤ length b₀
  pub here : i ≤ last
  pub list : b ≡ sets b₀ 0 done
  pub rest : (fitting line (last - from) from (length b₀)).bytes ≡ done ++ (fitting line (last - i) i (length b₀ - at)).bytes
  pub next : (fitting line (last - from) from (length b₀)).next ≡ (fitting line (last - i) i (length b₀ - at)).next

module _ (line : ℕ → List ℕ) (last from : ℕ) (b₀ : List ℕ) where
  pub going_starts : from ≤ last → Going line last from b₀ b₀ 0 from
  going_starts l =
      let e : length b₀ - 0 ≡ length b₀ = omega arith in
      record { done = []; bytes = refl; fits = omega arith; here = l; list = refl; rest = rw e refl; next = rw e refl }

  -- the line with number i fits, or it does not
  fits_more : (left i room : ℕ) → length (line i) ≤ room
      → ((fitting line (suc left) i room).bytes ≡ line i ++ (fitting line left (suc i) (room - length (line i))).bytes)
      × ((fitting line (suc left) i room).next ≡ (fitting line left (suc i) (room - length (line i))).next)
  unfolding fitting
  fits_more left i room l = rw (le-ltb room (length (line i)) l) (refl, refl)

  fits_not : (left i room : ℕ) → room < length (line i) → ((fitting line (suc left) i room).bytes ≡ []) × ((fitting line (suc left) i room).next ≡ i)
  unfolding fitting
  fits_not left i room l = rw (lt-ltb room (length (line i)) l) (refl, refl)

  module _ (b : List ℕ) (at i : ℕ) (g : Going line last from b₀ b at i) where
    pub length_kept : length b ≡ length b₀
    length_kept = ap length g.list ∙ length-sets b₀ 0 g.done

    pub going_more : {b' : List ℕ} {k : ℕ} → i < last → k ≡ length (line i) → k ≤ length b - at → b' ≡ sets b at (line i) → Going line last from b₀ b' (at + k) (i + 1)
    going_more {b'} {k} l ek room eb =
        let e = length_kept in
        let s : last - i ≡ suc (last - (i + 1)) = omega arith in
        let m = fits_more (last - (i + 1)) i (length b₀ - at) (omega arith) in
        let z : length b₀ - at - length (line i) ≡ length b₀ - (at + k) = omega arith in
        record {
          done = g.done ++ line i;
          bytes = (let y = g.bytes in omega (arith, length-append g.done (line i)));
          fits = (let y = g.fits in omega arith);
          here = omega arith;
          list = eb ∙ ap₂ (λ (o : List ℕ) (p : ℕ). sets o p (line i)) g.list g.bytes ∙ sym (sets_append g.done (line i) b₀ 0 ∙ ap (λ (p : ℕ). sets (sets b₀ 0 g.done) p (line i)) (zero-add (length g.done)));
          rest = g.rest
              ∙ ap (λ (x : List ℕ). g.done ++ x) (ap (λ (y : ℕ). (fitting line y i (length b₀ - at)).bytes) s ∙ m.0 ∙ ap₂ (λ (y z : ℕ). line i ++ (fitting line (last - (i + 1)) y z).bytes) (sym (add-one i)) z)
              ∙ sym (append_assoc g.done (line i) (fitting line (last - (i + 1)) (i + 1) (length b₀ - (at + k))).bytes);
          next = g.next ∙ ap (λ (y : ℕ). (fitting line y i (length b₀ - at)).next) s ∙ m.1 ∙ ap₂ (λ (y z : ℕ). (fitting line (last - (i + 1)) y z).next) (sym (add-one i)) z;
        }

    pub going_stops : {k : ℕ} → i < last → k ≡ length (line i) → length b - at < k → LinesIn line last from b₀ b at i
    going_stops {k} l ek room =
        let e = length_kept in
        let s : last - i ≡ suc (last - (i + 1)) = omega arith in
        let m = fits_not (last - (i + 1)) i (length b₀ - at) (omega arith) in
        let u = g.rest ∙ ap (λ (x : List ℕ). g.done ++ x) (ap (λ (y : ℕ). (fitting line y i (length b₀ - at)).bytes) s ∙ m.0) ∙ append-nil g.done in
        record {
          written = g.bytes ∙ ap length (sym u);
          left = sym (g.next ∙ ap (λ (y : ℕ). (fitting line y i (length b₀ - at)).next) s ∙ m.1);
          list = g.list ∙ ap (sets b₀ 0) (sym u);
          fits = g.fits;
        }

    pub going_ends : last ≤ i → LinesIn line last from b₀ b at i
    unfolding fitting
    going_ends l =
        let s : last - i ≡ 0 = omega arith in
        let u = g.rest ∙ ap (λ (x : List ℕ). g.done ++ x) (ap (λ (y : ℕ). (fitting line y i (length b₀ - at)).bytes) s) ∙ append-nil g.done in
        record {
          written = g.bytes ∙ ap length (sym u);
          left = sym (g.next ∙ ap (λ (y : ℕ). (fitting line y i (length b₀ - at)).next) s);
          list = g.list ∙ ap (sets b₀ 0) (sym u);
          fits = g.fits;
        }

-- A PIECE: what fits is told, or that nothing does.
module _ {line : ℕ → List ℕ} {last from : ℕ} {b b' : List ℕ} {k i : ℕ} (w : LinesIn line last from b b' k i) where
  abbrev what_fits : Fitting
  what_fits = fitting line (last - from) from (length b)

  none : (s : List ℕ) → length s ≡ 0 → s ≡ []
  none [] e = refl
  none (x ∷ s) e = absurd (omega arith)

  pub no_piece : {o : Outcome (Part ℕ)} → k ≡ 0 → o ≡ refused 14 0 → (o ≡ part_told (piece_of what_fits)) × (b' ≡ with_part (piece_of what_fits) b)
  no_piece z e =
      let y : length what_fits.bytes ≡ 0 = sym w.written ∙ z in
      rw (eq-eqb (length what_fits.bytes) 0 y) (e, w.list ∙ ap (sets b 0) (none what_fits.bytes y))

  pub some_piece : (k ≡ 0 → ⊥) → (accepted (piece k i) ≡ part_told (piece_of what_fits)) × (b' ≡ with_part (piece_of what_fits) b)
  some_piece z =
      let y : length what_fits.bytes ≡ 0 → ⊥ = λ e. z (w.written ∙ e) in
      rw (ne_eqb (length what_fits.bytes) 0 y)
      (ap₂ (λ (x z : ℕ). accepted (piece x z)) w.written w.left, w.list ∙ sets_front what_fits.bytes b (let u = w.fits in let v = w.written in omega arith))

-- THE ANSWER
module _ (a : Audience) (fs gs : List Record) (t : List ℕ) (from : ℕ) (b : List ℕ) where
  abbrev Answers : Outcome (Part ℕ) → List ℕ → Type 0
  Answers o b' = (o ≡ part_told (part_among a fs gs t from (length b))) × (b' ≡ with_part (part_among a fs gs t from (length b)) b)

  pub short_table : {o : Outcome (Part ℕ)} → length t < place.F fs → o ≡ refused 14 0 → Answers o b
  short_table l e = rw (lt-ltb (length t) (place.F fs) l) (e, refl)

  module _ (long : place.F fs ≤ length t) where
    pub is_over : place.F fs + 2 ≤ from → Answers (accepted over) b
    is_over l = rw (le-ltb (length t) (place.F fs) long, le-leb (place.F fs + 2) from l) (refl, refl)

    module _ (l : from < place.F fs + 2) where
      part_is : part_among a fs gs t from (length b) ≡ piece_of (fitting (line_at a fs gs t) (line_count fs - from) from (length b))
      part_is = rw (le-ltb (length t) (place.F fs) long, lt-leb (place.F fs + 2) from l) refl

      module _ {last : ℕ} (el : last ≡ line_count fs) {b' : List ℕ} {k i : ℕ} (w : LinesIn (line_at a fs gs t) last from b b' k i) where
        lines_in : LinesIn (line_at a fs gs t) (line_count fs) from b b' k i
        lines_in = subst (λ (y : ℕ). LinesIn (line_at a fs gs t) y from b b' k i) el w

        pub nothing_fits : {o : Outcome (Part ℕ)} → k ≡ 0 → o ≡ refused 14 0 → Answers o b'
        nothing_fits z e = rw part_is (no_piece lines_in z e)

        pub a_piece : (k ≡ 0 → ⊥) → Answers (accepted (piece k i)) b'
        a_piece z = rw part_is (some_piece lines_in z)
