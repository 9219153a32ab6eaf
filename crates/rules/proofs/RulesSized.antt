-- The lists of a book of at most 256 formulas are about cells that are there, and about sets of eight ranks.
use Prim.Native.Nat.{ℕ, ◌<◌, ◌≤◌}
use native.Mathlib.Nat.{lt_of_le_of_lt}
use native.Mathlib.Omega.{arith}
use mathlib.Core.Path.{◌≡◌, sym, ap, ◌∙◌, subst}
use mathlib.Core.Logic.{inl, inr}
use mathlib.Core.List.{List}
use mathlib.Core.Bool.{true}
use lib.ListN.{length}
use lib.Dec.{T}
use lib.Bits.{bit_and, bit_or, and_le_l}
use Rattle.logic.specs.declared.Record.{Record}
use Rattle.logic.specs.Book.{All}
use Rattle.logic.specs.Formula.{record_of}
use Rattle.logic.proofs.Member.{all_imp}
use Rattle.logic.proofs.Formulas.{Formulas}
use Rattle.logic.proofs.Meaning.{IsFormula, formula_in_lem}
use Rattle.facts.specs.declared.Cell.{Cell}
use Rattle.facts.specs.declared.Instance.{Instance}
use Rattle.facts.proofs.Block.{Fit}
use Rattle.lanes.specs.Lanes.{Common, common}
use Rattle.lanes.proofs.Sets.{Proper}
use Rattle.lanes.proofs.Fires.{Sized}
use Rattle.flat.specs.Layout.{at, kind_at, first_at, second_at, third_at, opened_at}
use Rattle.rules.specs.Rules.{joins, row_has, scope_of, trust, everyone, only_one, all_but, last_about, before, rules_of}
use Rattle.flat.proofs.Cells.{Ranking, Represents}
use Rattle.rules.proofs.Tables.{On, Instanced, before_below}
use Rattle.rules.proofs.Tables.On.{here, later}
use Rattle.rules.proofs.InBook.{has_fields, rank_at_lem, kind_read, placed, sorts4, sorts5, sorts6, sorts7, sorts15, opened_fits}
use Rattle.rules.proofs.Delegation.{grant_is, scope_under, scope_formula, instance_sentence}
use Rattle.rules.proofs.Entries.{Alone, Opening, Entry, Below, entries}
use Rattle.rules.proofs.Entries.Alone.{entry4, entry5, entry6, entry7, entry8, entry12, entry13, entry14, entry15, entry16, entry17, entry18, entry19, entry20, entry21, entry22}
use Rattle.rules.proofs.Entries.Opening.{entry1, entry2, entry3, entry9, entry10, entry11}
use Rattle.rules.proofs.Entries.Entry.{alone, opens, entrusts}

-- a chain does not rise
on_below : (links : List ℕ) (y t : ℕ) → On links y t → y ≤ t
on_below links y t (here _ n e) = omega arith
on_below links y t (later _ n o) = omega (arith, on_below links y (before links t) o, before_below links t n)

-- a cell of the block is there
pub fit_proper : (n p : ℕ) (q : Cell) → n ≤ 256 → p ≤ 8 → Fit n p q → Proper q
fit_proper n p q l few (f, inl h) = (omega arith, omega arith)
fit_proper n p q l few (f, inr h) = let g = h.1 in (omega arith, omega arith)

module _ (fs : List Record) (ok : Formulas fs) (ρ : Ranking fs) (b rows : List ℕ) (rep : Represents ρ b) (instanced : Instanced fs b rows) (small : length fs ≤ 256) where
  open_proper : (x : ℕ) → IsFormula fs x → Proper (opened_at b x)
  open_proper x f = fit_proper (length fs) ρ.principals (opened_at b x) small ρ.few (subst (Fit (length fs) ρ.principals) (sym (rep.opens 0 x f)) (opened_fits fs ok ρ 0 x f))

  form_small : (x : ℕ) → IsFormula fs x → x < 256
  form_small x f = omega (arith, formula_in_lem fs x f)

  -- what is in the row of what a kind 17 lets somebody control
  module _ (d x : ℕ) (in_d : d < length fs) (h : kind_at b d ≡ 17) (l : x < 256) (m : row_has rows (scope_of b d) x ≡ true) where
    k17 : (record_of fs d).kind ≡ 17
    k17 = kind_read fs ρ b rep d 17 in_d h tt

    abbrev scope : ℕ
    scope = (record_of fs (record_of fs d).second).second

    in_row : row_has rows scope x ≡ true
    in_row =
        let e : scope_of b d ≡ scope = ap (second_at b) (placed fs ρ b rep d 17 k17 tt).second ∙ (placed fs ρ b rep (record_of fs d).second 15 (grant_is fs ok d k17) tt).second in
        subst (λ s. row_has rows s x ≡ true) e m

    pub instance_inside : x < length fs
    instance_inside = instanced.inside scope x (formula_in_lem fs scope (scope_formula fs ok d k17)) l in_row

    instance_formula : IsFormula fs x
    instance_formula =
        let f = scope_formula fs ok d k17 in
        let u = scope_under fs ok d k17 in
        (instance_sentence fs ok d k17 scope x u f instance_inside (instanced.only d scope x in_d k17 (formula_in_lem fs scope f) instance_inside u in_row)).0

  module _ (r : ℕ) (in_r : r < length fs) where
    r_small : r < 256
    r_small = omega arith

    -- a conjunction and its parts
    module _ (h : kind_at b r ≡ 4) where
      k4 : (record_of fs r).kind ≡ 4
      k4 = kind_read fs ρ b rep r 4 in_r h tt

      is_x : IsFormula fs (first_at b r)
      is_x = subst (IsFormula fs) (sym (placed fs ρ b rep r 4 k4 tt).first) (sorts4 fs ok r k4).0

      is_y : IsFormula fs (second_at b r)
      is_y = subst (IsFormula fs) (sym (placed fs ρ b rep r 4 k4 tt).second) (sorts4 fs ok r k4).1

      x_small : first_at b r < 256
      x_small = form_small (first_at b r) is_x

      y_small : second_at b r < 256
      y_small = form_small (second_at b r) is_y

    -- what is in an encrypted, signed or combined formula
    first_small : (k : ℕ) → T (has_fields k) → (record_of fs r).kind ≡ k → IsFormula fs (record_of fs r).first → first_at b r < 256
    first_small k l e f = rw (placed fs ρ b rep r k e l).first (form_small (record_of fs r).first f)

    small5 : kind_at b r ≡ 5 → first_at b r < 256
    small5 h = let k = kind_read fs ρ b rep r 5 in_r h tt in first_small 5 tt k (sorts5 fs ok r k).0

    small6 : kind_at b r ≡ 6 → first_at b r < 256
    small6 h = let k = kind_read fs ρ b rep r 6 in_r h tt in first_small 6 tt k (sorts6 fs ok r k).0

    small7 : kind_at b r ≡ 7 → first_at b r < 256
    small7 h = let k = kind_read fs ρ b rep r 7 in_r h tt in first_small 7 tt k (sorts7 fs ok r k)

    all_three : {i : Instance} → Proper i.first → Proper i.second → Proper i.gives → Sized (common everyone i)
    all_three p q c = record { may = omega arith; first = p; second = q; gives = c }

    sized_alone : (i : Instance) → Alone b rows r i → Sized (common everyone i)
    sized_alone i (entry4 j l c) = all_three (r_small, omega arith) (r_small, omega arith) (r_small, omega arith)
    sized_alone i (entry5 h) =
        let k = kind_read fs ρ b rep r 15 in_r h tt in
        let f = subst (IsFormula fs) (sym (placed fs ρ b rep r 15 k tt).second) (sorts15 fs ok r k).1 in
        all_three (r_small, omega arith) (form_small (second_at b r) f, omega (arith, rank_at_lem b (first_at b r))) (open_proper (second_at b r) f)
    sized_alone i (entry6 h) = all_three (r_small, omega arith) (r_small, omega arith) (x_small h, omega arith)
    sized_alone i (entry7 h) = all_three (r_small, omega arith) (r_small, omega arith) (y_small h, omega arith)
    sized_alone i (entry8 h) = all_three (r_small, omega arith) (r_small, omega arith) (small7 h, omega arith)
    sized_alone i (entry12 h) = all_three (x_small h, omega arith) (x_small h, omega arith) (r_small, omega arith)
    sized_alone i (entry13 h) = all_three (y_small h, omega arith) (y_small h, omega arith) (r_small, omega arith)
    sized_alone i (entry14 j l h) = all_three (r_small, omega arith) (r_small, omega arith) (x_small h, omega arith)
    sized_alone i (entry15 j l h) = all_three (r_small, omega arith) (r_small, omega arith) (y_small h, omega arith)
    sized_alone i (entry16 j l h) = all_three (r_small, omega arith) (r_small, omega arith) (x_small h, omega arith)
    sized_alone i (entry17 j l h) = all_three (r_small, omega arith) (r_small, omega arith) (y_small h, omega arith)
    sized_alone i (entry18 h) = all_three (r_small, omega arith) (r_small, omega arith) (open_proper (first_at b r) (is_x h))
    sized_alone i (entry19 h) = all_three (r_small, omega arith) (r_small, omega arith) (open_proper (second_at b r) (is_y h))
    sized_alone i (entry20 h) = all_three (open_proper (first_at b r) (is_x h)) (open_proper (second_at b r) (is_y h)) (r_small, omega arith)
    sized_alone i (entry21 z l h m) =
        all_three (r_small, omega arith) (l, omega (arith, rank_at_lem b (first_at b (second_at b r)))) (open_proper z (instance_formula r z in_r h l m))
    sized_alone i (entry22 c l h m) = all_three (r_small, omega arith) (r_small, omega arith) (l, omega arith)

    module _ (s : ℕ) (l : s < 256) where
      -- s is believed, r is seen, and the set is small
      opening : {m k x j : ℕ} → m < 256 → x < 256 → j < 19 → Sized (common m (joins k (at s 1) (at r 0) (at x j)))
      opening u v w = record { may = u; first = (l, omega arith); second = (r_small, omega arith); gives = (v, w) }

      but_small : all_but b (third_at b r) < 256
      but_small = omega arith

      both_small : (m : ℕ) → bit_and (all_but b (third_at b r)) m < 256
      both_small m = lt_of_le_of_lt (and_le_l (all_but b (third_at b r)) m) but_small

      sized_opening : (c : Common) → Opening b r s c → Sized c
      sized_opening c (entry1 p q h k _ e) = opening (both_small (only_one b p)) (small5 k) (omega (arith, rank_at_lem b q))
      sized_opening c (entry2 k _ e) = opening but_small (small6 k) (omega (arith, rank_at_lem b (second_at b s)))
      sized_opening c (entry3 p q h k _ e) = opening (lt_of_le_of_lt (and_le_l everyone (only_one b p)) (omega arith)) (small7 k) (omega (arith, rank_at_lem b q))
      sized_opening c (entry9 k _ e) = opening (both_small (bit_or (only_one b (first_at b s)) (only_one b (third_at b s)))) (small5 k) (omega arith)
      sized_opening c (entry10 k _ e) = opening (both_small (only_one b (second_at b s))) (small5 k) (omega arith)
      sized_opening c (entry11 k _ e) = opening but_small (small6 k) (omega arith)

  sized_entry : (r : ℕ) → r < length fs → (links : List ℕ) → Below links 256 → (c : Common) → Entry b links rows r c → Sized c
  unfolding last_about
  sized_entry r l links below c (alone i h) = sized_alone r l i h
  sized_entry r l links below c (opens s _ o h) =
      let t = on_below links s (last_about links (second_at b r)) o in
      let u = below (second_at b r) in
      sized_opening r l s (omega arith) c h
  sized_entry r l links below c (entrusts d ld h) =
      let e = instanced.back r d (omega arith) ld h in
      sized_alone d e.0 (trust b d r) (entry21 r (omega arith) e.1 e.2)

module _ (fs : List Record) (ok : Formulas fs) (ρ : Ranking fs) (b : List ℕ) (rep : Represents ρ b) (links rows : List ℕ) (below : Below links 256)
    (instanced : Instanced fs b rows) where
  -- EVERY LISTED INSTANCE is about cells that are there
  pub sized : length fs ≤ 256 → (r : ℕ) → r < length fs → All Sized (rules_of b links rows r)
  sized small r l = all_imp (Entry b links rows r) Sized (sized_entry fs ok ρ b rows rep instanced small r l links below) (rules_of b links rows r) (entries b links rows r)
