-- Each instance in the list of a record is an instance of a rule on records for everyone who may use it: the step kind is 65 + its number,
-- and premises and conclusion are its facts, in order.
use Prim.Native.Nat.{ℕ, ◌+◌, ◌<◌}
use native.Mathlib.Omega.{arith}
use mathlib.Core.Path.{◌≡◌, refl, sym, ap, ap₂, ◌∙◌, subst}
use mathlib.Core.Logic.{◌⊎◌, inl, inr, ⊎_elim, ◌≢◌}
use mathlib.Core.List.{List, [], ◌∷◌}
use mathlib.Core.Bool.{true, false}
use lib.ListN.{length}
use lib.Bits.{bit_or}
use lib.Dec.{T}
use Rattle.logic.specs.declared.Record.{Record}
use Rattle.logic.specs.Book.{All, Closed}
use Rattle.logic.specs.Rule.{Ends}
use Rattle.logic.specs.Formula.{record_of, tree_of, clear, loose}
use Rattle.logic.specs.Fact.{Fact}
use Rattle.logic.specs.Fact.Fact.{Sees, Believes, BelievesFresh, BelievesSaid, BelievesBelieves}
use Rattle.logic.specs.Written.{opened}
use Rattle.logic.proofs.Tests.{true_T}
use Rattle.logic.proofs.Member.{all_imp}
use Rattle.logic.proofs.Formulas.{Formulas}
use Rattle.logic.proofs.Meaning.{IsPrincipal, IsFormula, IsSentence, formula_in_lem}
use Rattle.logic.proofs.ByKind.{controls_is}
use Rattle.logic.proofs.RuleOn.{RuleOn, halves}
use Rattle.logic.proofs.RuleOn.RuleOn.{record1, record2, record3, record4, record5, record6, record7, record8, record9, record10, record11, record12, record13, record14, record15, record16, record17, record18, record19, record20, record21, record22}
use Rattle.facts.specs.declared.Cell.{Cell}
use Rattle.facts.specs.declared.Instance.{Instance}
use Rattle.facts.specs.Facts.{bit_at, is_given}
use Rattle.facts.proofs.Block.{IsBit, Fit}
use Rattle.lanes.specs.Lanes.{Common}
use Rattle.flat.specs.Layout.{at, kind_at, first_at, second_at, third_at, rank_at, opened_at}
use Rattle.rules.specs.Rules.{leads, joins, row_has, trust, everyone, only_one, all_but, rules_of}
use Rattle.flat.proofs.Cells.{Ranking, ranked_fact, fact_sees, fact_believes, fact_fresh, fact_said, fact_believed, Represents}
use Rattle.rules.proofs.Keys.{ends_eq, ends_one}
use Rattle.rules.proofs.Matches.{Matches, Listed, fact_opened}
use Rattle.rules.proofs.Ranks.{both_in, either_in}
use Rattle.rules.proofs.Tables.{Instanced}
use Rattle.rules.proofs.InBook.{has_fields, kind_read, closed_read, placed, rank_small, only_in, but_in, sorts5, sorts6, sorts7, sorts8, sorts9, sorts10, sorts15, opened_fits}
use Rattle.rules.proofs.Delegation.{grant_is, grant_under, scope_under, grant_formula, scope_formula, same_kind, instance_sentence}
use Rattle.rules.proofs.Entries.{Alone, Opening, Entry, entries}
use Rattle.rules.proofs.Entries.Alone.{entry4, entry5, entry6, entry7, entry8, entry12, entry13, entry14, entry15, entry16, entry17, entry18, entry19, entry20, entry21, entry22}
use Rattle.rules.proofs.Entries.Opening.{entry1, entry2, entry3, entry9, entry10, entry11}
use Rattle.rules.proofs.Entries.Entry.{alone, opens, entrusts}

-- NOTHING IS GIVEN without premises
module _ (b rows : List ℕ) (r : ℕ) where
  given_alone : (i : Instance) → Alone b rows r i → is_given i.kind ≡ false
  given_alone i (entry4 j l c) = refl
  given_alone i (entry5 k) = refl
  given_alone i (entry6 k) = refl
  given_alone i (entry7 k) = refl
  given_alone i (entry8 k) = refl
  given_alone i (entry12 k) = refl
  given_alone i (entry13 k) = refl
  given_alone i (entry14 j l k) = refl
  given_alone i (entry15 j l k) = refl
  given_alone i (entry16 j l k) = refl
  given_alone i (entry17 j l k) = refl
  given_alone i (entry18 k) = refl
  given_alone i (entry19 k) = refl
  given_alone i (entry20 k) = refl
  given_alone i (entry21 x l k h) = refl
  given_alone i (entry22 c l k h) = refl

  given_opening : (y : ℕ) (c : Common) → Opening b r y c → is_given c.by.kind ≡ false
  given_opening y c (entry1 p q h k s e) = refl
  given_opening y c (entry2 k s e) = refl
  given_opening y c (entry3 p q h k s e) = refl
  given_opening y c (entry9 k s e) = refl
  given_opening y c (entry10 k s e) = refl
  given_opening y c (entry11 k s e) = refl

given_entry : (b links rows : List ℕ) (r : ℕ) (c : Common) → Entry b links rows r c → is_given c.by.kind ≡ false
given_entry b links rows r c (alone i h) = given_alone b rows r i h
given_entry b links rows r c (opens y _ o h) = given_opening b rows r y c h
given_entry b links rows r c (entrusts d l h) = refl

pub not_given : (b links rows : List ℕ) (r : ℕ) → All (λ c. is_given c.by.kind ≡ false) (rules_of b links rows r)
not_given b links rows r = all_imp (Entry b links rows r) (λ c. is_given c.by.kind ≡ false) (given_entry b links rows r) (rules_of b links rows r) (entries b links rows r)

-- an end of a key is one of its two
ends_own : (P : ℕ → Type 0) (p q : ℕ) {c d : ℕ} → Ends p q c d → P c → P d → P p
ends_own P p q (inl h) u v = rw h.0 u
ends_own P p q (inr h) u v = rw h.0 v

-- an instance of a rule on records, from its parts
matched : {fs : List Record} {ρ : Ranking fs} {a : ℕ} {i : Instance} {n : ℕ} {gs : List (Fact ℕ)} {g : Fact ℕ} → RuleOn fs n gs g → 65 + n ≡ i.kind
    → (gs ≡ ranked_fact ρ a i.first ∷ ranked_fact ρ a i.second ∷ []) ⊎ ((gs ≡ ranked_fact ρ a i.first ∷ []) × (i.first ≡ i.second))
    → g ≡ ranked_fact ρ a i.gives → Fit (length fs) ρ.principals i.gives → Matches ρ a i
matched {n = n} {gs = gs} {g = g} r k s c f = record { number = n; premises = gs; conclusion = g; rule = r; kind = k; asks = s; concludes = c; inside = f }

module _ (fs : List Record) (ok : Formulas fs) (ρ : Ranking fs) (b rows : List ℕ) (rep : Represents ρ b) (instanced : Instanced fs b rows) (a : ℕ)
    (ia : IsPrincipal fs a) where
  fit_opened : (x : ℕ) → IsFormula fs x → Fit (length fs) ρ.principals (opened_at b x)
  fit_opened x f = subst (Fit (length fs) ρ.principals) (sym (rep.opens a x f)) (opened_fits fs ok ρ a x f)

  opened_is : (x : ℕ) → IsSentence fs x → opened fs a x ≡ ranked_fact ρ a (opened_at b x)
  opened_is x f = sym (fact_opened fs ok ρ b rep a ia x f)

  -- what a principal said, or believes
  said_by : (q x : ℕ) → IsPrincipal fs q → BelievesSaid a q x ≡ ranked_fact ρ a (at x (3 + rank_at b q))
  said_by q x i = rw (rep.ranks q i) (sym (fact_said ρ a x (ρ.rank q) (rank_small fs ρ b rep q i) ∙ ap (λ z. BelievesSaid a z x) (ρ.ranked q i).1))

  believed_by : (q x : ℕ) → IsPrincipal fs q → BelievesBelieves a q x ≡ ranked_fact ρ a (at x (11 + rank_at b q))
  believed_by q x i = rw (rep.ranks q i) (sym (fact_believed ρ a x (ρ.rank q) ∙ ap (λ z. BelievesBelieves a z x) (ρ.ranked q i).1))

  bit_said_by : (q : ℕ) → IsPrincipal fs q → IsBit ρ.principals (3 + rank_at b q)
  bit_said_by q i = rw (rep.ranks q i) (inl (omega (arith, (ρ.ranked q i).0)))

  said_rank : (j : ℕ) → j < 8 → IsBit ρ.principals (3 + j) → j < ρ.principals
  said_rank j l (inl h) = omega arith
  said_rank j l (inr h) = absurd (let g = h.0 in omega arith)

  low : (k : ℕ) → k < 3 → IsBit ρ.principals k
  low k l = inl (omega arith)

  -- from one premise, from two
  leading : {n : ℕ} {g h : Fact ℕ} {p c : Cell} → RuleOn fs n (g ∷ []) h → g ≡ ranked_fact ρ a p → h ≡ ranked_fact ρ a c
      → Fit (length fs) ρ.principals c → Matches ρ a (leads (65 + n) p c)
  leading r e f l = matched r refl (inr (ap (λ z. z ∷ []) e, refl)) f l

  joining : {n : ℕ} {g u h : Fact ℕ} {p q c : Cell} → RuleOn fs n (g ∷ u ∷ []) h → g ≡ ranked_fact ρ a p → u ≡ ranked_fact ρ a q → h ≡ ranked_fact ρ a c
      → Fit (length fs) ρ.principals c → Matches ρ a (joins (65 + n) p q c)
  joining r d e f l = matched r refl (inl (ap₂ (λ s t. s ∷ t ∷ []) d e)) f l

  sees_is : (x : ℕ) → Sees a x ≡ ranked_fact ρ a (at x 0)
  sees_is x = sym (fact_sees ρ a x)

  believes_is : (x : ℕ) → Believes a x ≡ ranked_fact ρ a (at x 1)
  believes_is x = sym (fact_believes ρ a x)

  fresh_is : (x : ℕ) → BelievesFresh a x ≡ ranked_fact ρ a (at x 2)
  fresh_is x = sym (fact_fresh ρ a x)

  said_is : (x j : ℕ) → j < 8 → BelievesSaid a (ρ.who j) x ≡ ranked_fact ρ a (at x (3 + j))
  said_is x j l = sym (fact_said ρ a x j l)

  believed_is : (x j : ℕ) → BelievesBelieves a (ρ.who j) x ≡ ranked_fact ρ a (at x (11 + j))
  believed_is x j = sym (fact_believed ρ a x j)

  -- A RULE ABOUT r ALONE
  module _ (r : ℕ) (in_r : r < length fs) where
    abbrev x : ℕ
    x = (record_of fs r).first

    abbrev y : ℕ
    y = (record_of fs r).second

    -- a conjunction and its parts
    module _ (h : kind_at b r ≡ 4) where
      k4 : (record_of fs r).kind ≡ 4
      k4 = kind_read fs ρ b rep r 4 in_r h tt

      at_x : first_at b r ≡ x
      at_x = (placed fs ρ b rep r 4 k4 tt).first

      at_y : second_at b r ≡ y
      at_y = (placed fs ρ b rep r 4 k4 tt).second

      closed4 : Closed fs r
      closed4 = closed_read fs ρ b rep r 4 in_r h tt

      both : IsSentence fs x × IsSentence fs y
      both = halves fs ok r k4 (rw k4 tt, closed4)

      is_x : IsSentence fs x
      is_x = both.0

      is_y : IsSentence fs y
      is_y = both.1

      in_x : x < length fs
      in_x = formula_in_lem fs x is_x.0

      in_y : y < length fs
      in_y = formula_in_lem fs y is_y.0

    listed_alone : (i : Instance) → Alone b rows r i → Listed ρ a i
    listed_alone i (entry4 j l c) = (
      refl,
      λ f g.
          joining (record4 a (ρ.who j) r (true_T (clear (tree_of fs r)) (sym (rep.clears r in_r) ∙ c))) (fresh_is r) (said_is r j l) (believed_is r j)
          (in_r, inr (omega arith, let u = said_rank j l g.1 in omega arith)),
    )
    listed_alone i (entry5 h) =
        let k = kind_read fs ρ b rep r 15 in_r h tt in
        let p = placed fs ρ b rep r 15 k tt in
        let s = sorts15 fs ok r k in
        let c : Closed fs y = ap loose (sym (controls_is fs ok r k)) ∙ closed_read fs ρ b rep r 15 in_r h tt in
        rw (p.first, p.second) (refl, λ f g. joining (record5 a r k) (believes_is r) (believed_by x y s.0) (opened_is y (s.1, c)) (fit_opened y s.1))
    listed_alone i (entry6 h) = rw (at_x h) (refl, λ f g. leading (record6 a r (k4 h)) (sees_is r) (sees_is x) (in_x h, low 0 (omega arith)))
    listed_alone i (entry7 h) = rw (at_y h) (refl, λ f g. leading (record7 a r (k4 h)) (sees_is r) (sees_is y) (in_y h, low 0 (omega arith)))
    listed_alone i (entry8 h) =
        let k = kind_read fs ρ b rep r 7 in_r h tt in
        let e = (placed fs ρ b rep r 7 k tt).first in
        rw e (refl, λ f g. leading (record8 a r k) (sees_is r) (sees_is x) (formula_in_lem fs x (sorts7 fs ok r k), low 0 (omega arith)))
    listed_alone i (entry12 h) = rw (at_x h) (refl, λ f g. leading (record12 a r (k4 h) (closed4 h)) (fresh_is x) (fresh_is r) (in_r, low 2 (omega arith)))
    listed_alone i (entry13 h) = rw (at_y h) (refl, λ f g. leading (record13 a r (k4 h) (closed4 h)) (fresh_is y) (fresh_is r) (in_r, low 2 (omega arith)))
    listed_alone i (entry14 j l h) = rw (at_x h) (refl, λ f g. leading (record14 a (ρ.who j) r (k4 h)) (said_is r j l) (said_is x j l) (in_x h, f.1))
    listed_alone i (entry15 j l h) = rw (at_y h) (refl, λ f g. leading (record15 a (ρ.who j) r (k4 h)) (said_is r j l) (said_is y j l) (in_y h, f.1))
    listed_alone i (entry16 j l h) = rw (at_x h) (refl, λ f g. leading (record16 a (ρ.who j) r (k4 h)) (believed_is r j) (believed_is x j) (in_x h, f.1))
    listed_alone i (entry17 j l h) = rw (at_y h) (refl, λ f g. leading (record17 a (ρ.who j) r (k4 h)) (believed_is r j) (believed_is y j) (in_y h, f.1))
    listed_alone i (entry18 h) = rw (at_x h) (refl, λ f g. leading (record18 a r (k4 h)) (believes_is r) (opened_is x (is_x h)) (fit_opened x (is_x h).0))
    listed_alone i (entry19 h) = rw (at_y h) (refl, λ f g. leading (record19 a r (k4 h)) (believes_is r) (opened_is y (is_y h)) (fit_opened y (is_y h).0))
    listed_alone i (entry20 h) =
        rw (at_x h, at_y h) (refl, λ f g. joining (record20 a r (k4 h) (closed4 h)) (opened_is x (is_x h)) (opened_is y (is_y h)) (believes_is r) (in_r, low 1 (omega arith)))
    listed_alone i (entry21 z l h m) =
        let k = kind_read fs ρ b rep r 17 in_r h tt in
        let g = grant_is fs ok r k in
        let p = (placed fs ρ b rep r 17 k tt).second in
        let q = placed fs ρ b rep y 15 g tt in
        let m' = subst (λ s. row_has rows s z ≡ true) (ap (second_at b) p ∙ q.second) m in
        rw (p, q.first) (
          refl,
          λ f u.
              let i = instanced.only r (record_of fs y).second z in_r k (formula_in_lem fs (record_of fs y).second (scope_formula fs ok r k)) u.0 (scope_under fs ok r k) m' in
              let s = instance_sentence fs ok r k (record_of fs y).second z (scope_under fs ok r k) (scope_formula fs ok r k) u.0 i in
              joining (record21 a r z k i) (believes_is r) (believed_by (record_of fs y).first z (sorts15 fs ok y g).0) (opened_is z s) (fit_opened z s.0),
        )
    listed_alone i (entry22 c l h m) =
        let k = kind_read fs ρ b rep r 17 in_r h tt in
        let g = grant_is fs ok r k in
        let p = (placed fs ρ b rep r 17 k tt).second in
        let m' = subst (λ s. row_has rows s c ≡ true) p m in
        let in_y = formula_in_lem fs y (grant_formula fs ok r k) in
        let in_c = instanced.inside y c in_y l m' in
        let i = instanced.only r y c in_r k in_y in_c (grant_under fs ok r k) m' in
        (refl, λ f u. leading (record22 a r c k (same_kind fs ok r k y c (grant_formula fs ok r k) in_c i ∙ g) i) (believes_is r) (believes_is c) (in_c, low 1 (omega arith)))

    -- A STATEMENT s THAT OPENS r: what was said in r, or what is seen in it
    module _ (s : ℕ) where
      said_in : {n : ℕ} (q : ℕ) → RuleOn fs n (Believes a s ∷ Sees a r ∷ []) (BelievesSaid a q x) → IsPrincipal fs q → IsFormula fs x → first_at b r ≡ x
          → Matches ρ a (joins (65 + n) (at s 1) (at r 0) (at (first_at b r) (3 + rank_at b q)))
      said_in q t i f e = rw e (joining t (believes_is s) (sees_is r) (said_by q x i) (formula_in_lem fs x f, bit_said_by q i))

      seen_in : {n : ℕ} → RuleOn fs n (Believes a s ∷ Sees a r ∷ []) (Sees a x) → IsFormula fs x → first_at b r ≡ x
          → Matches ρ a (joins (65 + n) (at s 1) (at r 0) (at (first_at b r) 0))
      seen_in t f e = rw e (joining t (believes_is s) (sees_is r) (sees_is x) (formula_in_lem fs x f, low 0 (omega arith)))

      -- r is from another than a
      from_other_lem : (k : ℕ) → (record_of fs r).kind ≡ k → T (has_fields k) → true ≡ bit_at (all_but b (third_at b r)) (ρ.rank a) → (record_of fs r).third ≢ a
      from_other_lem k e l m z = but_in fs ρ b rep (third_at b r) a ia m ((placed fs ρ b rep r k e l).third ∙ z)

      -- s is about the key or secret of r
      same_second : (k l : ℕ) → (record_of fs r).kind ≡ k → T (has_fields k) → (record_of fs s).kind ≡ l → T (has_fields l) → second_at b s ≡ second_at b r
          → (record_of fs s).second ≡ (record_of fs r).second
      same_second k l e i f j h = sym (placed fs ρ b rep s l f j).second ∙ h ∙ (placed fs ρ b rep r k e i).second

      same_first : (k : ℕ) → (record_of fs r).kind ≡ k → T (has_fields k) → (record_of fs s).kind ≡ 9 → first_at b s ≡ second_at b r
          → (record_of fs s).first ≡ (record_of fs r).second
      same_first k e i f h = sym (placed fs ρ b rep s 9 f tt).first ∙ h ∙ (placed fs ρ b rep r k e i).second

      -- the ends of the key or secret s, one of which is a
      module _ (k : ℕ) (l : T (has_fields k)) (f : (record_of fs s).kind ≡ k) (i : IsPrincipal fs (record_of fs s).first) (j : IsPrincipal fs (record_of fs s).third) where
        ends_of : (p q : ℕ) → Ends p q (first_at b s) (third_at b s) → true ≡ bit_at (only_one b p) (ρ.rank a)
            → Ends a q (record_of fs s).first (record_of fs s).third × IsPrincipal fs q
        ends_of p q h m =
            let t = placed fs ρ b rep s k f l in
            let d = ends_eq p q t.first t.third h in
            let e = only_in fs ρ b rep p a (ends_own (IsPrincipal fs) p q d i j) ia m in
            (subst (λ z. Ends z q (record_of fs s).first (record_of fs s).third) e d, ends_one (IsPrincipal fs) p q d i j)

        some_end : true ≡ bit_at (bit_or (only_one b (first_at b s)) (only_one b (third_at b s))) (ρ.rank a)
            → (q : ℕ) × Ends a q (record_of fs s).first (record_of fs s).third
        some_end m =
            ⊎_elim (λ u. (third_at b s, (ends_of (first_at b s) (third_at b s) (inl (refl, refl)) u).0)) (λ u. (first_at b s, (ends_of (third_at b s) (first_at b s) (inr (refl, refl)) u).0))
            (either_in (only_one b (first_at b s)) (only_one b (third_at b s)) (ρ.rank a) m)

      listed_opening : (c : Common) → Opening b r s c → true ≡ bit_at c.may (ρ.rank a) → Listed ρ a c.by
      listed_opening c (entry1 p q h kr ks e) m = (
        refl,
        λ f g.
            let er = kind_read fs ρ b rep r 5 in_r kr tt in
            let es = kind_read fs ρ b rep s 8 f.0 ks tt in
            let w = both_in (all_but b (third_at b r)) (only_one b p) (ρ.rank a) m in
            let u = sorts8 fs ok s es in
            let d = ends_of 8 tt es u.0 u.1 p q h w.1 in
            said_in q (record1 a q s r es er (same_second 5 8 er tt es tt e) d.0 (from_other_lem 5 er tt w.0)) d.1 (sorts5 fs ok r er).0
            (placed fs ρ b rep r 5 er tt).first,
      )
      listed_opening c (entry2 kr ks e) m = (
        refl,
        λ f g.
            let er = kind_read fs ρ b rep r 6 in_r kr tt in
            let es = kind_read fs ρ b rep s 9 f.0 ks tt in
            rw (placed fs ρ b rep s 9 es tt).second
            (said_in (record_of fs s).second (record2 a s r es er (same_first 6 er tt es e) (from_other_lem 6 er tt m)) (sorts9 fs ok s es) (sorts6 fs ok r er).0
            (placed fs ρ b rep r 6 er tt).first),
      )
      listed_opening c (entry3 p q h kr ks e) m = (
        refl,
        λ f g.
            let er = kind_read fs ρ b rep r 7 in_r kr tt in
            let es = kind_read fs ρ b rep s 10 f.0 ks tt in
            let w = both_in everyone (only_one b p) (ρ.rank a) m in
            let u = sorts10 fs ok s es in
            let d = ends_of 10 tt es u.0 u.1 p q h w.1 in
            said_in q (record3 a q s r es er (same_second 7 10 er tt es tt e) d.0) d.1 (sorts7 fs ok r er) (placed fs ρ b rep r 7 er tt).first,
      )
      listed_opening c (entry9 kr ks e) m = (
        refl,
        λ f g.
            let er = kind_read fs ρ b rep r 5 in_r kr tt in
            let es = kind_read fs ρ b rep s 8 f.0 ks tt in
            let w = both_in (all_but b (third_at b r)) (bit_or (only_one b (first_at b s)) (only_one b (third_at b s))) (ρ.rank a) m in
            let u = sorts8 fs ok s es in
            let d = some_end 8 tt es u.0 u.1 w.1 in
            seen_in (record9 a d.0 s r es er (same_second 5 8 er tt es tt e) d.1 (from_other_lem 5 er tt w.0)) (sorts5 fs ok r er).0
            (placed fs ρ b rep r 5 er tt).first,
      )
      listed_opening c (entry10 kr ks e) m = (
        refl,
        λ f g.
            let er = kind_read fs ρ b rep r 5 in_r kr tt in
            let es = kind_read fs ρ b rep s 9 f.0 ks tt in
            let w = both_in (all_but b (third_at b r)) (only_one b (second_at b s)) (ρ.rank a) m in
            let t = (placed fs ρ b rep s 9 es tt).second in
            let own = only_in fs ρ b rep (second_at b s) a (subst (IsPrincipal fs) (sym t) (sorts9 fs ok s es)) ia w.1 in
            seen_in (record10 a s r es er (same_first 5 er tt es e) (sym t ∙ own) (from_other_lem 5 er tt w.0)) (sorts5 fs ok r er).0
            (placed fs ρ b rep r 5 er tt).first,
      )
      listed_opening c (entry11 kr ks e) m = (
        refl,
        λ f g.
            let er = kind_read fs ρ b rep r 6 in_r kr tt in
            let es = kind_read fs ρ b rep s 9 f.0 ks tt in
            seen_in (record11 a s r es er (same_first 6 er tt es e) (from_other_lem 6 er tt m)) (sorts6 fs ok r er).0 (placed fs ρ b rep r 6 er tt).first,
      )

  listed_entry : (r : ℕ) → r < length fs → (links : List ℕ) (c : Common) → Entry b links rows r c → true ≡ bit_at c.may (ρ.rank a) → Listed ρ a c.by
  listed_entry r l links c (alone i h) m = listed_alone r l i h
  listed_entry r l links c (opens s _ o h) m = listed_opening r l s c h m
  listed_entry r l links c (entrusts d ld h) m =
      let lr : r < 256 = let few = instanced.few in omega arith in
      let e = instanced.back r d lr ld h in
      listed_alone d e.0 (trust b d r) (entry21 r lr e.1 e.2)

-- EACH LISTED INSTANCE IS AN INSTANCE OF A RULE for those who may use it
module _ (fs : List Record) (ok : Formulas fs) (ρ : Ranking fs) (b : List ℕ) (rep : Represents ρ b) (links rows : List ℕ) (instanced : Instanced fs b rows) where
  pub listed : (a : ℕ) → IsPrincipal fs a → (r : ℕ) → r < length fs → All (λ c. true ≡ bit_at c.may (ρ.rank a) → Listed ρ a c.by) (rules_of b links rows r)
  listed a ia r l =
      all_imp (Entry b links rows r) (λ c. true ≡ bit_at c.may (ρ.rank a) → Listed ρ a c.by) (listed_entry fs ok ρ b rows rep instanced a ia r l links) (rules_of b links rows r) (entries b links rows r)
