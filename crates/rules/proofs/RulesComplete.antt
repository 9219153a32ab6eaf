-- Every instance of a rule on records, with written facts, is in the list of a record, and its principal may use it there: so a closed
-- state is closed under the rules.
use Prim.Native.Nat.{ℕ, ◌+◌, ◌<◌}
use native.Mathlib.Omega.{arith}
use mathlib.Core.Path.{◌≡◌, refl, sym, ap, ap₂, ◌∙◌, subst}
use mathlib.Core.Logic.{inl, inr, ◌≢◌}
use mathlib.Core.List.{List, [], ◌∷◌}
use mathlib.Core.Bool.{Bool, true, false}
use lib.ListN.{length}
use lib.Bits.{bit_or}
use lib.Dec.{T}
use Rattle.logic.specs.declared.Record.{Record}
use Rattle.logic.specs.Book.{All, Closed}
use Rattle.logic.specs.Formula.{record_of, tree_of, clear}
use Rattle.logic.specs.Fact.{Fact}
use Rattle.logic.specs.Fact.Fact.{Sees, Believes, BelievesSaid}
use Rattle.logic.specs.Written.{opened}
use Rattle.logic.specs.Rule.{Ends}
use Rattle.logic.specs.Derivation.{Among}
use Rattle.logic.proofs.Tests.{T_true}
use Rattle.logic.proofs.Formulas.{Formulas, is_record}
use Rattle.logic.proofs.Meaning.{IsPrincipal, Valid, formula_in_lem}
use Rattle.logic.proofs.ByKind.{opened_principal}
use Rattle.logic.proofs.RuleOn.{RuleOn}
use Rattle.logic.proofs.RuleOn.RuleOn.{record1, record2, record3, record4, record5, record6, record7, record8, record9, record10, record11, record12, record13, record14, record15, record16, record17, record18, record19, record20, record21, record22}
use Rattle.logic.proofs.Holder.{holder, holder_opened}
use Rattle.facts.specs.declared.Cell.{Cell}
use Rattle.facts.specs.declared.Instance.{Instance}
use Rattle.facts.specs.Facts.{bit_at, is_given}
use Rattle.facts.proofs.Premises.{Unless, Asked}
use Rattle.lanes.specs.Lanes.{Common, common}
use Rattle.flat.specs.Layout.{at, kind_at, first_at, second_at, third_at, rank_at, opened_at}
use Rattle.rules.specs.Rules.{leads, joins, row_has, everyone, only_one, all_but, last_about, rules_of}
use Rattle.flat.proofs.Cells.{Ranking, cell_of, Represents}
use Rattle.rules.proofs.Keys.{ends_eq, ends_one}
use Rattle.rules.proofs.Tables.{On, Chained, Instanced}
use Rattle.rules.proofs.Ranks.{in_both, in_left, in_right}
use Rattle.rules.proofs.InBook.{has_fields, Placed, placed, kind_there, rank_small, in_only, in_others, in_everyone, sorts4, sorts5, sorts6, sorts8, sorts9, sorts10, sorts15}
use Rattle.rules.proofs.Delegation.{grant_is, grant_under, scope_under, grant_formula, scope_formula}
use Rattle.rules.proofs.Entries.{Alone, Opening, Below, in_rules}
use Rattle.rules.proofs.Entries.Alone.{entry4, entry5, entry6, entry7, entry8, entry12, entry13, entry14, entry15, entry16, entry17, entry18, entry19, entry20, entry21, entry22}
use Rattle.rules.proofs.Entries.Opening.{entry1, entry2, entry3, entry9, entry10, entry11}
use Rattle.rules.proofs.Entries.Entry.{alone, opens}

-- The instance of a rule is in the list of a record and principal a may use it: what it asks for is where the premises are, and it gives
-- the place of the conclusion.
pub record Covered {fs : List Record} (ρ : Ranking fs) (b links rows : List ℕ) (a : ℕ) (premises : List (Fact ℕ)) (conclusion : Fact ℕ) : Type 1 where
  pub its_record : ℕ
  pub inside : its_record < length fs
  pub instance : Common
  pub listed : Among instance (rules_of b links rows its_record)
  pub may : true ≡ bit_at instance.may (ρ.rank a)
  pub asked : (Q : Cell → Type 0) → All (λ g. Q (cell_of ρ g)) premises → Asked Q instance.by
  pub gives : instance.by.gives ≡ cell_of ρ conclusion

-- what holds of both cells holds of what is asked for
both_asked : (Q : Cell → Type 0) (i : Instance) → Q i.first → Q i.second → Asked Q i
both_asked Q i p q = go (is_given i.kind)
  where
    go : (v : Bool) → Unless v (Q i.first × Q i.second)
    go true = tt
    go false = (p, q)

module _ (fs : List Record) (ok : Formulas fs) (ρ : Ranking fs) (b : List ℕ) (rep : Represents ρ b) (links rows : List ℕ) (below : Below links 256)
    (chained : Chained b links (length fs)) (instanced : Instanced fs b rows) where
  -- an entry of the list of r that everyone may use, from one premise or two
  from_one : {g h : Fact ℕ} {k : ℕ} {q c : Cell} (p r : ℕ) → IsPrincipal fs p → r < length fs → Alone b rows r (leads k q c) → q ≡ cell_of ρ g
      → c ≡ cell_of ρ h → Covered ρ b links rows p (g ∷ []) h
  from_one {k = k} {q = q} {c = c} p r ip l e d f = record {
    its_record = r;
    inside = l;
    instance = common everyone (leads k q c);
    listed = in_rules b links rows r below _ (alone _ e);
    may = in_everyone fs ρ b rep p ip;
    asked = λ Q v. both_asked Q (leads k q c) (subst Q (sym d) v.0) (subst Q (sym d) v.0);
    gives = f;
  }

  from_two : {g u h : Fact ℕ} {k : ℕ} {q s c : Cell} (p r : ℕ) → IsPrincipal fs p → r < length fs → Alone b rows r (joins k q s c) → q ≡ cell_of ρ g
      → s ≡ cell_of ρ u → c ≡ cell_of ρ h → Covered ρ b links rows p (g ∷ u ∷ []) h
  from_two {k = k} {q = q} {s = s} {c = c} p r ip l e d n f = record {
    its_record = r;
    inside = l;
    instance = common everyone (joins k q s c);
    listed = in_rules b links rows r below _ (alone _ e);
    may = in_everyone fs ρ b rep p ip;
    asked = λ Q v. both_asked Q (joins k q s c) (subst Q (sym d) v.0) (subst Q (sym n) v.1.0);
    gives = f;
  }

  -- an entry of a statement y that opens r, which the principals of the set m may use
  from_statement : {h : Fact ℕ} {m k : ℕ} {c : Cell} (p r y : ℕ) → r < length fs → On links y (last_about links (second_at b r))
      → Opening b r y (common m (joins k (at y 1) (at r 0) c)) → true ≡ bit_at m (ρ.rank p) → c ≡ cell_of ρ h → Covered ρ b links rows p (Believes p y ∷ Sees p r ∷ []) h
  from_statement {m = m} {k = k} {c = c} p r y l o e u f = record {
    its_record = r;
    inside = l;
    instance = common m (joins k (at y 1) (at r 0) c);
    listed = in_rules b links rows r below _ (opens y _ o e);
    may = u;
    asked = λ Q v. both_asked Q (joins k (at y 1) (at r 0) c) v.0 v.1.0;
    gives = f;
  }

  -- KEYS AND SECRETS: y against the record e
  module _ (p y e : ℕ) (ip : IsPrincipal fs p) (cy : Closed fs y) (ce : Closed fs e) where
    -- p is another than the one that e is from
    other_may : (k : ℕ) → (record_of fs e).kind ≡ k → T (has_fields k) → IsPrincipal fs (record_of fs e).third → (record_of fs e).third ≢ p
        → true ≡ bit_at (all_but b (third_at b e)) (ρ.rank p)
    other_may k ke l i other =
        let t = (placed fs ρ b rep e k ke l).third in
        in_others fs ρ b rep (third_at b e) p (subst (IsPrincipal fs) (sym t) i) ip (λ z. other (sym t ∙ z))

    -- p is an end of a key
    end_may : (q c d : ℕ) → Ends p q c d → true ≡ bit_at (bit_or (only_one b c) (only_one b d)) (ρ.rank p)
    end_may q c d (inl h) = in_left (only_one b c) (only_one b d) (ρ.rank p) (subst (λ z. true ≡ bit_at (only_one b z) (ρ.rank p)) h.0 (in_only fs ρ b rep p ip))
    end_may q c d (inr h) = in_right (only_one b c) (only_one b d) (ρ.rank p) (subst (λ z. true ≡ bit_at (only_one b z) (ρ.rank p)) h.0 (in_only fs ρ b rep p ip))

    said_at : (q : ℕ) → IsPrincipal fs q → first_at b e ≡ (record_of fs e).first → at (first_at b e) (3 + rank_at b q) ≡ at (record_of fs e).first (3 + ρ.rank q)
    said_at q iq f = ap₂ (λ x j. at x (3 + j)) f (rep.ranks q iq)

    -- rules 1 and 9
    module _ (q : ℕ) (ky : (record_of fs y).kind ≡ 8) (ke : (record_of fs e).kind ≡ 5) (k : (record_of fs y).second ≡ (record_of fs e).second)
        (ends : Ends p q (record_of fs y).first (record_of fs y).third) (other : (record_of fs e).third ≢ p) where
      y8 : Placed fs b y
      y8 = placed fs ρ b rep y 8 ky tt

      e5 : Placed fs b e
      e5 = placed fs ρ b rep e 5 ke tt

      k8 : kind_at b y ≡ 8
      k8 = kind_there fs ρ b rep y 8 ky tt cy

      k5 : kind_at b e ≡ 5
      k5 = kind_there fs ρ b rep e 5 ke tt ce

      same8 : second_at b y ≡ second_at b e
      same8 = y8.second ∙ k ∙ sym e5.second

      ends8 : Ends p q (first_at b y) (third_at b y)
      ends8 = ends_eq p q (sym y8.first) (sym y8.third) ends

      on8 : On links y (last_about links (second_at b e))
      on8 = subst (λ s. On links y (last_about links s)) same8 (chained.shared y y8.inside k8)

      others8 : true ≡ bit_at (all_but b (third_at b e)) (ρ.rank p)
      others8 = other_may 5 ke tt (sorts5 fs ok e ke).1 other

      covered1 : Covered ρ b links rows p (Believes p y ∷ Sees p e ∷ []) (BelievesSaid p q (record_of fs e).first)
      covered1 =
          let s = sorts8 fs ok y ky in
          from_statement p e y e5.inside on8 (entry1 p q ends8 k5 k8 same8)
          (in_both (all_but b (third_at b e)) (only_one b p) (ρ.rank p) others8 (in_only fs ρ b rep p ip))
          (said_at q (ends_one (IsPrincipal fs) p q ends s.0 s.1) e5.first)

      covered9 : Covered ρ b links rows p (Believes p y ∷ Sees p e ∷ []) (Sees p (record_of fs e).first)
      covered9 =
          from_statement p e y e5.inside on8 (entry9 k5 k8 same8)
          (in_both (all_but b (third_at b e)) (bit_or (only_one b (first_at b y)) (only_one b (third_at b y))) (ρ.rank p) others8 (end_may q (first_at b y) (third_at b y) ends8))
          (ap (λ x. at x 0) e5.first)

    -- rule 3
    covered3 : (q : ℕ) → (record_of fs y).kind ≡ 10 → (record_of fs e).kind ≡ 7 → (record_of fs y).second ≡ (record_of fs e).second
        → Ends p q (record_of fs y).first (record_of fs y).third → Covered ρ b links rows p (Believes p y ∷ Sees p e ∷ []) (BelievesSaid p q (record_of fs e).first)
    covered3 q ky ke k ends =
        let t = placed fs ρ b rep y 10 ky tt in
        let u = placed fs ρ b rep e 7 ke tt in
        let same = t.second ∙ k ∙ sym u.second in
        let kt = kind_there fs ρ b rep y 10 ky tt cy in
        let s = sorts10 fs ok y ky in
        from_statement p e y u.inside (subst (λ s. On links y (last_about links s)) same (chained.secret y t.inside kt))
        (entry3 p q (ends_eq p q (sym t.first) (sym t.third) ends) (kind_there fs ρ b rep e 7 ke tt ce) kt same)
        (in_both everyone (only_one b p) (ρ.rank p) (in_everyone fs ρ b rep p ip) (in_only fs ρ b rep p ip))
        (said_at q (ends_one (IsPrincipal fs) p q ends s.0 s.1) u.first)

    -- rules 2, 10 and 11: y says whose public key it is
    module _ (ky : (record_of fs y).kind ≡ 9) (n : ℕ) (l : T (has_fields n)) (ke : (record_of fs e).kind ≡ n) (k : (record_of fs y).first ≡ (record_of fs e).second)
        (i : IsPrincipal fs (record_of fs e).third) (other : (record_of fs e).third ≢ p) where
      y9 : Placed fs b y
      y9 = placed fs ρ b rep y 9 ky tt

      e9 : Placed fs b e
      e9 = placed fs ρ b rep e n ke l

      k9 : kind_at b y ≡ 9
      k9 = kind_there fs ρ b rep y 9 ky tt cy

      kn : kind_at b e ≡ n
      kn = kind_there fs ρ b rep e n ke l ce

      same9 : first_at b y ≡ second_at b e
      same9 = y9.first ∙ k ∙ sym e9.second

      on9 : On links y (last_about links (second_at b e))
      on9 = subst (λ s. On links y (last_about links s)) same9 (chained.public y y9.inside k9)

      others9 : true ≡ bit_at (all_but b (third_at b e)) (ρ.rank p)
      others9 = other_may n ke l i other

      covered2 : n ≡ 6 → Covered ρ b links rows p (Believes p y ∷ Sees p e ∷ []) (BelievesSaid p (record_of fs y).second (record_of fs e).first)
      covered2 h =
          from_statement p e y e9.inside on9 (entry2 (kn ∙ h) k9 same9) others9
          (ap (λ q. at (first_at b e) (3 + rank_at b q)) y9.second ∙ said_at (record_of fs y).second (sorts9 fs ok y ky) e9.first)

      covered11 : n ≡ 6 → Covered ρ b links rows p (Believes p y ∷ Sees p e ∷ []) (Sees p (record_of fs e).first)
      covered11 h = from_statement p e y e9.inside on9 (entry11 (kn ∙ h) k9 same9) others9 (ap (λ x. at x 0) e9.first)

      covered10 : n ≡ 5 → (record_of fs y).second ≡ p → Covered ρ b links rows p (Believes p y ∷ Sees p e ∷ []) (Sees p (record_of fs e).first)
      covered10 h own =
          from_statement p e y e9.inside on9 (entry10 (kn ∙ h) k9 same9)
          (in_both (all_but b (third_at b e)) (only_one b (second_at b y)) (ρ.rank p) others9
          (subst (λ z. true ≡ bit_at (only_one b z) (ρ.rank p)) (sym (y9.second ∙ own)) (in_only fs ρ b rep p ip)))
          (ap (λ x. at x 0) e9.first)

  -- CONJUNCTIONS
  module _ (e : ℕ) (k : (record_of fs e).kind ≡ 4) where
    e4 : Placed fs b e
    e4 = placed fs ρ b rep e 4 k tt

    k4 : Closed fs e → kind_at b e ≡ 4
    k4 = kind_there fs ρ b rep e 4 k tt

    open_x : (p : ℕ) → opened_at b (first_at b e) ≡ cell_of ρ (opened fs p (record_of fs e).first)
    open_x p = ap (opened_at b) e4.first ∙ rep.opens p (record_of fs e).first (sorts4 fs ok e k).0

    open_y : (p : ℕ) → opened_at b (second_at b e) ≡ cell_of ρ (opened fs p (record_of fs e).second)
    open_y p = ap (opened_at b) e4.second ∙ rep.opens p (record_of fs e).second (sorts4 fs ok e k).1

  -- the principal of an opened belief
  opened_by : {gs : List (Fact ℕ)} (p x : ℕ) → Covered ρ b links rows p gs (opened fs p x) → Covered ρ b links rows (holder (opened fs p x)) gs (opened fs p x)
  opened_by {gs} p x h = subst (λ z. Covered ρ b links rows z gs (opened fs p x)) (sym (holder_opened fs p x)) h

  -- EVERY INSTANCE OF A RULE with written premises is listed, and its principal may use it
  pub covered : {n : ℕ} {gs : List (Fact ℕ)} {g : Fact ℕ} → RuleOn fs n gs g → All (Valid fs) gs → Covered ρ b links rows (holder g) gs g
  covered (record1 p q y e ky ke k ends other) v = covered1 p y e v.0.0 v.0.1.1 v.1.0.1.1 q ky ke k ends other
  covered (record2 p y e ky ke k other) v = covered2 p y e v.0.0 v.0.1.1 v.1.0.1.1 ky 6 tt ke k (sorts6 fs ok e ke).1 other refl
  covered (record3 p q y e ky ke k ends) v = covered3 p y e v.0.0 v.0.1.1 v.1.0.1.1 q ky ke k ends
  covered (record4 p q x c) v =
      let l = formula_in_lem fs x v.0.1.0 in
      from_two p x v.0.0 l (entry4 (ρ.rank q) (rank_small fs ρ b rep q v.1.0.1) (rep.clears x l ∙ T_true (clear (tree_of fs x)) c)) refl refl refl
  covered (record5 p e k) v =
      let t = placed fs ρ b rep e 15 k tt in
      let s = sorts15 fs ok e k in
      opened_by p (record_of fs e).second
      (from_two p e v.0.0 t.inside (entry5 (kind_there fs ρ b rep e 15 k tt v.0.1.1)) refl
      (ap₂ (λ x j. at x (11 + j)) t.second (ap (rank_at b) t.first ∙ rep.ranks (record_of fs e).first s.0))
      (ap (opened_at b) t.second ∙ rep.opens p (record_of fs e).second s.1))
  covered (record6 p e k) v = let t = e4 e k in from_one p e v.0.0 t.inside (entry6 (k4 e k v.0.1.1)) refl (ap (λ x. at x 0) t.first)
  covered (record7 p e k) v = let t = e4 e k in from_one p e v.0.0 t.inside (entry7 (k4 e k v.0.1.1)) refl (ap (λ x. at x 0) t.second)
  covered (record8 p e k) v =
      let t = placed fs ρ b rep e 7 k tt in
      from_one p e v.0.0 t.inside (entry8 (kind_there fs ρ b rep e 7 k tt v.0.1.1)) refl (ap (λ x. at x 0) t.first)
  covered (record9 p q y e ky ke k ends other) v = covered9 p y e v.0.0 v.0.1.1 v.1.0.1.1 q ky ke k ends other
  covered (record10 p y e ky ke k own other) v = covered10 p y e v.0.0 v.0.1.1 v.1.0.1.1 ky 5 tt ke k (sorts5 fs ok e ke).1 other refl own
  covered (record11 p y e ky ke k other) v = covered11 p y e v.0.0 v.0.1.1 v.1.0.1.1 ky 6 tt ke k (sorts6 fs ok e ke).1 other refl
  covered (record12 p e k c) v = let t = e4 e k in from_one p e v.0.0 t.inside (entry12 (k4 e k c)) (ap (λ x. at x 2) t.first) refl
  covered (record13 p e k c) v = let t = e4 e k in from_one p e v.0.0 t.inside (entry13 (k4 e k c)) (ap (λ x. at x 2) t.second) refl
  covered (record14 p q e k) v =
      let t = e4 e k in
      from_one p e v.0.0 t.inside (entry14 (ρ.rank q) (rank_small fs ρ b rep q v.0.1) (k4 e k v.0.2.1)) refl (ap (λ x. at x (3 + ρ.rank q)) t.first)
  covered (record15 p q e k) v =
      let t = e4 e k in
      from_one p e v.0.0 t.inside (entry15 (ρ.rank q) (rank_small fs ρ b rep q v.0.1) (k4 e k v.0.2.1)) refl (ap (λ x. at x (3 + ρ.rank q)) t.second)
  covered (record16 p q e k) v =
      let t = e4 e k in
      from_one p e v.0.0 t.inside (entry16 (ρ.rank q) (rank_small fs ρ b rep q v.0.1) (k4 e k v.0.2.1)) refl (ap (λ x. at x (11 + ρ.rank q)) t.first)
  covered (record17 p q e k) v =
      let t = e4 e k in
      from_one p e v.0.0 t.inside (entry17 (ρ.rank q) (rank_small fs ρ b rep q v.0.1) (k4 e k v.0.2.1)) refl (ap (λ x. at x (11 + ρ.rank q)) t.second)
  covered (record18 p e k) v =
      let t = e4 e k in
      opened_by p (record_of fs e).first (from_one p e v.0.0 t.inside (entry18 (k4 e k v.0.1.1)) refl (open_x e k p))
  covered (record19 p e k) v =
      let t = e4 e k in
      opened_by p (record_of fs e).second (from_one p e v.0.0 t.inside (entry19 (k4 e k v.0.1.1)) refl (open_y e k p))
  covered (record20 p e k c) v =
      let t = e4 e k in
      from_two p e (opened_principal fs ok p (record_of fs e).first v.0) t.inside (entry20 (k4 e k c)) (open_x e k p) (open_y e k p) refl
  covered (record21 p d x k i) v =
      let g = grant_is fs ok d k in
      let t = placed fs ρ b rep d 17 k tt in
      let u = placed fs ρ b rep (record_of fs d).second 15 g tt in
      let y = (record_of fs (record_of fs d).second).second in
      let s : second_at b (second_at b d) ≡ y = ap (second_at b) t.second ∙ u.second in
      let q : first_at b (second_at b d) ≡ (record_of fs (record_of fs d).second).first = ap (first_at b) t.second ∙ u.first in
      let l = formula_in_lem fs x v.1.0.2.0 in
      let few = instanced.few in
      let h = instanced.every d y x t.inside k (formula_in_lem fs y (scope_formula fs ok d k)) l (scope_under fs ok d k) i in
      opened_by p x
      (from_two p d v.0.0 t.inside (entry21 x (omega arith) (kind_there fs ρ b rep d 17 k tt v.0.1.1) (subst (λ z. row_has rows z x ≡ true) (sym s) h)) refl
      (ap (λ j. at x (11 + j)) (ap (rank_at b) q ∙ rep.ranks (record_of fs (record_of fs d).second).first v.1.0.1)) (rep.opens p x v.1.0.2.0))
  covered (record22 p d c k kc i) v =
      let t = placed fs ρ b rep d 17 k tt in
      let y = (record_of fs d).second in
      let l = is_record fs c (λ z. omega arith) in
      let few = instanced.few in
      let h = instanced.every d y c t.inside k (formula_in_lem fs y (grant_formula fs ok d k)) l (grant_under fs ok d k) i in
      from_one p d v.0.0 t.inside (entry22 c (omega arith) (kind_there fs ρ b rep d 17 k tt v.0.1.1) (subst (λ z. row_has rows z c ≡ true) (sym t.second) h)) refl refl
