-- The report of honest senders: what it names, over trees; and that a book has one report.
use Prim.Native.Nat.{ℕ, ◌-◌, ◌≤◌}
use mathlib.Core.Path.{◌≡◌, refl, sym, ◌∙◌, ap, ap₂, subst}
use mathlib.Core.Logic.{inl, inr, ⊎_elim, ◌↔◌}
use mathlib.Core.List.{List, [], ◌∷◌}
use mathlib.Core.Bool.{Bool, true, false, ◌&&◌}
use native.Mathlib.Omega.{arith}
use lib.ListN.{length}
use lib.Dec.{T, leb, eqb, eqb→eq, leb→le, le→leb}
use Rattle.logic.specs.declared.Record.{Record}
use Rattle.logic.specs.Kind.{is_formula, body_of, bodies}
use Rattle.logic.specs.Count.{formulas, messages}
use Rattle.logic.specs.Book.{Book, Closed}
use Rattle.logic.specs.Refusal.{Outcome}
use Rattle.logic.specs.Refusal.Outcome.{accepted, refused}
use Rattle.logic.specs.Reading.{reading}
use Rattle.logic.specs.Formula.{Tree, loose, loose_field, record_of, tree_of}
use Rattle.logic.specs.Fact.{Fact, belief, initial}
use Rattle.logic.specs.Derivation.{Among, Derivable}
use Rattle.logic.specs.Written.{opened}
use Rattle.logic.specs.Survey.{IsSurvey}
use Rattle.logic.specs.Text.{length_told, at_front}
use Rattle.logic.specs.Reason.{whole}
use Rattle.logic.specs.Honesty.{Meets, is_to_be_believed, is_before, belief_byte, message_of, sender_of, Pair, Before, Rising, Fault, IsReport, Unfounded, report_bytes, ReportedAfter, Reported}
use Rattle.logic.specs.Honesty.Meets.{begins, left, right, through, into_encrypted, into_signed}
use Rattle.logic.proofs.Tests.{T_and, and_T}
use Rattle.logic.proofs.KindTests.{or_T, T_formula}
use Rattle.logic.proofs.Loose.{no_left, no_right}
use Rattle.logic.proofs.Contents.{contents, in_class, among_at}
use Rattle.logic.proofs.Meaning.{IsPrincipal, IsFormula, IsSentence, Valid, formula_in_lem, written}
use Rattle.logic.proofs.ByKind.{opened_is, opened_valid}
use Rattle.logic.proofs.Initial.{delivered_on, in_book, delivers}
use Rattle.logic.proofs.Derivable.{initial_later}
use Rattle.logic.proofs.Surveys.{follows_by_byte, survey_once}

-- what is met in a formula without loose variables has none
pub meets_closed : (A : ℕ) (Z : Tree) → loose Z ≡ [] → (i : Bool) (X : Tree) → Meets A Z i X → loose X ≡ []
meets_closed A Z c i _ begins = c
meets_closed A Z c i _ (left j X Y w) = no_left (loose X) (loose Y) (meets_closed A Z c _ _ w)
meets_closed A Z c i _ (right j X Y w) = no_right (loose X) (loose Y) (meets_closed A Z c _ _ w)
meets_closed A Z c i _ (through j X Y w) = no_left (loose X) (loose Y) (meets_closed A Z c _ _ w)
meets_closed A Z c i _ (into_encrypted j X K w) = no_left (loose X) (loose_field K) (meets_closed A Z c _ _ w)
meets_closed A Z c i _ (into_signed j X K w) = no_left (loose X) (loose_field K) (meets_closed A Z c _ _ w)

-- what is to be believed is a formula
pub to_be_believed : (k : ℕ) → T (is_to_be_believed k) → T (is_formula k)
to_be_believed k t =
    T_formula k
    (⊎_elim (λ h. inl h) (λ e. inr e)
    (or_T (leb 8 k && leb k 15) (eqb k 17)
    (λ u. let h = T_and (leb 8 k) (leb k 15) u in let a = leb→le 8 k h.0 in let b = leb→le k 15 h.1 in (omega arith, omega arith))
    (λ u. eqb→eq k 17 u) t))

-- a survey byte is 1 to m, or it is not
before_false : (m v : ℕ) → is_before m v ≡ false → (1 ≤ v) × (v ≤ m) → ⊥
before_false m v e (a, b) =
    let t : T (is_before m v) = and_T (leb 1 v) (leb v m) (le→leb 1 v a) (le→leb v m b) in
    subst T e t

false_before : (m v : ℕ) → ((1 ≤ v) × (v ≤ m) → ⊥) → is_before m v ≡ false
false_before m v n = go (is_before m v) (λ t. let h = T_and (leb 1 v) (leb v m) t in n (leb→le 1 v h.0, leb→le v m h.1))
  where
    go : (b : Bool) → (T b → ⊥) → b ≡ false
    go true h = absurd (h tt)
    go false h = refl

module _ (rs : List Record) (book : Book rs) where
  -- the sender of a message that is there is a principal,
  pub sender : (m : ℕ) → 1 ≤ m → m ≤ length (messages rs) → IsPrincipal (formulas rs) (message_of (messages rs) m).first
  unfolding body_of bodies
  sender m a b =
      let r = message_of (messages rs) m in
      let i : Among r (messages rs) = among_at (messages rs) (m - 1) (omega arith) in
      let h = in_class (λ k. eqb k 33) r rs i in
      (in_book rs (contents rs book) 33 r h.0 (eqb→eq r.kind 33 h.1)).0

  -- and its formula is one without loose variables
  pub sent : (m : ℕ) → 1 ≤ m → m ≤ length (messages rs) → IsSentence (formulas rs) (message_of (messages rs) m).third
  unfolding delivered_on
  sent m a b =
      let r = message_of (messages rs) m in
      let i : Among r (messages rs) = among_at (messages rs) (m - 1) (omega arith) in
      (delivers rs (contents rs book) r i).0.1

  -- that the sender believes what is met and to be believed can be written
  pub met_valid : (m x : ℕ) → 1 ≤ m → m ≤ length (messages rs)
      → Meets (sender_of rs m) (tree_of (formulas rs) (message_of (messages rs) m).third) true (tree_of (formulas rs) x)
      → T (is_to_be_believed (record_of (formulas rs) x).kind)
      → Valid (formulas rs) (opened (formulas rs) (message_of (messages rs) m).first x)
  met_valid m x a b w k =
      let f : IsFormula (formulas rs) x = to_be_believed (record_of (formulas rs) x).kind k in
      let c : Closed (formulas rs) x = meets_closed _ _ (sent m a b).1 _ _ w in
      opened_valid (formulas rs) (contents rs book).formulas_ok (message_of (messages rs) m).first x (sender m a b) (f, c)

module _ (rs : List Record) (book : Book rs) (t : List ℕ) (s : IsSurvey (formulas rs) (initial rs) t) where
  -- the byte of a belief that is met says up to which messages it follows
  belief_follows : (m x : ℕ) → 1 ≤ m → m ≤ length (messages rs)
      → Meets (sender_of rs m) (tree_of (formulas rs) (message_of (messages rs) m).third) true (tree_of (formulas rs) x)
      → T (is_to_be_believed (record_of (formulas rs) x).kind)
      → Derivable (formulas rs) (initial rs (m - 1)) (belief (sender_of rs m) (tree_of (formulas rs) x))
      ↔ ((1 ≤ belief_byte (formulas rs) t (message_of (messages rs) m).first x) × (belief_byte (formulas rs) t (message_of (messages rs) m).first x ≤ m))
  belief_follows m x a b w k =
      let fs = formulas rs in
      let p = (message_of (messages rs) m).first in
      let e = opened_is fs (contents rs book).formulas_ok p x (formula_in_lem fs x (to_be_believed (record_of fs x).kind k)) in
      let h = follows_by_byte fs (initial rs) t s (initial_later rs) (opened fs p x) (written fs (opened fs p x) (met_valid rs book m x a b w k)) (m - 1) in (
        (λ d. let g = h.0 (subst (λ (y : Fact Tree). Derivable fs (initial rs (m - 1)) y) (sym e) d) in (g.0, omega (arith, g.1))),
        (λ g. subst (λ (y : Fact Tree). Derivable fs (initial rs (m - 1)) y) e (h.1 (g.0, omega (arith, g.1)))),
      )

  fault_unfounded : (a : Pair) → Fault rs t a → Unfounded rs a.message a.formula
  fault_unfounded a (l, h, f) =
      record {
        there = (l, h);
        met = f.met;
        asked = f.asked;
        underivable = λ d. before_false _ _ f.lacking ((belief_follows a.message a.formula l h f.met f.asked).0 d);
      }

  unfounded_fault : (a : Pair) → Unfounded rs a.message a.formula → Fault rs t a
  unfounded_fault a u =
      let l = u.there.0 in
      let h = u.there.1 in (
        l,
        h,
        record {
          met = u.met;
          asked = u.asked;
          lacking = false_before _ _ (λ g. u.underivable ((belief_follows a.message a.formula l h u.met u.asked).1 g));
        },
      )

  -- WHAT THE REPORT NAMES: a pair of a message number and a formula number stands in it if and only if the formula is met inside a section from
  -- the message's sender, is of kind 8 to 15 or 17, and that the sender believes it does not follow up to the message before
  pub report_names : (ps : List Pair) → IsReport rs t ps → (a : Pair) → Among a ps ↔ Unfounded rs a.message a.formula
  report_names ps r a = ((λ i. fault_unfounded a (r.only a i)), (λ u. r.each a (unfounded_fault a u)))

-- ONE REPORT.

-- a rising list with the members of another is that list
irreflexive : (a : Pair) → Before a a → ⊥
irreflexive a (inl l) = omega arith
irreflexive a (inr (e, l)) = omega arith

before_trans : (a b c : Pair) → Before a b → Before b c → Before a c
before_trans a b c (inl l) (inl m) = inl (omega arith)
before_trans a b c (inl l) (inr (e, m)) = inl (omega arith)
before_trans a b c (inr (e, l)) (inl m) = inl (omega arith)
before_trans a b c (inr (e, l)) (inr (f, m)) = inr (omega arith, omega arith)

-- the first pair stands before all others
first_before : (a : Pair) (l : List Pair) → Rising (a ∷ l) → (b : Pair) → Among b l → Before a b
first_before a (b ∷ l) (h, r) c (inl e) = rw e h
first_before a [] _ c x3 = elim x3 [ ]
first_before a (b ∷ l) (h, r) c (inr i) = before_trans a b c h (first_before b l r c i)

rising_rest : (a : Pair) (l : List Pair) → Rising (a ∷ l) → Rising l
rising_rest a [] r = tt
rising_rest a (b ∷ l) r = r.1

same_members : (k l : List Pair) → Rising k → Rising l → ((a : Pair) → Among a k → Among a l) → ((a : Pair) → Among a l → Among a k) → k ≡ l
same_members [] [] r q f g = refl
same_members [] (b ∷ l) r q f g = absurd (g b (inl refl))
same_members (a ∷ k) [] r q f g = absurd (f a (inl refl))
same_members (a ∷ k) (b ∷ l) r q f g =
    let e : a ≡ b = heads (f a (inl refl)) (g b (inl refl)) in
    ap₂ (λ x y. x ∷ y) e
    (same_members k l (rising_rest a k r) (rising_rest b l q)
    (λ c i. tail_of b l c (f c (inr i)) (λ d. irreflexive a (subst (λ (z : Pair). Before a z) (d ∙ sym e) (first_before a k r c i))))
    (λ c i. tail_of a k c (g c (inr i)) (λ d. irreflexive b (subst (λ (z : Pair). Before b z) (d ∙ e) (first_before b l q c i)))))
  where
    heads : Among a (b ∷ l) → Among b (a ∷ k) → a ≡ b
    heads (inl e) j = e
    heads (inr i) (inl e) = sym e
    heads (inr i) (inr j) = absurd (irreflexive a (before_trans a b a (first_before a k r b j) (first_before b l q a i)))

    tail_of : (h : Pair) (m : List Pair) (c : Pair) → Among c (h ∷ m) → (c ≡ h → ⊥) → Among c m
    tail_of h m c (inl e) n = absurd (n e)
    tail_of h m c (inr i) n = i

pub one_report : (rs : List Record) (t : List ℕ) (ps qs : List Pair) → IsReport rs t ps → IsReport rs t qs → ps ≡ qs
one_report rs t ps qs p q =
    same_members ps qs p.rising q.rising (λ a i. q.each a (p.only a i)) (λ a i. p.each a (q.only a i))

reported_after_once : (r : Outcome (List Record)) (b b₁ b₂ : List ℕ) (o u : Outcome ℕ) → ReportedAfter r b b₁ o → ReportedAfter r b b₂ u → (o ≡ u) × (b₁ ≡ b₂)
reported_after_once (refused f i) b b₁ b₂ o u (e, g) (h, j) = (e ∙ sym h, g ∙ sym j)
reported_after_once (accepted rs) b b₁ b₂ o u (t, s, (ps, p, e, g)) (t', s', (qs, q, h, j)) =
    let d : t' ≡ t = survey_once (formulas rs) (initial rs) t' t s' s in
    let same : ps ≡ qs = one_report rs t ps qs p (subst (λ (z : List ℕ). IsReport rs z qs) d q) in (
      e ∙ (ap (λ z. length_told (whole (length b) (report_bytes z))) same ∙ sym h),
      g ∙ (ap (λ z. at_front (whole (length b) (report_bytes z)) b) same ∙ sym j),
    )

-- what the operation answers and writes is fixed by the book and the buffer
pub reported_once : (book b b₁ b₂ : List ℕ) (o u : Outcome ℕ) → Reported book b b₁ o → Reported book b b₂ u → (o ≡ u) × (b₁ ≡ b₂)
reported_once book b b₁ b₂ o u p q = reported_after_once (reading book) b b₁ b₂ o u p q
