-- The flat array of a book has its assumptions and its messages. Assumes nothing.
use Prim.Native.Nat.{ℕ, zero, suc, ◌<◌}
use native.Mathlib.Omega.{arith}
use mathlib.Core.Path.{◌≡◌, refl, sym, ap, ◌∙◌}
use mathlib.Core.Logic.{◌⊎◌, inl, inr}
use mathlib.Core.List.{List, [], ◌∷◌, ◌++◌, map}
use lib.ListN.{length, get_or, take, length-map}
use lib.Dec.{T, eqb, eqb→eq}
use Rattle.logic.specs.declared.Record.{Record}
use Rattle.logic.specs.Kind.{body_of, bodies}
use Rattle.logic.specs.Record.{no_record}
use Rattle.logic.specs.Count.{formulas, assumptions, messages}
use Rattle.logic.specs.Book.{All, Closed, Book}
use Rattle.logic.specs.Derivation.{Among}
use Rattle.logic.specs.Formula.{record_of}
use Rattle.logic.specs.Fact.{Fact}
use Rattle.logic.specs.Written.{stated_on}
use Rattle.logic.proofs.Contents.{contents, Fitting, Unloose}
use Rattle.logic.proofs.Follows.{all_at, all_of_kind, of_kind_all}
use Rattle.logic.proofs.Holder.{holder, holder_opened}
use Rattle.logic.proofs.Initial.{assumed_on, delivered_on, initial_on, assumes, delivers}
use Rattle.logic.proofs.Meaning.{IsFormula, Valid, form_of}
use Rattle.layout.proofs.FlatBook.{Laid}
use Rattle.flat.specs.Layout.{at, first_at, assumption_at, receiver_at, message_at, stated_at}
use Rattle.flat.proofs.Cells.{cell_of, Represents}
use Rattle.rules.proofs.InBook.{placed, kind_there}
use Rattle.search.proofs.GivenFacts.{Starts, no_fact}
use Rattle.search.proofs.FlatRepresents.{ranking, represented}

take_map : {A B : Type 0} (f : A → B) (m : ℕ) (l : List A) → take m (map f l) ≡ map f (take m l)
take_map f zero l = refl
take_map f (suc m) [] = refl
take_map f (suc m) (a ∷ l) = ap (λ z. f a ∷ z) (take_map f m l)

-- what a book gives up to message m: its assumptions, and what its receivers see
pub given_is : (rs : List Record) (m : ℕ) → map (assumed_on (formulas rs)) (assumptions rs) ++ take m (map delivered_on (messages rs)) ≡ initial_on rs m
unfolding initial_on
given_is rs m = ap (λ (z : List (Fact ℕ)). map (assumed_on (formulas rs)) (assumptions rs) ++ z) (take_map delivered_on m (messages rs))

pub map_at : {A : Type 0} (f : Record → A) (l : List Record) (k : ℕ) (d : A) → k < length l → get_or (map f l) k d ≡ f (get_or l k no_record)
map_at f [] k d h = absurd (omega arith)
map_at f (r ∷ l) zero d h = refl
map_at f (r ∷ l) (suc k) d h = map_at f l k d (omega arith)

module _ (rs : List Record) (book : Book rs) (b : List ℕ) (laid : Laid rs b) where
  rep : Represents (ranking rs book) b
  rep = represented rs book b laid

  -- what formula y, of kind 12 or 13, states stands at its place
  pub stated : (y : ℕ) → y < length (formulas rs) → ((record_of (formulas rs) y).kind ≡ 12) ⊎ ((record_of (formulas rs) y).kind ≡ 13)
      → Closed (formulas rs) y → IsFormula (formulas rs) (record_of (formulas rs) y).second
      → (first_at b y ≡ holder (stated_on (formulas rs) (record_of (formulas rs) y)))
      × (stated_at b y ≡ cell_of (ranking rs book) (stated_on (formulas rs) (record_of (formulas rs) y)))
  unfolding stated_at
  stated y l (inl k) c i =
      let f = placed (formulas rs) (ranking rs book) b rep y 12 k tt in
      rw (kind_there (formulas rs) (ranking rs book) b rep y 12 k tt c, k, f.second) (
        f.first ∙ sym (holder_opened (formulas rs) (record_of (formulas rs) y).first (record_of (formulas rs) y).second),
        rep.opens (record_of (formulas rs) y).first (record_of (formulas rs) y).second i,
      )
  stated y l (inr k) c i =
      let f = placed (formulas rs) (ranking rs book) b rep y 13 k tt in
      rw (kind_there (formulas rs) (ranking rs book) b rep y 13 k tt c, k, f.second) (f.first, refl)

  pub second_formula : (y : ℕ) → y < length (formulas rs) → ((record_of (formulas rs) y).kind ≡ 12) ⊎ ((record_of (formulas rs) y).kind ≡ 13)
      → IsFormula (formulas rs) (record_of (formulas rs) y).second
  unfolding body_of bodies
  second_formula y l (inl k) = let s = rw k at ((contents rs book).formulas_ok.sorts y l) in form_of (formulas rs) _ s.1
  second_formula y l (inr k) = let s = rw k at ((contents rs book).formulas_ok.sorts y l) in form_of (formulas rs) _ s.1

  -- the formula of an assumption
  statement : (i : ℕ) → i < length (assumptions rs)
      → ((get_or (assumptions rs) i no_record).first < length (formulas rs))
      × (((record_of (formulas rs) (get_or (assumptions rs) i no_record).first).kind ≡ 12) ⊎ ((record_of (formulas rs) (get_or (assumptions rs) i no_record).first).kind ≡ 13))
      × Closed (formulas rs) (get_or (assumptions rs) i no_record).first
  unfolding body_of bodies
  statement i l =
      let e = eqb→eq (get_or (assumptions rs) i no_record).kind 32 (all_at (λ r. T (eqb r.kind 32)) (assumptions rs) i no_record (of_kind_all (λ k. eqb k 32) rs) l) in
      let f = all_at (Fitting (formulas rs)) (assumptions rs) i no_record (all_of_kind (Fitting (formulas rs)) (λ k. eqb k 32) rs (contents rs book).fitting) l in
      let g = rw e at f in
      let u = all_at (Unloose (formulas rs)) (assumptions rs) i no_record (all_of_kind (Unloose (formulas rs)) (λ k. eqb k 32) rs (contents rs book).closed) l (omega arith) in
      let c = rw e at u in
      (g.0.0 tt, g.0.1, c.0 tt)

  valid_map : (g : Record → Fact ℕ) (l : List Record) → ((r : Record) → Among r l → Valid (formulas rs) (g r)) → All (Valid (formulas rs)) (map g l)
  valid_map g [] h = tt
  valid_map g (r ∷ l) h = (h r (inl refl), valid_map g l (λ q m. h q (inr m)))

  pub starts : Starts (ranking rs book) b (map (assumed_on (formulas rs)) (assumptions rs)) (map delivered_on (messages rs))
  unfolding assumption_at receiver_at message_at assumed_on delivered_on
  starts =
      record {
        assumption = λ k h.
            let l : k < length (assumptions rs) = rw length-map at h in
            let s = statement k l in
            let y = (get_or (assumptions rs) k no_record).first in
            let t = stated y s.0 s.1 s.2 (second_formula y s.0 s.1) in
            rw (laid.assumption k l, map_at (assumed_on (formulas rs)) (assumptions rs) k no_fact l) t;
        message = λ k h.
            let l : k < length (messages rs) = rw length-map at h in
            rw (map_at delivered_on (messages rs) k no_fact l)
            (laid.receiver k l, ap (λ (x : ℕ). at x 0) (laid.message k l));
        valid_assumptions = valid_map (assumed_on (formulas rs)) (assumptions rs) (λ r m. (assumes rs (contents rs book) r m).0);
        valid_messages = valid_map delivered_on (messages rs) (λ r m. (delivers rs (contents rs book) r m).0);
      }
