-- Completeness for books: a set of written facts that holds the initial facts up to message m and is closed under the rules on
-- records holds every written fact that follows up to message m, by derivations over trees of every size.
use Prim.Native.Nat.{ℕ}
use mathlib.Core.Path.{◌≡◌, refl, sym, subst}
use mathlib.Core.List.{List, [], ◌∷◌, map}
use Rattle.logic.specs.declared.Record.{Record}
use Rattle.logic.specs.Count.{formulas}
use Rattle.logic.specs.Book.{All, Book}
use Rattle.logic.specs.Formula.{Tree, Recorded}
use Rattle.logic.specs.Fact.{Fact, IsFact, initial}
use Rattle.logic.specs.Rule.{Rule}
use Rattle.logic.specs.Derivation.{Among, DerivationBehind, EndsIn, Derivable}
use Rattle.logic.specs.Written.{meaning}
use Rattle.logic.proofs.Member.{all_at, among_image}
use Rattle.logic.proofs.Closure.{formula_of, Closed, complete}
use Rattle.logic.proofs.Formulas.{Formulas, down}
use Rattle.logic.proofs.Contents.{contents}
use Rattle.logic.proofs.Meaning.{Valid, is_fact, about_record, written_as, meaning_once}
use Rattle.logic.proofs.RuleOn.{RuleOn}
use Rattle.logic.proofs.OnRecords.{lowered}
use Rattle.logic.proofs.Initial.{initial_on, initial_means}

-- S has written facts only, and is closed under the rules on records
pub record ClosedOn (fs : List Record) (S : Fact ℕ → Type 0) : Type 0 where
  pub sound : (g : Fact ℕ) → S g → Valid fs g
  pub follow : (n : ℕ) (gs : List (Fact ℕ)) (g : Fact ℕ) → RuleOn fs n gs g → All S gs → S g

-- a fact over trees that is the meaning of one of S
abbrev Meant : List Record → (Fact ℕ → Type 0) → Fact Tree → Type 0
Meant fs S f = (g : Fact ℕ) × S g × (meaning fs g ≡ f)

-- written facts for a list of such facts
writings : (fs : List Record) (S : Fact ℕ → Type 0) → ((g : Fact ℕ) → S g → Valid fs g) → (l : List (Fact Tree)) → All (Meant fs S) l
    → (gs : List (Fact ℕ)) × All S gs × All (Valid fs) gs × (map (meaning fs) gs ≡ l)
writings fs S v [] h = ([], tt, tt, refl)
writings fs S v (f ∷ l) ((g, s, e), h) =
    let t = writings fs S v l h in
    (g ∷ t.0, (s, t.1), (v g s, t.2), rw (e, t.3))

module _ (fs : List Record) (ok : Formulas fs) (S : Fact ℕ → Type 0) (k : ClosedOn fs S) where
  follow : {n : ℕ} {ps : List (Fact Tree)} {f : Fact Tree} → Rule n ps f → All (Meant fs S) ps → IsFact (Recorded fs) f → Recorded fs (formula_of f)
      → Meant fs S f
  follow {n} {ps} {f} r a i t =
      let gs = writings fs S k.sound ps a in
      let g = written_as fs ok f i t in
      (g.0, k.follow n gs.0 g.0 (lowered fs ok r gs.0 g.0 gs.2 g.1 gs.3 g.2) gs.1, g.2)

  closed : Closed (Recorded fs) (Meant fs S)
  closed =
      record {
        down = down fs ok;
        about = λ f m. rw (← m.2) (is_fact fs ok m.0 (k.sound m.0 m.1), about_record fs ok m.0 (k.sound m.0 m.1));
        follow = follow;
      }

  -- for any given facts that S holds
  pub holds : (given : List (Fact ℕ)) → All S given → (l : List (Fact Tree)) → DerivationBehind (Recorded fs) (map (meaning fs) given) [] l
      → (g : Fact ℕ) → Valid fs g → EndsIn (meaning fs g) l → S g
  holds given a l d g v e =
      let start : (f : Fact Tree) → Among f (map (meaning fs) given) → Meant fs S f =
      λ f m. let i = among_image (meaning fs) f given m in (i.0, all_at S i.0 given a i.1, sym i.2) in
      let h = complete (Meant fs S) (Recorded fs) closed (map (meaning fs) given) start l d (meaning fs g) e (about_record fs ok g v) in
      subst S (meaning_once fs ok h.0 g (k.sound h.0 h.1) v h.2) h.1

-- COMPLETENESS: what follows up to message m is in every closed set of written facts that holds the initial facts up to message m
pub complete_on : (rs : List Record) → Book rs → (m : ℕ) (S : Fact ℕ → Type 0) → ClosedOn (formulas rs) S → All S (initial_on rs m)
    → (g : Fact ℕ) → Valid (formulas rs) g → Derivable (formulas rs) (initial rs m) (meaning (formulas rs) g) → S g
complete_on rs b m S k a g v (l, d, e) =
    let c = contents rs b in
    holds (formulas rs) c.formulas_ok S k (initial_on rs m) a l (rw (initial_means rs c m) d) g v e
