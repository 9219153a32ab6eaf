-- What the prover finds up to message m of a book: what each principal holds is just what of his facts follows. Assumes nothing.
use Prim.Native.Nat.{ℕ, ◌≤◌}
use mathlib.Core.Path.{◌≡◌, sym, subst}
use mathlib.Core.List.{List, map}
use lib.ListN.{length, length-map}
use Rattle.logic.specs.declared.Record.{Record}
use Rattle.logic.specs.Count.{formulas, assumptions, messages}
use Rattle.logic.specs.Book.{Book}
use Rattle.logic.specs.Fact.{Fact, initial}
use Rattle.logic.specs.Derivation.{Derivable}
use Rattle.logic.specs.Written.{meaning}
use Rattle.logic.specs.Place as place
use Rattle.logic.proofs.Contents.{contents}
use Rattle.logic.proofs.Formulas.{Formulas}
use Rattle.logic.proofs.Initial.{assumed_on, delivered_on, initial_on, initial_means, initial_valid}
use Rattle.logic.proofs.Meaning.{IsPrincipal, Valid}
use Rattle.facts.specs.declared.Cell.{Cell}
use Rattle.facts.proofs.Block.{Fit}
use Rattle.flat.proofs.Cells.{Ranking, Represents, ranked_fact, place_of_fact, holder_fact}
use Rattle.layout.proofs.FlatBook.{Laid}
use Rattle.lanes.specs.Lanes.{State}
use Rattle.lanes.proofs.Sets.{Proper}
use Rattle.lanes.proofs.Fires.{Held}
use Rattle.rules.specs.Close.{Closes}
use Rattle.rules.proofs.Tables.{Chained, Instanced}
use Rattle.rules.proofs.Entries.{Below}
use Rattle.rules.proofs.Closing as closing
use Rattle.rules.proofs.Settled.{settled_complete}
use Rattle.rules.proofs.SettledState.{SettledIn}
use Rattle.search.proofs.FlatRepresents.{ranking, represented}
use Rattle.search.proofs.Starts.{given_is, starts}
use Rattle.search.proofs.BookGiven.{given_to}
use Rattle.search.proofs.StageState.{found_closed}

module _ (rs : List Record) (book : Book rs) (b : List ℕ) (laid : Laid rs b) (links rows u : List ℕ) (below : Below links 256)
    (chained : Chained b links (length (formulas rs))) (instanced : Instanced (formulas rs) b rows) (tables : closing.Laid b links rows u (length (formulas rs))) (m : ℕ) (lm : m ≤ length (messages rs)) where
  abbrev ρ : Ranking (formulas rs)
  ρ = ranking rs book

  abbrev rep : Represents (ranking rs book) b
  rep = represented rs book b laid

  abbrev ok : Formulas (formulas rs)
  ok = (contents rs book).formulas_ok

  abbrev α : List (Fact ℕ)
  α = map (assumed_on (formulas rs)) (assumptions rs)

  abbrev ms : List (Fact ℕ)
  ms = map delivered_on (messages rs)

  module _ (k : ℕ) (l : List ℕ) (s : State) (c : Closes b links rows u k (given_to b u k (length (assumptions rs)) m l) s) (a : ℕ) (ia : IsPrincipal (formulas rs) a) where
    -- THE STATE IS SETTLED for every principal, with what the book gives up to message m
    pub settled : SettledIn (formulas rs) ok ρ b rep links rows below chained instanced a ia (initial_on rs m) s
    settled =
        let e : length α ≡ length (assumptions rs) = length-map (assumptions rs) (assumed_on (formulas rs)) in
        subst (λ (z : List (Fact ℕ)). SettledIn (formulas rs) ok ρ b rep links rows below chained instanced a ia z s) (given_is rs m)
        ((found_closed (formulas rs) ok ρ b rep links rows below chained instanced u tables k α ms (starts rs book b laid) l m (rw length-map lm) s
        (subst (λ (n : ℕ). Closes b links rows u k (given_to b u k n m l) s) (sym e) c)).settled a ia)

    -- WHAT IS HELD FOLLOWS, and what follows is held
    pub held_follows : (q : Cell) → Proper q → Held (place.rank (formulas rs) a) s q
        → Fit (length (formulas rs)) (place.principal_count (formulas rs)) q × Valid (formulas rs) (ranked_fact ρ a q)
        × Derivable (formulas rs) (initial rs m) (meaning (formulas rs) (ranked_fact ρ a q))
    unfolding ranking
    held_follows q p h =
        let w = settled.entered.sound q p h in
        (w.0, w.1.0, rw (initial_means rs (contents rs book) m) at w.1.1)

    pub follows_held : (q : Cell) → Fit (length (formulas rs)) (place.principal_count (formulas rs)) q → Valid (formulas rs) (ranked_fact ρ a q)
        → Derivable (formulas rs) (initial rs m) (meaning (formulas rs) (ranked_fact ρ a q)) → Held (place.rank (formulas rs) a) s q
    unfolding ranking
    follows_held q f v d =
        subst (Held (place.rank (formulas rs) a) s) (place_of_fact ρ a q.formula q.bit f.1)
        (settled_complete (formulas rs) ok ρ b rep links rows below chained instanced a ia (initial_on rs m) (Held (ρ.rank a) s) settled (initial_valid rs (contents rs book) m)
        (ranked_fact ρ a q) (holder_fact ρ a q) (v, rw (initial_means rs (contents rs book) m) d))
