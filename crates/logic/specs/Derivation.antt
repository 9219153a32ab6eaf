-- Derivations over trees. Document 01, "The rules", its last paragraph.
use Rattle.std.specs.Prelude.{ℕ, ◌≡◌, ◌⊎◌, List, [], ◌∷◌, ◌++◌}
use Rattle.logic.specs.declared.Record.{Record}
use Rattle.logic.specs.Book.{All}
use Rattle.logic.specs.Formula.{Tree, Recorded}
use Rattle.logic.specs.Fact.{Fact, IsFact}
use Rattle.logic.specs.Rule.{Rule}

-- a is a member of the list
abbrev pub Among : {A : Type 0} → A → List A → Type 0
Among a [] = ⊥
Among a (b ∷ l) = (a ≡ b) ⊎ Among a l

-- f is given, or it is what a rule concludes from facts of `past`
abbrev pub Justified : (given past : List (Fact Tree)) → Fact Tree → Type 0
Justified given past f = Among f given ⊎ ((n : ℕ) × (premises : List (Fact Tree)) × Rule n premises f × All (λ g. Among g past) premises)

-- each of the facts, which stand behind `past`, is a fact over the leaves, and justified by what is earlier
abbrev pub DerivationBehind : (Tree → Type 0) → (given past : List (Fact Tree)) → List (Fact Tree) → Type 0
DerivationBehind Leaf given past [] = Unit
DerivationBehind Leaf given past (f ∷ l) =
    IsFact Leaf f × Justified given past f × DerivationBehind Leaf given (past ++ (f ∷ [])) l

-- a derivation from given facts, its principals and data being those that the formula records fs record, its keys any: a finite list of facts
-- over trees, the first fact first. For a book and a message number m the given facts are `initial rs m`.
abbrev pub Derivation : (fs : List Record) (given : List (Fact Tree)) → List (Fact Tree) → Type 0
Derivation fs given l = DerivationBehind (Recorded fs) given [] l

-- the list ends in its last fact; the empty list ends in none
abbrev pub EndsIn : Fact Tree → List (Fact Tree) → Type 0
EndsIn f [] = ⊥
EndsIn f (g ∷ []) = g ≡ f
EndsIn f (g ∷ h ∷ l) = EndsIn f (h ∷ l)

-- f follows from the given facts
abbrev pub Derivable : (fs : List Record) (given : List (Fact Tree)) → Fact Tree → Type 0
Derivable fs given f = (l : List (Fact Tree)) × Derivation fs given l × EndsIn f l
