-- Books that "differ only in the name numbers of data". Document 02, wish 5. That their guest's listings are equal is proved in
-- proofs/GuestListings.antt.
use Rattle.std.specs.Prelude.{◌≡◌, ◌⊎◌, List, [], ◌∷◌}
use Rattle.logic.specs.declared.Record.{Record}

-- two records are equal, or both are data
abbrev pub EqualOrData : (r q : Record) → Type 0
EqualOrData r q = (r ≡ q) ⊎ ((r.kind ≡ 3) × (q.kind ≡ 3))

-- as many records, each pair equal or both data
abbrev pub SameButData : (rs qs : List Record) → Type 0
SameButData [] [] = Unit
SameButData [] (q ∷ qs) = ⊥
SameButData (r ∷ rs) [] = ⊥
SameButData (r ∷ rs) (q ∷ qs) = EqualOrData r q × SameButData rs qs
