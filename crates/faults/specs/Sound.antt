-- A field without fault, as far as refusals 4, 5, 10 and 11 go.
use Rattle.std.specs.Prelude.{ℕ, Bool, not, ◌&&◌, ◌||◌, ltb}
use Rattle.logic.specs.declared.Sort.{Sort}
use Rattle.logic.specs.declared.Record.{Record}
use Rattle.logic.specs.Kind.{refers, fits, states, keeps_to}

-- a field of sort s that holds x: where it refers, it does to one of the f formulas before, of a kind of its sort; a message
-- number is one of m, or 0
unfoldable pub field_sound : ℕ → ℕ → (ℕ → Record) → Sort → ℕ → Bool
field_sound f m look s x = (not (refers s) || ltb x f) && (fits s (look x).kind && (states s (look x).kind && keeps_to m s x))
