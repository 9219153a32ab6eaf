-- What is stamped in memory, as a state.
use Rattle.std.specs.Prelude.{◌≡◌, length}
use Rattle.stamps.specs.declared.Stamped.{Stamped}
use Rattle.stamps.specs.Stamps.{State, state}

abbrev pub state_of : Stamped → State
state_of s = state s.before s.table.now s.count

-- the table is in the same memory, and as long
abbrev pub SameTable : Stamped → Stamped → Type 0
SameTable s s' = (s'.table.ghost_name ≡ s.table.ghost_name) × (length s'.table.now ≡ length s.table.now)
