-- What is held in memory, as a state.
use Rattle.std.specs.Prelude.{◌≡◌, length}
use Rattle.lanes.specs.declared.Held.{Held}
use Rattle.lanes.specs.Lanes.{State, state}

abbrev pub state_of : Held → State
state_of h = state h.words h.pending h.log.now h.count

-- the log is in the same memory, as long, and of the same principal
abbrev pub SameLog : Held → Held → Type 0
SameLog h h' = (h'.log.ghost_name ≡ h.log.ghost_name) × (length h'.log.now ≡ length h.log.now) × (h'.logged ≡ h.logged)
