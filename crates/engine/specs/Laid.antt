-- A book laid out, and what comes of what is held in memory.
use Rattle.std.specs.Prelude.{ℕ, List}
use Rattle.lanes.specs.declared.Held.{Held}
use Rattle.lanes.specs.Lanes.{State, Common, run}
use Rattle.lanes.specs.Held.{state_of}
use Rattle.engine.specs.declared.Laid.{Laid}

-- the book's array
abbrev pub array_of : Laid → List ℕ
array_of b = b.flat.now.bytes

-- what comes of what is held by instances, one after the other
abbrev pub ran : Laid → Held → List Common → State
ran b h l = run b.users.now h.logged (state_of h) l
