-- The steps that are written, in memory.
use Rattle.std.specs.Prelude.{◌≡◌, length}
use Rattle.derive.specs.declared.Written.{Written}
use Rattle.derive.specs.Steps.{Writing, writing}

abbrev pub writing_of : Written → Writing
writing_of w = writing w.out.now w.numbers.now w.done.steps w.done.bytes

-- the buffer and the table of numbers are in the same memory, and as long
abbrev pub SameMemory : Written → Written → Type 0
SameMemory w w' =
    (w'.out.ghost_name ≡ w.out.ghost_name) × (length w'.out.now ≡ length w.out.now) × (w'.numbers.ghost_name ≡ w.numbers.ghost_name) × (length w'.numbers.now ≡ length w.numbers.now)
