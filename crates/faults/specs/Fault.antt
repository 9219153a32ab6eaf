-- What the answer about one record says in document 01's terms: the number of its fault, or 0.
use Rattle.std.specs.Prelude.{ℕ, Option, Some, None}
use Rattle.logic.specs.declared.Cause.{Cause}
use Rattle.logic.specs.Refusal.{number_of}

abbrev pub told_fault : Option Cause → ℕ
told_fault None = 0
told_fault (Some c) = number_of c
