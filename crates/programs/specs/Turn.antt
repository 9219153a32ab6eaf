-- What is known of a turn, that it goes on.
use Rattle.std.specs.Prelude.{ℕ, Option, Some, None, Result, Ok, Err, ◌<◌}
use Rattle.programs.specs.declared.Status.{Status}

abbrev pub Rises : ℕ → Result (Option ℕ) Status → Type 0
Rises from (Ok (Some next)) = from < next
Rises from (Ok None) = Unit
Rises from (Err status) = Unit
