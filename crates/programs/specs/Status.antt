-- The exit status by which a program ends.
use Rattle.std.specs.Prelude.{ℕ}
use Rattle.programs.specs.declared.Status.{Status}
use Rattle.programs.specs.declared.Status.TheVariants.{Done, Failed, Refused}

abbrev pub exit_status : Status → ℕ
exit_status Done = 0
exit_status Failed = 1
exit_status Refused = 2
