use Rattle.tables.specs.Users.{entered_upto}
use mathlib.Core.Path.{◌≡◌}
use Rattle.tables.proofs.enter_all.Given as goal

abbrev pub invariant-loop-r : goal.invariant-loop-r
invariant-loop-r l = l.users ≡ entered_upto l.flat.bytes l.r l.initial.users
