use Rattle.tables.specs.Users.{row_upto}
use mathlib.Core.Path.{◌≡◌}
use Rattle.tables.proofs.share.Given as goal

abbrev pub invariant-loop-j : goal.invariant-loop-j
invariant-loop-j l = l.users ≡ row_upto l.initial.users l.t l.k l.j
