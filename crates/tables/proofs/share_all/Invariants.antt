use Rattle.tables.specs.Users.{shared_upto}
use mathlib.Core.Path.{◌≡◌}
use Rattle.tables.proofs.share_all.Given as goal

abbrev pub invariant-loop-t : goal.invariant-loop-t
invariant-loop-t l = l.users ≡ shared_upto l.flat.bytes l.t l.initial.users
