use Rattle.tables.specs.Delegations.{delegated_upto}
use mathlib.Core.Path.{◌≡◌}
use Rattle.tables.proofs.list_delegations.Given as goal

abbrev pub invariant-loop-d : goal.invariant-loop-d
invariant-loop-d l = l.rows ≡ delegated_upto l.flat.bytes l.d l.initial.rows
