use Rattle.tables.specs.Deliveries.{delivered_upto}
use mathlib.Core.Path.{◌≡◌}
use Rattle.tables.proofs.list_deliveries.Given as goal

abbrev pub invariant-loop-m : goal.invariant-loop-m
invariant-loop-m l = l.deliveries ≡ delivered_upto l.flat.bytes l.m l.initial.deliveries
