use Rattle.tables.specs.Links.{linked_upto}
use mathlib.Core.Path.{◌≡◌}
use Rattle.tables.proofs.link.Given as goal

abbrev pub invariant-loop-y : goal.invariant-loop-y
invariant-loop-y l = l.links ≡ linked_upto l.flat.bytes l.y l.initial.links
