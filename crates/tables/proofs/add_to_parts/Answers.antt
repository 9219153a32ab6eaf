use Rattle.tables.proofs.Laws.{used_parts}
use Rattle.facts.specs.declared.Cell.{Cell}
use mathlib.Core.Path.{ap}
use Rattle.tables.proofs.add_to_parts.Goals as goal

pub returns : goal.returns
returns c = used_parts _ _ _ c.first_at-x.ensures c.second_at-y.ensures c.add_user.ensures c.add_user-2.ensures (ap (λ (k : Cell). k.formula) c.opened_at-p.ensures) c.add_user-3.ensures (ap (λ (k : Cell). k.formula) c.opened_at-q.ensures) c.add_user-4.ensures
