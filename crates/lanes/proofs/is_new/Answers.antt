use Rattle.lanes.proofs.Laws.{new_in, new_out}
use mathlib.Core.Path.{◌∙◌}
use Rattle.lanes.proofs.is_new.Goals as goal

pub returns-then-is_in : goal.returns-then-is_in
returns-then-is_in c = new_in _ _ _ c.is_in.ensures c.if-is_in.true c.is_in-then-is_in.ensures

pub returns-else-is_in : goal.returns-else-is_in
returns-else-is_in c = c.if-is_in.false ∙ new_out _ _ _ c.is_in.ensures c.if-is_in.false
