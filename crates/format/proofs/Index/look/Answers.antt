use Rattle.format.proofs.Laws.{look_past, look_in_lem}
use mathlib.Core.Path.{◌∙◌}
use Rattle.format.proofs.Index.look.Goals as goal

pub returns-then-self-i : goal.returns-then-self-i
returns-then-self-i c = c.no_record.ensures ∙ look_past _ _ _ _ c.from-i.ensures c.if-self-i.true

pub returns : goal.returns
returns c = look_in_lem _ _ _ _ c.from-i.ensures c.if-self-i.false c.record_in.ensures
