use mathlib.Core.Path.{◌∙◌}
use Rattle.lanes.proofs.Laws.{entered_same, entered_new}
use Rattle.lanes.proofs.Held.enter.Goals as goal

pub returns-then-new-old-clause-state : goal.returns-then-new-old-clause-state
returns-then-new-old-clause-state c = entered_same _ _ _ _ _ _ _ _ c.word_at-old.ensures c.raised.ensures c.if-new-old.true

pub returns-clause-state : goal.returns-clause-state
returns-clause-state c = (rw c.store.ensures at c.note.ensures.state) ∙ entered_new _ _ _ _ _ _ _ _ c.word_at-old.ensures c.raised.ensures c.if-new-old.false c.lane.ensures c.is_new-news.ensures
