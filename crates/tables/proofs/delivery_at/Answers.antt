use mathlib.Core.List.{[]}
use mathlib.Core.Path.{◌∙◌}
use Rattle.tables.proofs.Laws.{delivery_is}
use Rattle.tables.proofs.delivery_at.Goals as goal

pub returns : goal.returns
returns c = c.from_be_bytes.ensures ∙ delivery_is _ [] _ c.receiver_at.ensures c.rank_at-rank.ensures.0 c.message_at.ensures
