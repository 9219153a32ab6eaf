use Rattle.lanes.specs.Lanes.{is_held}
use Rattle.lanes.proofs.Held.is_held.Goals as goal

pub returns : goal.returns
unfolding is_held
returns c = rw (← c.word_at-word.ensures, ← c.raised.ensures)
