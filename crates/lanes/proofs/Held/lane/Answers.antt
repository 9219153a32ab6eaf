use Rattle.lanes.specs.Lanes.{lane}
use Rattle.lanes.proofs.Held.lane.Goals as goal

pub returns : goal.returns
unfolding lane
returns c = rw (c.word_at.ensures, c.shift_of.ensures.0)
