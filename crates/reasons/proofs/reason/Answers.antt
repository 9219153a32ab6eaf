use Rattle.logic.specs.Reason.{reason_told, reason_in}
use Rattle.reasons.proofs.reason.Goals as goal

pub returns : goal.returns
unfolding reason_told reason_in
returns c = rw (← c.sentence.ensures.0) c.hand_over.ensures
