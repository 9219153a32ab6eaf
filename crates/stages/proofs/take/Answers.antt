use Rattle.stages.proofs.Closed.{bit_there}
use Rattle.stages.proofs.take.Goals as goal

pub overflow_sub-held : goal.overflow_sub-held
overflow_sub-held c = rw c.from.ensures (bit_there c.args.held.now.pending c.args.r c.requires)
