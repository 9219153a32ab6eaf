use Rattle.faults.proofs.Laws.{low_fits}
use Rattle.faults.proofs.join_variables.Goals as goal

pub overflow_add-result : goal.overflow_add-result
overflow_add-result c = record { fits = low_fits _ _ c.join_low-low.ensures }
