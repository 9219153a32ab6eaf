use Rattle.stamps.proofs.Laws.{part_same, part_new}
use Rattle.stamps.proofs.Stamped.stamp_part.Goals as goal

pub returns-then-new-old-clause-state : goal.returns-then-new-old-clause-state
returns-then-new-old-clause-state c = part_same _ _ _ _ _ _ _ _ _ c.if-new-old.true

pub returns-clause-state : goal.returns-clause-state
returns-clause-state c = part_new _ _ _ _ _ _ _ _ _ c.new_bits.ensures c.stamp_bits-self.ensures
