use Rattle.instances.proofs.Laws.{linked_ready}
use Rattle.instances.proofs.list_instances.Goals as goal

pub invariant_of-formulas : goal.invariant_of-formulas
invariant_of-formulas c = record { ready = linked_ready _ _ c.if-index-gt256.false c.if-index-lt-INDEX_SIZE.false (rw (c.new-chains.ensures.0, c.new-chains.ensures.1) at c.link_upto.ensures) }
