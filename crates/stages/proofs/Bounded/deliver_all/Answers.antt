use Rattle.stages.proofs.Turns.{all_none, all_more, delivered_by, delivered_since}
use mathlib.Core.Path.{refl}
use borrow.Author.Rules.{rules}
use Rattle.stages.proofs.Bounded.deliver_all.Goals as goal

pub loop-m-init : goal.loop-m-init
loop-m-init c = record { log = search rules; state = all_none _ _ _ _ }

pub loop-m-preserved : goal.loop-m-preserved
loop-m-preserved c = let v = c.loop-m.invariant in record { log = search rules; state = all_more _ _ _ _ _ v.state (delivered_since _ _ _ _ v.log.2 (delivered_by _ _ _ _ _ refl c.deliver.ensures.state)) }
