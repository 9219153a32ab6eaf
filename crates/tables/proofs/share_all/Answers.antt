use Rattle.tables.proofs.Laws.{shared_more}
use Rattle.tables.specs.Users.{shared_upto}
use mathlib.Core.Path.{refl}
use Rattle.tables.proofs.share_all.Goals as goal

pub loop-t-init : goal.loop-t-init
unfolding shared_upto
loop-t-init c = refl

pub loop-t-preserved : goal.loop-t-preserved
loop-t-preserved c = shared_more _ _ _ c.loop-t.invariant c.share_one.ensures
