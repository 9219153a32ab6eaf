use Rattle.tables.proofs.Laws.{entered_more}
use Rattle.tables.specs.Users.{entered_upto}
use mathlib.Core.Path.{refl}
use Rattle.tables.proofs.enter_all.Goals as goal

pub loop-r-init : goal.loop-r-init
unfolding entered_upto
loop-r-init c = refl

pub loop-r-preserved : goal.loop-r-preserved
loop-r-preserved c = entered_more _ _ _ c.loop-r.invariant c.add_users.ensures
