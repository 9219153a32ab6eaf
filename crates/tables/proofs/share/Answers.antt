use Rattle.tables.proofs.Laws.{row_more}
use Rattle.tables.specs.Users.{row_upto}
use mathlib.Core.Path.{refl}
use Rattle.tables.proofs.share.Goals as goal

pub loop-j-init : goal.loop-j-init
unfolding row_upto
loop-j-init c = refl

pub loop-j-preserved : goal.loop-j-preserved
loop-j-preserved c = row_more _ _ _ _ c.loop-j.invariant c.share_word.ensures
