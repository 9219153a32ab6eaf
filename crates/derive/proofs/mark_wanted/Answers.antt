use native.Mathlib.Omega.{arith}
use Rattle.derive.proofs.Laws.{wanted_more, wanted_end}
use Rattle.derive.proofs.mark_wanted.Goals as goal

pub loop-k-preserved : goal.loop-k-preserved
loop-k-preserved c = wanted_more _ _ _ _ c.loop-k-test.true c.entry.ensures c.want_by.ensures c.loop-k.invariant

pub returns : goal.returns
returns c = wanted_end _ _ _ _ (omega arith) c.loop-k.invariant
