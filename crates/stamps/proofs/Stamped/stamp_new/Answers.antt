use Rattle.stamps.proofs.Laws.{many_formulas, many_ranks, all_stamped}
use mathlib.Core.Logic.{inl, inr}
use Rattle.stamps.proofs.Stamped.stamp_new.Goals as goal

pub returns-then-n-gt256-clause-state : goal.returns-then-n-gt256-clause-state
returns-then-n-gt256-clause-state c = elim c.then-n-gt256.either [ inl l ↦ many_formulas _ _ _ _ _ l | inr l ↦ many_ranks _ _ _ _ _ l.0 l.1 ]

pub returns-clause-state : goal.returns-clause-state
returns-clause-state c = all_stamped _ _ _ _ _ c.if-n-gt256.false c.if-p-gt8.false (rw c.from.ensures at c.stamp_upto.ensures.state)
