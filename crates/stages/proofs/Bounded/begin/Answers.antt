use mathlib.Core.List.{[]}
use Rattle.stages.proofs.Lengths.{after_assumed, closed}
use Rattle.stages.proofs.Closed.{closes_at}
use mathlib.Core.Path.{refl, ◌∙◌}
use Rattle.stages.proofs.Bounded.begin.Goals as goal

pub close-requires : goal.close-requires
close-requires c = after_assumed _ [] [] _ _ _ _ _ _ c.assume_all.ensures.state c.requires.0.0 c.requires.0.1

pub returns-clause-stage : goal.returns-clause-stage
returns-clause-stage c =
    let e = rw c.requires.1 at c.assume_all.ensures.state in
    let w = after_assumed _ [] [] _ _ _ _ _ _ e c.requires.0.0 c.requires.0.1 in
    let a = closed _ _ _ _ _ _ _ _ e (closes_at _ _ _ _ _ (c.assume_all.ensures.log.2 ∙ c.requires.1) refl c.close.ensures.state) w in
    (a.0, c.stamp.ensures.state, c.stamp.ensures.few, a.1.0, a.1.1)
