use mathlib.Core.Path.{◌∙◌}
use Rattle.engine.proofs.Laws.{since_one}
use Rattle.engine.proofs.Applied.{joined_all}
use Rattle.engine.proofs.join_parts.Goals as goal

pub returns-clause-state : goal.returns-clause-state
returns-clause-state c =
    let l2 = c.fire.ensures.log.2 in
    let l3 = c.fire-2.ensures.log.2 ∙ l2 in
    let l4 = c.fire-3.ensures.log.2 ∙ l3 in
    let l5 = c.fire-4.ensures.log.2 ∙ l4 in
    joined_all _ _ _ _ _ _ _ c.opened_at-p.ensures c.opened_at-q.ensures c.believes.ensures c.lead-i18.ensures c.fire.ensures.state
    c.believes-2.ensures c.lead-i19.ensures (since_one _ _ _ l2 c.fire-2.ensures.state)
    c.fresh.ensures c.fresh-2.ensures c.lead-i12.ensures (since_one _ _ _ l3 c.fire-3.ensures.state)
    c.fresh-3.ensures c.fresh-4.ensures c.lead-i13.ensures (since_one _ _ _ l4 c.fire-4.ensures.state)
    c.believes-3.ensures c.join-i20.ensures (since_one _ _ _ l5 c.fire-5.ensures.state)
