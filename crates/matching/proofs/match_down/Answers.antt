use Rattle.matching.proofs.InstanceLaws.{down_ends, down_stops, down_more}
use mathlib.Core.Path.{◌∙◌}
use native.Mathlib.Omega.{arith}
use Rattle.matching.proofs.match_down.Goals as goal

pub returns-then-not-match_formula : goal.returns-then-not-match_formula
returns-then-not-match_formula c =
    let h = down_stops _ _ _ _ c.match_formula.ensures c.if-not-match_formula.true in
    (h.0 ∙ c.loop-i.invariant.0, h.1 ∙ c.loop-i.invariant.1)

pub loop-i-preserved : goal.loop-i-preserved
loop-i-preserved c =
    let h = down_more _ _ _ _ c.match_formula.ensures c.if-not-match_formula.false (omega arith) in
    (h.0 ∙ c.loop-i.invariant.0, h.1 ∙ c.loop-i.invariant.1)

pub returns-else-not-match_formula : goal.returns-else-not-match_formula
returns-else-not-match_formula c =
    let h = down_ends _ _ _ _ c.match_formula.ensures c.if-not-match_formula.false (omega arith) in
    (h.0 ∙ c.loop-i.invariant.0, h.1 ∙ c.loop-i.invariant.1)
