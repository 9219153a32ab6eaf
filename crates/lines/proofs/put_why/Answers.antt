use native.Mathlib.Omega.{arith}
use Rattle.digits.proofs.Puts.{writes, appends_as}
use Rattle.lines.proofs.Laws.{why_assumption, why_message, why_rule}
use Rattle.lines.proofs.put_why.Goals as goal

-- By the kind of the step.
pub returns-then-kind-eq-ASSUMPTION-clause-put : goal.returns-then-kind-eq-ASSUMPTION-clause-put
returns-then-kind-eq-ASSUMPTION-clause-put c = appends_as (why_assumption c.args.step.now c.byte-kind.ensures c.if-kind-eq-ASSUMPTION.true) (writes c.put_given.ensures.put) (omega arith)

pub returns-then-kind-eq-ASSUMPTION-clause-few : goal.returns-then-kind-eq-ASSUMPTION-clause-few
returns-then-kind-eq-ASSUMPTION-clause-few c = rw (← why_assumption c.args.step.now c.byte-kind.ensures c.if-kind-eq-ASSUMPTION.true) (omega (arith, c.put_given.ensures.few))

pub returns-then-kind-eq-MESSAGE-clause-put : goal.returns-then-kind-eq-MESSAGE-clause-put
returns-then-kind-eq-MESSAGE-clause-put c = appends_as (why_message c.args.step.now c.byte-kind.ensures c.if-kind-eq-MESSAGE.true) (writes c.put_given-then-kind-eq-MESSAGE.ensures.put) (omega arith)

pub returns-then-kind-eq-MESSAGE-clause-few : goal.returns-then-kind-eq-MESSAGE-clause-few
returns-then-kind-eq-MESSAGE-clause-few c = rw (← why_message c.args.step.now c.byte-kind.ensures c.if-kind-eq-MESSAGE.true) (omega (arith, c.put_given-then-kind-eq-MESSAGE.ensures.few))

pub returns-clause-put : goal.returns-clause-put
returns-clause-put c = appends_as (why_rule c.args.step.now c.byte-kind.ensures c.if-kind-eq-ASSUMPTION.false c.if-kind-eq-MESSAGE.false) (writes c.put_rule.ensures.put) (omega arith)

pub returns-clause-few : goal.returns-clause-few
returns-clause-few c = rw (← why_rule c.args.step.now c.byte-kind.ensures c.if-kind-eq-ASSUMPTION.false c.if-kind-eq-MESSAGE.false) (omega (arith, c.put_rule.ensures.few))
