use native.Mathlib.Omega.{arith}
use lib.ListN.{length-append}
use Rattle.digits.proofs.Puts.{writes, appends_as, writes_none, writes_then}
use Rattle.lines.proofs.Laws.{no_premise, one_premise, two_premises}
use Rattle.lines.proofs.put_premises.Goals as goal

-- No premise, one, or two.
pub returns-then-n-eq0-clause-put : goal.returns-then-n-eq0-clause-put
returns-then-n-eq0-clause-put c = let a = c.args in appends_as (no_premise a.n a.first a.second c.if-n-eq0.true) (writes_none _ _) (omega arith)

pub returns-then-n-eq0-clause-few : goal.returns-then-n-eq0-clause-few
returns-then-n-eq0-clause-few c = let a = c.args in rw (← no_premise a.n a.first a.second c.if-n-eq0.true) (omega arith)

pub returns-then-n-eq1-clause-put : goal.returns-then-n-eq1-clause-put
returns-then-n-eq1-clause-put c = let a = c.args in appends_as (one_premise a.n a.first a.second c.if-n-eq1.true) (writes c.short.ensures.put) (omega arith)

pub returns-then-n-eq1-clause-few : goal.returns-then-n-eq1-clause-few
returns-then-n-eq1-clause-few c = let a = c.args in rw (← one_premise a.n a.first a.second c.if-n-eq1.true) (omega (arith, c.short.ensures.few))

pub returns-clause-put : goal.returns-clause-put
returns-clause-put c =
    let a = c.args in
    appends_as (two_premises a.n a.first a.second c.if-n-eq0.false c.if-n-eq1.false c.requires)
    (writes_then (writes_then (writes c.short.ensures.put) (writes c.text.ensures.put)) (writes c.short-2.ensures.put)) (omega arith)

pub returns-clause-few : goal.returns-clause-few
returns-clause-few c =
    let a = c.args in
    rw (← two_premises a.n a.first a.second c.if-n-eq0.false c.if-n-eq1.false c.requires)
    (simp length-append (omega (arith, c.short.ensures.few, c.short-2.ensures.few)))
