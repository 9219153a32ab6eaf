use native.Mathlib.Omega.{arith}
use Rattle.logic.specs.Reason.{reason_of}
use Rattle.digits.proofs.Puts.{writes, appends_as, writes_then, writes_as}
use Rattle.lines.proofs.Laws.{some_place}
use Rattle.lines.proofs.put_place.Goals as goal

pub returns-clause-put : goal.returns-clause-put
returns-clause-put c =
    let a = c.args in
    let e = c.unit-unit.ensures.0 in
    appends_as (some_place (reason_of a.number).unit a.place e c.is_empty.ensures c.if-is_empty.false)
    (writes_then (writes_then (writes_then (writes_as e (writes c.text.ensures.put)) (writes c.text-2.ensures.put)) (writes c.number.ensures.put)) (writes c.text-3.ensures.put)) (omega arith)
