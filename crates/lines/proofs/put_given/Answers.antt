use native.Mathlib.Omega.{arith}
use mathlib.Core.Path.{ap}
use Rattle.logic.specs.Text.{decimal}
use Rattle.digits.proofs.Puts.{writes, appends_of, writes_then, writes_as}
use Rattle.lines.proofs.put_given.Goals as goal

pub returns-clause-put : goal.returns-clause-put
returns-clause-put c = appends_of (writes_then (writes c.text.ensures.put) (writes_as (ap decimal c.word.ensures) (writes c.short.ensures.put))) (omega arith)
