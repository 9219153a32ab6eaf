use native.Mathlib.Omega.{arith}
use Rattle.text.specs.Printing.{fact_text_in}
use Rattle.digits.proofs.Puts.{writes, writes_then, appends_of}
use Rattle.text.proofs.Printer.put_fact.Goals as goal

-- What stands ahead of X, and X.
pub returns-clause-put : goal.returns-clause-put
unfolding fact_text_in
returns-clause-put c = appends_of (writes_then (writes c.put_ahead.ensures.put) (writes c.put_formula.ensures.put)) (omega arith)
