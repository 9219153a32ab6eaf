use native.Mathlib.Omega.{arith}
use lib.ListN.{length-append}
use Rattle.words.specs.Words.{behind}
use Rattle.digits.proofs.Puts.{writes, writes_then, appends_of}
use Rattle.words.proofs.put_behind.Goals as goal

pub returns-clause-put : goal.returns-clause-put
unfolding behind
returns-clause-put c =
    appends_of (writes_then (writes c.put_sealing.ensures.put) (writes_then (writes c.put_closing.ensures.put) (writes c.put_owner.ensures.put))) (omega arith)

pub returns-clause-few : goal.returns-clause-few
unfolding behind
returns-clause-few c =
    simp length-append (omega (arith, c.put_sealing.ensures.few, c.put_closing.ensures.few, c.put_owner.ensures.few))
