use native.Mathlib.Omega.{arith}
use mathlib.Core.Path.{ap₂}
use mathlib.Core.List.{◌++◌}
use lib.ListN.{length-append}
use Rattle.logic.specs.declared.Record.{Record}
use Rattle.format.specs.Index.{look_in}
use Rattle.words.specs.Words.{before, ahead}
use Rattle.digits.proofs.Puts.{writes, writes_then, appends_as}
use Rattle.words.proofs.put_ahead.Goals as goal

pub returns-clause-put : goal.returns-clause-put
unfolding ahead
returns-clause-put c =
    let look = look_in c.args.index.now.formulas c.args.index.now.numbers.now in
    let e = ap₂ (λ (o n : Record). before look o ++ before look n) c.outer_of.ensures c.nested_of.ensures in
    appends_as e (writes_then (writes c.put_before.ensures.put) (writes c.put_before-2.ensures.put)) (omega arith)

pub returns-clause-few : goal.returns-clause-few
unfolding ahead
returns-clause-few c =
    let look = look_in c.args.index.now.formulas c.args.index.now.numbers.now in
    let e = ap₂ (λ (o n : Record). before look o ++ before look n) c.outer_of.ensures c.nested_of.ensures in
    rw (← e) (simp length-append (omega (arith, c.put_before.ensures.few, c.put_before-2.ensures.few)))
