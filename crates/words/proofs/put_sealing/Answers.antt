use native.Mathlib.Omega.{arith}
use mathlib.Core.Path.{sym}
use Rattle.format.specs.Index.{look_in}
use Rattle.digits.proofs.Puts.{writes, writes_none, writes_then, appends_as}
use Rattle.words.proofs.Laws.{sealing_none, sealing_in}
use Rattle.words.proofs.put_sealing.Goals as goal

pub returns-then-r-lt5-clause-put : goal.returns-then-r-lt5-clause-put
returns-then-r-lt5-clause-put c = appends_as (sym (sealing_none (look_in c.args.index.now.formulas c.args.index.now.numbers.now) c.args.r c.then-r-lt5.either)) (writes_none _ _) (omega arith)

pub returns-then-r-lt5-clause-few : goal.returns-then-r-lt5-clause-few
returns-then-r-lt5-clause-few c = rw (sealing_none (look_in c.args.index.now.formulas c.args.index.now.numbers.now) c.args.r c.then-r-lt5.either) (omega arith)

pub returns-clause-put : goal.returns-clause-put
returns-clause-put c = appends_as (sym (sealing_in (look_in c.args.index.now.formulas c.args.index.now.numbers.now) c.args.r c.if-r-lt5.false c.if-r-gt6.false c.look-key.ensures c.key_letter.ensures)) (writes_then (writes c.text.ensures.put) (writes_then (writes c.byte.ensures.put) (writes c.short.ensures.put))) (omega arith)

pub returns-clause-few : goal.returns-clause-few
returns-clause-few c = rw (sealing_in (look_in c.args.index.now.formulas c.args.index.now.numbers.now) c.args.r c.if-r-lt5.false c.if-r-gt6.false c.look-key.ensures c.key_letter.ensures) (omega (arith, c.short.ensures.few))
