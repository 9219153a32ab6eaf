use native.Mathlib.Omega.{arith}
use mathlib.Core.Path.{sym}
use Rattle.digits.proofs.Puts.{writes, writes_then, appends_as}
use Rattle.words.proofs.Laws.{leaf_hidden, leaf_named}
use Rattle.words.proofs.put_leaf.Goals as goal

pub returns-then-is_hidden-clause-put : goal.returns-then-is_hidden-clause-put
returns-then-is_hidden-clause-put c = appends_as (sym (leaf_hidden c.args.audience c.args.x c.args.r c.is_hidden.ensures c.if-is_hidden.true)) (writes_then (writes c.text.ensures.put) (writes c.short.ensures.put)) (omega arith)

pub returns-then-is_hidden-clause-few : goal.returns-then-is_hidden-clause-few
returns-then-is_hidden-clause-few c = rw (leaf_hidden c.args.audience c.args.x c.args.r c.is_hidden.ensures c.if-is_hidden.true) (omega (arith, c.short.ensures.few))

pub returns-clause-put : goal.returns-clause-put
returns-clause-put c = appends_as (sym (leaf_named c.args.audience c.args.x c.args.r c.is_hidden.ensures c.if-is_hidden.false c.letter_of.ensures)) (writes_then (writes c.byte.ensures.put) (writes c.short-2.ensures.put)) (omega arith)

pub returns-clause-few : goal.returns-clause-few
returns-clause-few c = rw (leaf_named c.args.audience c.args.x c.args.r c.is_hidden.ensures c.if-is_hidden.false c.letter_of.ensures) (omega (arith, c.short-2.ensures.few))
