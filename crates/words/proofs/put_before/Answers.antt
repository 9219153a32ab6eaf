use native.Mathlib.Omega.{arith}
use mathlib.Core.Path.{sym}
use lib.ListN.{length-append}
use Rattle.format.specs.Index.{look_in}
use Rattle.digits.proofs.Puts.{writes, writes_then, appends_as}
use Rattle.words.proofs.Laws.{before_every, before_named, before_plain}
use Rattle.words.proofs.put_before.Goals as goal

pub returns-then-r-eq17-clause-put : goal.returns-then-r-eq17-clause-put
returns-then-r-eq17-clause-put c = appends_as (sym (before_every (look_in c.args.index.now.formulas c.args.index.now.numbers.now) c.args.r c.if-r-eq17.true c.name_at.ensures)) (writes_then (writes_then (writes c.text.ensures.put) (writes c.short.ensures.put)) (writes c.text-then-r-eq17.ensures.put)) (omega arith)

pub returns-then-r-eq17-clause-few : goal.returns-then-r-eq17-clause-few
returns-then-r-eq17-clause-few c = rw (before_every (look_in c.args.index.now.formulas c.args.index.now.numbers.now) c.args.r c.if-r-eq17.true c.name_at.ensures) (simp length-append (omega (arith, c.short.ensures.few)))

pub returns-then-is_named-clause-put : goal.returns-then-is_named-clause-put
returns-then-is_named-clause-put c = appends_as (sym (before_named (look_in c.args.index.now.formulas c.args.index.now.numbers.now) c.args.r c.if-r-eq17.false c.is_named.ensures c.if-is_named.true c.name_at-then-is_named.ensures)) (writes_then (writes_then (writes c.text-then-is_named.ensures.put) (writes c.short-then-is_named.ensures.put)) (writes c.put_opening.ensures.put)) (omega arith)

pub returns-then-is_named-clause-few : goal.returns-then-is_named-clause-few
returns-then-is_named-clause-few c = rw (before_named (look_in c.args.index.now.formulas c.args.index.now.numbers.now) c.args.r c.if-r-eq17.false c.is_named.ensures c.if-is_named.true c.name_at-then-is_named.ensures) (simp length-append (omega (arith, c.short-then-is_named.ensures.few, c.put_opening.ensures.few)))

pub returns-clause-put : goal.returns-clause-put
returns-clause-put c = appends_as (sym (before_plain (look_in c.args.index.now.formulas c.args.index.now.numbers.now) c.args.r c.if-r-eq17.false c.is_named.ensures c.if-is_named.false)) (writes c.put_opening-2.ensures.put) (omega arith)

pub returns-clause-few : goal.returns-clause-few
returns-clause-few c = rw (before_plain (look_in c.args.index.now.formulas c.args.index.now.numbers.now) c.args.r c.if-r-eq17.false c.is_named.ensures c.if-is_named.false) (omega (arith, c.put_opening-2.ensures.few))
