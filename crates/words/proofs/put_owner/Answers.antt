use native.Mathlib.Omega.{arith}
use mathlib.Core.Path.{sym}
use Rattle.format.specs.Index.{look_in}
use Rattle.digits.proofs.Puts.{writes, writes_none, writes_then, appends_as}
use Rattle.words.proofs.Laws.{owner_second, owner_third, owner_none}
use Rattle.words.proofs.put_owner.Goals as goal

pub returns-then-r-eq9-clause-put : goal.returns-then-r-eq9-clause-put
returns-then-r-eq9-clause-put c = appends_as (sym (owner_second (look_in c.args.index.now.formulas c.args.index.now.numbers.now) c.args.r c.if-r-eq9.true c.name_at.ensures)) (writes_then (writes c.text.ensures.put) (writes c.short.ensures.put)) (omega arith)

pub returns-then-r-eq9-clause-few : goal.returns-then-r-eq9-clause-few
returns-then-r-eq9-clause-few c = rw (owner_second (look_in c.args.index.now.formulas c.args.index.now.numbers.now) c.args.r c.if-r-eq9.true c.name_at.ensures) (omega (arith, c.short.ensures.few))

pub returns-then-has_owner-clause-put : goal.returns-then-has_owner-clause-put
returns-then-has_owner-clause-put c = appends_as (sym (owner_third (look_in c.args.index.now.formulas c.args.index.now.numbers.now) c.args.r c.if-r-eq9.false c.has_owner.ensures c.if-has_owner.true c.name_at-then-has_owner.ensures)) (writes_then (writes c.text-then-has_owner.ensures.put) (writes c.short-then-has_owner.ensures.put)) (omega arith)

pub returns-then-has_owner-clause-few : goal.returns-then-has_owner-clause-few
returns-then-has_owner-clause-few c = rw (owner_third (look_in c.args.index.now.formulas c.args.index.now.numbers.now) c.args.r c.if-r-eq9.false c.has_owner.ensures c.if-has_owner.true c.name_at-then-has_owner.ensures) (omega (arith, c.short-then-has_owner.ensures.few))

pub returns-else-has_owner-clause-put : goal.returns-else-has_owner-clause-put
returns-else-has_owner-clause-put c = appends_as (sym (owner_none (look_in c.args.index.now.formulas c.args.index.now.numbers.now) c.args.r c.if-r-eq9.false c.has_owner.ensures c.if-has_owner.false)) (writes_none _ _) (omega arith)

pub returns-else-has_owner-clause-few : goal.returns-else-has_owner-clause-few
returns-else-has_owner-clause-few c = rw (owner_none (look_in c.args.index.now.formulas c.args.index.now.numbers.now) c.args.r c.if-r-eq9.false c.has_owner.ensures c.if-has_owner.false) (omega arith)
