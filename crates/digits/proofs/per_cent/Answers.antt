use Prim.Native.Nat.{◌*◌}
use native.Mathlib.Nat.{div-le_self}
use native.Mathlib.Omega.{arith}
use Rattle.logic.specs.PerCent.{per_cent}
use borrow.Author.Tests.{eq-eqb}
use Rattle.digits.proofs.PerCent.{twice_fits, below_half, above_half, at_half_lem}
use Rattle.digits.proofs.per_cent.Goals as goal

pub returns-then-goals-eq0 : goal.returns-then-goals-eq0
unfolding per_cent
returns-then-goals-eq0 c = rw (eq-eqb _ 0 c.if-goals-eq0.true)

pub overflow_mul-remainder : goal.overflow_mul-remainder
overflow_mul-remainder c = twice_fits _ _ (omega arith) (omega arith)

pub returns-then-remainder-divisor : goal.returns-then-remainder-divisor
returns-then-remainder-divisor c = below_half c.from-dividend.ensures c.from-divisor.ensures c.if-goals-eq0.false c.if-remainder-divisor.true

pub overflow_mul-remainder-2 : goal.overflow_mul-remainder-2
overflow_mul-remainder-2 c = twice_fits _ _ (omega arith) (omega arith)

pub overflow_add-result : goal.overflow_add-result
overflow_add-result c = omega (arith, div-le_self (100 * c.from-dividend.result) c.from-divisor.result)

pub returns-then-divisor-remainder : goal.returns-then-divisor-remainder
returns-then-divisor-remainder c =
    above_half c.from-dividend.ensures c.from-divisor.ensures c.if-goals-eq0.false
    c.if-remainder-divisor.false c.if-divisor-remainder.true

pub overflow_add-result-2 : goal.overflow_add-result-2
overflow_add-result-2 c = omega (arith, div-le_self (100 * c.from-dividend.result) c.from-divisor.result)

pub returns : goal.returns
returns c =
    at_half_lem c.from-dividend.ensures c.from-divisor.ensures c.if-goals-eq0.false
    c.if-remainder-divisor.false c.if-divisor-remainder.false
