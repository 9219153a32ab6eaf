use Prim.Native.Nat.{zero-le}
use borrow.Author.Tests.{ne_eqb}
use native.Mathlib.Omega.{arith}
use Rattle.logic.specs.Step.{numbers_in}
use lib.Dec.{eqb, eqb→eq, lit≤}
use Rattle.logic.proofs.Spans.{each, within, outside}
use Rattle.steps.proofs.numbers_in.Goals as goal

pub returns-in-64 : goal.returns-in-64
unfolding numbers_in each
returns-in-64 c = (rw c.in-64.is, lit≤ tt)

pub returns-in-65 : goal.returns-in-65
unfolding numbers_in each
returns-in-65 c = (rw c.in-65.is, lit≤ tt)

pub returns-in-66-to-70 : goal.returns-in-66-to-70
unfolding numbers_in each
returns-in-66-to-70 c = (eqb→eq 2 (numbers_in c.args.kind) (within (λ j. eqb 2 (numbers_in j)) 66 5 tt c.args.kind (omega arith) (omega arith)), lit≤ tt)

pub returns-in-66-to-70-2 : goal.returns-in-66-to-70-2
unfolding numbers_in each
returns-in-66-to-70-2 c = (eqb→eq 2 (numbers_in c.args.kind) (within (λ j. eqb 2 (numbers_in j)) 74 3 tt c.args.kind (omega arith) (omega arith)), lit≤ tt)

pub returns-in-85-to-86 : goal.returns-in-85-to-86
unfolding numbers_in each
returns-in-85-to-86 c = (eqb→eq 2 (numbers_in c.args.kind) (within (λ j. eqb 2 (numbers_in j)) 85 2 tt c.args.kind (omega arith) (omega arith)), lit≤ tt)

pub returns-in-0-to-63 : goal.returns-in-0-to-63
unfolding numbers_in each
returns-in-0-to-63 c = (eqb→eq 0 (numbers_in c.args.kind) (within (λ j. eqb 0 (numbers_in j)) 0 64 tt c.args.kind zero-le (omega arith)), lit≤ tt)

pub returns-in-0-to-63-2 : goal.returns-in-0-to-63-2
unfolding numbers_in each
returns-in-0-to-63-2 c =
    let k = c.args.kind in
    (rw (ne_eqb k 64 (λ e. omega arith), ne_eqb k 65 (λ e. omega arith), outside 66 87 k (λ l h. omega arith)), lit≤ tt)

pub returns-in-71-to-73 : goal.returns-in-71-to-73
unfolding numbers_in each
returns-in-71-to-73 c = (rw c.in-71-to-73.in-71-to-73-own.keys3, lit≤ tt)

pub returns-in-71-to-73-2 : goal.returns-in-71-to-73-2
unfolding numbers_in each
returns-in-71-to-73-2 c = (eqb→eq 1 (numbers_in c.args.kind) (within (λ j. eqb 1 (numbers_in j)) 71 3 tt c.args.kind (omega arith) (omega arith)), lit≤ tt)

pub returns-in-71-to-73-3 : goal.returns-in-71-to-73-3
unfolding numbers_in each
returns-in-71-to-73-3 c = (eqb→eq 1 (numbers_in c.args.kind) (within (λ j. eqb 1 (numbers_in j)) 77 8 tt c.args.kind (omega arith) (omega arith)), lit≤ tt)
