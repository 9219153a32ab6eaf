use native.Mathlib.Omega.{arith}
use Rattle.engine.proofs.Applied.{kind_4, kind_sealed, kind_7, kind_15, kind_17, kind_other}
use Rattle.engine.proofs.apply_kind.Goals as goal

pub returns-in-4-clause-state : goal.returns-in-4-clause-state
returns-in-4-clause-state c = kind_4 _ _ _ _ _ _ _ c.kind_at.ensures c.in-4.is c.first_at.ensures c.second_at.ensures c.apply_conjunction.ensures.state

pub returns-in-5-clause-state : goal.returns-in-5-clause-state
returns-in-5-clause-state c = kind_sealed _ _ _ _ _ _ _ c.kind_at.ensures (omega arith) (omega arith) c.third_at.ensures c.all_but.ensures c.open_by_all.ensures.state

pub returns-in-7-clause-state : goal.returns-in-7-clause-state
returns-in-7-clause-state c = kind_7 _ _ _ _ _ _ _ c.kind_at.ensures c.in-7.is c.apply_combined.ensures.state

pub returns-in-15-clause-state : goal.returns-in-15-clause-state
returns-in-15-clause-state c = kind_15 _ _ _ _ _ _ _ c.kind_at.ensures c.in-15.is c.apply_control.ensures.state

pub returns-in-17-clause-state : goal.returns-in-17-clause-state
returns-in-17-clause-state c = kind_17 _ _ _ _ _ _ _ c.kind_at.ensures c.in-17.is c.apply_delegation.ensures.state

pub returns-then-this-lt4-clause-state : goal.returns-then-this-lt4-clause-state
returns-then-this-lt4-clause-state c = kind_other _ _ _ _ _ _ _ c.kind_at.ensures (λ e. omega arith) (λ e. omega arith) (λ e. omega arith) (λ e. omega arith) (λ e. omega arith) (λ e. omega arith)

pub returns-else-this-lt7-clause-state : goal.returns-else-this-lt7-clause-state
returns-else-this-lt7-clause-state c = kind_other _ _ _ _ _ _ _ c.kind_at.ensures (λ e. omega arith) (λ e. omega arith) (λ e. omega arith) (λ e. omega arith) (λ e. omega arith) (λ e. omega arith)
