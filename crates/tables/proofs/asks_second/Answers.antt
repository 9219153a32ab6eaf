use Rattle.tables.proofs.Laws.{asks_controlled, asks_none, asks_key}
use native.Mathlib.Omega.{arith}
use Rattle.tables.proofs.asks_second.Goals as goal

pub returns-in_default : goal.returns-in_default
returns-in_default c = asks_none _ (λ e. omega arith) (λ l h. omega arith)

pub returns-in_default-2 : goal.returns-in_default-2
returns-in_default-2 c = asks_none _ (λ e. omega arith) (λ l h. omega arith)

pub returns-in-5 : goal.returns-in-5
returns-in-5 c = asks_controlled _ c.in-5.is

pub returns-in-5-2 : goal.returns-in-5-2
returns-in-5-2 c = asks_key _ (omega arith) (omega arith)
