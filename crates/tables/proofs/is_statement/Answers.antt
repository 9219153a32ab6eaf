use Rattle.tables.proofs.Laws.{is_stated, not_stated}
use native.Mathlib.Omega.{arith}
use Rattle.tables.proofs.is_statement.Goals as goal

pub returns-in-8 : goal.returns-in-8
returns-in-8 c = is_stated _ _ c.kind_at.ensures (omega arith) (omega arith)

pub returns-in_default : goal.returns-in_default
returns-in_default c = not_stated _ _ c.kind_at.ensures (λ l h. omega arith)

pub returns-in_default-2 : goal.returns-in_default-2
returns-in_default-2 c = not_stated _ _ c.kind_at.ensures (λ l h. omega arith)
