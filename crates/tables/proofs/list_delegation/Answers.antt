use Rattle.tables.proofs.Laws.{not_delegated, delegated_one_lem}
use Rattle.tables.proofs.list_delegation.Goals as goal

pub returns-then-kind_at-eq-DELEGATION : goal.returns-then-kind_at-eq-DELEGATION
returns-then-kind_at-eq-DELEGATION c = delegated_one_lem _ _ _ c.kind_at.ensures c.if-kind_at-eq-DELEGATION.true c.second_at.ensures c.second_at-y.ensures c.put_each_under.ensures

pub returns-else-kind_at-eq-DELEGATION : goal.returns-else-kind_at-eq-DELEGATION
returns-else-kind_at-eq-DELEGATION c = not_delegated _ _ _ c.kind_at.ensures c.if-kind_at-eq-DELEGATION.false
