use Rattle.tables.proofs.Laws.{asked_parts, asked_none, asked_second}
use Rattle.tables.proofs.add_users.Goals as goal

pub returns-then-kind-eq-CONJUNCTION : goal.returns-then-kind-eq-CONJUNCTION
returns-then-kind-eq-CONJUNCTION c = asked_parts _ _ _ c.add_user.ensures c.kind_at-kind.ensures c.if-kind-eq-CONJUNCTION.true c.add_to_parts.ensures

pub returns-then-asks_second : goal.returns-then-asks_second
returns-then-asks_second c = asked_second _ _ _ c.add_user.ensures c.kind_at-kind.ensures c.if-kind-eq-CONJUNCTION.false c.asks_second.ensures c.if-asks_second.true c.second_at.ensures c.add_user-then-asks_second.ensures

pub returns-else-asks_second : goal.returns-else-asks_second
returns-else-asks_second c = asked_none _ _ _ c.add_user.ensures c.kind_at-kind.ensures c.if-kind-eq-CONJUNCTION.false c.asks_second.ensures c.if-asks_second.false
