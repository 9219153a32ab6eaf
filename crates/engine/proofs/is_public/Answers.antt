use Rattle.engine.proofs.Laws.{public_no, public_yes}
use Rattle.engine.proofs.is_public.Goals as goal

pub returns-then-kind_at-eq-PUBLIC_KEY : goal.returns-then-kind_at-eq-PUBLIC_KEY
returns-then-kind_at-eq-PUBLIC_KEY c = public_yes _ _ _ c.kind_at.ensures c.if-kind_at-eq-PUBLIC_KEY.true c.first_at.ensures c.second_at.ensures

pub returns-else-kind_at-eq-PUBLIC_KEY : goal.returns-else-kind_at-eq-PUBLIC_KEY
returns-else-kind_at-eq-PUBLIC_KEY c = public_no _ _ _ c.kind_at.ensures c.if-kind_at-eq-PUBLIC_KEY.false
