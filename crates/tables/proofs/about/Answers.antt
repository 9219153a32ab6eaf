use Rattle.tables.proofs.Laws.{about_public, about_shared}
use Rattle.tables.proofs.about.Goals as goal

pub returns-then-kind_at-eq-PUBLIC_KEY : goal.returns-then-kind_at-eq-PUBLIC_KEY
returns-then-kind_at-eq-PUBLIC_KEY c = about_public _ _ c.kind_at.ensures c.if-kind_at-eq-PUBLIC_KEY.true c.first_at.ensures

pub returns-else-kind_at-eq-PUBLIC_KEY : goal.returns-else-kind_at-eq-PUBLIC_KEY
returns-else-kind_at-eq-PUBLIC_KEY c = about_shared _ _ c.kind_at.ensures c.if-kind_at-eq-PUBLIC_KEY.false c.second_at.ensures
