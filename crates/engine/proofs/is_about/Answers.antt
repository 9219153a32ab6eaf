use Rattle.engine.proofs.Laws.{about_no, about_yes}
use Rattle.engine.proofs.is_about.Goals as goal

pub returns-then-kind_at-kind : goal.returns-then-kind_at-kind
returns-then-kind_at-kind c = about_yes _ _ _ _ c.kind_at.ensures c.if-kind_at-kind.true c.second_at.ensures c.second_at-then-kind_at-kind.ensures

pub returns-else-kind_at-kind : goal.returns-else-kind_at-kind
returns-else-kind_at-kind c = about_no _ _ _ _ c.kind_at.ensures c.if-kind_at-kind.false
