use Rattle.tables.proofs.Laws.{not_entered, all_entered}
use Rattle.tables.proofs.list_users.Goals as goal

pub returns-then-n-gt256 : goal.returns-then-n-gt256
returns-then-n-gt256 c = not_entered _ _ _ c.if-n-gt256.true

pub returns : goal.returns
returns c = all_entered _ _ _ c.if-n-gt256.false c.enter_all.ensures c.share_all.ensures
