use Rattle.rules.proofs.RowWords.{row_bit}
use Rattle.rules.proofs.row_has.Goals as goal

pub returns : goal.returns
returns c = row_bit _ _ _ c.word_in.ensures
