use Rattle.format.proofs.Laws.{past_end}
use mathlib.Core.Path.{◌∙◌}
use Rattle.format.proofs.Index.record_in.Goals as goal

pub returns-in_default : goal.returns-in_default
returns-in_default c = c.no_record.ensures ∙ past_end c.args.self.now.numbers.now _ c.in_default.ensures.lookup.3
