use Rattle.logic.specs.Record.{word}
use Rattle.format.proofs.Laws.{word_past}
use mathlib.Core.Path.{◌∙◌}
use Rattle.format.proofs.word.Goals as goal

pub returns-then-s-i : goal.returns-then-s-i
returns-then-s-i c = word_past c.args.s.now _ c.if-s-i.true

pub returns : goal.returns
unfolding word
returns c = c.from_be_bytes.ensures ∙ rw c.byte.ensures
