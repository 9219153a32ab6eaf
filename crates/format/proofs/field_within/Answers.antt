use Rattle.logic.specs.Record.{word}
use lib.Dec.{ltb}
use mathlib.Core.Bool.{cond}
use mathlib.Core.Path.{ap, ◌∙◌}
use Rattle.format.proofs.field_within.Goals as goal

pub returns : goal.returns
unfolding word
returns c =
    let a = c.args in
    c.kept.ensures ∙ ap (λ w. cond (ltb a.i a.size) w 0) c.from_be_bytes.ensures
