use mathlib.Core.Path.{ap, ◌∙◌}
use Rattle.logic.specs.Explained.{unreadable}
use Rattle.written.specs.Stated.{records_in}
use Rattle.written.proofs.Laws.{unreadable_noted}
use Rattle.text.proofs.Put.{rest_whole}
use Rattle.text.proofs.explaining.unreadable_at.Goals as goal

-- The rest of the derivation as a part of it.
pub returns : goal.returns
returns c =
    let a = c.args in
    let i = a.index.now in
    c.unreadable_as.ensures ∙ unreadable_noted i.formulas i.numbers.now c.requires.noted _ ∙ ap (unreadable (records_in i.formulas i.numbers.now)) (rest_whole a.derivation.now a.at)
