use borrow.Author.Rules.{rules}
use Rattle.std.specs.Prelude.{not}
use Rattle.logic.specs.Kind.{fits}
use Rattle.logic.specs.Reading.{is_misfit}
use Rattle.format.specs.Index.{look_in}
use mathlib.Core.Path.{ap}
use Rattle.faults.proofs.is_misfit.Goals as goal

pub returns : goal.returns
unfolding is_misfit
returns c =
    let i = c.args.index.now in
    ap not (c.each_field.ensures (λ s x. fits s (look_in i.formulas i.numbers.now x).kind) (λ s x y h. search rules))
