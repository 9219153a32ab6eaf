use borrow.Author.Rules.{rules}
use Rattle.std.specs.Prelude.{not, ◌||◌, ltb}
use Rattle.logic.specs.Kind.{refers}
use Rattle.logic.specs.Reading.{is_dangling}
use mathlib.Core.Path.{ap}
use Rattle.faults.proofs.is_dangling.Goals as goal

pub returns : goal.returns
unfolding is_dangling
returns c = ap not (c.each_field.ensures (λ s x. not (refers s) || ltb x c.args.n.formulas) (λ s x y h. search rules))
