use borrow.Author.Rules.{rules}
use Rattle.std.specs.Prelude.{not}
use Rattle.logic.specs.Kind.{keeps_to}
use Rattle.logic.specs.Reading.{is_after_last}
use mathlib.Core.Path.{ap}
use Rattle.faults.proofs.is_after_last.Goals as goal

pub returns : goal.returns
unfolding is_after_last
returns c = ap not (c.each_field.ensures (keeps_to c.args.n.messages) (λ s x y h. search rules))
