use Rattle.std.specs.Prelude.{None}
use Rattle.stages.proofs.Closed.{zeros_pending}
use mathlib.Core.Path.{◌≡◌}
use borrow.Author.Rules.{rules}
use Rattle.stages.proofs.last_pending.Goals as goal

pub returns-in_err-i : goal.returns-in_err-i
returns-in_err-i c = let g : c.from_residual.result ≡ None = search rules in rw g (zeros_pending c.args.held.now.pending c.in_err-i.ensures)
