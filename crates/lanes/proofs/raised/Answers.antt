use lib.Pow.{shl_exact}
use native.Mathlib.Omega.{arith}
use mathlib.Core.Path.{◌∙◌}
use Rattle.lanes.proofs.raised.Goals as goal

pub returns : goal.returns
returns c = rw c.from.ensures (shl_exact {a = c.args.who} 8 c.shift_of.result 64 c.ranges.who.fits (omega (arith, c.shift_of.ensures.1)) ∙ rw c.shift_of.ensures.0)
