use lib.Seq.{set_out}
use mathlib.Core.Path.{sym}
use Rattle.walks.proofs.mark.Goals as goal

pub returns-else-i-marks : goal.returns-else-i-marks
returns-else-i-marks c = sym (set_out _ _ _ c.if-i-marks.false)
