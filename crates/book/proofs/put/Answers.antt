use lib.Seq.{set_out}
use mathlib.Core.Path.{sym}
use Rattle.book.proofs.put.Goals as goal

pub returns-else-place-table : goal.returns-else-place-table
returns-else-place-table c = sym (set_out _ _ _ c.if-place-table.false)
