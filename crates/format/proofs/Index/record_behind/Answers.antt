use Prim.Native.Nat.{◌+◌}
use native.Mathlib.Omega.{arith}
use Rattle.format.proofs.Laws.{past_end}
use mathlib.Core.Path.{◌∙◌}
use Rattle.format.proofs.Index.record_behind.Goals as goal

pub returns-then-saturating_sub-i : goal.returns-then-saturating_sub-i
returns-then-saturating_sub-i c =
    let a = c.args in
    let l = c.if-saturating_sub-i.true in
    let h = c.saturating_sub.ensures in
    c.no_record.ensures ∙ past_end a.self.now.numbers.now (a.from + a.i) (omega arith)
