use mathlib.Core.Path.{refl, ap, ◌∙◌}
use mathlib.Core.Bool.{not}
use Prim.Native.Nat.{◌+◌}
use Rattle.derive.specs.Steps.{Writing, writing}
use Rattle.derive.proofs.Laws.{entry_left, entry_taken}
use Rattle.derive.proofs.Written.write_entry.Goals as goal

pub returns-then-not-is_wanted-clause-written : goal.returns-then-not-is_wanted-clause-written
returns-then-not-is_wanted-clause-written c = entry_left _ _ _ _ _ _ _ _ _ c.is_wanted.ensures (ap not c.if-not-is_wanted.true)

pub returns-clause-written : goal.returns-clause-written
returns-clause-written c =
    let step = c.write_step-self.ensures in
    ap (λ (w : Writing). writing w.out w.numbers (w.steps + 1) w.bytes) c.note.ensures.written
    ∙ entry_taken _ _ _ _ _ _ _ _ _ c.is_wanted.ensures (ap not c.if-not-is_wanted.false) c.first_number-a.ensures c.number_of-b.ensures step.0 step.1 c.place_in.ensures refl
