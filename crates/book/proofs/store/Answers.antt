use lib.ListN.{set}
use mathlib.Core.Path.{ap₂, ◌∙◌}
use Rattle.book.proofs.store.Goals as goal

pub returns : goal.returns
returns c =
    let e = c.note_record-next.ensures in
    (e.0, c.put.ensures ∙ ap₂ (λ t p. set t p c.args.x) e.1 c.slot_of.ensures)
