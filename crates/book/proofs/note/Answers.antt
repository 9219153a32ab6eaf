use Rattle.format.specs.Variables.{variables_from, variables_in, variables_of}
use lib.ListN.{set}
use Prim.Native.Nat.{◌+◌}
use mathlib.Core.Path.{ap, ◌∙◌}
use Rattle.book.proofs.note.Goals as goal

pub returns : goal.returns
returns c =
    let a = c.args in
    c.put.ensures
    ∙ ap (set a.table.now (variables_from + a.n)) (c.variables_of-v.ensures ∙ ap (variables_of (variables_in a.table.now) a.n) c.unpack.ensures)
