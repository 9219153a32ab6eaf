use Rattle.std.proofs.Common.{◌≡◌}
use Rattle.instances.specs.Rows.{variables_upto}
use Rattle.instances.proofs.Formulas.put_for_each.Given as goal

abbrev pub invariant-loop-v : goal.invariant-loop-v
invariant-loop-v l =
    let i = l.self.index.now in
    l.rows ≡ variables_upto i.numbers.now i.formulas l.v l.initial.rows
