use Rattle.std.proofs.Common.{◌≡◌, length}
use Rattle.instances.specs.Rows.{keys_upto}
use Rattle.instances.proofs.Formulas.put_each_key.Given as goal

abbrev pub invariant-loop-k : goal.invariant-loop-k
invariant-loop-k l =
    let i = l.self.index.now in
    l.rows ≡ keys_upto i.numbers.now i.formulas l.v l.just (length l.just) l.k l.initial.rows
