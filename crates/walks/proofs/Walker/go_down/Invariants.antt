use Rattle.walks.specs.Walk.{walk_down}
use Rattle.format.specs.Index.{look_in}
use mathlib.Core.Path.{◌≡◌}
use Rattle.walks.proofs.Walker.go_down.Given as goal

abbrev pub invariant-loop-i : goal.invariant-loop-i
invariant-loop-i l =
    let look = look_in l.self.index.now.formulas l.self.index.now.numbers.now in
    walk_down look l.self.sender l.marks l.i ≡ walk_down look l.self.sender l.initial.marks l.n
