use Rattle.matching.specs.Instance.{are_kept, left_by}
use Rattle.format.specs.Index.{look_in}
use mathlib.Core.Path.{◌≡◌}
use Prim.Native.Nat.{◌+◌}
use Rattle.matching.proofs.match_down.Given as goal

abbrev pub invariant-loop-i : goal.invariant-loop-i
invariant-loop-i l =
    let look = look_in l.index.formulas l.index.numbers.now in
    (are_kept look l.v l.image (1 + l.i) ≡ are_kept look l.v l.initial.image (1 + l.y)) × (left_by look l.v l.image (1 + l.i) ≡ left_by look l.v l.initial.image (1 + l.y))
