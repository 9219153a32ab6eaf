use mathlib.Core.Path.{◌∙◌}
use native.Mathlib.Omega.{arith}
use Rattle.instances.proofs.Laws.{count_below, listed_none, listed_more, not_listed, is_listed_lem}
use Rattle.instances.proofs.list_just.Goals as goal
use Rattle.instances.proofs.list_just.Goals.{then-has_just, else-has_just}

pub loop-y-init : goal.loop-y-init
loop-y-init c = listed_none _ _ _

pub bounds-just-m : goal.bounds-just-m
bounds-just-m c = omega (arith, count_below c.args.index.now.numbers.now c.args.v c.loop-y.y)

pub overflow_add-m : goal.overflow_add-m
overflow_add-m c = omega (arith, count_below c.args.index.now.numbers.now c.args.v c.loop-y.y)

pub loop-y-preserved : goal.loop-y-preserved
loop-y-preserved c = elim c.if-has_just.branch [
  | then-has_just w ↦
      let r = listed_more _ _ _ _ _ c.loop-y.invariant (is_listed_lem _ _ _ _ _ c.has_just.ensures w.if-has_just.true) in
      (w.m-is ∙ r.0, w.just-is ∙ r.1)
  | else-has_just w ↦
      let r = listed_more _ _ _ _ _ c.loop-y.invariant (not_listed _ _ _ _ _ c.has_just.ensures w.if-has_just.false) in
      (w.m-is ∙ r.0, w.just-is ∙ r.1)
]
