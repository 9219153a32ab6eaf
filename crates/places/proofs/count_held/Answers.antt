use Rattle.std.proofs.Common.{◌≡◌, ◌≤◌, rules, arith, refl, take, length}
use Rattle.logic.specs.Survey.{count}
use Rattle.places.proofs.Laws.{held_step, held_all}
use Rattle.places.proofs.count_held.Goals as goal

pub loop-b-init : goal.loop-b-init
unfolding count
loop-b-init c = (search rules, refl)

pub loop-b-preserved : goal.loop-b-preserved
loop-b-preserved c =
    let l = c.loop-b in
    let k : c.from-held.result ≤ 1 = search rules in
    (omega arith, held_step (take c.min.result c.args.table.now) l.b-index c.loop-b-test.true l.invariant.1 c.from-held.ensures)

pub returns : goal.returns
returns c =
    let e : c.loop-b.b-index ≡ length (take c.min.result c.args.table.now) = omega arith in
    held_all c.args.table.now c.args.n c.min.ensures e c.loop-b.invariant.1
