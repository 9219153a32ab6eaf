use Rattle.engine.proofs.Laws.{since}
use Rattle.stages.proofs.Lengths.{reached_whole}
use Rattle.stages.proofs.Closed.{one_more, turn_less}
use borrow.Author.Rules.{rules}
use Rattle.rules.specs.Close.Reaches.{start}
use Rattle.stages.proofs.Bounded.close.Goals as goal

pub loop-r-init : goal.loop-r-init
loop-r-init c = record { log = search rules; reached = start }

pub loop-r-smaller : goal.loop-r-smaller
loop-r-smaller c =
    let v = c.loop-r.invariant in
    let w = reached_whole _ _ _ _ _ _ _ v.reached c.requires in
    turn_less _ _ _ _ _ c.in-Some.r c.loop-r.held.words c.loop-r.held.pending _ _ c.args.self.now.bytes w.0 w.1 (search rules) c.in-Some.ensures _ (rw c.take.ensures at c.apply.ensures.state)

pub loop-r-preserved : goal.loop-r-preserved
loop-r-preserved c = let v = c.loop-r.invariant in record { log = search rules; reached = one_more _ _ _ _ _ _ _ c.in-Some.r (search rules) c.in-Some.ensures (since _ _ _ v.log.2 (rw c.take.ensures at c.apply.ensures.state)) v.reached }
