use Rattle.stages.proofs.Turns.{turning_none, turning_more, turning_goes, goes_on_is, delivered_by, delivered_since}
use native.Mathlib.Omega.{arith}
use mathlib.Core.Path.{refl, ◌∙◌}
use borrow.Author.Rules.{rules}
use Rattle.stages.proofs.Bounded.deliver_turn.Goals as goal

pub loop-next-init : goal.loop-next-init
loop-next-init c = record { log = search rules; turn = turning_none _ _ _ _ _ c.requires.2 }

pub loop-next-preserved : goal.loop-next-preserved
loop-next-preserved c =
    let v = c.loop-next.invariant in
    record {
      log = search rules;
      turn = turning_more _ _ _ _ _ _ _ _ v.turn (goes_on_is _ _ _ (omega arith) refl c.goes_on.ensures) c.if-not-goes_on.false (delivered_since _ _ _ _ (v.log.2 ∙ c.requires.1) (delivered_by _ _ _ _ _ refl c.deliver.ensures.state)) c.receiver_of.ensures c.put_stamp.ensures;
    }

pub returns-then-not-goes_on-clause-goes : goal.returns-then-not-goes_on-clause-goes
returns-then-not-goes_on-clause-goes c = turning_goes _ _ _ _ _ _ _ c.loop-next.invariant.turn (goes_on_is _ _ _ (omega arith) refl c.goes_on.ensures) c.if-not-goes_on.true
