use Rattle.stages.proofs.Running.{first_stage, goes_on_lem, next_inside, stages_end}
use native.Mathlib.Omega.{arith}
use mathlib.Core.Path.{refl}
use borrow.Author.Rules.{rules}
use Rattle.stages.proofs.Bounded.run_turns.Goals as goal

pub loop-m-preserved : goal.loop-m-preserved
loop-m-preserved c =
    let v = c.loop-m.invariant in
    let e = c.next_turn-m.ensures.turn in
    record {
      within = next_inside _ _ _ _ _ _ _ 0 0 _ _ _ _ _ _ _ v.within e;
      log = search rules;
      table = search rules;
      whole = (e.3.3, e.3.4);
      few = omega (arith, v.few, e.3.2, c.next_turn-m.ensures.goes c.loop-m-test.true);
      goes = goes_on_lem _ _ _ _ _ _ _ _ _ _ _ _ _ _ _ _ _ _ _ _ _ _ _ _ v.goes e;
    }

pub returns-clause-stages : goal.returns-clause-stages
returns-clause-stages c = let v = c.loop-m.invariant in stages_end _ _ _ _ _ _ _ _ _ _ _ _ _ _ _ v.within c.loop-m-test.false (v.goes _ (first_stage _ _ _ _ _ _ _ _ _ _ _ _ _ _ _ _ _ c.requires.0 c.requires.2 c.begin.ensures.stage refl))
