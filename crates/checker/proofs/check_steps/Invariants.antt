use Rattle.checker.proofs.Stage.{Reached}
use Rattle.checker.specs.Judge.{Posed}
use Rattle.logic.specs.declared.Record.{Record}
use lib.ListN.{length}
use mathlib.Core.List.{List}
use Prim.Native.Nat.{ℕ, ◌≤◌, ◌*◌, ◌-◌}
use Rattle.checker.proofs.check_steps.Given as goal

abbrev pub invariant-loop-at : goal.invariant-loop-at
invariant-loop-at l =
    let b = l.basis in
    record {
      within : l.at ≤ length l.derivation;
      room : 10 * l.count ≤ l.at;
      reached : (rs : List Record) (g : ℕ) (h : Posed rs g b.numbers.now b.counts b.clears.now b.message l.goal) → Reached h l.derivation l.claims l.at l.count;
    }

abbrev pub decreases-loop-at : goal.decreases-loop-at
decreases-loop-at l = length l.derivation - l.at
