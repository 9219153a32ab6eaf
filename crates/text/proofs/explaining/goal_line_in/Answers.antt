use native.Mathlib.Omega.{arith}
use Prim.Native.Nat.{ℕ, ◌≤◌}
use mathlib.Core.Path.{refl, ap, ◌∙◌}
use lib.ListN.{length, get_or, replicate}
use lib.Seq.{sets}
use Rattle.logic.specs.Record.{no_record}
use Rattle.logic.specs.Explained.{goal_line}
use Rattle.written.specs.Stated.{records_in}
use Rattle.places.specs.Places.{goals_in}
use Rattle.text.specs.Lines.{places_of}
use Rattle.text.proofs.Lines.{goals_counted}
use Rattle.digits.proofs.Puts.{front_is}
use Rattle.text.proofs.StepLines.{no_goal, goal_short, goal_whole}
use Rattle.text.proofs.explaining.goal_line_in.Goals as goal

-- A goal that is not there, a buffer that is too short, and the line.
pub returns-then-n-goal : goal.returns-then-n-goal
returns-then-n-goal c =
    let a = c.args in
    let t = a.numbers.now in
    let fs = (records_in a.n.formulas t) in
    let gs = (goals_in a.n.goals t) in
    let z = goals_counted a.n.formulas t a.n c.requires.index t (places_of a.n.formulas a.n.principals) refl in
    no_goal fs gs a.goal a.buffer.now (omega (arith, c.if-n-goal.true)) (rw c.at.ensures refl)

pub returns-then-buffer-k : goal.returns-then-buffer-k
returns-then-buffer-k c =
    let a = c.args in
    let u = c.new-printer.ensures.same in
    let t = a.numbers.now in
    let fs = (records_in a.n.formulas t) in
    let gs = (goals_in a.n.goals t) in
    let z = goals_counted a.n.formulas t a.n c.requires.index t (places_of a.n.formulas a.n.principals) refl in
    goal_short fs gs a.goal a.buffer.now (omega (arith, c.if-n-goal.false)) (rw (u.1, u.2, u.3) at c.put_goal-k.ensures).size c.if-buffer-k.true (rw c.at-then-buffer-k.ensures refl)

pub returns : goal.returns
returns c =
    let a = c.args in
    let v = c.new-printer.ensures.same in
    let t = a.numbers.now in
    let fs = (records_in a.n.formulas t) in
    let gs = (goals_in a.n.goals t) in
    let z = goals_counted a.n.formulas t a.n c.requires.index t (places_of a.n.formulas a.n.principals) refl in
    let u = (rw (v.1, v.2, v.3) at c.put_goal-k.ensures) in
    let w = goal_line fs a.goal (get_or gs a.goal no_record) in
    let k : c.put_goal-k.result ≤ length {A = ℕ} (replicate 4160 0) = omega (arith, u.room) in
    goal_whole fs gs a.goal a.buffer.now (omega (arith, c.if-n-goal.false)) u.size c.if-buffer-k.false
    (c.put_front.ensures ∙ ap (sets a.buffer.now 0) (front_is w (replicate 4160 0) u.list u.size k))
