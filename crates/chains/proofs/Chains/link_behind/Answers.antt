use Rattle.chains.proofs.Chain.{behind_outside, behind_down, behind_end}
use native.Mathlib.Omega.{arith}
use mathlib.Core.Path.{ap}
use lib.ListN.{get_or}
use Prim.Native.Nat.{◌-◌}
use Rattle.chains.proofs.Chains.link_behind.Goals as goal

pub returns-then-c-gt256 : goal.returns-then-c-gt256
returns-then-c-gt256 c = (behind_outside _ _ c.if-c-gt256.true, c.requires)

pub returns-then-behind-c : goal.returns-then-behind-c
returns-then-behind-c c =
    let here = ap (λ k. get_or c.args.self.now.next (k - 1) 0) c.from.ensures in
    (behind_down _ _ _ (omega arith) here c.if-behind-c.true, c.if-behind-c.true)

pub returns-else-behind-c : goal.returns-else-behind-c
returns-else-behind-c c =
    let here = ap (λ k. get_or c.args.self.now.next (k - 1) 0) c.from.ensures in
    (behind_end _ _ _ (omega arith) here c.if-behind-c.false, omega arith)
