use Prim.Native.Nat.{◌-◌}
use Rattle.checker.proofs.+check_sized.Given as goal

-- The measure is what is left to the largest size, of which no table is made here.
abbrev pub decreases-check_sized : goal.decreases-check_sized
decreases-check_sized l = 65537 - l.size
