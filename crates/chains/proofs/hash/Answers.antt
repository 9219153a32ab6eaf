use Rattle.chains.specs.Chain.{hash_of}
use Rattle.chains.proofs.Chain.{hash_fits}
use native.Mathlib.Omega.{arith}
use Prim.Native.Nat.{◌<◌}
use mathlib.Core.Path.{refl}
use Rattle.chains.proofs.hash.Goals as goal

pub overflow_add-result : goal.overflow_add-result
overflow_add-result c = let l : c.args.x < 18446744073709551616 = omega arith in record { fits = hash_fits _ l }

pub returns : goal.returns
unfolding hash_of
returns c = refl
