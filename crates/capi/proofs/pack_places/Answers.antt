use Rattle.capi.proofs.Laws.{rows_small, places_small}
use native.Mathlib.Omega.{arith}
use Rattle.capi.proofs.pack_places.Goals as goal

pub overflow_mul-result : goal.overflow_mul-result
overflow_mul-result c = omega (arith, rows_small _ _ c.requires.1 c.requires.0)

pub overflow_mul-result-3 : goal.overflow_mul-result-3
overflow_mul-result-3 c = omega (arith, places_small _ _ c.requires.1 c.requires.0)

pub overflow_mul-result-4 : goal.overflow_mul-result-4
overflow_mul-result-4 c = omega (arith, places_small _ _ c.requires.1 c.requires.0)
