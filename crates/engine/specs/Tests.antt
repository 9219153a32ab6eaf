-- Tests on whole words that tell that nothing is to be done.
use Rattle.std.specs.Prelude.{ℕ, ◌+◌, List, Bool, ◌&&◌, get_or, eqb}
use Rattle.std.specs.Int.Bits.{bit_or}

-- word j has all bits of word i
abbrev pub has_all : List ℕ → (i j : ℕ) → Bool
has_all ws i j = eqb (bit_or (get_or ws j 0) (get_or ws i 0)) (get_or ws j 0)

-- all that is said and believed of r is so of x
unfoldable pub is_spread : List ℕ → (r x : ℕ) → Bool
is_spread ws r x = has_all ws (256 + r) (256 + x) && has_all ws (512 + r) (512 + x)
