-- Lists of instances one after the other.
use Rattle.std.specs.Prelude.{ℕ, zero, suc, List, [], ◌++◌}
use Rattle.facts.specs.declared.Instance.{Instance}

-- f 0, f 1, up to f (n - 1)
unfoldable pub upto : (ℕ → List Instance) → ℕ → List Instance
upto f zero = []
upto f (suc n) = upto f n ++ f n
