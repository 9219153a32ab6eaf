-- The log of one principal's facts, read back: entry k stands at byte 8 × k. What was found: formula and bit; the step kind; the
-- stamp; the first premise, formula and bit; the second.
use Rattle.std.specs.Prelude.{ℕ, zero, suc, ◌+◌, ◌*◌, List, [], ◌∷◌, get_or}
use Rattle.facts.specs.declared.Instance.{Instance}

-- the instance that found entry k
unfoldable pub instance_at : List ℕ → ℕ → Instance
instance_at log k =
    record {
      kind = get_or log (k * 8 + 2) 0;
      first = record { formula = get_or log (k * 8 + 4) 0; bit = get_or log (k * 8 + 5) 0 };
      second = record { formula = get_or log (k * 8 + 6) 0; bit = get_or log (k * 8 + 7) 0 };
      gives = record { formula = get_or log (k * 8) 0; bit = get_or log (k * 8 + 1) 0 };
    }

-- the first k entries, the newest first
unfoldable pub instances : List ℕ → ℕ → List Instance
instances log zero = []
instances log (suc k) = instance_at log k ∷ instances log k
