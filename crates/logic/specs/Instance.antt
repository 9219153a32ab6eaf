-- Putting a key for a variable. Document 02, wish 4: "X' is X with one key put for V throughout".
use Rattle.std.specs.Prelude.{ℕ, ◌≡◌, cond, eqb}
use Rattle.logic.specs.Formula.{KeyField, Tree}
use Rattle.logic.specs.Formula.KeyField.{by_name, by_variable}
use Rattle.logic.specs.Formula.Tree.{principal, key, datum, conjunction, encrypted, signed, combined, shared_key, public_key, shared_secret, fresh, believes, sees, said, controls, variable, for_every}

-- the key with the name n in the place of the variable v, in the field of a key
abbrev pub put_field : (v n : ℕ) → KeyField → KeyField
put_field v n (by_name m) = by_name m
put_field v n (by_variable w) = cond (eqb w v) (by_name n) (by_variable w)

-- and throughout a formula; what stands in a kind 17 is not outside it
abbrev pub put : (v n : ℕ) → Tree → Tree
put v n (principal m) = principal m
put v n (key m) = key m
put v n (datum m) = datum m
put v n (conjunction X Y) = conjunction (put v n X) (put v n Y)
put v n (encrypted X K R) = encrypted (put v n X) (put_field v n K) R
put v n (signed X K R) = signed (put v n X) (put_field v n K) R
put v n (combined X Y) = combined (put v n X) (put v n Y)
put v n (shared_key P K Q) = shared_key P (put_field v n K) Q
put v n (public_key K Q) = public_key (put_field v n K) Q
put v n (shared_secret P X Q) = shared_secret P (put v n X) Q
put v n (fresh X) = fresh (put v n X)
put v n (believes P X) = believes P (put v n X)
put v n (sees P X) = sees P (put v n X)
put v n (said P X) = said P (put v n X)
put v n (controls P X) = controls P (put v n X)
put v n (variable w) = cond (eqb w v) (key n) (variable w)
put v n (for_every w Z) = for_every w Z

-- X' is X with one key, the same throughout, in the place of v: any key, recorded or not
abbrev pub IsInstance : (v : ℕ) (X X' : Tree) → Type 0
IsInstance v X X' = (n : ℕ) × (X' ≡ put v n X)
