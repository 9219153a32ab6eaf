-- The scan of a book without the bound on its records: a scan that is given enough goes on in the same way,
-- and one step of it is a test of the first record, then the scan of what is left behind that record.
use Prim.Native.Nat.{ℕ, zero, suc, ◌≤◌, ◌<◌}
use native.Mathlib.Nat.{not-suc-le-zero, le_refl}
use native.Mathlib.Omega.{arith}
use mathlib.Core.Path.{◌≡◌, refl, ap}
use mathlib.Core.List.{List, [], ◌∷◌, ◌++◌}
use lib.ListN.{length, get_or, drop, length-drop}
use Rattle.logic.specs.declared.Record.{Record}
use Rattle.logic.specs.Kind.{body_of, size_of}
use Rattle.logic.specs.Record.{record_at}
use Rattle.logic.specs.Reading.{Scan, scan_from, scan, on_fault, fault_at}

-- the scan of the bytes s behind the records `past`
unfoldable pub scan_on : List Record → List ℕ → Scan
scan_on past s = scan_from (length s) past s

-- a record has at least one byte, so fewer bytes are left behind it
pub left_fewer : (k : ℕ) (s : List ℕ) → length (drop (size_of (body_of k)) (k ∷ s)) ≤ length s
left_fewer k s = simp length-drop (omega arith)

pub scan_fuel : (n m : ℕ) (past : List Record) (s : List ℕ) → length s ≤ n → length s ≤ m → scan_from n past s ≡ scan_from m past s
unfolding scan_from
scan_fuel zero zero past s l h = refl
scan_fuel zero (suc m) past [] l h = refl
scan_fuel zero (suc m) past (k ∷ s) l h = absurd (not-suc-le-zero l)
scan_fuel (suc n) zero past [] l h = refl
scan_fuel (suc n) zero past (k ∷ s) l h = absurd (not-suc-le-zero h)
scan_fuel (suc n) (suc m) past [] l h = refl
scan_fuel (suc n) (suc m) past (k ∷ s) l h =
    let f = left_fewer k s in
    ap (on_fault (fault_at past (k ∷ s)) past)
    (scan_fuel n m (past ++ (record_at (k ∷ s) ∷ [])) (drop (size_of (body_of k)) (k ∷ s)) (omega arith) (omega arith))

-- any bound from the number of bytes on serves
pub scan_enough : (n : ℕ) (past : List Record) (s : List ℕ) → length s ≤ n → scan_from n past s ≡ scan_on past s
unfolding scan_on
scan_enough n past s l = scan_fuel n (length s) past s l (le_refl (length s))

pub scan_is : (s : List ℕ) → scan s ≡ scan_on [] s
unfolding scan scan_on
scan_is s = refl

-- nothing is left: the records are those before
pub scan_end : (past : List Record) → scan_on past [] ≡ record { records = past; number = 0 }
unfolding scan_on scan_from
scan_end past = refl

-- one record, then what is left
pub scan_step : (past : List Record) (s : List ℕ) → 0 < length s
    → scan_on past s
    ≡ on_fault (fault_at past s) past (scan_on (past ++ (record_at s ∷ [])) (drop (size_of (body_of (get_or s 0 0))) s))
unfolding scan_on scan_from
scan_step past [] l = absurd (not-suc-le-zero l)
scan_step past (k ∷ s) l =
    ap (on_fault (fault_at past (k ∷ s)) past)
    (scan_enough (length s) (past ++ (record_at (k ∷ s) ∷ [])) (drop (size_of (body_of k)) (k ∷ s)) (left_fewer k s))
