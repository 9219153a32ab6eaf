-- Records and their bytes: one byte of kind, then the fields, two bytes each, high byte first.
use Rattle.std.specs.Prelude.{ℕ, ◌+◌, ◌*◌, ◌/◌, ◌%◌, List, [], ◌∷◌, ◌++◌, Bool, cond, ◌&&◌, get_or, eqb}
use Rattle.logic.specs.declared.Sort.{Sort}
use Rattle.logic.specs.declared.Record.{Record}
use Rattle.logic.specs.Kind.{body_of, is_field}

-- no record; its kind, 0, is no kind
abbrev pub no_record : Record
no_record = record { kind = 0; first = 0; second = 0; third = 0 }

-- the two-byte number at place i
unfoldable pub word : List ℕ → ℕ → ℕ
word s i = get_or s i 0 * 256 + get_or s (i + 1) 0

-- what a field holds: the two bytes at place i, or 0 where the kind has no such field
unfoldable pub field : Sort → List ℕ → ℕ → ℕ
field x s i = cond (is_field x) (word s i) 0

-- the record at the front of some bytes
unfoldable pub record_at : List ℕ → Record
record_at s =
    record {
      kind = get_or s 0 0;
      first = field (body_of (get_or s 0 0)).first s 1;
      second = field (body_of (get_or s 0 0)).second s 3;
      third = field (body_of (get_or s 0 0)).third s 5;
    }

-- the bytes of a field
abbrev pub field_bytes : Sort → ℕ → List ℕ
field_bytes x n = cond (is_field x) (n / 256 ∷ n % 256 ∷ []) []

-- the bytes of a record
unfoldable pub bytes_of : Record → List ℕ
bytes_of r =
    r.kind
    ∷ field_bytes (body_of r.kind).first r.first
    ++ (field_bytes (body_of r.kind).second r.second ++ field_bytes (body_of r.kind).third r.third)

-- the bytes of a run of records
unfoldable pub bytes : List Record → List ℕ
bytes [] = []
bytes (r ∷ rs) = bytes_of r ++ bytes rs

-- two records are the same
abbrev pub same : Record → Record → Bool
same r q = eqb r.kind q.kind && (eqb r.first q.first && (eqb r.second q.second && eqb r.third q.third))

-- whether a test holds of each field of a record
abbrev pub each_field : (Sort → ℕ → Bool) → Record → Bool
each_field p r =
    p (body_of r.kind).first r.first
    && (p (body_of r.kind).second r.second && p (body_of r.kind).third r.third)
