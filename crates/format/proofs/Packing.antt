-- A record as one number: the number gives the record back, so two numbers are equal where the records are.
use Prim.Native.Nat.{ℕ, ◌<◌}
use native.Mathlib.Omega.{arith}
use mathlib.Core.Path.{◌≡◌, ap}
use mathlib.Core.Bool.{Bool, true, false}
use lib.Dec.{T, eqb}
use borrow.Author.Tests.{eq-eqb, ne_eqb}
use Rattle.logic.specs.declared.Sort.{Sort}
use Rattle.logic.specs.declared.Record.{Record}
use Rattle.logic.specs.Kind.{body_of, is_field}
use Rattle.logic.specs.Record.{same}
use Rattle.logic.specs.Book.{EachField, Whole}
use Rattle.format.specs.Index.{packed, unpacked}
use Rattle.logic.proofs.Table.{Held, whole_held}
use Rattle.logic.proofs.Bytes.{record_path}
use Rattle.logic.proofs.Same.{same_path, path_same}

-- each field is two bytes
pub record Fields (r : Record) : Type 0 where
  pub first : r.first < 65536
  pub second : r.second < 65536
  pub third : r.third < 65536

whole_small : (s : Sort) (x : ℕ) → Whole s x → x < 65536
whole_small s x w = go (is_field s) (whole_held s x w)
  where
    go : (b : Bool) → Held b x → x < 65536
    go true h = h
    go false h = omega arith

pub whole_fields : (r : Record) → EachField Whole r → Fields r
whole_fields r w =
    record {
      first = whole_small (body_of r.kind).first r.first w.0;
      second = whole_small (body_of r.kind).second r.second w.1;
      third = whole_small (body_of r.kind).third r.third w.2;
    }

pub unpacked_packed : (r : Record) → Fields r → r.kind < 256 → unpacked (packed r) ≡ r
unfolding packed unpacked
unpacked_packed r h k = record_path _ r (omega arith) (omega arith) (omega arith) (omega arith)

pub packed_same : (r q : Record) → Fields r → Fields q → packed r ≡ packed q → r ≡ q
unfolding packed
packed_same r q h g e = record_path r q (omega arith) (omega arith) (omega arith) (omega arith)

-- the test of two numbers is the test of two records
pub packed_eqb : (r q : Record) → Fields r → Fields q → eqb (packed r) (packed q) ≡ same r q
packed_eqb r q h g = go (same r q) (same_path r q) (path_same r q)
  where
    go : (b : Bool) → (T b → r ≡ q) → (r ≡ q → T b) → eqb (packed r) (packed q) ≡ b
    go true f b = eq-eqb (packed r) (packed q) (ap packed (f tt))
    go false f b = ne_eqb (packed r) (packed q) (λ e. b (packed_same r q h g e))
