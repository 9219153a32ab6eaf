-- The places of a book that was read. Assumes nothing.
use Prim.Native.Nat.{ℕ, ◌+◌, ◌*◌, ◌≤◌}
use native.Mathlib.Nat.{mul-le-mul}
use native.Mathlib.Omega.{arith}
use mathlib.Core.Path.{◌≡◌, refl, sym, ap, ◌∙◌}
use mathlib.Core.List.{List}
use lib.ListN.{length}
use Rattle.logic.specs.declared.Refusal.{Refusal}
use Rattle.logic.specs.declared.Record.{Record}
use Rattle.logic.specs.declared.Counts.{Counts}
use Rattle.std.specs.Prelude.{Result, Ok, Err}
use Rattle.logic.specs.Count.{formulas, principals, counts_of}
use Rattle.logic.specs.Refusal.{number_of, Outcome, told}
use Rattle.logic.specs.Refusal.Outcome.{accepted, refused}
use Rattle.logic.specs.Reading.{reading, counted}
use Rattle.logic.specs.Book.{Book}
use Rattle.logic.specs.Place.{principal_count, F}
use Rattle.logic.proofs.Bytes.{Bytes}
use Rattle.logic.proofs.BookRead.{accepted_is_book}
use Rattle.logic.proofs.Follows.{formula_limit_lem, principal_limit_lem}
use Rattle.logic.proofs.Limits.{principals_of}
use Rattle.capi.specs.Packing.{packed_refusal, packed_outcome}

-- a product of numbers within the limits of a book
pub rows_small : (a b : ℕ) → a ≤ 8 → b ≤ 256 → a * b ≤ 2048
rows_small a b k l = mul-le-mul {n₁ = a} {m₁ = b} {n₂ = 8} {m₂ = 256} k l

pub places_small : (a b : ℕ) → a ≤ 8 → b ≤ 256 → a * b * (3 + 2 * a) ≤ 38912
places_small a b k l = mul-le-mul {n₁ = a * b} {m₁ = 3 + 2 * a} {n₂ = 2048} {m₂ = 19} (rows_small a b k l) (omega arith)

-- the bytes x were read as a book with the counts n
pub record Read (x : List ℕ) (n : Counts) : Type 0 where
  pub records : List Record
  pub read : reading x ≡ accepted records
  pub proper : Book records
  pub counts : n ≡ counts_of records

module _ (x : List ℕ) (o : Result Counts Refusal) (e : told o ≡ counted (reading x)) where
  pub read_book : Bytes x → (n : Counts) → o ≡ Ok n → Read x n
  read_book b n h = go (reading x) refl
    where
      go : (z : Outcome (List Record)) → reading x ≡ z → Read x n
      go (accepted rs) k =
          let q : accepted n ≡ accepted (counts_of rs) = sym (ap told h) ∙ e ∙ ap counted k in
          record { records = rs; read = k; proper = (accepted_is_book x rs b k).1; counts = (cc) }
      go (refused m i) k =
          absurd (let q : accepted n ≡ refused m i = sym (ap told h) ∙ e ∙ ap counted k in let z : ◌≡◌ {A = ℕ} 0 1 = cc in omega arith)

  pub places_refused : (f : Refusal) → o ≡ Err f → packed_refusal (number_of f.cause) f.place ≡ packed_outcome (λ rs. F (formulas rs)) (reading x)
  places_refused f h = go (reading x) refl
    where
      go : (z : Outcome (List Record)) → reading x ≡ z → packed_refusal (number_of f.cause) f.place ≡ packed_outcome (λ rs. F (formulas rs)) z
      go (accepted rs) k =
          absurd (let q : refused (number_of f.cause) f.place ≡ accepted (counts_of rs) = sym (ap told h) ∙ e ∙ ap counted k in let z : ◌≡◌ {A = ℕ} 0 1 = cc in omega arith)
      go (refused m i) k =
          let q : ◌≡◌ {A = Outcome Counts} (refused (number_of f.cause) f.place) (refused m i) = sym (ap told h) ∙ e ∙ ap counted k in
          ap (packed_outcome (λ (n : Counts). 0)) q

module _ {x : List ℕ} {n : Counts} (h : Read x n) where
  pub read_limits : (n.formulas ≤ 256) × (n.principals ≤ 8)
  read_limits = rw h.counts (formula_limit_lem h.records h.proper, principal_limit_lem h.records h.proper)

  pub places_read : 256 * (n.principals * n.formulas * (3 + 2 * n.principals)) ≡ packed_outcome (λ rs. F (formulas rs)) (reading x)
  unfolding F
  places_read =
      let q : principal_count (formulas h.records) ≡ length (principals h.records) = ap length (principals_of h.records) in
      rw (h.counts, h.read, q) refl
