-- What include/cogalbin.h takes out of an answer r, by division and remainder, is what was packed_outcome into it. Assumes nothing.
use Prim.Native.Nat.{ℕ, ◌*◌, ◌/◌, ◌%◌, ◌<◌, ◌≤◌}
use native.Mathlib.Omega.{arith}
use mathlib.Core.Path.{◌≡◌, refl}
use Rattle.logic.specs.declared.Counts.{Counts}
use Rattle.logic.specs.Refusal.{Outcome, Entry}
use Rattle.logic.specs.Refusal.Outcome.{accepted, refused}
use Rattle.logic.specs.Refusal.Entry.{present, added, turned_away}
use Rattle.logic.specs.Proof.{Answer}
use Rattle.logic.specs.Proof.Answer.{reached, not_reached}
use Rattle.logic.specs.Listing.{Part}
use Rattle.logic.specs.Listing.Part.{piece, over}
use Rattle.capi.specs.Packing.{packed_refusal, alone, counts, answer, part, packed_entry}

-- number and place of a refusal
abbrev pub Refuses : (f i r : ℕ) → Type 0
Refuses f i r = (0 < f) × (r % 256 ≡ f) × (r / 256 ≡ i)

-- r says what the outcome is, where `Worth a r` tells what it says of what is accepted
abbrev pub Says : {A : Type 0} → (A → ℕ → Type 0) → Outcome A → ℕ → Type 0
Says Worth (accepted a) r = (r % 256 ≡ 0) × Worth a r
Says Worth (refused f i) r = Refuses f i r

-- the fields of each answer, as the header reads them
pub record CountsIn (n : Counts) (r : ℕ) : Type 0 where
  pub formulas : r / 256 % 65536 ≡ n.formulas
  pub principals : r / 16777216 % 256 ≡ n.principals
  pub assumptions : r / 4294967296 % 256 ≡ n.assumptions
  pub messages : r / 1099511627776 % 256 ≡ n.messages
  pub goals : r / 281474976710656 % 256 ≡ n.goals

abbrev pub AnswerIn : Answer → ℕ → Type 0
AnswerIn (not_reached h) r = (r / 256 % 2 ≡ 0) × (r / 512 % 65536 ≡ h)
AnswerIn (reached k l h) r =
    (r / 256 % 2 ≡ 1) × (r / 512 % 65536 ≡ h) × (r / 33554432 % 65536 ≡ k) × (r / 2199023255552 ≡ l)

abbrev pub NumberIn : ℕ → ℕ → Type 0
NumberIn k r = r / 256 ≡ k

abbrev pub PartIn : Part ℕ → ℕ → Type 0
PartIn (piece b n) r = (r / 256 % 2 ≡ 0) × (r / 512 % 65536 ≡ n) × (r / 33554432 ≡ b)
PartIn over r = (r / 256 % 2 ≡ 1) × (r / 512 % 65536 ≡ 0) × (r / 33554432 ≡ 0)

abbrev pub EntryIn : Entry → ℕ → Type 0
EntryIn (present i) r = (r % 256 ≡ 0) × (r / 256 % 2 ≡ 0) × (r / 512 ≡ i)
EntryIn (added i) r = (r % 256 ≡ 0) × (r / 256 % 2 ≡ 1) × (r / 512 ≡ i)
EntryIn (turned_away f i) r = Refuses f i r

pub refusal_apart : (f i : ℕ) → 0 < f → f < 256 → i < 72057594037927936 → Refuses f i (packed_refusal f i)
refusal_apart f i p k l = (p, omega arith, omega arith)

pub none : (v : ℕ) → 256 * v % 256 ≡ 0
none v = omega arith

pub number_apart : (k : ℕ) → k < 72057594037927936 → NumberIn k (256 * alone k)
number_apart k l = omega arith

pub counts_apart : (n : Counts) → n.formulas ≤ 256 → n.principals ≤ 8 → n.assumptions ≤ 64 → n.messages ≤ 16 → n.goals ≤ 32
    → CountsIn n (256 * counts n)
counts_apart n a b c d e =
    record { formulas = omega arith; principals = omega arith; assumptions = omega arith; messages = omega arith; goals = omega arith }

pub held_apart : (h : ℕ) → h < 65536 → AnswerIn (not_reached h) (256 * answer (not_reached h))
held_apart h l = (omega arith, omega arith)

pub proof_apart : (k l h : ℕ) → k < 65536 → l < 8388608 → h < 65536 → AnswerIn (reached k l h) (256 * answer (reached k l h))
proof_apart k l h a b c = (omega arith, omega arith, omega arith, omega arith)

pub piece_apart : (b n : ℕ) → n < 65536 → b < 549755813888 → PartIn (piece b n) (256 * part (piece b n))
piece_apart b n l k = (omega arith, omega arith, omega arith)

pub over_apart : PartIn over (256 * part over)
over_apart = (refl, refl, refl)

pub present_apart : (i : ℕ) → i < 36028797018963968 → EntryIn (present i) (packed_entry (present i))
present_apart i l = (omega arith, omega arith, omega arith)

pub added_apart : (i : ℕ) → i < 36028797018963968 → EntryIn (added i) (packed_entry (added i))
added_apart i l = (omega arith, omega arith, omega arith)
