-- The answers of the C interface: one number of 64 bits each. Its lowest 8 bits are the number of document 01, "What is turned away",
-- or 0 where nothing is turned away; what is returned stands in the 56 bits above them. A field takes its number modulo the field's
-- width. That no answer loses anything by this is proved in proofs/Whole.antt, for the divisions and remainders by which
-- include/cogalbin.h takes an answer apart.
use Rattle.std.specs.Prelude.{ℕ, ◌+◌, ◌*◌, ◌%◌}
use Rattle.logic.specs.declared.Counts.{Counts}
use Rattle.logic.specs.Refusal.{Outcome, Entry}
use Rattle.logic.specs.Refusal.Outcome.{accepted, refused}
use Rattle.logic.specs.Refusal.Entry.{present, added, turned_away}
use Rattle.logic.specs.Proof.{Answer}
use Rattle.logic.specs.Proof.Answer.{reached, not_reached}
use Rattle.logic.specs.Listing.{Part}
use Rattle.logic.specs.Listing.Part.{piece, over}

-- number f, and above it the place i that is returned
abbrev pub packed_refusal : (f i : ℕ) → ℕ
packed_refusal f i = f + 256 * (i % 72057594037927936)

-- an outcome, where `worth` says what number stands for what is accepted
abbrev pub packed_outcome : {A : Type 0} → (A → ℕ) → Outcome A → ℕ
packed_outcome worth (accepted a) = 256 * worth a
packed_outcome worth (refused f i) = packed_refusal f i

-- a number alone has all 56 bits: the survey's count, the length of a text
abbrev pub alone : ℕ → ℕ
alone k = k % 72057594037927936

-- the counts of a book: formulas (16 bits), principals, assumptions, messages, goals (8 bits each)
abbrev pub counts : Counts → ℕ
counts n =
    n.formulas % 65536
    + 65536 * (n.principals % 256)
    + 16777216 * (n.assumptions % 256)
    + 4294967296 * (n.messages % 256)
    + 1099511627776 * (n.goals % 256)

-- whether the goal is reached (1 bit), the facts held (16 bits), the steps (16 bits), the bytes written (23 bits)
abbrev pub answer : Answer → ℕ
answer (not_reached h) = 2 * (h % 65536)
answer (reached k l h) = 1 + 2 * (h % 65536) + 131072 * (k % 65536) + 8589934592 * (l % 8388608)

-- a derivation that is accepted says no more than that
abbrev pub nothing : {A : Type 0} → A → ℕ
nothing a = 0

-- whether the listing is over (1 bit), the number of the line to go on from (16 bits), the bytes written (39 bits)
abbrev pub part : Part ℕ → ℕ
part (piece b n) = 2 * (n % 65536) + 131072 * (b % 549755813888)
part over = 1

-- what comes of entering: whether the record was appended (1 bit), and its number, or that of the formula that is present
abbrev pub packed_entry : Entry → ℕ
packed_entry (present i) = 256 * (2 * (i % 36028797018963968))
packed_entry (added i) = 256 * (1 + 2 * (i % 36028797018963968))
packed_entry (turned_away f i) = packed_refusal f i
