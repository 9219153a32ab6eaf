-- A book as a flat array of 2,144 bytes: eight bytes to a formula record, then 64 assumptions, one byte each, then 16 messages of two.
-- Of a formula record: its kind, its three references, whether it is clear, the rank of a principal, and where the belief in it is
-- kept once opened: a formula and a bit.
use Rattle.std.specs.Prelude.{ℕ, ◌+◌, ◌*◌, ◌%◌, List, Bool, cond, get_or, eqb}
use Rattle.facts.specs.declared.Cell.{Cell}

abbrev pub at : ℕ → ℕ → Cell
at x b = record { formula = x; bit = b }

unfoldable pub field_at : List ℕ → ℕ → ℕ → ℕ
field_at b x k = get_or b (x * 8 + k) 0

abbrev pub kind_at : List ℕ → ℕ → ℕ
kind_at b x = field_at b x 0

abbrev pub first_at : List ℕ → ℕ → ℕ
first_at b x = field_at b x 1

abbrev pub second_at : List ℕ → ℕ → ℕ
second_at b x = field_at b x 2

abbrev pub third_at : List ℕ → ℕ → ℕ
third_at b x = field_at b x 3

abbrev pub clear_at : List ℕ → ℕ → Bool
clear_at b x = eqb (field_at b x 4) 1

-- ranks are below 8
abbrev pub rank_at : List ℕ → ℕ → ℕ
rank_at b x = field_at b x 5 % 8

abbrev pub opened_at : List ℕ → ℕ → Cell
opened_at b x = at (field_at b x 6) (field_at b x 7)

-- the formula of assumption a
unfoldable pub assumption_at : List ℕ → ℕ → ℕ
assumption_at b a = get_or b (2048 + a) 0

-- the receiver and the formula of message m, counted from 0
unfoldable pub receiver_at : List ℕ → ℕ → ℕ
receiver_at b m = get_or b (2112 + m * 2) 0

unfoldable pub message_at : List ℕ → ℕ → ℕ
message_at b m = get_or b (2112 + m * 2 + 1) 0

-- where the fact that formula f states is kept
unfoldable pub stated_at : List ℕ → ℕ → Cell
stated_at b f = cond (eqb (kind_at b f) 12) (opened_at b (second_at b f)) (at (second_at b f) 0)
