-- Which facts may be written and which are malformed, by a look into the index of a book: `look x` is formula x, and `is_open x` says whether
-- it has a variable outside kind 17.
use Rattle.std.specs.Prelude.{ℕ, ◌<◌, ◌≡◌, Option, None, Some, List, map, Bool, cond, not, ◌&&◌, ◌||◌, length, get_or, take, leb, ltb, eqb}
use Rattle.logic.specs.declared.Record.{Record}
use Rattle.logic.specs.declared.Cause.{Cause}
use Rattle.logic.specs.Kind.{is_formula}
use Rattle.logic.specs.Record.{word}
use Rattle.logic.specs.Formula.{is_closed, tree_of}
use Rattle.logic.specs.Refusal.{number_of}
use Rattle.logic.specs.Written.{is_opening}
use Rattle.logic.specs.Step.{numbers_in, step_size, step_at}
use Rattle.format.specs.Index.{unpacked}
use Rattle.format.specs.Variables.{loose_in}
use Rattle.written.specs.declared.Numbers.{Numbers}

-- the formula records that the first f numbers of an index are
unfoldable pub records_in : ℕ → List ℕ → List Record
records_in f t = map unpacked (take f t)

-- the index says of each formula whether it has a variable outside kind 17
abbrev pub Noted : ℕ → List ℕ → Type 0
Noted f t = (x : ℕ) → x < length (records_in f t) → loose_in t x ≡ not (is_closed (tree_of (records_in f t) x))

-- A fact in a mode about formula numbers p, q and x.

-- whether a formula of kind k may stand in a fact of this mode
abbrev pub may_state : ℕ → ℕ → Bool
may_state mode k = is_formula k && (not (eqb mode 2) || not (is_opening k))

-- whether it may be written
unfoldable pub is_stated : (look : ℕ → Record) (is_open : ℕ → Bool) → (mode p q x : ℕ) → Bool
is_stated look is_open mode p q x =
    eqb (look p).kind 1 && ((leb mode 3 || eqb (look q).kind 1) && (not (is_open x) && may_state mode (look x).kind))

-- whether its seven bytes are malformed
unfoldable pub is_wrong : (look : ℕ → Record) (is_open : ℕ → Bool) → (mode p q x : ℕ) → Bool
is_wrong look is_open mode p q x =
    not (leb 1 mode && leb mode 5) || ((leb mode 3 && not (eqb q 0)) || not (is_stated look is_open mode p q x))

-- the numbers in the bytes of a fact
abbrev pub numbers_of : List ℕ → Numbers
numbers_of s = record { mode = get_or s 0 0; p = word s 1; q = word s 3; x = word s 5 }

-- whether the bytes s of a fact are malformed
unfoldable pub is_malformed_by : (look : ℕ → Record) (is_open : ℕ → Bool) → List ℕ → Bool
is_malformed_by look is_open s = not (eqb (length s) 7) || is_wrong look is_open (get_or s 0 0) (word s 1) (word s 3) (word s 5)

-- why the step at the front of s cannot be printed: 16 where its kind is unknown or it is cut, 17 where its fact is malformed; else 0
unfoldable pub unreadable_by : (look : ℕ → Record) (is_open : ℕ → Bool) → List ℕ → ℕ
unreadable_by look is_open s =
    cond (eqb (numbers_in (get_or s 0 0)) 0 || ltb (length s) (step_size (get_or s 0 0))) 16
    (cond (is_malformed_by look is_open (step_at s).fact) 17 0)

-- why it cannot be printed as the code says it, in these numbers
abbrev pub told_cause : Option Cause → ℕ
told_cause None = 0
told_cause (Some c) = number_of c
