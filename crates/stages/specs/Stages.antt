-- The stages of a survey: the assumptions are given and closed; then the deliveries turn by turn, each turn closed; after each stage what
-- is new is stamped. b is the book's array, `links`, `rows` and u its tables, ds the deliveries, n and p are the numbers of formulas and
-- principals.
use Rattle.std.specs.Prelude.{ℕ, zero, suc, ◌+◌, ◌/◌, ◌%◌, ◌^◌, ◌≤◌, ◌≡◌, List, [], Bool, cond, ◌&&◌, length, get_or, set, replicate, leb, ltb, eqb}
use Rattle.std.specs.Int.Count.{ones}
use Rattle.facts.specs.declared.Cell.{Cell}
use Rattle.facts.specs.declared.Instance.{Instance}
use Rattle.flat.specs.Layout.{at, first_at, assumption_at, stated_at}
use Rattle.facts.specs.Facts.{bit_at}
use Rattle.lanes.specs.Lanes.{State, state, entered}
use Rattle.stamps.specs.Stamps as stamps
use Rattle.stamps.specs.Stamps.{stamp_new}
use Rattle.rules.specs.Rules.{only_one}
use Rattle.rules.specs.Close.{Closes}

-- where nothing is held yet and the log is l
abbrev pub nothing : List ℕ → State
nothing l = state (replicate 1024 0) (replicate 4 0) l 0

-- where nothing is stamped yet: formula x has the words x, 256 + x and 512 + x
abbrev pub none_stamped : List ℕ
none_stamped = replicate 768 0

-- a given fact: step kind 64 with the number of an assumption, 65 with that of a message
abbrev pub gives : (k number : ℕ) → Cell → Instance
gives k number c = record { kind = k; first = at number 0; second = at 0 0; gives = c }

-- ASSUMPTIONS
module _ (b u : List ℕ) (k : ℕ) where
  -- assumption a is given to its principal
  unfoldable pub assumed : ℕ → State → State
  assumed a s = entered u k (only_one b (first_at b (assumption_at b a))) (gives 64 a (stated_at b (assumption_at b a))) s

  -- of the first so many those in force: a set of 64 bits
  unfoldable pub assumed_in : (force : ℕ) → ℕ → State → State
  assumed_in c zero s = s
  assumed_in c (suc a) s = cond (bit_at c a) (assumed a (assumed_in c a s)) (assumed_in c a s)

-- DELIVERIES. Each is a number: 256 times the rank of who receives it, and the formula. What is sent to a rank above 7 is lost.
abbrev pub receiver_in : List ℕ → ℕ → ℕ
receiver_in ds m = get_or ds m 0 / 256

abbrev pub formula_in : List ℕ → ℕ → ℕ
formula_in ds m = get_or ds m 0 % 256

-- the set of one rank
unfoldable pub only : ℕ → ℕ
only r = cond (ltb r 8) (2 ^ r) 0

module _ (ds u : List ℕ) (k : ℕ) where
  -- delivery m, counted from 0: message m + 1
  unfoldable pub delivered : ℕ → State → State
  delivered m s = entered u k (only (receiver_in ds m)) (gives 65 (m + 1) (at (formula_in ds m) 0)) s

  -- c of them, from m on
  unfoldable pub delivered_from : (m c : ℕ) → State → State
  delivered_from m zero s = s
  delivered_from m (suc c) s = delivered (m + c) (delivered_from m c s)

-- A TURN: deliveries that follow one another, none of them to the same principal. Who receives one has its stamp, 2 more than its number;
-- who receives none has 1, the stamp of the assumptions.
unfoldable pub stamps_from : List ℕ → (m c : ℕ) → List ℕ
stamps_from ds m zero = replicate 8 1
stamps_from ds m (suc c) = set (stamps_from ds m c) (receiver_in ds (m + c)) (m + c + 2)

-- delivery m is there, and is for someone who has received none in a turn with these stamps
unfoldable pub goes_on : (ds stamps : List ℕ) → ℕ → Bool
goes_on ds v m = ltb m (length ds) && eqb (get_or v (receiver_in ds m) 1) 1

pub data IsTurn (ds : List ℕ) (m : ℕ) : ℕ → Type 0 where
  none : IsTurn ds m 0
  more : (c : ℕ) → IsTurn ds m c → m + c + 1 ≤ length ds → get_or (stamps_from ds m c) (receiver_in ds (m + c)) 1 ≡ 1 → IsTurn ds m (suc c)

-- where a turn that begins at m in the state s stands: the next delivery, the state, and the stamps
abbrev pub Turning : (ds u : List ℕ) (m : ℕ) (s : State) (next : ℕ) (s' : State) (stamps : List ℕ) → Type 0
Turning ds u m s next s' v = (c : ℕ) × (next ≡ m + c) × IsTurn ds m c × (s' ≡ delivered_from ds u 8 m c s) × (v ≡ stamps_from ds m c)

-- what is new in the words ws is stamped, for each rank with the stamp that v has for it
abbrev pub stamped_with : (ws v : List ℕ) (n p : ℕ) (before table : List ℕ) → stamps.State
stamped_with ws v n p f t = stamp_new ws v n p (stamps.state f t 0)

-- a stage: what was given is closed, and what is new in it is stamped; z has how much
abbrev pub StageIs : (b links rows u : List ℕ) (given s : State) (v : List ℕ) (n p : ℕ) (f t : List ℕ) (z : stamps.State) → Type 0
StageIs b links rows u given s v n p f t z =
    Closes b links rows u 8 given s × (z ≡ stamped_with s.words v n p f t) × (z.stamps.count ≤ 65536) × (length s.words ≡ 1024) × (length s.pending ≡ 4)

-- the stage of a turn of c deliveries from m on; the next begins at `next`
abbrev pub TurnIs : (b links rows u ds : List ℕ) (s s' : State) (m next n p : ℕ) (f t : List ℕ) (z : stamps.State) → Type 0
TurnIs b links rows u ds s s' m next n p f t z =
    (c : ℕ) × (next ≡ m + c) × IsTurn ds m c × StageIs b links rows u (delivered_from ds u 8 m c s) s' (stamps_from ds m c) n p f t z

-- After m deliveries the state is s, the words stamped last are f, the table, at first t₀, is t, and so many bytes were written.
pub data Staged (b links rows u ds : List ℕ) (n p force a : ℕ) (t₀ : List ℕ) : (m : ℕ) (s : State) (f t : List ℕ) (held : ℕ) → Type 0 where
  begun : (s : State) (z : stamps.State) → Closes b links rows u 8 (assumed_in b u 8 force a (nothing [])) s
      → z ≡ stamped_with s.words (replicate 8 1) n p none_stamped t₀
      → Staged b links rows u ds n p force a t₀ 0 s z.before z.stamps.bytes z.stamps.count
  turn : (m c next : ℕ) (s s' : State) (f t : List ℕ) (held : ℕ) (z : stamps.State) → Staged b links rows u ds n p force a t₀ m s f t held
      → next ≡ m + c → IsTurn ds m c → Closes b links rows u 8 (delivered_from ds u 8 m c s) s' → z ≡ stamped_with s'.words (stamps_from ds m c) n p f t
      → Staged b links rows u ds n p force a t₀ next s' z.before z.stamps.bytes (held + z.stamps.count)

-- after all deliveries
abbrev pub StagesEnd : (b links rows u ds : List ℕ) (n p force a : ℕ) (t t' : List ℕ) (held : ℕ) → Type 0
StagesEnd b links rows u ds n p force a t t' held = (s : State) × ((f : List ℕ) × Staged b links rows u ds n p force a t (length ds) s f t' held)

-- the whole, where there are no more assumptions than a book has, and no more deliveries than stamps; else nothing is done
abbrev pub Surveys : (b links rows u ds : List ℕ) (n p force a : ℕ) (t t' : List ℕ) (held : ℕ) → Type 0
Surveys b links rows u ds n p force a t t' held =
    cond (leb a 64 && leb (length ds) 254) (StagesEnd b links rows u ds n p force a t t' held) ((t' ≡ t) × (held ≡ 0))

-- FOR THE PROVER: all is given at once, and closed once.

-- the facts that are held of the first n formulas, by all principals: the bits that are set
unfoldable pub held_in : List ℕ → ℕ → ℕ
held_in ws zero = 0
held_in ws (suc x) = held_in ws x + (ones (get_or ws x 0) + (ones (get_or ws (256 + x) 0) + ones (get_or ws (512 + x) 0)))

-- where the assumptions in force and all deliveries are given, and the log is l
abbrev pub given_all : (b u ds : List ℕ) (k force a : ℕ) (l : List ℕ) → State
given_all b u ds k force a l = delivered_from ds u k 0 (length ds) (assumed_in b u k force a (nothing l))

-- then the log is l' with so many entries, and so many facts are held of n formulas
abbrev pub FindsAll : (b links rows u ds : List ℕ) (k n force a : ℕ) (l l' : List ℕ) (count held : ℕ) → Type 0
FindsAll b links rows u ds k n force a l l' count held =
    (s : State) × (Closes b links rows u k (given_all b u ds k force a l) s × ((l' ≡ s.log) × ((count ≡ s.count) × (held ≡ held_in s.words n))))

-- where there are no more formulas and assumptions than a book has, and no more deliveries than can be numbered; else nothing is done
abbrev pub Finds : (b links rows u ds : List ℕ) (k n force a : ℕ) (l l' : List ℕ) (count held : ℕ) → Type 0
Finds b links rows u ds k n force a l l' count held =
    cond (leb n 256 && (leb a 64 && leb (length ds) 254)) (FindsAll b links rows u ds k n force a l l' count held) ((l' ≡ l) × ((count ≡ 0) × (held ≡ 0)))
