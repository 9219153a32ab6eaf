-- Chains of numbers: those of a table with the same hash, each linked to the one before. A search for a number goes along the chain of its
-- hash, and so past few others.
use Rattle.std.specs.Prelude.{ℕ, Option, Some, None, zero, suc, ◌+◌, ◌-◌, ◌*◌, ◌/◌, ◌%◌, ◌<◌, ◌≤◌, ◌≡◌, List, Bool, false, cond, ◌||◌, length, get_or, set, eqb, ltb, leb}

-- The chain of a packed record: its kind and first field times one number and its other fields times another, so that records that follow
-- one another, with fields that do, are spread over the 256 chains.
unfoldable pub hash_of : ℕ → ℕ
hash_of x = (x / 4294967296 * 40503 + x % 4294967296 * 34283) / 65536 % 256

-- the last of the first n numbers with hash h, counted from 1, or 0 where there is none
unfoldable pub last_before : List ℕ → ℕ → ℕ → ℕ
last_before t h zero = 0
last_before t h (suc n) = cond (eqb (hash_of (get_or t n 0)) h) (suc n) (last_before t h n)

-- the last of the first n numbers that is x, counted from 1, or 0 where there is none
unfoldable pub found_in : List ℕ → ℕ → ℕ → ℕ
found_in t x zero = 0
found_in t x (suc n) = cond (eqb x (get_or t n 0)) (suc n) (found_in t x n)

-- x is one of the first n numbers
unfoldable pub is_before : List ℕ → ℕ → ℕ → Bool
is_before t x zero = false
is_before t x (suc n) = eqb x (get_or t n 0) || is_before t x n

-- ALONG A CHAIN, whatever its links are. Numbers are counted from 1, and 0 is behind the end.

-- where the chain goes on behind its number c: it ends where it is linked to nothing or not downwards
unfoldable pub link_behind : List ℕ → ℕ → ℕ
link_behind next c = cond (ltb 256 c) 0 (cond (ltb (get_or next (c - 1) 0) c) (get_or next (c - 1) 0) 0)

-- the first of at most k numbers of the chain, from c on, that is x; 0 where none is, and where the chain leaves the table
unfoldable pub found_along : (t next : List ℕ) (x : ℕ) → (k c : ℕ) → ℕ
found_along t next x zero c = 0
found_along t next x (suc k) c =
    cond (eqb c 0 || leb (length t) (c - 1)) 0
    (cond (eqb (get_or t (c - 1) 0) x) c
    (found_along t next x k (link_behind next c)))

-- the first of all: from c on a chain that leads down has at most c numbers
abbrev pub found_from : (t next : List ℕ) (x c : ℕ) → ℕ
found_from t next x c = found_along t next x c c

-- the place of what was found, counted from 0, or nothing
abbrev pub place_told : ℕ → Option ℕ
place_told zero = None
place_told (suc i) = Some i

-- THE CHAINS OF A TABLE

-- each of the first n numbers is linked to the last one before it with its hash
abbrev pub Linked : List ℕ → List ℕ → ℕ → Type 0
Linked t next n = (i : ℕ) → i < n → get_or next i 0 ≡ last_before t (hash_of (get_or t i 0)) i

-- each chain begins at the last of the first n numbers with its hash
abbrev pub Heads : List ℕ → List ℕ → ℕ → Type 0
Heads t heads n = (h : ℕ) → h < 256 → get_or heads h 0 ≡ last_before t h n

-- both: then a search along the chain of x finds the last of the first n numbers that is x
abbrev pub Ready : List ℕ → (heads next : List ℕ) → ℕ → Type 0
Ready t heads next n = (n ≤ 256) × (256 ≤ length t) × Heads t heads n × Linked t next n

-- there are no n numbers to be entered
unfoldable pub is_outside : List ℕ → ℕ → Bool
is_outside t n = ltb 256 n || ltb (length t) n

-- the chains of the first n numbers, entered one after the other
unfoldable pub heads_upto : List ℕ → ℕ → List ℕ → List ℕ
heads_upto t zero heads = heads
heads_upto t (suc i) heads = set (heads_upto t i heads) (hash_of (get_or t i 0)) (suc i)

unfoldable pub next_upto : List ℕ → ℕ → (heads next : List ℕ) → List ℕ
next_upto t zero heads next = next
next_upto t (suc i) heads next = set (next_upto t i heads next) i (get_or (heads_upto t i heads) (hash_of (get_or t i 0)) 0)
