-- The pairs of the report by the index of a book and the table of its survey. For our own functions; that these are the report of the book is
-- proved in proofs/ and in the crate `honesty`. fs are the formula records, t is the table.
use Rattle.std.specs.Prelude.{ℕ, zero, suc, ◌<◌, ◌≡◌, List, [], ◌∷◌, ◌++◌, Bool, cond, not, ◌&&◌, get_or, replicate, eqb, ltb}
use Rattle.logic.specs.declared.Record.{Record}
use Rattle.logic.specs.Formula.{record_of}
use Rattle.logic.specs.Place.{rank}
use Rattle.logic.specs.Honesty.{is_to_be_believed, is_before, belief_byte, Pair, pair}
use Rattle.format.specs.Index.{look_in, message_in}
use Rattle.written.specs.Stated.{records_in}
use Rattle.walks.specs.Walk.{mark_of, walk_from}

-- the ranks of the first f formulas
abbrev pub Ranked : List Record → ℕ → List ℕ → Type 0
Ranked fs f ranks = (x : ℕ) → x < f → get_or ranks x 0 ≡ rank fs x

-- whether formula x is named for message m from the principal p, by the marks of its walk
unfoldable pub is_named : (fs : List Record) (t marks : List ℕ) (m p x : ℕ) → Bool
is_named fs t marks m p x =
    not (eqb (get_or marks (mark_of x 1) 0) 0)
    && (is_to_be_believed (record_of fs x).kind && not (is_before m (belief_byte fs t p x)))

-- the pairs of message m and those of the first n formulas that are named
unfoldable pub named_below : (named : ℕ → Bool) (m n : ℕ) → List Pair
named_below named m zero = []
named_below named m (suc x) = named_below named m x ++ cond (named x) (pair m x ∷ []) []

-- the pairs of message m, whose record is r, among the first n formulas
unfoldable pub of_message : (look : ℕ → Record) (fs : List Record) (t : List ℕ) (n m : ℕ) → Record → List Pair
of_message look fs t n m r = named_below (is_named fs t (walk_from look r.first r.third (replicate 512 0)) m r.first) m n

-- the pairs of the messages 1 to k
unfoldable pub pairs_upto : (look : ℕ → Record) (fs : List Record) (t : List ℕ) (n : ℕ) (message : ℕ → Record) (k : ℕ) → List Pair
pairs_upto look fs t n message zero = []
pairs_upto look fs t n message (suc k) = pairs_upto look fs t n message k ++ of_message look fs t n (suc k) (message (suc k))

-- those of an index with f formulas and k messages
unfoldable pub pairs_in : (index : List ℕ) (f k : ℕ) (t : List ℕ) → List Pair
pairs_in index f k t = cond (ltb 256 f) [] (pairs_upto (look_in f index) (records_in f index) t f (message_in index) k)
