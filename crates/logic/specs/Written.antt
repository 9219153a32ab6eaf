-- Facts as they are written: seven bytes. Document 01, "Facts". P, Q and X are formula numbers, as every reference is.
use Rattle.std.specs.Prelude.{ℕ, ◌/◌, ◌%◌, List, [], ◌∷◌, Bool, cond, not, ◌&&◌, ◌||◌, length, get_or, leb, eqb}
use Rattle.logic.specs.declared.Record.{Record}
use Rattle.logic.specs.Kind.{is_formula}
use Rattle.logic.specs.Record.{word}
use Rattle.logic.specs.Formula.{Tree, is_closed, record_of, name_of, tree_of}
use Rattle.logic.specs.Fact.{Fact}
use Rattle.logic.specs.Fact.Fact.{Sees, Believes, BelievesFresh, BelievesSaid, BelievesBelieves}

-- the fact over trees that a fact over formula numbers means; fs are the formula records of the book
abbrev pub meaning : List Record → Fact ℕ → Fact Tree
meaning fs (Sees p x) = Sees (name_of fs p) (tree_of fs x)
meaning fs (Believes p x) = Believes (name_of fs p) (tree_of fs x)
meaning fs (BelievesFresh p x) = BelievesFresh (name_of fs p) (tree_of fs x)
meaning fs (BelievesSaid p q x) = BelievesSaid (name_of fs p) (name_of fs q) (tree_of fs x)
meaning fs (BelievesBelieves p q x) = BelievesBelieves (name_of fs p) (name_of fs q) (tree_of fs x)

abbrev pub is_principal : List Record → ℕ → Bool
is_principal fs x = eqb (record_of fs x).kind 1

-- X of a fact: a formula of kinds 3 to 15 or 17 with no variable outside kind 17
abbrev pub is_sentence : List Record → ℕ → Bool
is_sentence fs x = is_formula (record_of fs x).kind && is_closed (tree_of fs x)

-- the kinds a belief in which is opened: fresh, said, believes
abbrev pub is_opening : ℕ → Bool
is_opening k = eqb k 11 || (eqb k 14 || eqb k 12)

-- the belief of p in formula x: in a formula of one of these kinds it is opened into mode 3, 4 or 5
unfoldable pub opened : List Record → (p x : ℕ) → Fact ℕ
opened fs p x =
    cond (eqb (record_of fs x).kind 11) (BelievesFresh p (record_of fs x).first)
    (cond (eqb (record_of fs x).kind 14) (BelievesSaid p (record_of fs x).first (record_of fs x).second)
    (cond (eqb (record_of fs x).kind 12) (BelievesBelieves p (record_of fs x).first (record_of fs x).second)
    (Believes p x)))

-- the fact that a formula record of kind 12 or 13 states
abbrev pub stated_on : List Record → Record → Fact ℕ
stated_on fs r = cond (eqb r.kind 12) (opened fs r.first r.second) (Sees r.first r.second)

-- the fact that the goal record r asks for
unfoldable pub goal_fact_on : List Record → Record → Fact ℕ
goal_fact_on fs r = stated_on fs (record_of fs r.second)

-- whether a fact over formula numbers may be written: P, and Q in modes 4 and 5, is a principal, X is of kind 3 to 15 or 17 without loose
-- variables, and no belief stands unopened
abbrev pub is_written : List Record → Fact ℕ → Bool
is_written fs (Sees p x) = is_principal fs p && is_sentence fs x
is_written fs (Believes p x) = is_principal fs p && (is_sentence fs x && not (is_opening (record_of fs x).kind))
is_written fs (BelievesFresh p x) = is_principal fs p && is_sentence fs x
is_written fs (BelievesSaid p q x) = is_principal fs p && (is_principal fs q && is_sentence fs x)
is_written fs (BelievesBelieves p q x) = is_principal fs p && (is_principal fs q && is_sentence fs x)

-- the mode byte, P, Q, X; numbers are two bytes, high byte first
abbrev pub seven_bytes : (mode p q x : ℕ) → List ℕ
seven_bytes mode p q x = mode ∷ p / 256 ∷ p % 256 ∷ q / 256 ∷ q % 256 ∷ x / 256 ∷ x % 256 ∷ []

-- a fact, written: Q is 0 in modes 1 to 3
abbrev pub fact_bytes : Fact ℕ → List ℕ
fact_bytes (Sees p x) = seven_bytes 1 p 0 x
fact_bytes (Believes p x) = seven_bytes 2 p 0 x
fact_bytes (BelievesFresh p x) = seven_bytes 3 p 0 x
fact_bytes (BelievesSaid p q x) = seven_bytes 4 p q x
fact_bytes (BelievesBelieves p q x) = seven_bytes 5 p q x

-- the fact that seven bytes with a mode from 1 to 5 are
unfoldable pub fact_in : List ℕ → Fact ℕ
fact_in s =
    cond (eqb (get_or s 0 0) 1) (Sees (word s 1) (word s 5))
    (cond (eqb (get_or s 0 0) 2) (Believes (word s 1) (word s 5))
    (cond (eqb (get_or s 0 0) 3) (BelievesFresh (word s 1) (word s 5))
    (cond (eqb (get_or s 0 0) 4) (BelievesSaid (word s 1) (word s 3) (word s 5))
    (BelievesBelieves (word s 1) (word s 3) (word s 5)))))

-- malformed: not seven bytes, the mode not 1 to 5, Q not 0 in modes 1 to 3, or a fact that may not be written
unfoldable pub is_malformed : List Record → List ℕ → Bool
is_malformed fs s =
    not (eqb (length s) 7)
    || (not (leb 1 (get_or s 0 0) && leb (get_or s 0 0) 5)
    || (leb (get_or s 0 0) 3 && not (eqb (word s 3) 0)
    || not (is_written fs (fact_in s))))
