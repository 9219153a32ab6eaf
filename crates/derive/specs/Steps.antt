-- The derivation of a fact, taken from a log. Lists of instances have the newest first, p is the number of principals, `names` are
-- the formula numbers of the principals by rank, P is that of the principal whose log it is, `size` is the number of places of the tables.
use Rattle.std.specs.Prelude.{ℕ, ◌+◌, ◌*◌, ◌-◌, ◌≡◌, List, [], ◌∷◌, ◌++◌, Bool, cond, length, get_or, set, take, replicate, eqb, ltb, leb}
use Rattle.std.proofs.lemmas.List.Edits.{sets}
use Rattle.logic.specs.Fact.{Fact}
use Rattle.logic.specs.Fact.Fact.{Sees, Believes, BelievesFresh, BelievesSaid, BelievesBelieves}
use Rattle.logic.specs.Written.{fact_bytes}
use Rattle.logic.specs.Step.{Step, numbers_in}
use Rattle.logic.proofs.Steps.{step_bytes, derivation_bytes}
use Rattle.facts.specs.declared.Cell.{Cell}
use Rattle.facts.specs.declared.Instance.{Instance}
use Rattle.facts.specs.Facts.{is_given}
use Rattle.facts.specs.Block.{place_in}
use Rattle.derive.specs.Log.{instances}

-- how many places the tables have: those of a block of n formulas with p principals fit, for at most 256 formulas with 3 + 2 × 8 places to
-- each. A small book gets small tables, since they are cleared in each proof.
unfoldable pub table_size : (n p : ℕ) → ℕ
table_size n p = cond (leb (n * (3 + 2 * p)) 512) 512 4864

-- a table with so many places, as it is at first
abbrev pub blank : ℕ → List ℕ
blank size = replicate size 0

-- WHICH ENTRIES. A table says which facts are wanted.

-- the premises of an instance: none of a given fact, otherwise one or two, by the rule
unfoldable pub premises_for : Instance → List Cell
premises_for i = cond (is_given i.kind) [] (take (numbers_in i.kind) (i.first ∷ i.second ∷ []))

unfoldable pub wants : ℕ → List ℕ → Cell → Bool
wants p w q = eqb (get_or w (place_in p q) 0) 1

unfoldable pub want_all : ℕ → List ℕ → List Cell → List ℕ
want_all p w [] = w
want_all p w (q ∷ l) = want_all p (set w (place_in p q) 1) l

-- where what an entry found is wanted, so are its premises
unfoldable pub wanted_by : ℕ → List ℕ → Instance → List ℕ
wanted_by p w i = cond (wants p w i.gives) (want_all p w (premises_for i)) w

-- backwards, from the newest entry to the oldest
unfoldable pub wanted : ℕ → List ℕ → List Instance → List ℕ
wanted p w [] = w
wanted p w (i ∷ l) = wanted p (wanted_by p w i) l

-- the entries whose facts are wanted
unfoldable pub kept : ℕ → List ℕ → List Instance → List Instance
kept p w [] = []
kept p w (i ∷ l) = cond (wants p w i.gives) (i ∷ kept p w l) (kept p w l)

-- those that the goal needs
unfoldable pub needed : (size p : ℕ) → Cell → List Instance → List Instance
needed size p goal l = kept p (wanted p (set (blank size) (place_in p goal) 1) l) l

-- THE STEPS. A second table holds the step number of each fact that is written: the number of entries before it.

unfoldable pub numbers_of : (size p : ℕ) → List Instance → List ℕ
numbers_of size p [] = blank size
numbers_of size p (i ∷ l) = set (numbers_of size p l) (place_in p i.gives) (length l)

unfoldable pub step_number : ℕ → List ℕ → Cell → ℕ
step_number p ns q = get_or ns (place_in p q) 0

-- the fact of a place over formula numbers. Bits 0 to 2: sees, believes, believes fresh; from 3 on what principals said, from 11 on
-- what they believe, by rank
unfoldable pub cell_fact : List ℕ → ℕ → Cell → Fact ℕ
cell_fact names P q =
    cond (eqb q.bit 0) (Sees P q.formula)
    (cond (eqb q.bit 1) (Believes P q.formula)
    (cond (eqb q.bit 2) (BelievesFresh P q.formula)
    (cond (ltb q.bit 11) (BelievesSaid P (get_or names (q.bit - 3) 0) q.formula)
    (BelievesBelieves P (get_or names (q.bit - 11) 0) q.formula))))

-- the first number of a step: that of the assumption or message, otherwise that of the first premise's step
unfoldable pub first_number : ℕ → List ℕ → Instance → ℕ
first_number p ns i = cond (is_given i.kind) i.first.formula (step_number p ns i.first)

-- the step of an entry, with its numbers
abbrev pub step_with : List ℕ → ℕ → Instance → (first second : ℕ) → Step
step_with names P i a b =
    record { kind = i.kind; fact = fact_bytes (cell_fact names P i.gives); numbers = take (numbers_in i.kind) (a ∷ b ∷ []) }

-- the same behind steps with the numbers ns
unfoldable pub step_of : ℕ → List ℕ → ℕ → List ℕ → Instance → Step
step_of p names P ns i = step_with names P i (first_number p ns i) (step_number p ns i.second)

-- the steps of some entries, the oldest first
unfoldable pub steps_of : (size p : ℕ) → List ℕ → ℕ → List Instance → List Step
steps_of size p names P [] = []
steps_of size p names P (i ∷ l) = steps_of size p names P l ++ (step_of p names P (numbers_of size p l) i ∷ [])

-- the derivation of the goal's fact from a log of `count` entries, by tables of `size` places
unfoldable pub derivation : (size p : ℕ) → List ℕ → ℕ → Cell → List ℕ → ℕ → List Step
derivation size p names P goal log count = steps_of size p names P (needed size p goal (instances log count))

-- these steps are written to the front of the buffer o, which is then o': so many steps, so many bytes
pub record Writes (qs : List Step) (o o' : List ℕ) (steps bytes : ℕ) : Type 0 where
  pub front : o' ≡ sets o 0 (derivation_bytes qs)
  pub count : steps ≡ length qs
  pub size : bytes ≡ length (derivation_bytes qs)

-- WRITING. The buffer, the table of step numbers, and how many steps and bytes are written.
pub record Writing : Type 0 where
  pub out : List ℕ
  pub numbers : List ℕ
  pub steps : ℕ
  pub bytes : ℕ

abbrev pub writing : List ℕ → List ℕ → (steps bytes : ℕ) → Writing
writing o ns k l = record { out = o; numbers = ns; steps = k; bytes = l }

-- an entry whose fact is wanted is written as the next step
unfoldable pub entry_written : ℕ → List ℕ → ℕ → List ℕ → Writing → Instance → Writing
entry_written p names P w s i =
    cond (wants p w i.gives)
    (writing (sets s.out s.bytes (step_bytes (step_of p names P s.numbers i))) (set s.numbers (place_in p i.gives) s.steps)
    (s.steps + 1) (s.bytes + length (step_bytes (step_of p names P s.numbers i))))
    s

-- the mode byte of a fact with this bit, and Q, or 0
unfoldable pub mode_byte : ℕ → ℕ
mode_byte b = cond (ltb b 3) (b + 1) (cond (ltb b 11) 4 5)

unfoldable pub other_in : List ℕ → ℕ → ℕ
other_in names b = cond (ltb b 3) 0 (cond (ltb b 11) (get_or names (b - 3) 0) (get_or names (b - 11) 0))
