-- THE NUMBERS GIVEN in a call of the prover: in the order given, each with the written fact that it is given to. Document 02, wish 3. b is the
-- flat array of the book, with the tables `links`, `rows` and u; the book has n formula records and a assumptions; ds are the deliveries up to the
-- goal's message, and the goal's formula is f. Numbered are the facts of the goal's own principal.
use Rattle.std.specs.Prelude.{ℕ, ◌≡◌, List, length}
use Rattle.logic.specs.Book.{All}
use Rattle.logic.specs.Fact.{Fact}
use Rattle.flat.specs.Layout.{first_at, rank_at}
use Rattle.lanes.specs.Lanes.{State}
use Rattle.lanes.specs.Numbers.{Numbered, StandsIn, RunningOrder, told_by}
use Rattle.rules.specs.Close.{Closes}
use Rattle.stages.specs.Stages.{given_all}
use Rattle.stages.specs.Numbers.{call_numbers}
use Rattle.derive.specs.Steps.{cell_fact}
use Rattle.search.specs.Laid.{every_assumption}
use Rattle.search.specs.Answers.{names_of}

-- the courses that a call can take, with the log `log`, to a state s: `FoundIs` says that it takes one
abbrev pub Course : (b links rows u ds : List ℕ) (a f : ℕ) (log : List ℕ) (s : State) → Type 0
Course b links rows u ds a f log s = Closes b links rows u (rank_at b (first_at b f)) (given_all b u ds (rank_at b (first_at b f)) every_assumption a log) s

abbrev pub numbers_given : (b links rows u ds : List ℕ) (n a f : ℕ) (log : List ℕ) (s : State) → Course b links rows u ds a f log s → List (Numbered (Fact ℕ))
numbers_given b links rows u ds n a f log s c =
    told_by (cell_fact (names_of b n) (first_at b f)) (call_numbers b links rows u (rank_at b (first_at b f)) ds every_assumption a log s c)

-- WHAT IS ASKED OF A CALL that began with the log `log` and left the log `left` with so many entries: it took a course; the numbers given on
-- it are a running order below N, as many as there are entries; and each is the place where its fact stands in the log.
pub record NumbersInOrder (N : ℕ) (b links rows u ds : List ℕ) (n a f : ℕ) (log left : List ℕ) (entries : ℕ) : Type 0 where
  pub last : State
  pub course : Course b links rows u ds a f log last
  pub order : RunningOrder N (numbers_given b links rows u ds n a f log last course)
  pub many : length (numbers_given b links rows u ds n a f log last course) ≡ entries
  pub kept : All (StandsIn left) (call_numbers b links rows u (rank_at b (first_at b f)) ds every_assumption a log last course)
