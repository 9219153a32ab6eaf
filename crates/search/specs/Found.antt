-- How the prover works over the flat array b of a book, with the tables `links`, `rows` and u: the book has n formula records, p principals and
-- a assumptions, ds are the deliveries up to the goal's message, and the goal's formula is f. That this is what demand 3 asks for is proved in
-- proofs/FoundPromise.antt; no promise to a caller mentions it.
use Rattle.std.specs.Prelude.{ℕ, ◌%◌, ◌≡◌, List, replicate}
use Rattle.logic.specs.declared.Record.{Record}
use Rattle.logic.specs.declared.Counts.{Counts}
use Rattle.logic.specs.Refusal.{Outcome}
use Rattle.logic.specs.Refusal.Outcome.{accepted}
use Rattle.logic.specs.Proof.{Answer}
use Rattle.flat.specs.Layout.{first_at, rank_at, stated_at}
use Rattle.tables.specs.Links.{linked}
use Rattle.tables.specs.Users.{users_of}
use Rattle.tables.specs.Deliveries.{listed}
use Rattle.derive.specs.Steps.{table_size, derivation, Writes}
use Rattle.stages.specs.Stages.{Finds}
use Rattle.search.specs.Laid.{every_assumption}
use Rattle.search.specs.Answers.{names_of, answer_of}

-- what all principals hold is found, with the log of the goal's own principal, and the derivation is taken from that log
pub record FoundIs (b links rows u ds : List ℕ) (n p a f : ℕ) (log d d' : List ℕ) (o : Outcome Answer) : Type 0 where
  pub log' : List ℕ
  pub count : ℕ
  pub held : ℕ
  pub steps : ℕ
  pub bytes : ℕ
  pub finds : Finds b links rows u ds (rank_at b (first_at b f)) n every_assumption a log log' count held
  pub writes : Writes (derivation (table_size n p) p (names_of b n) (first_at b f) (stated_at b f) log' count) d d' steps bytes
  pub answers : o ≡ accepted (answer_of steps bytes held)

-- the same for a goal record of a book that is laid out
abbrev pub LaidFoundIs : (b rows : List ℕ) (n : Counts) (goal : Record) (log d d' : List ℕ) (o : Outcome Answer) → Type 0
LaidFoundIs b rows n goal log d d' o =
    FoundIs b (linked b n.formulas (replicate 512 0)) rows (users_of b n.formulas (replicate 1024 0)) (listed b goal.first) n.formulas n.principals n.assumptions (goal.second % 256) log d d' o
