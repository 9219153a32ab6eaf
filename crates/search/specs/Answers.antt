-- The principals of the flat array b of a book by rank, and the prover's answer by the number of steps. For our own functions; no promise
-- to a caller mentions it.
use Rattle.std.specs.Prelude.{ℕ, zero, suc, List, cond, set, replicate, eqb}
use Rattle.logic.specs.Proof.{Answer}
use Rattle.logic.specs.Proof.Answer.{reached, not_reached}
use Rattle.flat.specs.Layout.{kind_at, rank_at}

-- the formula numbers of the principals by rank, from the first x records
unfoldable pub names_upto : List ℕ → ℕ → List ℕ → List ℕ
names_upto b zero l = l
names_upto b (suc x) l = cond (eqb (kind_at b x) 1) (set (names_upto b x l) (rank_at b x) x) (names_upto b x l)

abbrev pub names_of : List ℕ → ℕ → List ℕ
names_of b n = names_upto b n (replicate 8 0)

-- No step is written just where the goal's fact was not found.
abbrev pub answer_of : (steps bytes held : ℕ) → Answer
answer_of k l h = cond (eqb k 0) (not_reached h) (reached k l h)
