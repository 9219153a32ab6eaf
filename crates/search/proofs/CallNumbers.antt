-- IN A CALL of the prover the numbers given are a running order below F: from the index of a book that was read, and from what the search
-- of a goal of it says that it found. Assumes nothing.
use Prim.Native.Nat.{ℕ, ◌+◌, ◌*◌, ◌%◌, ◌<◌, ◌≤◌}
use native.Mathlib.Omega.{arith}
use mathlib.Core.Path.{◌≡◌, sym, subst, ◌∙◌}
use mathlib.Core.List.{List, []}
use lib.ListN.{length, take, replicate}
use lib.Seq.{length-take-le}
use Rattle.logic.specs.declared.Record.{Record}
use Rattle.logic.specs.declared.Counts.{Counts}
use Rattle.logic.specs.Count.{formulas, assumptions, goals, counts_of}
use Rattle.logic.specs.Refusal.{Outcome}
use Rattle.logic.specs.Refusal.Outcome.{accepted}
use Rattle.logic.specs.Reading.{reading}
use Rattle.logic.specs.Book.{All, Book}
use Rattle.logic.specs.Place as place
use Rattle.logic.specs.Step.{goal_of}
use Rattle.logic.specs.Proof.{Answer}
use Rattle.format.specs.Index.{index_size, filled, goal_in}
use Rattle.layout.proofs.FlatBook.{Laid}
use Rattle.layout.proofs.FlatBytes.{Whole}
use Rattle.lanes.specs.Numbers.{StandsIn}
use Rattle.rules.proofs.Tables.{Instanced}
use Rattle.tables.specs.Links.{linked}
use Rattle.tables.specs.Users.{users_of}
use Rattle.tables.specs.Deliveries.{listed}
use Rattle.stages.specs.Numbers.{call_numbers}
use Rattle.search.specs.Laid.{laid_flat, laid_links, laid_rows, laid_users}
use Rattle.search.specs.Found.{FoundIs}
use Rattle.search.specs.Numbers.{NumbersInOrder}
use Rattle.search.proofs.Answer.{flat_whole, rows_laid}
use Rattle.search.proofs.FoundAnswer.{present, places, is_laid_lem, of_records}
use Rattle.search.proofs.Numbers.{takes_course, numbers_ordered, numbers_kept}

module _ (x t₀ ix : List ℕ) (room₀ : index_size ≤ length t₀) (n : Counts) (rs : List Record) (read : reading x ≡ accepted rs) (book : Book rs)
    (en : n ≡ counts_of rs) (et : ix ≡ filled t₀ [] rs) (g : ℕ) (lg : g < n.goals) (size : ℕ) (es : size ≡ n.principals * (n.formulas * (3 + 2 * n.principals)))
    (asked : Record) (ea : asked ≡ goal_in ix g) where
  abbrev b : List ℕ
  b = laid_flat ix n

  abbrev laid : Laid rs (laid_flat ix n)
  laid = is_laid_lem x t₀ ix room₀ n rs read book en et g lg size es asked ea

  abbrev whole : Whole (laid_flat ix n) (length (formulas rs))
  whole = flat_whole x t₀ ix room₀ n rs read book en et

  abbrev rows : List ℕ
  rows = laid_rows ix n

  abbrev instanced : Instanced (formulas rs) (laid_flat ix n) (laid_rows ix n)
  instanced = rows_laid x t₀ ix room₀ n rs read book en et

  abbrev there : g < length (goals rs)
  there = present x t₀ ix room₀ n rs read book en et g lg size es asked ea

  module _ (log d d' : List ℕ) (o : Outcome Answer) where
    -- the claim for any sizes, message and formula
    abbrev Claim : (k p a m f : ℕ) → Type 0
    Claim k p a m f =
        (q : FoundIs b (linked b k (replicate 512 0)) rows (users_of b k (replicate 1024 0)) (listed b m) k p a f log d d' o)
        → NumbersInOrder (place.F (formulas rs)) b (linked b k (replicate 512 0)) rows (users_of b k (replicate 1024 0)) (listed b m) k a f log q.log' q.count

    -- for those of the book
    own : place.F (formulas rs) * 8 ≤ length log
        → Claim (length (formulas rs)) (place.principal_count (formulas rs)) (length (assumptions rs)) (goal_of rs g).first (goal_of rs g).second
    own long q =
        let w = takes_course rs book b laid whole rows instanced g there log d d' o q in
        let k = numbers_kept rs book b laid whole rows instanced g there log long w.0 w.1 in
        record {
          last = w.0;
          course = w.1;
          order = numbers_ordered rs book b laid whole rows instanced g there log long w.0 w.1;
          many = k.0 ∙ sym w.3;
          kept = subst (λ (l : List ℕ). All (StandsIn l) (call_numbers _ _ _ _ _ _ _ _ _ _ w.1)) (sym w.2) k.1;
        }

  -- A CALL OF `prove_goal`, with the front of the work buffer for its log
  pub call_numbered : (w d d' : List ℕ) (o : Outcome Answer) → size * 8 ≤ length w
      → (q : FoundIs (laid_flat ix n) (laid_links ix n) (laid_rows ix n) (laid_users ix n) (listed (laid_flat ix n) asked.first) n.formulas n.principals n.assumptions (asked.second % 256) (take (size * 8) w) d d' o)
      → NumbersInOrder (place.F (formulas rs)) (laid_flat ix n) (laid_links ix n) (laid_rows ix n) (laid_users ix n) (listed (laid_flat ix n) asked.first) n.formulas n.assumptions (asked.second % 256) (take (size * 8) w) q.log' q.count
  call_numbered w d d' o lw =
      let log = take (size * 8) w in
      of_records x t₀ ix room₀ n rs read book en et g lg size es asked ea
      (λ k p a m f. Claim log d d' o k p a m f → Claim log d d' o n.formulas n.principals n.assumptions asked.first (asked.second % 256))
      (λ c. c) (own log d d' o long)
    where
      long : place.F (formulas rs) * 8 ≤ length (take (size * 8) w)
      long = let e = length-take-le (size * 8) w lw in let f = places x t₀ ix room₀ n rs read book en et g lg size es asked ea in rw e (omega arith)
