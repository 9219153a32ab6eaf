-- The prover's answer from the tables that are laid out of the index: what FoundAnswer takes is had. Assumes nothing.
use Prim.Native.Nat.{ℕ, ◌+◌, ◌*◌, ◌%◌, ◌<◌, ◌≤◌}
use mathlib.Core.Path.{◌≡◌, sym, ap, subst}
use mathlib.Core.List.{List, [], ◌++◌, map}
use lib.ListN.{length, take, drop, length-map, replicate}
use Rattle.logic.specs.declared.Record.{Record}
use Rattle.logic.specs.declared.Counts.{Counts}
use Rattle.logic.specs.Count.{formulas, assumptions, messages, goals, counts_of}
use Rattle.logic.specs.Refusal.{Outcome}
use Rattle.logic.specs.Refusal.Outcome.{accepted}
use Rattle.logic.specs.Reading.{reading}
use Rattle.logic.specs.Book.{Book}
use Rattle.logic.specs.Place as place
use Rattle.logic.specs.Step.{goal_of}
use Rattle.logic.specs.Proof.{Answer, Proved}
use Rattle.format.specs.Index.{index_size, filled, goal_in}
use Rattle.logic.proofs.Contents.{contents}
use Rattle.logic.proofs.Initial.{assumed_on, delivered_on}
use Rattle.layout.proofs.FlatBook.{Laid}
use Rattle.layout.proofs.FlatBytes.{Whole}
use Rattle.lanes.specs.Lanes.{State}
use Rattle.stamps.proofs.Places.{Inside}
use Rattle.rules.specs.Close.{Closes}
use Rattle.rules.proofs.Tables.{Instanced}
use Rattle.tables.specs.Links.{linked}
use Rattle.tables.specs.Users.{users_of}
use Rattle.tables.specs.Deliveries.{listed}
use Rattle.search.specs.Laid.{laid_flat, laid_links, laid_rows, laid_users}
use Rattle.search.proofs.BookGiven.{given_to}
use Rattle.search.specs.Found.{FoundIs}
use Rattle.search.proofs.FlatRepresents.{ranking, represented}
use Rattle.search.proofs.Starts.{starts}
use Rattle.search.proofs.BookTables.{links, users, chains_linked, links_below, tables_laid}
use Rattle.search.proofs.StageState.{found_inside}
use Rattle.search.proofs.Answer.{flat_whole, rows_laid}
use Rattle.search.proofs.Agreement.{one_survey}
use Rattle.search.proofs.GoalFact.{in_time}
use Rattle.search.proofs.FoundAnswer.{present, is_laid_lem, found_goal}

module _ (rs : List Record) (book : Book rs) (b : List ℕ) (laid : Laid rs b) (whole : Whole b (length (formulas rs)))
    (rows : List ℕ) (instanced : Instanced (formulas rs) b rows) where
  inside : (k m : ℕ) → m ≤ length (messages rs) → (l : List ℕ) (s : State)
      → Closes b (links rs book b laid whole) rows (users rs book b laid whole rows instanced) k
      (given_to b (users rs book b laid whole rows instanced) k (length (assumptions rs)) m l) s
      → Inside s.words (length (formulas rs)) (place.principal_count (formulas rs))
  unfolding ranking
  inside k m h l s c =
      found_inside (formulas rs) (contents rs book).formulas_ok (ranking rs book) b (represented rs book b laid) (links rs book b laid whole) rows
      (links_below rs book b laid whole) (chains_linked rs book b laid whole) instanced (users rs book b laid whole rows instanced) (tables_laid rs book b laid whole rows instanced) k
      (map (assumed_on (formulas rs)) (assumptions rs)) (map delivered_on (messages rs)) (starts rs book b laid) l m (rw length-map h) s
      (subst (λ (a : ℕ). Closes b (links rs book b laid whole) rows (users rs book b laid whole rows instanced) k
      (given_to b (users rs book b laid whole rows instanced) k a m l) s)
      (sym (length-map (assumptions rs) (assumed_on (formulas rs)))) c)

module _ (x t₀ ix : List ℕ) (room₀ : index_size ≤ length t₀) (n : Counts) (rs : List Record) (read : reading x ≡ accepted rs) (book : Book rs)
    (en : n ≡ counts_of rs) (et : ix ≡ filled t₀ [] rs) (g : ℕ) (lg : g < n.goals) (size : ℕ) (es : size ≡ n.principals * (n.formulas * (3 + 2 * n.principals)))
    (asked : Record) (ea : asked ≡ goal_in ix g) where
  abbrev laid : Laid rs (laid_flat ix n)
  laid = is_laid_lem x t₀ ix room₀ n rs read book en et g lg size es asked ea

  abbrev whole : Whole (laid_flat ix n) (length (formulas rs))
  whole = flat_whole x t₀ ix room₀ n rs read book en et

  abbrev rows : List ℕ
  rows = laid_rows ix n

  abbrev instanced : Instanced (formulas rs) (laid_flat ix n) (laid_rows ix n)
  instanced = rows_laid x t₀ ix room₀ n rs read book en et

  abbrev there : g < length (goals rs)
  there = present x t₀ ix room₀ n rs read book en et g lg size es asked ea

  pub proved_found : (w d v d' : List ℕ) (o : Outcome Answer) → size * 8 ≤ length w → size * 12 ≤ length d → length v ≡ length (take (size * 8) w)
      → FoundIs (laid_flat ix n) (laid_links ix n) (laid_rows ix n) (laid_users ix n) (listed (laid_flat ix n) asked.first) n.formulas n.principals n.assumptions (asked.second % 256) (take (size * 8) w) d d' o
      → Proved x g w (v ++ drop (size * 8) w) d d' o
  proved_found w d v d' o lw ld lv p =
      let b = laid_flat ix n in
      let e : n.formulas ≡ length (formulas rs) = ap (λ (c : Counts). c.formulas) en in
      let s = one_survey rs book in
      found_goal x t₀ ix room₀ n rs read book en et g lg size es asked ea (links rs book b laid whole) rows (users rs book b laid whole rows instanced) (links_below rs book b laid whole)
      (chains_linked rs book b laid whole) instanced (tables_laid rs book b laid whole rows instanced) s.0 s.1.0 w d v d' o lw ld lv
      (λ st c. inside rs book b laid whole rows instanced _ (goal_of rs g).first (in_time rs book b laid g there) (take (size * 8) w) st c)
      (subst (λ (k : ℕ). FoundIs b (linked b k (replicate 512 0)) rows (users_of b k (replicate 1024 0)) (listed b asked.first) n.formulas n.principals n.assumptions (asked.second % 256) (take (size * 8) w) d d' o) e p)
