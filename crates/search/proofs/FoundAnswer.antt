-- The prover's answer, from the index of a book that was read and from what was found. Taken is what FoundPromise takes.
use Prim.Native.Nat.{ℕ, ◌+◌, ◌*◌, ◌%◌, ◌<◌, ◌≤◌}
use native.Mathlib.Nat.{mod-eq_of_lt}
use native.Mathlib.Omega.{arith}
use mathlib.Core.Path.{◌≡◌, sym, ap, subst, ◌∙◌}
use mathlib.Core.Logic.{inr}
use mathlib.Core.List.{List, [], ◌++◌}
use lib.ListN.{length, take, drop, length-append, length-drop}
use lib.Seq.{length-take-le, drop-append_seam}
use Rattle.logic.specs.declared.Record.{Record}
use Rattle.logic.specs.declared.Counts.{Counts}
use Rattle.logic.specs.Count.{formulas, assumptions, goals, counts_of}
use Rattle.logic.specs.Fact.{initial}
use Rattle.logic.specs.Refusal.{Outcome}
use Rattle.logic.specs.Refusal.Outcome.{accepted}
use Rattle.logic.specs.Reading.{reading}
use Rattle.logic.specs.Book.{Book}
use Rattle.format.specs.Index.{index_size, filled, goal_in}
use Rattle.logic.specs.Place as place
use Rattle.logic.specs.Step.{goal_of}
use Rattle.logic.specs.Survey.{IsSurvey}
use Rattle.logic.specs.Proof.{Answer, Proved}
use Rattle.logic.proofs.Follows.{formula_limit_lem}
use Rattle.format.proofs.Indexing.{book_indexed, goal_shown}
use Rattle.layout.proofs.FlatBook.{Laid}
use Rattle.rules.proofs.Tables.{Chained, Instanced}
use Rattle.rules.proofs.Entries.{Below}
use Rattle.rules.proofs.Closing as closing
use Rattle.tables.specs.Deliveries.{listed}
use Rattle.search.specs.Found.{FoundIs}
use Rattle.search.specs.Laid.{laid_flat}
use Rattle.search.proofs.Answer.{ranks, size_is, flat_laid}
use Rattle.search.proofs.GoalFact.{goal_formula, one_block}
use Rattle.search.proofs.FoundPromise.{AllInside, found_promised}

-- a part of a buffer comes back
back_length : (v w : List ℕ) (k : ℕ) → k ≤ length w → length v ≡ length (take k w) → length (v ++ drop k w) ≡ length w
back_length v w k l e =
    let t = length-take-le k w l in
    let d = length-drop k w in
    length-append v (drop k w) ∙ omega arith

back_rest : (v w : List ℕ) (k : ℕ) → k ≤ length w → length v ≡ length (take k w) → drop k (v ++ drop k w) ≡ drop k w
back_rest v w k l e =
    subst (λ (j : ℕ). drop j (v ++ drop k w) ≡ drop k w) (e ∙ length-take-le k w l) (drop-append_seam v (drop k w))

module _ (x t₀ ix : List ℕ) (room₀ : index_size ≤ length t₀) (n : Counts) (rs : List Record) (read : reading x ≡ accepted rs) (book : Book rs)
    (en : n ≡ counts_of rs) (et : ix ≡ filled t₀ [] rs) (g : ℕ) (lg : g < n.goals) (size : ℕ) (es : size ≡ n.principals * (n.formulas * (3 + 2 * n.principals)))
    (asked : Record) (ea : asked ≡ goal_in ix g) where
  pub present : g < length (goals rs)
  present = let e : n.goals ≡ length (goals rs) = ap (λ (c : Counts). c.goals) en in omega arith

  pub places : size ≡ place.F (formulas rs)
  places = es ∙ size_is x t₀ ix room₀ n rs read book en et

  pub is_laid_lem : Laid rs (laid_flat ix n)
  is_laid_lem = flat_laid x t₀ ix room₀ n rs read book en et

  goal_is : asked ≡ goal_of rs g
  goal_is = ea ∙ rw et (goal_shown t₀ (filled t₀ [] rs) rs (book_indexed t₀ rs room₀ book) book g present)

  second_small : asked.second % 256 ≡ (goal_of rs g).second
  second_small =
      let f = (goal_formula rs book (laid_flat ix n) is_laid_lem g present).0 in
      let l = formula_limit_lem rs book in
      rw goal_is (mod-eq_of_lt (omega arith))

  -- what holds of the counts and of the goal in the index holds of those of the records
  pub of_records : (R : (formulas principals assumptions message formula : ℕ) → Type 0)
      → R n.formulas n.principals n.assumptions asked.first (asked.second % 256)
      → R (length (formulas rs)) (place.principal_count (formulas rs)) (length (assumptions rs)) (goal_of rs g).first (goal_of rs g).second
  of_records R h =
      let c = counts_of rs in
      let p = place.principal_count (formulas rs) in
      let e : c.principals ≡ p = sym (ranks x t₀ ix room₀ n rs read book en et) in
      subst (λ (f : ℕ). R c.formulas p c.assumptions (goal_of rs g).first f) second_small
      (subst (λ (r : Record). R c.formulas p c.assumptions r.first (asked.second % 256)) goal_is
      (subst (λ (k : ℕ). R c.formulas k c.assumptions asked.first (asked.second % 256)) e
      (subst (λ (k : Counts). R k.formulas k.principals k.assumptions asked.first (asked.second % 256)) en h)))

  -- THE ANSWER, with tables of the book and its survey
  module _ (links rows u : List ℕ) (below : Below links 256) (chained : Chained (laid_flat ix n) links (length (formulas rs)))
      (instanced : Instanced (formulas rs) (laid_flat ix n) rows) (tables : closing.Laid (laid_flat ix n) links rows u (length (formulas rs))) (t : List ℕ) (survey : IsSurvey (formulas rs) (initial rs) t) where
    pub found_goal : (w d v d' : List ℕ) (o : Outcome Answer) → size * 8 ≤ length w → size * 12 ≤ length d → length v ≡ length (take (size * 8) w)
        → AllInside rs book (laid_flat ix n) is_laid_lem g present links rows u below chained instanced tables t survey (take (size * 8) w)
        → FoundIs (laid_flat ix n) links rows u (listed (laid_flat ix n) asked.first) n.formulas n.principals n.assumptions (asked.second % 256) (take (size * 8) w) d d' o
        → Proved x g w (v ++ drop (size * 8) w) d d' o
    found_goal w d v d' o lw ld lv inside p =
        rw read (inr (
          present,
          inr (
            rw (← places) lw,
            rw (← places) ld,
            back_length v w (size * 8) lw lv,
            rw (← places) (back_rest v w (size * 8) lw lv),
            found_promised rs book (laid_flat ix n) is_laid_lem g present links rows u below chained instanced tables t survey (take (size * 8) w) long inside d d' o (rw (← places) ld)
                (of_records (λ k q a m f. FoundIs (laid_flat ix n) links rows u (listed (laid_flat ix n) m) k q a f (take (size * 8) w) d d' o) p),
          ),
        ))
      where
        long : length (formulas rs) * (3 + 2 * place.principal_count (formulas rs)) * 8 ≤ length (take (size * 8) w)
        long =
            let b = one_block rs book (laid_flat ix n) is_laid_lem g present in
            let e = length-take-le (size * 8) w lw in
            let f = places in
            rw e (omega arith)
