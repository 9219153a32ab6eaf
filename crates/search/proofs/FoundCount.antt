-- The bits that are set where the prover has found all that follows up to message m are as many as the facts held after message m.
-- Taken is that what is held is about the book's formulas and principals (`Inside`).
use Prim.Native.Nat.{ℕ, suc, ◌+◌, ◌*◌, ◌/◌, ◌%◌, ◌<◌, ◌≤◌}
use native.Mathlib.Nat.{mul_assoc, mul-zero, mul-le-mul_right, suc-mul, mod-lt, div-add-mod', div-lt_iff_lt-mul}
use native.Mathlib.Omega.{arith}
use native.Mathlib.Decide.{dec_lt}
use mathlib.Core.Path.{◌≡◌, refl, sym, ap, ap₂, ◌∙◌, subst}
use mathlib.Core.Logic.{inl, inr}
use mathlib.Core.List.{List, [], ◌∷◌}
use mathlib.Core.Bool.{Bool, true, false, cond, ◌&&◌}
use lib.ListN.{length, get_or, replicate, length-replicate, get_or-replicate}
use lib.Dec.{ltb}
use borrow.Author.Tests.{le-leb, lt-leb}
use Rattle.logic.specs.declared.Record.{Record}
use Rattle.logic.specs.Count.{formulas, assumptions, messages}
use Rattle.logic.specs.Book.{Book}
use Rattle.logic.specs.Fact.{Fact, initial}
use Rattle.logic.specs.Derivation.{Derivable}
use Rattle.logic.specs.Written.{meaning, is_written}
use Rattle.logic.specs.Place as place
use Rattle.logic.specs.Survey.{ByteOf, IsSurvey, count, is_within, held, held_after}
use Rattle.logic.proofs.Derivable.{follows_later}
use Rattle.logic.proofs.Follows.{formula_limit_lem}
use Rattle.logic.proofs.Meaning.{IsPrincipal, Valid, valid, written}
use Rattle.logic.proofs.Places.{ranked_principal, rank_ranked}
use Rattle.logic.proofs.Tests.{T_true, true_T}
use Rattle.facts.specs.declared.Cell.{Cell}
use Rattle.facts.specs.Facts.{bit_at}
use Rattle.facts.specs.Block.{place_in, cell_at}
use Rattle.facts.proofs.Block.{Fit, place_fact, fact_fits}
use Rattle.facts.proofs.ListCounts.{count_none}
use Rattle.flat.proofs.Cells.{ranked_fact}
use Rattle.layout.proofs.FlatBook.{Laid}
use Rattle.lanes.specs.Lanes.{State, lane, is_new}
use Rattle.lanes.proofs.Sets.{apart}
use Rattle.stamps.specs.Stamps as stamps
use Rattle.stamps.specs.Stamps.{stamp_new}
use Rattle.stamps.proofs.Bits.{zero_in}
use Rattle.stamps.proofs.Places.{Inside}
use Rattle.stamps.proofs.Stamping.{stamped_length, stamped_place, stamped_count}
use Rattle.tables.proofs.Chains.{zeros}
use Rattle.rules.specs.Close.{Closes}
use Rattle.rules.proofs.Tables.{Chained, Instanced}
use Rattle.rules.proofs.Entries.{Below}
use Rattle.rules.proofs.RulesSized.{fit_proper}
use Rattle.rules.proofs.Closing as closing
use Rattle.stages.specs.Stages.{none_stamped, held_in}
use Rattle.search.proofs.FlatRepresents.{ranking}
use Rattle.search.proofs.BlockPlaces.{at_block}
use Rattle.search.proofs.BookGiven.{given_to}
use Rattle.search.proofs.FoundFacts.{held_follows, follows_held}
use Rattle.search.proofs.FoundBits.{stamps_held}
use Rattle.search.proofs.StageTable.{zero_lane}

-- two lists of one length, place by place
count_same : (f g : ℕ → Bool) (t r : List ℕ) → length t ≡ length r → ((i : ℕ) → i < length t → f (get_or t i 0) ≡ g (get_or r i 0)) → count f t ≡ count g r
unfolding count
count_same f g [] [] e h = refl
count_same f g [] (y ∷ r) e h = absurd (omega arith)
count_same f g (x ∷ t) [] e h = absurd (omega arith)
count_same f g (x ∷ t) (y ∷ r) e h =
    ap₂ (λ (a b : ℕ). a + b) (ap (λ (z : Bool). cond z 1 0) (h 0 (omega arith))) (count_same f g t r (omega arith) (λ i l. h (suc i) (omega arith)))

not_so : (x : Bool) → (true ≡ x → ⊥) → x ≡ false
not_so true n = absurd (n refl)
not_so false n = refl

-- a byte of the survey, and whether its fact is held after message m
byte_within : (rs : List Record) (m : ℕ) (g : Fact ℕ) (v : ℕ) (x : Bool)
    → cond (is_written (formulas rs) g) (ByteOf (formulas rs) (initial rs) (meaning (formulas rs) g) v) (v ≡ 0)
    → (true ≡ x → Valid (formulas rs) g × Derivable (formulas rs) (initial rs m) (meaning (formulas rs) g))
    → (Valid (formulas rs) g → Derivable (formulas rs) (initial rs m) (meaning (formulas rs) g) → true ≡ x) → x ≡ is_within m v
byte_within rs m g v x h follows holds = go (is_written (formulas rs) g) refl h
  where
    never : (v ≡ 0) → (true ≡ x → ⊥) → x ≡ is_within m v
    never e n = not_so x n ∙ ap (is_within m) (sym e)

    by_byte : Valid (formulas rs) g → ByteOf (formulas rs) (initial rs) (meaning (formulas rs) g) v → x ≡ is_within m v
    by_byte w (inl (e, n)) = never e (λ y. n m (follows y).1)
    by_byte w (inr (j, e, (d, first))) = elim (dec_lt m j) [
      | yes l ↦
          not_so x (λ y. first m l (follows y).1)
          ∙ sym (ap (is_within m) e ∙ ap₂ (λ (a b : Bool). a && b) (le-leb 1 (1 + j) (omega arith)) (lt-leb (1 + j) (1 + m) (omega arith)))
      | no l ↦
          sym (holds w (follows_later rs j m (omega arith) (meaning (formulas rs) g) d))
          ∙ sym (ap (is_within m) e ∙ ap₂ (λ (a b : Bool). a && b) (le-leb 1 (1 + j) (omega arith)) (le-leb (1 + j) (1 + m) (omega arith)))
    ]

    go : (z : Bool) → is_written (formulas rs) g ≡ z → cond z (ByteOf (formulas rs) (initial rs) (meaning (formulas rs) g) v) (v ≡ 0) → x ≡ is_within m v
    go true e y = by_byte (valid (formulas rs) g (true_T (is_written (formulas rs) g) e)) y
    go false e y = never y (λ o. apart (sym (T_true (is_written (formulas rs) g) (written (formulas rs) g (follows o).0)) ∙ e))

module _ (rs : List Record) (book : Book rs) (b : List ℕ) (laid : Laid rs b) (links rows u : List ℕ) (below : Below links 256)
    (chained : Chained b links (length (formulas rs))) (instanced : Instanced (formulas rs) b rows) (tables : closing.Laid b links rows u (length (formulas rs))) (m : ℕ) (lm : m ≤ length (messages rs))
    (k : ℕ) (l : List ℕ) (s : State) (c : Closes b links rows u k (given_to b u k (length (assumptions rs)) m l) s)
    (inside : Inside s.words (length (formulas rs)) (place.principal_count (formulas rs))) where
  abbrev fs : List Record
  fs = formulas rs

  abbrev n : ℕ
  n = length (formulas rs)

  abbrev p : ℕ
  p = place.principal_count (formulas rs)

  abbrev block : ℕ
  block = length (formulas rs) * (3 + 2 * place.principal_count (formulas rs))

  few : p ≤ 8
  unfolding ranking
  few = (ranking rs book).few

  places : place.F fs ≡ p * block
  unfolding place.F
  places = mul_assoc p n (3 + 2 * p)

  -- all facts that are held, stamped with 1 in a blank table
  abbrev blank : stamps.State
  blank = stamps.state none_stamped (replicate (place.F (formulas rs)) 0) 0

  abbrev ones : List ℕ
  ones = replicate 8 1

  table : List ℕ
  table = (stamp_new s.words ones n p blank).stamps.bytes

  wide : length blank.before ≡ 768
  wide = length-replicate {A = ℕ} 768 0

  table_length : length table ≡ place.F fs
  unfolding table
  table_length = stamped_length s.words ones n p (formula_limit_lem rs book) few blank wide ∙ length-replicate {A = ℕ} (place.F fs) 0

  room : p * block ≤ length blank.stamps.bytes
  room = let e = length-replicate {A = ℕ} (place.F fs) 0 in let f = places in omega arith

  one_at : (P : ℕ) → P < p → get_or ones P 0 ≡ 1
  one_at P h = let f = few in get_or-replicate 8 P 1 0 (omega arith)

  counted : held table ≡ held_in s.words n
  unfolding table
  counted =
      let h = stamped_count s.words ones n p (formula_limit_lem rs book) few blank wide inside refl room (λ P h. let e = one_at P h in omega arith)
      (λ P h q f e. zeros (place.F fs) (P * block + place_in p q)) in
      let g = stamps_held s.words ones n p (formula_limit_lem rs book) few inside blank (zeros 768) room in
      let z : held (replicate (place.F fs) 0) ≡ 0 = count_none (λ v. ltb 0 v) (place.F fs) 0 refl in
      omega arith

  -- a byte of the table
  at_fact : (P : ℕ) → P < p → (q : Cell) → Fit n p q → ltb 0 (get_or table (P * block + place_in p q) 0) ≡ bit_at (lane s.words q) P
  unfolding table is_new
  at_fact P h q f =
      let old : bit_at (lane none_stamped q) P ≡ false = ap (λ x. bit_at x P) (zero_lane 768 q) ∙ zero_in P in
      rw (stamped_place s.words ones n p (formula_limit_lem rs book) few blank wide inside P h q f room, one_at P h, zeros (place.F fs) (P * block + place_in p q), old)
      (go (bit_at (lane s.words q) P))
    where
      go : (x : Bool) → ltb 0 (cond (x && true) 1 0) ≡ x
      go true = refl
      go false = refl

  module _ (t : List ℕ) (survey : IsSurvey (formulas rs) (initial rs) t) where
    -- place j of the block of rank P
    same_in : (P : ℕ) → P < p → (j : ℕ) → j < block → ltb 0 (get_or table (P * block + j) 0) ≡ is_within m (get_or t (P * block + j) 0)
    same_in P h j i =
        let q = cell_at p j in
        let f = fact_fits p few n j i in
        let e : place_in p q ≡ j = place_fact p few j in
        ap (λ (x : ℕ). ltb 0 (get_or table (P * block + x) 0)) (sym e) ∙ (at_fact P h q f ∙ byte_within rs m g (get_or t (P * block + j) 0) (bit_at (lane s.words q) P) byte follows holds)
      where
        g : Fact ℕ
        g = ranked_fact (ranking rs book) (place.ranked fs P) (cell_at p j)

        ia : IsPrincipal fs (place.ranked fs P)
        ia = ranked_principal fs P h

        inside_table : P * block + j < place.F fs
        inside_table =
            let e = places in
            let x = mul-le-mul_right {m = suc P} {n = p} block h in
            let y = suc-mul P block in
            omega arith

        byte : cond (is_written fs g) (ByteOf fs (initial rs) (meaning fs g) (get_or t (P * block + j) 0)) (get_or t (P * block + j) 0 ≡ 0)
        byte = subst (λ (z : Fact ℕ). cond (is_written fs z) (ByteOf fs (initial rs) (meaning fs z) (get_or t (P * block + j) 0)) (get_or t (P * block + j) 0 ≡ 0)) (at_block rs book P j i) (survey.holds (P * block + j) inside_table)

        fit : Fit n p (cell_at p j)
        fit = fact_fits p few n j i

        follows : true ≡ bit_at (lane s.words (cell_at p j)) P → Valid fs g × Derivable fs (initial rs m) (meaning fs g)
        follows y =
            let w = held_follows rs book b laid links rows u below chained instanced tables m lm k l s c (place.ranked fs P) ia (cell_at p j)
            (fit_proper n p (cell_at p j) (formula_limit_lem rs book) few fit) (rw (rank_ranked fs P h) y) in
            (w.1, w.2)

        holds : Valid fs g → Derivable fs (initial rs m) (meaning fs g) → true ≡ bit_at (lane s.words (cell_at p j)) P
        holds v d = rw (rank_ranked fs P h) at (follows_held rs book b laid links rows u below chained instanced tables m lm k l s c (place.ranked fs P) ia (cell_at p j) fit v d)

    same_at : (i : ℕ) → i < length table → ltb 0 (get_or table i 0) ≡ is_within m (get_or t i 0)
    same_at i h =
        let e = table_length in
        let f = places in
        let some : 0 < block = positive block (λ z. let y : p * block ≡ 0 = ap (λ (x : ℕ). p * x) z ∙ mul-zero p in omega arith) in
        let d = div-add-mod' i block in
        let low : i / block < p = (div-lt_iff_lt-mul {k = block} {x = i} {y = p} some).1 (omega arith) in
        subst (λ (x : ℕ). ltb 0 (get_or table x 0) ≡ is_within m (get_or t x 0)) d (same_in (i / block) low (i % block) (mod-lt i some))
      where
        positive : (x : ℕ) → (x ≡ 0 → ⊥) → 0 < x
        positive x n = omega arith

    -- THE COUNT
    pub found_count : held_in s.words (length (formulas rs)) ≡ held_after m t
    found_count = sym counted ∙ count_same (λ v. ltb 0 v) (is_within m) table t (table_length ∙ sym survey.size) same_at
