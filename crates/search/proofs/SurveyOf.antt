-- The survey of a book as a list that can be computed from its array: what all principals hold after each message is closed by itself, and
-- each fact gets 1 + the first message number after which it is held. So every book has a survey. Assumes nothing.
use Prim.Native.Nat.{ℕ, zero, suc, ◌+◌, ◌*◌, ◌/◌, ◌%◌, ◌<◌, ◌≤◌}
use native.Mathlib.Nat.{add-zero, zero-add, mul_assoc, mul-zero, mod-lt, div-add-mod', div-lt_iff_lt-mul, le_refl}
use native.Mathlib.Omega.{arith}
use native.Mathlib.Decide.{ℕ_discrete}
use mathlib.Core.Path.{◌≡◌, refl, sym, ap, ◌∙◌, subst}
use mathlib.Core.Logic.{◌⊎◌, inl, inr}
use mathlib.Core.List.{List, [], ◌∷◌}
use mathlib.Core.Bool.{Bool, true, false, cond}
use lib.ListN.{length, get_or, replicate, length-replicate}
use lib.Dec.{lit≤}
use Rattle.logic.specs.declared.Record.{Record}
use Rattle.logic.specs.Count.{formulas, assumptions, messages, counts_of}
use Rattle.logic.specs.Book.{Book}
use Rattle.logic.specs.Fact.{Fact, initial}
use Rattle.logic.specs.Derivation.{Derivable}
use Rattle.format.specs.Index.{index_size, filled}
use Rattle.logic.specs.Written.{meaning, is_written}
use Rattle.logic.specs.Place as place
use Rattle.logic.specs.Survey.{ByteOf, PlaceHolds, IsSurvey}
use Rattle.logic.proofs.Derivable.{follows_last}
use Rattle.logic.proofs.Follows.{formula_limit_lem}
use Rattle.logic.proofs.Meaning.{Valid, valid, written}
use Rattle.logic.proofs.Places.{ranked_principal, rank_ranked}
use Rattle.logic.proofs.Tests.{T_true, true_T}
use Rattle.facts.specs.declared.Cell.{Cell}
use Rattle.facts.specs.Facts.{bit_at}
use Rattle.facts.specs.Block as block
use Rattle.facts.proofs.Block.{Fit, fact_fits}
use Rattle.lanes.specs.Lanes.{lane, State}
use Rattle.flat.proofs.Cells.{ranked_fact}
use Rattle.layout.proofs.FlatBook.{Laid, laid}
use Rattle.layout.proofs.FlatBytes.{Whole, whole}
use Rattle.tables.specs.Links.{linked}
use Rattle.tables.specs.Users.{users_of}
use Rattle.rules.specs.Close.{Closes}
use Rattle.rules.proofs.RulesSized.{fit_proper}
use Rattle.rules.proofs.Tables.{Instanced}
use Rattle.search.proofs.BookRows.{instanced_rows}
use Rattle.stages.proofs.Exists.{closed_up, closed_up_lem}
use Rattle.search.specs.Laid.{laid_flat, laid_rows}
use Rattle.search.proofs.FlatRepresents.{ranking}
use Rattle.search.proofs.BlockPlaces.{at_block}
use Rattle.search.proofs.BookTables.{links, users, chains_linked, links_below, tables_laid}
use Rattle.search.proofs.BookGiven.{given_to, given_whole}
use Rattle.search.proofs.FoundFacts.{held_follows, follows_held}

-- f i, f (i + 1) and so on, n of them
unfoldable pub made : {A : Type 0} → (ℕ → A) → (i n : ℕ) → List A
made f i zero = []
made f i (suc n) = f i ∷ made f (suc i) n

pub made_at : {A : Type 0} (f : ℕ → A) (i n k : ℕ) (d : A) → k < n → get_or (made f i n) k d ≡ f (i + k)
unfolding made
made_at f i zero k d l = absurd (omega arith)
made_at f i (suc n) zero d l = ap f (sym (add-zero i))
made_at f i (suc n) (suc k) d l = let e : suc i + k ≡ i + suc k = omega arith in made_at f (suc i) n k d (omega arith) ∙ ap f e

made_length : {A : Type 0} (f : ℕ → A) (i n : ℕ) → length (made f i n) ≡ n
unfolding made
made_length f i zero = refl
made_length f i (suc n) = ap suc (made_length f (suc i) n)

-- 1 + the first of the n numbers from j on that pass a test, or 0
unfoldable pub first_from : (ℕ → Bool) → (j n : ℕ) → ℕ
first_from f j zero = 0
first_from f j (suc n) = cond (f j) (1 + j) (first_from f (suc j) n)

-- v is 1 + the first number below c that passes the test, or 0 where none does
abbrev FirstOf : (ℕ → Bool) → (j c v : ℕ) → Type 0
FirstOf f j c v =
    ((v ≡ 0) × ((i : ℕ) → j ≤ i → i < c → true ≡ f i → ⊥))
    ⊎ ((m : ℕ) × (m < c) × (v ≡ 1 + m) × (true ≡ f m) × ((i : ℕ) → j ≤ i → i < m → true ≡ f i → ⊥))

first_from_lem : (f : ℕ → Bool) (j n : ℕ) → FirstOf f j (j + n) (first_from f j n)
unfolding first_from
first_from_lem f j zero = inl (refl, λ i a l e. omega arith)
first_from_lem f j (suc n) = go (f j) refl (subst (λ c. FirstOf f (suc j) c (first_from f (suc j) n)) (let z : suc j + n ≡ j + suc n = omega arith in z) (first_from_lem f (suc j) n))
  where
    no_more : f j ≡ false → (c : ℕ) → ((i : ℕ) → suc j ≤ i → i < c → true ≡ f i → ⊥) → (i : ℕ) → j ≤ i → i < c → true ≡ f i → ⊥
    no_more e c h i a l y = elim (ℕ_discrete i j) [
      | yes z ↦ let x : true ≡ false = subst (λ k. true ≡ f k) z y ∙ e in let o : ◌≡◌ {A = ℕ} 0 1 = cc in omega arith
      | no z ↦ h i (omega arith) l y
    ]

    go : (v : Bool) → f j ≡ v → FirstOf f (suc j) (j + suc n) (first_from f (suc j) n) → FirstOf f j (j + suc n) (cond v (1 + j) (first_from f (suc j) n))
    go true e r = inr (j, omega arith, refl, sym e, λ i a l y. omega arith)
    go false e (inl (z, h)) = inl (z, no_more e (j + suc n) h)
    go false e (inr (m, l, z, y, h)) = inr (m, l, z, y, no_more e m h)

-- whether the fact at place i of a survey, of n formulas and p principals, is held in the words ws
unfoldable pub held_at : (n p i : ℕ) → List ℕ → Bool
held_at n p i ws = bit_at (lane ws (block.cell_at p (i % (n * (3 + 2 * p))))) (i / (n * (3 + 2 * p)))

-- the bytes of all places, with the words after each of c stages
unfoldable pub bytes_from : (n p c : ℕ) → List (List ℕ) → List ℕ
bytes_from n p c wss = made (λ i. first_from (λ m. held_at n p i (get_or wss m [])) 0 c) 0 (p * n * (3 + 2 * p))

-- what is held after m messages
unfoldable pub words_after : (b links rows u : List ℕ) (a m : ℕ) → List ℕ
words_after b links rows u a m = (closed_up b links rows u 8 (given_to b u 8 a m [])).words

unfoldable pub survey_with : (b links rows u : List ℕ) (n p a m : ℕ) → List ℕ
survey_with b links rows u n p a m = bytes_from n p (suc m) (made (words_after b links rows u a) 0 (suc m))

-- THE SURVEY, of n formulas, p principals, a assumptions and m messages
unfoldable pub survey_of : (b rows : List ℕ) (n p a m : ℕ) → List ℕ
survey_of b rows n p a m = survey_with b (linked b n (replicate 512 0)) rows (users_of b n (replicate 1024 0)) n p a m

-- a place by whether its fact may be written
holds_by : (w : Bool) (A B : Type 0) → (w ≡ true → A) → (w ≡ false → B) → cond w A B
holds_by true A B f g = f refl
holds_by false A B f g = g refl

module _ (rs : List Record) (book : Book rs) (b : List ℕ) (laid : Laid rs b) (whole : Whole b (length (formulas rs)))
    (rows : List ℕ) (instanced : Instanced (formulas rs) b rows) where
  abbrev n : ℕ
  n = length (formulas rs)

  abbrev p : ℕ
  p = place.principal_count (formulas rs)

  abbrev last : ℕ
  last = length (messages rs)

  abbrev block_of : ℕ
  block_of = length (formulas rs) * (3 + 2 * place.principal_count (formulas rs))

  abbrev lk : List ℕ
  lk = links rs book b laid whole

  abbrev us : List ℕ
  us = users rs book b laid whole rows instanced

  few : place.principal_count (formulas rs) ≤ 8
  unfolding ranking
  few = (ranking rs book).few

  -- what is given up to message m, with the log of rank k in l, can be closed
  pub closed_after : (k m : ℕ) (l : List ℕ)
      → Closes b (links rs book b laid whole) rows (users rs book b laid whole rows instanced) k (given_to b (users rs book b laid whole rows instanced) k (length (assumptions rs)) m l)
      (closed_up b (links rs book b laid whole) rows (users rs book b laid whole rows instanced) k (given_to b (users rs book b laid whole rows instanced) k (length (assumptions rs)) m l))
  closed_after k m l =
      let t = given_to b us k (length (assumptions rs)) m l in
      let w = given_whole b us k (length (assumptions rs)) m l in
      closed_up_lem b lk rows us k whole.bytes t w.0 w.1

  abbrev after : ℕ → State
  after m = closed_up b lk rows us 8 (given_to b us 8 (length (assumptions rs)) m [])

  -- ONE PLACE: the fact of a cell, of the principal of rank P
  module _ (P : ℕ) (l : P < place.principal_count (formulas rs)) (q : Cell) (f : Fit (length (formulas rs)) (place.principal_count (formulas rs)) q)
      (m : ℕ) (lm : m ≤ length (messages rs)) where
    abbrev fact : Fact ℕ
    fact = ranked_fact (ranking rs book) (place.ranked (formulas rs) P) q

    abbrev Follows : Type 0
    Follows = Valid (formulas rs) fact × Derivable (formulas rs) (initial rs m) (meaning (formulas rs) fact)

    held_after_lem : true ≡ bit_at (lane (after m).words q) P → Follows
    held_after_lem h =
        let w = held_follows rs book b laid lk rows us (links_below rs book b laid whole) (chains_linked rs book b laid whole) instanced (tables_laid rs book b laid whole rows instanced) m lm 8 [] (after m) (closed_after 8 m [])
        (place.ranked (formulas rs) P) (ranked_principal (formulas rs) P l) q (fit_proper n p q (formula_limit_lem rs book) few f) (rw (rank_ranked (formulas rs) P l) h) in
        (w.1, w.2)

    after_held : Follows → true ≡ bit_at (lane (after m).words q) P
    after_held (v, d) =
        rw (rank_ranked (formulas rs) P l) at
        (follows_held rs book b laid lk rows us (links_below rs book b laid whole) (chains_linked rs book b laid whole) instanced (tables_laid rs book b laid whole rows instanced) m lm 8 [] (after m) (closed_after 8 m [])
        (place.ranked (formulas rs) P) (ranked_principal (formulas rs) P l) q f v d)

  room : place.F (formulas rs) ≡ place.principal_count (formulas rs) * block_of
  unfolding place.F
  room = mul_assoc (place.principal_count (formulas rs)) (length (formulas rs)) (3 + 2 * place.principal_count (formulas rs))

  unwritten : (g : Fact ℕ) → is_written (formulas rs) g ≡ false → Valid (formulas rs) g → ⊥
  unwritten g w v = let z = T_true (is_written (formulas rs) g) (written (formulas rs) g v) in let y : ◌≡◌ {A = ℕ} 0 1 = cc in omega arith

  module _ (i : ℕ) (l : i < place.F (formulas rs)) where
    abbrev P : ℕ
    P = i / block_of

    abbrev q : Cell
    q = block.cell_at (place.principal_count (formulas rs)) (i % block_of)

    abbrev g : Fact ℕ
    g = ranked_fact (ranking rs book) (place.ranked (formulas rs) P) q

    some : 0 < block_of
    some = elim (ℕ_discrete block_of 0) [
      | yes z ↦ absurd (let y : p * block_of ≡ p * 0 = ap (λ x. p * x) z in let x = mul-zero p in let r = room in omega arith)
      | no z ↦ omega arith
    ]

    low : P < place.principal_count (formulas rs)
    low = let r = room in (div-lt_iff_lt-mul {k = block_of} {x = i} {y = p} some).1 (omega arith)

    fits : Fit (length (formulas rs)) (place.principal_count (formulas rs)) q
    fits = fact_fits p few n (i % block_of) (mod-lt i some)

    fact_is : place.fact_at (formulas rs) i ≡ g
    fact_is = ap (place.fact_at (formulas rs)) (sym (div-add-mod' i block_of)) ∙ at_block rs book P (i % block_of) (mod-lt i some)

    -- the byte v, by the first message after which the fact is held
    by_first : (v : ℕ) → FirstOf (λ m. bit_at (lane (after m).words q) P) 0 (suc (length (messages rs))) v → PlaceHolds (formulas rs) (initial rs) i v
    by_first v (inl (e, none)) =
        rw fact_is (holds_by (is_written (formulas rs) g) (ByteOf (formulas rs) (initial rs) (meaning (formulas rs) g) v) (v ≡ 0)
        (λ w. inl (
          e,
          λ m d.
              none last (omega arith) (le_refl (suc last))
              (after_held P low q fits last (le_refl last) (valid (formulas rs) g (true_T (is_written (formulas rs) g) w), follows_last rs m (meaning (formulas rs) g) d)),
        ))
        (λ w. e))
    by_first v (inr (m, lm, e, h, none)) =
        let d = held_after_lem P low q fits m (omega arith) h in
        rw fact_is (holds_by (is_written (formulas rs) g) (ByteOf (formulas rs) (initial rs) (meaning (formulas rs) g) v) (v ≡ 0)
        (λ w. inr (m, e, (d.1, λ j lj x. none j (omega arith) lj (after_held P low q fits j (omega arith) (d.0, x)))))
        (λ w. absurd (unwritten g w d.0)))

  -- IT IS THE SURVEY
  pub survey_of_lem : IsSurvey (formulas rs) (initial rs)
      (survey_of b rows (length (formulas rs)) (place.principal_count (formulas rs)) (length (assumptions rs)) (length (messages rs)))
  unfolding survey_of survey_with bytes_from held_at words_after place.F
  survey_of_lem = record {
    size = made_length _ 0 (place.F (formulas rs));
    holds = λ i l.
        let wss = made (λ m. (after m).words) 0 (suc last) in
        let f : ℕ → Bool = λ m. bit_at (lane (get_or wss m []) (block.cell_at p (i % block_of))) (i / block_of) in
        rw (made_at (λ i. first_from (λ m. bit_at (lane (get_or wss m []) (block.cell_at p (i % block_of))) (i / block_of)) 0 (suc last)) 0 (place.F (formulas rs)) i 0 l, zero-add i)
        (by_first i l (first_from f 0 (suc last)) (same_first f (λ m. bit_at (lane (after m).words (block.cell_at p (i % block_of))) (i / block_of)) (suc last) (first_from f 0 (suc last))
        (λ m lm. ap (λ ws. bit_at (lane ws (block.cell_at p (i % block_of))) (i / block_of)) (made_at (λ m. (after m).words) 0 (suc last) m [] lm ∙ ap (λ m. (after m).words) (zero-add m)))
        (subst (λ c. FirstOf f 0 c (first_from f 0 (suc last))) (zero-add (suc last)) (first_from_lem f 0 (suc last)))));
  }
    where
      same_first : (f g : ℕ → Bool) (c v : ℕ) → ((m : ℕ) → m < c → f m ≡ g m) → FirstOf f 0 c v → FirstOf g 0 c v
      same_first f g c v e (inl (z, h)) = inl (z, λ i a l y. h i a l (y ∙ sym (e i l)))
      same_first f g c v e (inr (m, l, z, y, h)) = inr (m, l, z, y ∙ e m l, λ i a k x. h i a k (x ∙ sym (e i (omega arith))))

-- the array of a book and the rows of its instances, from an index of its own
unfoldable pub flat_of : List Record → List ℕ
flat_of rs = laid_flat (filled (replicate index_size 0) [] rs) (counts_of rs)

pub flat_laid : (rs : List Record) → Book rs → Laid rs (flat_of rs)
unfolding flat_of
flat_laid rs book =
    laid rs book (replicate index_size 0) (rw length-replicate (lit≤ tt)) (replicate 2144 0) (rw length-replicate (lit≤ tt))

pub flat_whole : (rs : List Record) → Book rs → Whole (flat_of rs) (length (formulas rs))
unfolding flat_of
flat_whole rs book = whole (filled (replicate index_size 0) [] rs) (counts_of rs) 2144

unfoldable pub rows_of : List Record → List ℕ
rows_of rs = laid_rows (filled (replicate index_size 0) [] rs) (counts_of rs)

pub rows_laid : (rs : List Record) → Book rs → Instanced (formulas rs) (flat_of rs) (rows_of rs)
unfolding rows_of flat_of
rows_laid rs book = instanced_rows (replicate index_size 0) rs (rw length-replicate (lit≤ tt)) book (flat_of rs) (flat_laid rs book) (flat_whole rs book)

-- EVERY BOOK HAS A SURVEY
unfoldable pub table_of : List Record → List ℕ
table_of rs = survey_of (flat_of rs) (rows_of rs) (length (formulas rs)) (place.principal_count (formulas rs)) (length (assumptions rs)) (length (messages rs))

pub table_surveys : (rs : List Record) → Book rs → IsSurvey (formulas rs) (initial rs) (table_of rs)
unfolding table_of
table_surveys rs book = survey_of_lem rs book (flat_of rs) (flat_laid rs book) (flat_whole rs book) (rows_of rs) (rows_laid rs book)
