-- The entries that a goal needs: the goal's and the premises of each of them, and each but the goal's is a premise of one of them.
-- Assumes nothing.
use Prim.Native.Nat.{ℕ, zero, suc, ◌+◌, ◌*◌, ◌≤◌, ◌<◌}
use native.Mathlib.Nat.{mul-le-mul}
use native.Mathlib.Omega.{arith}
use mathlib.Core.Path.{◌≡◌, refl, sym, ap, ◌∙◌, subst}
use mathlib.Core.Logic.{◌⊎◌, inl, inr, ⊎_elim}
use mathlib.Core.List.{List, [], ◌∷◌, map}
use mathlib.Core.Bool.{Bool, true, false, cond}
use lib.ListN.{length, get_or, set, replicate, length-set, length-replicate}
use lib.Seq.{get_or-set_same}
use lib.Dec.{leb}
use borrow.Author.Tests.{eqb-true, eq-eqb, leb-true}
use Rattle.logic.specs.Book.{All}
use Rattle.logic.specs.Derivation.{Among}
use Rattle.logic.proofs.Member.{all_at, all_imp, all_of, among_map}
use Rattle.facts.specs.declared.Cell.{Cell}
use Rattle.facts.specs.declared.Instance.{Instance}
use Rattle.facts.specs.Block.{place_in, cell_at}
use Rattle.facts.proofs.Block.{Fit, fact_place, place_below}
use Rattle.derive.specs.Steps.{table_size, blank, premises_for, wants, want_all, wanted_by, wanted, kept, needed}

-- the facts of some entries
abbrev pub founds : List Instance → List Cell
founds l = map (λ i. i.gives) l

-- the premises of each entry were found before it, and its fact was not
abbrev pub ProperOn : List Instance → Type 0
ProperOn [] = Unit
ProperOn (i ∷ l) = All (λ q. Among q (founds l)) (premises_for i) × (Among i.gives (founds l) → ⊥) × ProperOn l

pub premise_found : (l : List Instance) → ProperOn l → (j : Instance) → Among j l → (q : Cell) → Among q (premises_for j) → Among q (founds l)
premise_found [] r j x3 q m = elim x3 [ ]
premise_found (i ∷ l) r j (inl e) q m = inr (all_at (λ q. Among q (founds l)) q (premises_for i) r.0 (subst (λ x. Among q (premises_for x)) e m))
premise_found (i ∷ l) r j (inr a) q m = inr (premise_found l r.2 j a q m)

-- the premises of an entry stand behind the newest
pub premise_behind : (i : Instance) (l : List Instance) → ProperOn (i ∷ l) → (j : Instance) → Among j (i ∷ l) → (q : Cell) → Among q (premises_for j)
    → Among q (founds l)
premise_behind i l r j (inl e) q m = all_at (λ q. Among q (founds l)) q (premises_for i) r.0 (subst (λ x. Among q (premises_for x)) e m)
premise_behind i l r j (inr a) q m = premise_found l r.2 j a q m

-- a place that was entered is that of an entry
pub found_by : (q : Cell) (l : List Instance) → Among q (founds l) → (i : Instance) × Among i l × (q ≡ i.gives)
found_by q [] x' = elim x' [ ]
found_by q (i ∷ l) (inl e) = (i, inl refl, e)
found_by q (i ∷ l) (inr m) = let h = found_by q l m in (h.0, inr h.1, h.2)

-- Marks in a table.

mark_grows : (w : List ℕ) (k j : ℕ) → get_or w j 0 ≡ 1 → get_or (set w k 1) j 0 ≡ 1
mark_grows [] k j h = h
mark_grows (v ∷ w) zero zero h = refl
mark_grows (v ∷ w) zero (suc j) h = h
mark_grows (v ∷ w) (suc k) zero h = h
mark_grows (v ∷ w) (suc k) (suc j) h = mark_grows w k j h

mark_only : (w : List ℕ) (k j : ℕ) → get_or (set w k 1) j 0 ≡ 1 → (get_or w j 0 ≡ 1) ⊎ (j ≡ k)
mark_only [] k j h = inl h
mark_only (v ∷ w) zero zero h = inr refl
mark_only (v ∷ w) zero (suc j) h = inl h
mark_only (v ∷ w) (suc k) zero h = inl h
mark_only (v ∷ w) (suc k) (suc j) h = ⊎_elim (λ a. inl a) (λ e. inr (ap suc e)) (mark_only w k j h)

no_mark : (n j : ℕ) → ◌≡◌ {A = ℕ} (get_or (replicate n 0) j 0) 1 → ⊥
no_mark zero j h = omega arith
no_mark (suc n) zero h = omega arith
no_mark (suc n) (suc j) h = no_mark n j h

-- A BLOCK FITS into tables of the size that is chosen for it
pub places_fit : (n p : ℕ) → n ≤ 256 → p ≤ 8 → n * (3 + 2 * p) ≤ table_size n p
unfolding table_size
places_fit n p small few = go (leb (n * (3 + 2 * p)) 512) refl
  where
    go : (b : Bool) → leb (n * (3 + 2 * p)) 512 ≡ b → n * (3 + 2 * p) ≤ cond b 512 4864
    go true e = leb-true (n * (3 + 2 * p)) 512 e
    go false e = mul-le-mul {n₁ = n} {m₁ = 3 + 2 * p} {n₂ = 256} {m₂ = 19} small (omega arith)

module _ (p : ℕ) where
  -- the fact at place q is wanted
  abbrev pub Wants : List ℕ → Cell → Type 0
  Wants w q = get_or w (place_in p q) 0 ≡ 1

  to_wants : (w : List ℕ) (q : Cell) → Wants w q → wants p w q ≡ true
  unfolding wants
  to_wants w q h = eq-eqb (get_or w (place_in p q) 0) 1 h

  from_wants : (w : List ℕ) (q : Cell) → wants p w q ≡ true → Wants w q
  unfolding wants
  from_wants w q h = eqb-true (get_or w (place_in p q) 0) 1 h

  all_grows : (l : List Cell) (w : List ℕ) (q : Cell) → Wants w q → Wants (want_all p w l) q
  unfolding want_all
  all_grows [] w q h = h
  all_grows (r ∷ l) w q h = all_grows l (set w (place_in p r) 1) q (mark_grows w (place_in p r) (place_in p q) h)

  all_length : (l : List Cell) (w : List ℕ) → length (want_all p w l) ≡ length w
  unfolding want_all
  all_length [] w = refl
  all_length (r ∷ l) w = all_length l (set w (place_in p r) 1) ∙ length-set w (place_in p r) 1

  by_length : (i : Instance) (w : List ℕ) → length (wanted_by p w i) ≡ length w
  unfolding wanted_by
  by_length i w = go (wants p w i.gives)
    where
      go : (b : Bool) → length (cond b (want_all p w (premises_for i)) w) ≡ length w
      go true = all_length (premises_for i) w
      go false = refl

  by_grows : (i : Instance) (w : List ℕ) (q : Cell) → Wants w q → Wants (wanted_by p w i) q
  unfolding wanted_by
  by_grows i w q h = go (wants p w i.gives)
    where
      go : (b : Bool) → Wants (cond b (want_all p w (premises_for i)) w) q
      go true = all_grows (premises_for i) w q h
      go false = h

  wanted_grows : (l : List Instance) (w : List ℕ) (q : Cell) → Wants w q → Wants (wanted p w l) q
  unfolding wanted
  wanted_grows [] w q h = h
  wanted_grows (i ∷ l) w q h = wanted_grows l (wanted_by p w i) q (by_grows i w q h)

  -- What is kept.

  kept_length : (w : List ℕ) (l : List Instance) → length (kept p w l) ≤ length l
  unfolding kept
  kept_length w [] = omega arith
  kept_length w (i ∷ l) = go (wants p w i.gives) (kept_length w l)
    where
      go : (b : Bool) → length (kept p w l) ≤ length l → length (cond b (i ∷ kept p w l) (kept p w l)) ≤ suc (length l)
      go true h = omega arith
      go false h = omega arith

  kept_all : (P : Instance → Type 0) (w : List ℕ) (l : List Instance) → All P l → All P (kept p w l)
  unfolding kept
  kept_all P w [] a = tt
  kept_all P w (i ∷ l) a = go (wants p w i.gives) (kept_all P w l a.1)
    where
      go : (b : Bool) → All P (kept p w l) → All P (cond b (i ∷ kept p w l) (kept p w l))
      go true h = (a.0, h)
      go false h = h

  kept_is : (w : List ℕ) (l : List Instance) (j : Instance) → Among j (kept p w l) → Among j l × Wants w j.gives
  unfolding kept
  kept_is w [] j m = elim m [ ]
  kept_is w (i ∷ l) j m = go (wants p w i.gives) refl m (kept_is w l j)
    where
      go : (b : Bool) → wants p w i.gives ≡ b → Among j (cond b (i ∷ kept p w l) (kept p w l))
          → (Among j (kept p w l) → Among j l × Wants w j.gives) → Among j (i ∷ l) × Wants w j.gives
      go true e (inl z) r = (inl z, rw z (from_wants w i.gives e))
      go true e (inr m) r = let h = r m in (inr h.0, h.1)
      go false e m r = let h = r m in (inr h.0, h.1)

  is_kept_lem : (w : List ℕ) (l : List Instance) (j : Instance) → Among j l → Wants w j.gives → Among j (kept p w l)
  unfolding kept
  is_kept_lem w [] j x'' h = elim x'' [ ]
  is_kept_lem w (i ∷ l) j (inl z) h = rw (to_wants w i.gives (rw z at h)) (inl z)
  is_kept_lem w (i ∷ l) j (inr m) h = go (wants p w i.gives) (is_kept_lem w l j m h)
    where
      go : (b : Bool) → Among j (kept p w l) → Among j (cond b (i ∷ kept p w l) (kept p w l))
      go true a = inr a
      go false a = a

  found_kept : (w : List ℕ) (l : List Instance) (q : Cell) → Among q (founds l) → Wants w q → Among q (founds (kept p w l))
  found_kept w l q m h =
      let f = found_by q l m in
      rw f.2 (among_map (λ i. i.gives) f.0 (kept p w l) (is_kept_lem w l f.0 f.1 (rw f.2 at h)))

  kept_found : (w : List ℕ) (l : List Instance) (q : Cell) → Among q (founds (kept p w l)) → Among q (founds l)
  kept_found w l q m =
      let f = found_by q (kept p w l) m in
      rw f.2 (among_map (λ i. i.gives) f.0 l (kept_is w l f.0 f.1).0)

  kept_proper : (w : List ℕ) (l : List Instance) → ProperOn l → All (λ i. Wants w i.gives → All (Wants w) (premises_for i)) l → ProperOn (kept p w l)
  unfolding kept
  kept_proper w [] r a = tt
  kept_proper w (i ∷ l) r a = go (wants p w i.gives) refl (kept_proper w l r.2 a.1)
    where
      both : (ps : List Cell) → All (λ q. Among q (founds l)) ps → All (Wants w) ps → All (λ q. Among q (founds (kept p w l))) ps
      both [] f h = tt
      both (q ∷ ps) f h = (found_kept w l q f.0 h.0, both ps f.1 h.1)

      go : (b : Bool) → wants p w i.gives ≡ b → ProperOn (kept p w l) → ProperOn (cond b (i ∷ kept p w l) (kept p w l))
      go true e k = (both (premises_for i) r.0 (a.0 (from_wants w i.gives e)), (λ m. r.1 (kept_found w l i.gives m)), k)
      go false e k = k

  -- where no entry is wanted, none is kept
  nothing_wanted : (w : List ℕ) (l : List Instance) → All (λ i. wants p w i.gives ≡ false) l → wanted p w l ≡ w
  unfolding wanted wanted_by
  nothing_wanted w [] h = refl
  nothing_wanted w (i ∷ l) h = rw h.0 (nothing_wanted w l h.1)

  nothing_kept : (w : List ℕ) (l : List Instance) → All (λ i. wants p w i.gives ≡ false) l → kept p w l ≡ []
  unfolding kept
  nothing_kept w [] h = refl
  nothing_kept w (i ∷ l) h = rw h.0 (nothing_kept w l h.1)

  pub needed_length : (size : ℕ) (goal : Cell) (l : List Instance) → length (needed size p goal l) ≤ length l
  unfolding needed
  needed_length size goal l = kept_length (wanted p (set (blank size) (place_in p goal) 1) l) l

  pub needed_all : (P : Instance → Type 0) (size : ℕ) (goal : Cell) (l : List Instance) → All P l → All P (needed size p goal l)
  unfolding needed
  needed_all P size goal l a = kept_all P (wanted p (set (blank size) (place_in p goal) 1) l) l a

  -- tables of any size, as long as the places of the block of n formulas fit
  module _ (few : p ≤ 8) (n size : ℕ) (room : n * (3 + 2 * p) ≤ size) where
    -- places of the block
    pub in_table : (q : Cell) → Fit n p q → place_in p q < size
    in_table q f = omega (arith, place_below p few n q f, room)

    pub one_cell : (q r : Cell) → Fit n p q → Fit n p r → place_in p q ≡ place_in p r → q ≡ r
    one_cell q r f g e = sym (fact_place p few q f.1) ∙ (ap (cell_at p) e ∙ fact_place p few r g.1)

    all_wants : (l : List Cell) (w : List ℕ) → length w ≡ size → All (Fit n p) l → All (Wants (want_all p w l)) l
    unfolding want_all
    all_wants [] w e f = tt
    all_wants (q ∷ l) w e f =
        let u = set w (place_in p q) 1 in
        let d : length u ≡ size = length-set w (place_in p q) 1 ∙ e in
        let h : place_in p q < length w = omega (arith, in_table q f.0) in
        (all_grows l u q (get_or-set_same w (place_in p q) 1 0 h), all_wants l u d f.1)

    all_only : (l : List Cell) (w : List ℕ) → All (Fit n p) l → (q : Cell) → Fit n p q → Wants (want_all p w l) q → Wants w q ⊎ Among q l
    unfolding want_all
    all_only [] w f q g h = inl h
    all_only (r ∷ l) w f q g h =
        ⊎_elim
        (λ a. ⊎_elim (λ b. inl b) (λ e. inr (inl (one_cell q r g f.0 e))) (mark_only w (place_in p r) (place_in p q) a))
        (λ m. inr (inr m))
        (all_only l (set w (place_in p r) 1) f.1 q g h)

    by_only : (i : Instance) (w : List ℕ) → All (Fit n p) (premises_for i) → (q : Cell) → Fit n p q → Wants (wanted_by p w i) q
        → Wants w q ⊎ (Wants w i.gives × Among q (premises_for i))
    unfolding wanted_by
    by_only i w f q g h = go (wants p w i.gives) refl h
      where
        go : (b : Bool) → wants p w i.gives ≡ b → Wants (cond b (want_all p w (premises_for i)) w) q
            → Wants w q ⊎ (Wants w i.gives × Among q (premises_for i))
        go true e h = ⊎_elim (λ a. inl a) (λ m. inr (from_wants w i.gives e, m)) (all_only (premises_for i) w f q g h)
        go false e h = inl h

    -- what is wanted at the end was wanted at the start, or is a premise of something wanted
    source : (l : List Instance) (w : List ℕ) → All (λ i. All (Fit n p) (premises_for i)) l → (q : Cell) → Fit n p q → Wants (wanted p w l) q
        → Wants w q ⊎ ((j : Instance) × Among j l × Wants (wanted p w l) j.gives × Among q (premises_for j))
    unfolding wanted
    source [] w f q g h = inl h
    source (i ∷ l) w f q g h =
        ⊎_elim
        (λ a. ⊎_elim (λ b. inl b) (λ b. inr (i, inl refl, wanted_grows l (wanted_by p w i) i.gives (by_grows i w i.gives b.0), b.1))
        (by_only i w f.0 q g a))
        (λ a. inr (a.0, inr a.1, a.2, a.3))
        (source l (wanted_by p w i) f.1 q g h)

    -- the premises of what is wanted are wanted
    closed : (l : List Instance) (w : List ℕ) → length w ≡ size → ProperOn l → All (λ i. Fit n p i.gives) l → All (λ i. All (Fit n p) (premises_for i)) l
        → All (λ i. Wants (wanted p w l) i.gives → All (Wants (wanted p w l)) (premises_for i)) l
    unfolding wanted wanted_by
    closed [] w e r g f = tt
    closed (i ∷ l) w e r g f = (
      (λ h.
          let a : Wants w i.gives = before (source l (wanted_by p w i) f.1 i.gives g.0 h) in
          all_imp (Wants (wanted_by p w i)) (Wants (wanted p (wanted_by p w i) l)) (λ q b. wanted_grows l (wanted_by p w i) q b) (premises_for i)
          (rw (to_wants w i.gives a) (all_wants (premises_for i) w e f.0))),
      closed l (wanted_by p w i) (by_length i w ∙ e) r.2 g.1 f.1,
    )
      where
        before : Wants (wanted_by p w i) i.gives
            ⊎ ((j : Instance) × Among j l × Wants (wanted p (wanted_by p w i) l) j.gives × Among i.gives (premises_for j)) → Wants w i.gives
        before (inl a) =
            ⊎_elim (λ b. b) (λ b. absurd (r.1 (all_at (λ q. Among q (founds l)) i.gives (premises_for i) r.0 b.1)))
            (by_only i w f.0 i.gives g.0 a)
        before (inr a) = absurd (r.1 (premise_found l r.2 a.0 a.1 i.gives a.3))

    pub found_fits : (l : List Instance) → All (λ i. Fit n p i.gives) l → (q : Cell) → Among q (founds l) → Fit n p q
    found_fits l f q m = let h = found_by q l m in rw h.2 (all_at (λ i. Fit n p i.gives) h.0 l f h.1)

    premises_fit : (l : List Instance) → ProperOn l → All (λ i. Fit n p i.gives) l → All (λ i. All (Fit n p) (premises_for i)) l
    premises_fit [] r f = tt
    premises_fit (i ∷ l) r f =
        (all_imp (λ q. Among q (founds l)) (Fit n p) (λ q m. found_fits l f.1 q m) (premises_for i) r.0, premises_fit l r.2 f.1)

    -- THE ENTRIES THAT A GOAL NEEDS
    pub record Chosen (goal : Cell) (l : List Instance) : Type 0 where
      pub proper : ProperOn l
      pub reached : Among goal (founds l)
      pub used : (i : Instance) → Among i l → (i.gives ≡ goal) ⊎ ((j : Instance) × Among j l × Among i.gives (premises_for j))

    pub chosen : (goal : Cell) (l : List Instance) → ProperOn l → All (λ i. Fit n p i.gives) l → Among goal (founds l) → Chosen goal (needed size p goal l)
    unfolding needed
    chosen goal l r f m =
        let w = set (blank size) (place_in p goal) 1 in
        let v = wanted p w l in
        let g = found_fits l f goal m in
        let e : length w ≡ size = length-set (blank size) (place_in p goal) 1 ∙ length-replicate {A = ℕ} size 0 in
        let d : Wants w goal = get_or-set_same (blank size) (place_in p goal) 1 0 (rw (length-replicate {A = ℕ} size 0) (in_table goal g)) in
        record {
          proper = kept_proper v l r (closed l w e r f (premises_fit l r f));
          reached = found_kept v l goal m (wanted_grows l w goal d);
          used = λ i a.
              let k = kept_is v l i a in
              let o = all_at (λ i. Fit n p i.gives) i l f k.0 in
              ⊎_elim
              (λ b. inl (⊎_elim (λ z. absurd (no_mark size (place_in p i.gives) z)) (λ z. one_cell i.gives goal o g z)
              (mark_only (blank size) (place_in p goal) (place_in p i.gives) b)))
              (λ b. inr (b.0, is_kept_lem v l b.0 b.1 b.2, b.3))
              (source l w (premises_fit l r f) i.gives o k.1);
        }

    -- A GOAL THAT WAS NOT FOUND needs nothing
    pub unneeded : (goal : Cell) → Fit n p goal → (l : List Instance) → All (λ i. Fit n p i.gives) l → (Among goal (founds l) → ⊥) → needed size p goal l ≡ []
    unfolding needed
    unneeded goal g l f a =
        let w = set (blank size) (place_in p goal) 1 in
        let h : All (λ i. wants p w i.gives ≡ false) l =
        all_of (λ i. wants p w i.gives ≡ false) l (λ i m.
        unwanted i.gives (all_at (λ i. Fit n p i.gives) i l f m) (λ e. a (subst (λ q. Among q (founds l)) e (among_map (λ j. j.gives) i l m))) (wants p w i.gives) refl) in
        rw (nothing_wanted w l h) (nothing_kept w l h)
      where
        unwanted : (q : Cell) → Fit n p q → (q ≡ goal → ⊥) → (b : Bool) → wants p (set (blank size) (place_in p goal) 1) q ≡ b → wants p (set (blank size) (place_in p goal) 1) q ≡ false
        unwanted q o d true e =
            ⊎_elim (λ z. absurd (no_mark size (place_in p q) z)) (λ z. absurd (d (one_cell q goal o g z)))
            (mark_only (blank size) (place_in p goal) (place_in p q) (from_wants (set (blank size) (place_in p goal) 1) q e))
        unwanted q o d false e = e
