-- The steps of some entries: each premise of a step is named by the number of the step that states it, and the steps state the facts
-- of the entries. Assumes nothing.
use Prim.Native.Nat.{ℕ, zero, suc, ◌+◌, ◌*◌, ◌≤◌, ◌<◌}
use native.Mathlib.Omega.{arith}
use native.Mathlib.Decide.{dec_lt, ℕ_discrete}
use mathlib.Core.Path.{◌≡◌, refl, sym, ap, ◌∙◌, subst}
use mathlib.Core.Logic.{inl, inr}
use mathlib.Core.List.{List, [], ◌∷◌, ◌++◌, map, map-append}
use lib.ListN.{length, get_or, take, length-set, length-replicate, length-append, length-map, get_or-append}
use lib.Seq.{get_or-set_same, get_or-set_other, get_or-append_seam}
use borrow.Author.Tests.{lt-ltb, le-ltb, le-leb, lt-leb}
use Rattle.logic.specs.Book.{All}
use Rattle.logic.specs.Derivation.{Among}
use Rattle.logic.specs.Step.{Step, numbers_in, premises_of}
use Rattle.facts.specs.declared.Cell.{Cell}
use Rattle.facts.specs.declared.Instance.{Instance}
use Rattle.facts.specs.Block.{place_in}
use Rattle.facts.proofs.Block.{Fit}
use Rattle.derive.specs.Steps.{premises_for, numbers_of, step_number, first_number, step_of, steps_of}
use Rattle.derive.proofs.NeededEntries.{founds, ProperOn, in_table, one_cell, found_fits}

-- an entry of a list, what is newer and what is older
pub split : {A : Type 0} (a : A) (l : List A) → Among a l → (k : List A) × (r : List A) × (l ≡ k ++ (a ∷ r))
split {A = A} a [] x' = elim x' [ ]
split a (b ∷ l) (inl e) = ([], l, rw e)
split a (b ∷ l) (inr m) = let h = split a l m in (b ∷ h.0, h.1, ap (λ z. b ∷ z) h.2)

-- the entry with i older ones
pub numbered : {A : Type 0} (l : List A) (i : ℕ) → i < length l → (k : List A) × (a : A) × (r : List A) × (l ≡ k ++ (a ∷ r)) × (length r ≡ i)
numbered {A = A} [] i h = elim h [ ]
numbered (a ∷ l) i h = elim (ℕ_discrete i (length l)) [
  | yes e ↦ ([], a, l, refl, sym e)
  | no n ↦ let z = numbered l i (omega arith) in (a ∷ z.0, z.1, z.2, ap (λ l. a ∷ l) z.3, z.4)
]

pub proper_tail : (k l : List Instance) → ProperOn (k ++ l) → ProperOn l
proper_tail [] l r = r
proper_tail (i ∷ k) l r = proper_tail k l r.2

map_take : {A B : Type 0} (f : A → B) (n : ℕ) (l : List A) → map f (take n l) ≡ take n (map f l)
map_take f zero l = refl
map_take f (suc n) [] = refl
map_take f (suc n) (a ∷ l) = ap (λ z. f a ∷ z) (map_take f n l)

-- the premises that a step names are the numbers of the entry's premises
pub step_premises : (p : ℕ) (names : List ℕ) (P : ℕ) (ns : List ℕ) (i : Instance) → premises_of (step_of p names P ns i) ≡ map (step_number p ns) (premises_for i)
unfolding step_of premises_for first_number
step_premises p names P ns i = elim (dec_lt i.kind 66) [
  | yes l ↦ rw (lt-ltb i.kind 66 l, lt-leb 66 i.kind l)
  | no h ↦
      let g : 66 ≤ i.kind = omega arith in
      rw (le-ltb i.kind 66 g, le-leb 66 i.kind g) (sym (map_take (step_number p ns) (numbers_in i.kind) (i.first ∷ i.second ∷ [])))
]

pub steps_length : (size p : ℕ) (names : List ℕ) (P : ℕ) (l : List Instance) → length (steps_of size p names P l) ≡ length l
unfolding steps_of
steps_length size p names P [] = refl
steps_length size p names P (i ∷ l) =
    length-append (steps_of size p names P l) (step_of p names P (numbers_of size p l) i ∷ []) ∙ omega (arith, steps_length size p names P l)

-- the step of an entry stands at the number of its older ones
pub step_at_lem : (size p : ℕ) (names : List ℕ) (P : ℕ) (d : Step) (k : List Instance) (i : Instance) (l : List Instance)
    → get_or (steps_of size p names P (k ++ (i ∷ l))) (length l) d ≡ step_of p names P (numbers_of size p l) i
unfolding steps_of
step_at_lem size p names P d [] i l =
    subst (λ n. get_or (steps_of size p names P l ++ (step_of p names P (numbers_of size p l) i ∷ [])) n d ≡ step_of p names P (numbers_of size p l) i)
    (steps_length size p names P l) (get_or-append_seam (steps_of size p names P l) (step_of p names P (numbers_of size p l) i) [] d)
step_at_lem size p names P d (j ∷ k) i l =
    let s = steps_of size p names P (k ++ (i ∷ l)) in
    get_or-append s (step_of p names P (numbers_of size p (k ++ (i ∷ l))) j ∷ []) d (length l)
    (omega (arith, steps_length size p names P (k ++ (i ∷ l)), length-append k (i ∷ l)))
    ∙ step_at_lem size p names P d k i l

module _ (p : ℕ) (few : p ≤ 8) (n size : ℕ) (room : n * (3 + 2 * p) ≤ size) where
  abbrev pub Fits : List Instance → Type 0
  Fits l = All (λ i. Fit n p i.gives) l

  numbers_length : (l : List Instance) → length (numbers_of size p l) ≡ size
  unfolding numbers_of
  numbers_length [] = length-replicate {A = ℕ} size 0
  numbers_length (i ∷ l) = length-set (numbers_of size p l) (place_in p i.gives) (length l) ∙ numbers_length l

  -- the number of an entry's fact is that of its older entries
  pub number_new : (i : Instance) (l : List Instance) → Fit n p i.gives → step_number p (numbers_of size p (i ∷ l)) i.gives ≡ length l
  unfolding numbers_of step_number
  number_new i l f = get_or-set_same (numbers_of size p l) (place_in p i.gives) (length l) 0 (rw (numbers_length l) (in_table p few n size room i.gives f))

  -- and it stays that
  pub number_old : (i : Instance) (l : List Instance) → ProperOn (i ∷ l) → Fits (i ∷ l) → (q : Cell) → Among q (founds l)
      → step_number p (numbers_of size p (i ∷ l)) q ≡ step_number p (numbers_of size p l) q
  unfolding numbers_of step_number
  number_old i l r f q m =
      get_or-set_other (numbers_of size p l) (place_in p i.gives) (place_in p q) (length l) 0
      (λ e. r.1 (subst (λ z. Among z (founds l)) (one_cell p few n size room q i.gives (found_fits p few n size room l f.1 q m) f.0 e) m))

  pub number_behind : (k l : List Instance) → ProperOn (k ++ l) → Fits (k ++ l) → (q : Cell) → Among q (founds l)
      → (Among q (founds (k ++ l))) × (step_number p (numbers_of size p (k ++ l)) q ≡ step_number p (numbers_of size p l) q)
  number_behind [] l r f q m = (m, refl)
  number_behind (i ∷ k) l r f q m =
      let h = number_behind k l r.2 f.1 q m in
      (inr h.0, number_old i (k ++ l) r f q h.0 ∙ h.1)

  pub number_below : (l : List Instance) → ProperOn l → Fits l → (q : Cell) → Among q (founds l) → step_number p (numbers_of size p l) q < length l
  number_below [] r f q x3 = elim x3 [ ]
  number_below (i ∷ l) r f q (inl e) = rw (e, number_new i l f.0) (omega arith)
  number_below (i ∷ l) r f q (inr m) = rw (number_old i l r f q m) (omega (arith, number_below l r.2 f.1 q m))

  -- what is stated at the number of a fact is that fact, for anything that the steps state of the facts
  pub stated_at_lem : {A : Type 0} (names : List ℕ) (P : ℕ) (d : A) (says : Step → A) (of : Cell → A)
      → ((ns : List ℕ) (i : Instance) → says (step_of p names P ns i) ≡ of i.gives)
      → (l : List Instance) → ProperOn l → Fits l → (q : Cell) → Among q (founds l)
      → get_or (map says (steps_of size p names P l)) (step_number p (numbers_of size p l) q) d ≡ of q
  unfolding steps_of
  stated_at_lem {A = A} names P d says of e [] r f q x3 = elim x3 [ ]
  stated_at_lem names P d says of e (i ∷ l) r f q (inl z) =
      let s = steps_of size p names P l in
      let g = step_of p names P (numbers_of size p l) i in
      rw (z, number_new i l f.0, map-append says s (g ∷ []))
      (subst (λ k. get_or (map says s ++ (says g ∷ [])) k d ≡ of i.gives) (length-map s says ∙ steps_length size p names P l)
      (get_or-append_seam (map says s) (says g) [] d ∙ e (numbers_of size p l) i))
  stated_at_lem names P d says of e (i ∷ l) r f q (inr m) =
      let s = steps_of size p names P l in
      let g = step_of p names P (numbers_of size p l) i in
      let h = number_below l r.2 f.1 q m in
      rw (number_old i l r f q m, map-append says s (g ∷ []))
      (get_or-append (map says s) (says g ∷ []) d (step_number p (numbers_of size p l) q) (omega (arith, length-map s says, steps_length size p names P l))
      ∙ stated_at_lem names P d says of e l r.2 f.1 q m)
