-- Laws of "each member" and "is a member".
use Prim.Native.Nat.{ℕ, zero, suc, ◌≤◌}
use mathlib.Core.Path.{◌≡◌, refl, ap}
use mathlib.Core.Logic.{◌⊎◌, inl, inr, ⊎_elim}
use mathlib.Core.List.{List, [], ◌∷◌, ◌++◌, map}
use native.Mathlib.Omega.{arith}
use lib.ListN.{take}
use Rattle.logic.specs.Book.{All}
use Rattle.logic.specs.Derivation.{Among}

module _ {A : Type 0} where
  -- what holds of each member holds of this one
  pub all_at : (P : A → Type 0) (a : A) (l : List A) → All P l → Among a l → P a
  all_at P a (b ∷ l) h (inl e) = rw e h.0
  all_at P a [] h x'' = elim x'' [ ]
  all_at P a (b ∷ l) h (inr m) = all_at P a l h.1 m

  pub all_of : (P : A → Type 0) (l : List A) → ((a : A) → Among a l → P a) → All P l
  all_of P [] h = tt
  all_of P (b ∷ l) h = (h b (inl refl), all_of P l (λ a m. h a (inr m)))

  pub all_imp : (P Q : A → Type 0) → ((a : A) → P a → Q a) → (l : List A) → All P l → All Q l
  all_imp P Q f [] h = tt
  all_imp P Q f (b ∷ l) h = (f b h.0, all_imp P Q f l h.1)

  pub all_append : (P : A → Type 0) (k l : List A) → All P k → All P l → All P (k ++ l)
  all_append P [] l g h = h
  all_append P (a ∷ k) l g h = (g.0, all_append P k l g.1 h)

  pub all_right : (P : A → Type 0) (k l : List A) → All P (k ++ l) → All P l
  all_right P [] l h = h
  all_right P (a ∷ k) l h = all_right P k l h.1

  pub among_left : (a : A) (k l : List A) → Among a k → Among a (k ++ l)
  among_left a (b ∷ k) l (inl e) = inl e
  among_left a [] l x' = elim x' [ ]
  among_left a (b ∷ k) l (inr m) = inr (among_left a k l m)

  pub among_right : (a : A) (k l : List A) → Among a l → Among a (k ++ l)
  among_right a [] l m = m
  among_right a (b ∷ k) l m = inr (among_right a k l m)

  pub among_append : (a : A) (k l : List A) → Among a (k ++ l) → Among a k ⊎ Among a l
  among_append a [] l m = inr m
  among_append a (b ∷ k) l (inl e) = inl (inl e)
  among_append a (b ∷ k) l (inr m) = ⊎_elim (λ x. inl (inr x)) (λ y. inr y) (among_append a k l m)

  pub among_take : (a : A) (n : ℕ) (l : List A) → Among a (take n l) → Among a l
  among_take a (suc n) (b ∷ l) (inl e) = inl e
  among_take a zero l x' = elim x' [ ]
  among_take a (suc n) [] x3 = elim x3 [ ]
  among_take a (suc n) (b ∷ l) (inr m) = inr (among_take a n l m)

  -- more is taken
  pub among_take_le : (a : A) (n m : ℕ) (l : List A) → n ≤ m → Among a (take n l) → Among a (take m l)
  among_take_le a (suc n) zero (b ∷ l) h i = absurd (omega arith)
  among_take_le a zero m l h i = elim i [ ]
  among_take_le a (suc n) zero [] h i = elim h [ ]
  among_take_le a (suc n) (suc m) [] h i = elim i [ ]
  among_take_le a (suc n) (suc m) (b ∷ l) h (inl e) = inl e
  among_take_le a (suc n) (suc m) (b ∷ l) h (inr i) = inr (among_take_le a n m l (omega arith) i)

module _ {A B : Type 0} (f : A → B) where
  pub among_map : (a : A) (l : List A) → Among a l → Among (f a) (map f l)
  among_map a (b ∷ l) (inl e) = inl (ap f e)
  among_map a [] x' = elim x' [ ]
  among_map a (b ∷ l) (inr m) = inr (among_map a l m)

  -- a member of the images is an image of a member
  pub among_image : (b : B) (l : List A) → Among b (map f l) → (a : A) × Among a l × (b ≡ f a)
  among_image b (c ∷ l) (inl e) = (c, inl refl, e)
  among_image b [] x' = elim x' [ ]
  among_image b (c ∷ l) (inr m) = let h = among_image b l m in (h.0, inr h.1, h.2)

  pub all_map : (P : B → Type 0) (l : List A) → All (λ a. P (f a)) l → All P (map f l)
  all_map P [] h = tt
  all_map P (a ∷ l) h = (h.0, all_map P l h.1)
