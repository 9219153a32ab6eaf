-- What follows, as a set: it holds the given facts and is closed under the rules, and it grows with the given facts.
use Prim.Native.Nat.{ℕ, ◌≤◌}
use mathlib.Core.Path.{refl, sym}
use mathlib.Core.Logic.{inl, inr, ⊎_elim}
use mathlib.Core.List.{List, [], ◌∷◌, ◌++◌, map, append_assoc, append-nil}
use lib.ListN.{length, take}
use lib.Seq.{take-length}
use Rattle.logic.specs.declared.Record.{Record}
use Rattle.logic.specs.Count.{formulas, assumptions, messages}
use Rattle.logic.specs.Book.{All}
use Rattle.logic.specs.Formula.{Tree, Recorded}
use Rattle.logic.specs.Fact.{Fact, IsFact, assumed, delivered, initial}
use Rattle.logic.specs.Rule.{Rule}
use Rattle.logic.specs.Derivation.{Among, Justified, DerivationBehind, EndsIn, Derivable}
use Rattle.logic.proofs.Member.{all_imp, among_left, among_right, among_append, among_map, among_image, among_take, among_take_le}
use Rattle.logic.proofs.Induction.{at_end, kept}

-- a list with one more fact ends in it
pub ends_last : (l : List (Fact Tree)) (f : Fact Tree) → EndsIn f (l ++ (f ∷ []))
ends_last [] f = refl
ends_last (g ∷ []) f = refl
ends_last (g ∷ h ∷ l) f = ends_last (h ∷ l) f

-- the fact that a list ends in is one of its members
pub ends_among : (f : Fact Tree) (l : List (Fact Tree)) → EndsIn f l → Among f l
ends_among f (g ∷ []) e = inl (sym e)
ends_among f [] e = elim e [ ]
ends_among f (g ∷ h ∷ l) e = inr (ends_among f (h ∷ l) e)

-- more may be given, and more may stand before
justified_more : (given given' past past' : List (Fact Tree)) → ((f : Fact Tree) → Among f given → Among f given')
    → ((f : Fact Tree) → Among f past → Among f past') → (f : Fact Tree) → Justified given past f → Justified given' past' f
justified_more given given' past past' s t f (inl m) = inl (s f m)
justified_more given given' past past' s t f (inr (n, ps, r, h)) =
    inr (n, ps, r, all_imp (λ g. Among g past) (λ g. Among g past') t ps h)

one_more_lem : (f : Fact Tree) (past past' : List (Fact Tree)) → ((g : Fact Tree) → Among g past → Among g past')
    → (g : Fact Tree) → Among g (past ++ (f ∷ [])) → Among g (past' ++ (f ∷ []))
one_more_lem f past past' t g m =
    ⊎_elim (λ i. among_left g past' (f ∷ []) (t g i)) (λ i. among_right g past' (f ∷ []) i) (among_append g past (f ∷ []) m)

pub derivation_more : (Leaf : Tree → Type 0) (given given' past past' l : List (Fact Tree)) → ((f : Fact Tree) → Among f given → Among f given')
    → ((f : Fact Tree) → Among f past → Among f past') → DerivationBehind Leaf given past l → DerivationBehind Leaf given' past' l
derivation_more Leaf given given' past past' [] s t d = tt
derivation_more Leaf given given' past past' (f ∷ l) s t d = (
  d.0,
  justified_more given given' past past' s t f d.1,
  derivation_more Leaf given given' (past ++ (f ∷ [])) (past' ++ (f ∷ [])) l s (one_more_lem f past past' t) d.2,
)

-- one derivation behind another
pub derivation_append : (Leaf : Tree → Type 0) (given past k l : List (Fact Tree)) → DerivationBehind Leaf given past k
    → DerivationBehind Leaf given (past ++ k) l → DerivationBehind Leaf given past (k ++ l)
derivation_append Leaf given past [] l d e = rw (append-nil past) at e
derivation_append Leaf given past (f ∷ k) l d e =
    (d.0, d.1, derivation_append Leaf given (past ++ (f ∷ [])) k l d.2 (rw (append_assoc past (f ∷ []) k) e))

module _ (Leaf : Tree → Type 0) (given : List (Fact Tree)) where
  -- some derivation ends in f
  abbrev pub Following : Fact Tree → Type 0
  Following f = (l : List (Fact Tree)) × DerivationBehind Leaf given [] l × EndsIn f l

  -- one derivation for several facts
  together : (fs : List (Fact Tree)) → All Following fs
      → (l : List (Fact Tree)) × DerivationBehind Leaf given [] l × All (λ f. Among f l) fs
  together [] h = ([], tt, tt)
  together (f ∷ fs) ((k, d, e), h) =
      let t = together fs h in
      let l = t.0 in (
        k ++ l,
        derivation_append Leaf given [] k l d (derivation_more Leaf given given [] k l (λ g m. m) (λ g m. absurd m) t.1),
        (among_left f k l (ends_among f k e), all_imp (λ g. Among g l) (λ g. Among g (k ++ l)) (λ g m. among_right g k l m) fs t.2),
      )

  last : (f : Fact Tree) (l : List (Fact Tree)) → IsFact Leaf f → DerivationBehind Leaf given [] l → Justified given l f → Following f
  last f l i d j = (l ++ (f ∷ []), derivation_append Leaf given [] l (f ∷ []) d (i, j, tt), ends_last l f)

  -- given facts follow
  pub follows_given : (f : Fact Tree) → IsFact Leaf f → Among f given → Following f
  follows_given f i m = last f [] i tt (inl m)

  -- what a rule concludes from facts that follow, follows
  pub follows_rule : {n : ℕ} {ps : List (Fact Tree)} {f : Fact Tree} → Rule n ps f → IsFact Leaf f → All Following ps → Following f
  follows_rule {n} {ps} {f} r i h =
      let t = together ps h in
      last f t.0 i t.1 (inr (n, ps, r, t.2))

  -- THE LEAST CLOSED SET: what follows is in every set that holds the given facts and is closed under the rules
  pub follows_least : (M : Fact Tree → Type 0) → ((f : Fact Tree) → IsFact Leaf f → Among f given → M f)
      → ((n : ℕ) (ps : List (Fact Tree)) (f : Fact Tree) → Rule n ps f → IsFact Leaf f → All M ps → M f) → (f : Fact Tree) → Following f → M f
  follows_least M s t f (l, d, e) = at_end M f l (kept Leaf given M s t [] l tt d) e

-- the initial facts grow with the messages
pub initial_later : (rs : List Record) (m n : ℕ) → m ≤ n → (f : Fact Tree) → Among f (initial rs m) → Among f (initial rs n)
unfolding initial
initial_later rs m n l f i =
    let fs = formulas rs in
    let a = map (assumed fs) (assumptions rs) in
    ⊎_elim (λ h. among_left f a (map (delivered fs) (take n (messages rs))) h)
    (λ h.
    let d = among_image (delivered fs) f (take m (messages rs)) h in
    among_right f a (map (delivered fs) (take n (messages rs)))
    (rw d.2 (among_map (delivered fs) d.0 (take n (messages rs)) (among_take_le d.0 m n (messages rs) l d.1))))
    (among_append f a (map (delivered fs) (take m (messages rs))) i)

-- MONOTONY: nothing lapses; what follows from given facts follows where more is given
pub follows_more : (fs : List Record) (given given' : List (Fact Tree)) → ((f : Fact Tree) → Among f given → Among f given') → (f : Fact Tree)
    → Derivable fs given f → Derivable fs given' f
follows_more fs given given' g f (l, d, e) = (l, derivation_more (Recorded fs) given given' [] [] l g (λ h i. i) d, e)

-- so in a book what follows up to message m follows up to every later one
pub follows_later : (rs : List Record) (m n : ℕ) → m ≤ n → (f : Fact Tree) → Derivable (formulas rs) (initial rs m) f → Derivable (formulas rs) (initial rs n) f
follows_later rs m n l = follows_more (formulas rs) (initial rs m) (initial rs n) (initial_later rs m n l)

-- no message comes after the last
initial_last : (rs : List Record) (m : ℕ) (f : Fact Tree) → Among f (initial rs m) → Among f (initial rs (length (messages rs)))
unfolding initial
initial_last rs m f i =
    let fs = formulas rs in
    let a = map (assumed fs) (assumptions rs) in
    let l = map (delivered fs) (take (length (messages rs)) (messages rs)) in
    ⊎_elim (λ h. among_left f a l h)
    (λ h.
    let d = among_image (delivered fs) f (take m (messages rs)) h in
    among_right f a l
    (rw (d.2, take-length (messages rs)) (among_map (delivered fs) d.0 (messages rs) (among_take d.0 m (messages rs) d.1))))
    (among_append f a (map (delivered fs) (take m (messages rs))) i)

pub follows_last : (rs : List Record) (m : ℕ) (f : Fact Tree) → Derivable (formulas rs) (initial rs m) f → Derivable (formulas rs) (initial rs (length (messages rs))) f
follows_last rs m = follows_more (formulas rs) (initial rs m) (initial rs (length (messages rs))) (initial_last rs m)
