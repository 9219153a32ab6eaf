-- Renaming data in trees keeps every rule, every derivation and, where a datum's text goes with it, every text. Assumes nothing.
use Prim.Native.Nat.{ℕ}
use mathlib.Core.Path.{◌≡◌, refl, sym, ◌∙◌, ap, ap₂}
use mathlib.Core.Bool.{Bool, true, false, cond, ◌&&◌, ◌||◌}
use mathlib.Core.List.{List, ◌++◌, map}
use lib.Dec.{T, eqb}
use Rattle.logic.specs.Formula.{Tree, clear, loose_field, loose, delegates, may_delegate, IsControl, WellFormed, Sentence}
use Rattle.logic.specs.Formula.Tree.{principal, key, datum, conjunction, encrypted, signed, combined, shared_key, public_key, shared_secret, fresh, believes, sees, said, controls, variable, for_every}
use Rattle.logic.specs.Instance.{put, IsInstance}
use Rattle.logic.specs.Fact.{Fact, belief, IsFact}
use Rattle.logic.specs.Fact.Fact.{Sees, Believes, BelievesFresh, BelievesSaid, BelievesBelieves}
use Rattle.logic.specs.Rule.{Rule}
use Rattle.logic.specs.Rule.Rule.{rule1, rule2, rule3, rule4, rule5, rule6, rule7, rule8, rule9, rule10, rule11, rule12, rule13, rule14, rule15, rule16, rule17, rule18, rule19, rule20, rule21, rule22}
use Rattle.logic.specs.Text.{shown, fact_text}
use Rattle.logic.proofs.Member.{among_map, all_map}
use Rattle.logic.proofs.Derivable.{Following, follows_given, follows_rule, follows_least}

module _ (ρ : ℕ → ℕ) where
  -- the tree with each datum under its new name; principals, keys and variables keep theirs
  abbrev pub rename : Tree → Tree
  rename (principal n) = principal n
  rename (key n) = key n
  rename (datum n) = datum (ρ n)
  rename (conjunction X Y) = conjunction (rename X) (rename Y)
  rename (encrypted X K R) = encrypted (rename X) K R
  rename (signed X K R) = signed (rename X) K R
  rename (combined X Y) = combined (rename X) (rename Y)
  rename (shared_key A K B) = shared_key A K B
  rename (public_key K Q) = public_key K Q
  rename (shared_secret A X B) = shared_secret A (rename X) B
  rename (fresh X) = fresh (rename X)
  rename (believes Q X) = believes Q (rename X)
  rename (sees Q X) = sees Q (rename X)
  rename (said Q X) = said Q (rename X)
  rename (controls Q X) = controls Q (rename X)
  rename (variable v) = variable v
  rename (for_every v Z) = for_every v (rename Z)

  -- and the fact about it
  abbrev pub renamed : Fact Tree → Fact Tree
  renamed (Sees P X) = Sees P (rename X)
  renamed (Believes P X) = Believes P (rename X)
  renamed (BelievesFresh P X) = BelievesFresh P (rename X)
  renamed (BelievesSaid P Q X) = BelievesSaid P Q (rename X)
  renamed (BelievesBelieves P Q X) = BelievesBelieves P Q (rename X)

  -- WHAT THE RULES LOOK AT stays: whether a formula is clear, its loose variables, whether it delegates
  pub rename_clear : (X : Tree) → clear (rename X) ≡ clear X
  rename_clear (principal n) = refl
  rename_clear (key n) = refl
  rename_clear (datum n) = refl
  rename_clear (conjunction X Y) = ap₂ (λ s t. s && t) (rename_clear X) (rename_clear Y)
  rename_clear (encrypted X K R) = refl
  rename_clear (signed X K R) = refl
  rename_clear (combined X Y) = ap₂ (λ s t. s && t) (rename_clear X) (rename_clear Y)
  rename_clear (shared_key A K B) = refl
  rename_clear (public_key K Q) = refl
  rename_clear (shared_secret A X B) = rename_clear X
  rename_clear (fresh X) = rename_clear X
  rename_clear (believes Q X) = rename_clear X
  rename_clear (sees Q X) = rename_clear X
  rename_clear (said Q X) = rename_clear X
  rename_clear (controls Q X) = rename_clear X
  rename_clear (variable v) = refl
  rename_clear (for_every v Z) = rename_clear Z

  pub rename_loose : (X : Tree) → loose (rename X) ≡ loose X
  rename_loose (principal n) = refl
  rename_loose (key n) = refl
  rename_loose (datum n) = refl
  rename_loose (conjunction X Y) = ap₂ (λ k l. k ++ l) (rename_loose X) (rename_loose Y)
  rename_loose (encrypted X K R) = ap (λ l. l ++ loose_field K) (rename_loose X)
  rename_loose (signed X K R) = ap (λ l. l ++ loose_field K) (rename_loose X)
  rename_loose (combined X Y) = ap₂ (λ k l. k ++ l) (rename_loose X) (rename_loose Y)
  rename_loose (shared_key A K B) = refl
  rename_loose (public_key K Q) = refl
  rename_loose (shared_secret A X B) = rename_loose X
  rename_loose (fresh X) = rename_loose X
  rename_loose (believes Q X) = rename_loose X
  rename_loose (sees Q X) = rename_loose X
  rename_loose (said Q X) = rename_loose X
  rename_loose (controls Q X) = rename_loose X
  rename_loose (variable v) = refl
  rename_loose (for_every v Z) = refl

  pub rename_delegates : (X : Tree) → delegates (rename X) ≡ delegates X
  rename_delegates (principal n) = refl
  rename_delegates (key n) = refl
  rename_delegates (datum n) = refl
  rename_delegates (conjunction X Y) = ap₂ (λ s t. s || t) (rename_delegates X) (rename_delegates Y)
  rename_delegates (encrypted X K R) = rename_delegates X
  rename_delegates (signed X K R) = rename_delegates X
  rename_delegates (combined X Y) = ap₂ (λ s t. s || t) (rename_delegates X) (rename_delegates Y)
  rename_delegates (shared_key A K B) = refl
  rename_delegates (public_key K Q) = refl
  rename_delegates (shared_secret A X B) = rename_delegates X
  rename_delegates (fresh X) = rename_delegates X
  rename_delegates (believes Q X) = rename_delegates X
  rename_delegates (sees Q X) = rename_delegates X
  rename_delegates (said Q X) = rename_delegates X
  rename_delegates (controls Q X) = rename_delegates X
  rename_delegates (variable v) = refl
  rename_delegates (for_every v Z) = refl

  pub rename_allowed : (v : ℕ) (X : Tree) → T (may_delegate v X) → T (may_delegate v (rename X))
  rename_allowed v X t = rw (rename_delegates X, rename_loose X) t

  -- a key put for a variable, before or after
  rename_put : (v n : ℕ) (X : Tree) → rename (put v n X) ≡ put v n (rename X)
  rename_put v n (principal m) = refl
  rename_put v n (key m) = refl
  rename_put v n (datum m) = refl
  rename_put v n (conjunction X Y) = ap₂ conjunction (rename_put v n X) (rename_put v n Y)
  rename_put v n (encrypted X K R) = rw (rename_put v n X)
  rename_put v n (signed X K R) = rw (rename_put v n X)
  rename_put v n (combined X Y) = ap₂ combined (rename_put v n X) (rename_put v n Y)
  rename_put v n (shared_key A K B) = refl
  rename_put v n (public_key K Q) = refl
  rename_put v n (shared_secret A X B) = rw (rename_put v n X)
  rename_put v n (fresh X) = ap fresh (rename_put v n X)
  rename_put v n (believes Q X) = ap (believes Q) (rename_put v n X)
  rename_put v n (sees Q X) = ap (sees Q) (rename_put v n X)
  rename_put v n (said Q X) = ap (said Q) (rename_put v n X)
  rename_put v n (controls Q X) = ap (controls Q) (rename_put v n X)
  rename_put v n (variable w) = go (eqb w v)
    where
      go : (b : Bool) → rename (cond b (key n) (variable w)) ≡ cond b (key n) (variable w)
      go true = refl
      go false = refl
  rename_put v n (for_every w Z) = refl

  rename_instance : (v : ℕ) (X X' : Tree) → IsInstance v X X' → IsInstance v (rename X) (rename X')
  rename_instance v X X' (n, e) = (n, ap rename e ∙ rename_put v n X)

  -- a belief is opened in the same kinds
  renamed_belief : (P : ℕ) (X : Tree) → renamed (belief P X) ≡ belief P (rename X)
  renamed_belief P (principal n) = refl
  renamed_belief P (key n) = refl
  renamed_belief P (datum n) = refl
  renamed_belief P (conjunction X Y) = refl
  renamed_belief P (encrypted X K R) = refl
  renamed_belief P (signed X K R) = refl
  renamed_belief P (combined X Y) = refl
  renamed_belief P (shared_key A K B) = refl
  renamed_belief P (public_key K Q) = refl
  renamed_belief P (shared_secret A X B) = refl
  renamed_belief P (fresh X) = refl
  renamed_belief P (believes Q X) = refl
  renamed_belief P (sees Q X) = refl
  renamed_belief P (said Q X) = refl
  renamed_belief P (controls Q X) = refl
  renamed_belief P (variable v) = refl
  renamed_belief P (for_every v Z) = refl

  -- EVERY RULE
  pub renamed_rule : {n : ℕ} {ps : List (Fact Tree)} {f : Fact Tree} → Rule n ps f → Rule n (map renamed ps) (renamed f)
  renamed_rule (rule1 P Q A B K R X ends other) = rule1 P Q A B K R (rename X) ends other
  renamed_rule (rule2 P Q K R X other) = rule2 P Q K R (rename X) other
  renamed_rule (rule3 P Q A B X Y ends) = rule3 P Q A B (rename X) (rename Y) ends
  renamed_rule (rule4 P Q X is_clear) = rule4 P Q (rename X) (rw (rename_clear X) is_clear)
  renamed_rule (rule5 P Q X) = rw (renamed_belief P X) (rule5 P Q (rename X))
  renamed_rule (rule6 P X Y) = rule6 P (rename X) (rename Y)
  renamed_rule (rule7 P X Y) = rule7 P (rename X) (rename Y)
  renamed_rule (rule8 P X Y) = rule8 P (rename X) (rename Y)
  renamed_rule (rule9 P Q A B K R X ends other) = rule9 P Q A B K R (rename X) ends other
  renamed_rule (rule10 P K R X other) = rule10 P K R (rename X) other
  renamed_rule (rule11 P Q K R X other) = rule11 P Q K R (rename X) other
  renamed_rule (rule12 P X Y) = rule12 P (rename X) (rename Y)
  renamed_rule (rule13 P X Y) = rule13 P (rename X) (rename Y)
  renamed_rule (rule14 P Q X Y) = rule14 P Q (rename X) (rename Y)
  renamed_rule (rule15 P Q X Y) = rule15 P Q (rename X) (rename Y)
  renamed_rule (rule16 P Q X Y) = rule16 P Q (rename X) (rename Y)
  renamed_rule (rule17 P Q X Y) = rule17 P Q (rename X) (rename Y)
  renamed_rule (rule18 P X Y) = rw (renamed_belief P X) (rule18 P (rename X) (rename Y))
  renamed_rule (rule19 P X Y) = rw (renamed_belief P Y) (rule19 P (rename X) (rename Y))
  renamed_rule (rule20 P X Y) = rw (renamed_belief P X, renamed_belief P Y) (rule20 P (rename X) (rename Y))
  renamed_rule (rule21 P Q v X X' i) = rw (renamed_belief P X') (rule21 P Q v (rename X) (rename X') (rename_instance v X X' i))
  renamed_rule (rule22 P Q v X X' i) = rule22 P Q v (rename X) (rename X') (rename_instance v X X' i)

  -- Leaves that are renamed into leaves.
  module _ (Leaf Leaf' : Tree → Type 0) (leaf : (t : Tree) → Leaf t → Leaf' (rename t)) where
    rename_control : (Z : Tree) → IsControl Z → IsControl (rename Z)
    rename_control Z (Q, X, e) = (Q, rename X, ap rename e)

    pub rename_formed : (X : Tree) → WellFormed Leaf X → WellFormed Leaf' (rename X)
    rename_formed (principal n) h = absurd h
    rename_formed (key n) h = absurd h
    rename_formed (datum n) h = leaf (datum n) h
    rename_formed (conjunction X Y) h = (rename_formed X h.0, rename_formed Y h.1)
    rename_formed (encrypted X K R) h = (rename_formed X h.0, leaf (principal R) h.1)
    rename_formed (signed X K R) h = (rename_formed X h.0, leaf (principal R) h.1)
    rename_formed (combined X Y) h = (rename_formed X h.0, rename_formed Y h.1)
    rename_formed (shared_key A K B) h = (leaf (principal A) h.0, leaf (principal B) h.1, h.2)
    rename_formed (public_key K Q) h = leaf (principal Q) h
    rename_formed (shared_secret A X B) h = (leaf (principal A) h.0, rename_formed X h.1, leaf (principal B) h.2, h.3)
    rename_formed (fresh X) h = rename_formed X h
    rename_formed (believes Q X) h = (leaf (principal Q) h.0, rename_formed X h.1)
    rename_formed (sees Q X) h = (leaf (principal Q) h.0, rename_formed X h.1)
    rename_formed (said Q X) h = (leaf (principal Q) h.0, rename_formed X h.1)
    rename_formed (controls Q X) h = (leaf (principal Q) h.0, rename_formed X h.1)
    rename_formed (variable v) h = absurd h
    rename_formed (for_every v Z) h = (rename_formed Z h.0, rename_control Z h.1, rename_allowed v Z h.2)

    rename_sentence : (X : Tree) → Sentence Leaf X → Sentence Leaf' (rename X)
    rename_sentence X h = (rename_formed X h.0, rename_loose X ∙ h.1)

    pub renamed_fact : (f : Fact Tree) → IsFact Leaf f → IsFact Leaf' (renamed f)
    renamed_fact (Sees P X) i = (leaf (principal P) i.0, rename_sentence X i.1)
    renamed_fact (Believes P X) i = (leaf (principal P) i.0, rename_sentence X i.1, sym (renamed_belief P X) ∙ ap renamed i.2)
    renamed_fact (BelievesFresh P X) i = (leaf (principal P) i.0, rename_sentence X i.1)
    renamed_fact (BelievesSaid P Q X) i = (leaf (principal P) i.0, leaf (principal Q) i.1, rename_sentence X i.2)
    renamed_fact (BelievesBelieves P Q X) i = (leaf (principal P) i.0, leaf (principal Q) i.1, rename_sentence X i.2)

    -- EVERY DERIVATION: the facts whose renamed ones follow hold the given facts and are closed under the rules
    pub renamed_follows : (given : List (Fact Tree)) (f : Fact Tree) → Following Leaf given f → Following Leaf' (map renamed given) (renamed f)
    renamed_follows given f d =
        let G : List (Fact Tree) = map renamed given in
        follows_least Leaf given (λ g. Following Leaf' G (renamed g))
        (λ g i m. follows_given Leaf' G (renamed g) (renamed_fact g i) (among_map renamed g given m))
        (λ n ps g r i h. follows_rule Leaf' G (renamed_rule r) (renamed_fact g i) (all_map renamed (Following Leaf' G) ps h)) f d

  -- EVERY TEXT, where a datum's text goes with it.
  module _ (Leaf : Tree → Type 0) (naming naming' : ℕ → List ℕ) (goes : (n : ℕ) → Leaf (datum n) → naming n ≡ naming' (ρ n)) where
    pub renamed_shown : (X : Tree) → WellFormed Leaf X → shown naming X ≡ shown naming' (rename X)
    unfolding shown
    renamed_shown (principal n) h = absurd h
    renamed_shown (key n) h = absurd h
    renamed_shown (datum n) h = rw (goes n h)
    renamed_shown (conjunction X Y) h = rw (renamed_shown X h.0, renamed_shown Y h.1)
    renamed_shown (encrypted X K R) h = rw (renamed_shown X h.0)
    renamed_shown (signed X K R) h = rw (renamed_shown X h.0)
    renamed_shown (combined X Y) h = rw (renamed_shown X h.0, renamed_shown Y h.1)
    renamed_shown (shared_key A K B) h = refl
    renamed_shown (public_key K Q) h = refl
    renamed_shown (shared_secret A X B) h = rw (renamed_shown X h.1)
    renamed_shown (fresh X) h = rw (renamed_shown X h)
    renamed_shown (believes Q X) h = rw (renamed_shown X h.1)
    renamed_shown (sees Q X) h = rw (renamed_shown X h.1)
    renamed_shown (said Q X) h = rw (renamed_shown X h.1)
    renamed_shown (controls Q X) h = rw (renamed_shown X h.1)
    renamed_shown (variable v) h = absurd h
    renamed_shown (for_every v Z) h = rw (renamed_shown Z h.0)

    pub renamed_text : (f : Fact Tree) → IsFact Leaf f → fact_text naming f ≡ fact_text naming' (renamed f)
    unfolding shown
    renamed_text (Sees P X) i = rw (renamed_shown X i.1.0)
    renamed_text (Believes P X) i = rw (renamed_shown X i.1.0)
    renamed_text (BelievesFresh P X) i = rw (renamed_shown X i.1.0)
    renamed_text (BelievesSaid P Q X) i = rw (renamed_shown X i.2.0)
    renamed_text (BelievesBelieves P Q X) i = rw (renamed_shown X i.2.0)
