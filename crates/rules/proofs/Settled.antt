-- What is held of principal a's facts, as a predicate on cells: once it is closed under the rules of all records, it is just what follows
-- from the given facts. Soundness by what each listed instance is, completeness by what is listed.
use Prim.Native.Nat.{ℕ, ◌<◌, ◌≤◌}
use mathlib.Core.Path.{◌≡◌, refl, sym, ◌∙◌, subst}
use mathlib.Core.Logic.{◌⊎◌, inl, ⊎_elim}
use mathlib.Core.List.{List, [], ◌∷◌, ◌++◌, map}
use mathlib.Core.Bool.{true}
use lib.ListN.{length}
use Rattle.logic.specs.declared.Record.{Record}
use Rattle.logic.specs.Book.{All}
use Rattle.logic.specs.Formula.{Tree, Recorded}
use Rattle.logic.specs.Fact.{Fact}
use Rattle.logic.specs.Derivation.{Among}
use Rattle.logic.specs.Written.{meaning}
use Rattle.logic.proofs.Member.{all_at, all_of, all_imp, all_append, among_left, among_right, among_map, among_image}
use Rattle.logic.proofs.Formulas.{Formulas}
use Rattle.logic.proofs.Meaning.{IsPrincipal, Valid, is_fact}
use Rattle.logic.proofs.RuleOn.{raised}
use Rattle.logic.proofs.Holder.{holder, keeps_on}
use Rattle.logic.proofs.Derivable.{Following, follows_given, follows_rule, derivation_more}
use Rattle.logic.proofs.Complete.{ClosedOn, holds}
use Rattle.facts.specs.declared.Cell.{Cell}
use Rattle.facts.specs.declared.Instance.{Instance}
use Rattle.facts.specs.Facts.{bit_at}
use Rattle.facts.proofs.Premises.{Unless, Asked, Keeps}
use Rattle.facts.proofs.Block.{Fit}
use Rattle.lanes.specs.Lanes.{Common}
use Rattle.lanes.proofs.Sets.{Proper}
use Rattle.lanes.proofs.Runs.{Leads}
use Rattle.flat.proofs.Cells.{Ranking, cell_of, ranked_fact, fact_of_cell, cell_fits, Represents}
use Rattle.rules.proofs.Matches.{Matches, Listed}
use Rattle.rules.specs.Rules.{rules_of}
use Rattle.rules.proofs.Tables.{Chained, Instanced}
use Rattle.rules.proofs.Entries.{Below}
use Rattle.rules.proofs.RulesSound.{listed}
use Rattle.rules.proofs.RulesComplete.{Covered, covered}
use Rattle.rules.proofs.RulesSized.{fit_proper}

module _ (fs : List Record) (ok : Formulas fs) (ρ : Ranking fs) (b : List ℕ) (rep : Represents ρ b) (links rows : List ℕ) (below : Below links 256)
    (chained : Chained b links (length fs)) (instanced : Instanced fs b rows) (a : ℕ) (ia : IsPrincipal fs a) where
  -- a place of the block whose fact is in S
  abbrev pub Within : (Fact ℕ → Type 0) → Cell → Type 0
  Within S q = Fit (length fs) ρ.principals q × S (ranked_fact ρ a q)

  -- what is closed under the rules is kept by a listed instance
  listed_keeps : (S : Fact ℕ → Type 0) → ClosedOn fs S → (i : Instance) → Listed ρ a i → Keeps (Within S) i
  listed_keeps S c i (e, m) h = go (subst (λ v. Unless v (Within S i.first × Within S i.second)) e h)
    where
      premised : (σ : Matches ρ a i) → S (ranked_fact ρ a i.first) → S (ranked_fact ρ a i.second) → All S σ.premises
      premised σ u v = ⊎_elim (λ d. subst (All S) (sym d) (u, (v, tt))) (λ d. subst (All S) (sym d.0) (u, tt)) σ.asks

      go : Within S i.first × Within S i.second → Within S i.gives
      go (u, v) = let σ = m u.0 v.0 in (σ.inside, subst S σ.concludes (c.follow σ.number σ.premises σ.conclusion σ.rule (premised σ u.1 v.1)))

  -- THE RULES OF A RECORD lead from what is in S to what is in S
  pub rules_lead : (S : Fact ℕ → Type 0) → ClosedOn fs S → (r : ℕ) → r < length fs → All (Leads (ρ.rank a) (Within S)) (rules_of b links rows r)
  rules_lead S c r l =
      all_imp (λ d. true ≡ bit_at d.may (ρ.rank a) → Listed ρ a d.by) (Leads (ρ.rank a) (Within S)) (λ d h m. listed_keeps S c d.by (h m)) (rules_of b links rows r)
      (listed fs ok ρ b rep links rows instanced a ia r l)

  -- a fact of his is the one at its place, and the place is there
  own_cell : (g : Fact ℕ) → Valid fs g → holder g ≡ a → ranked_fact ρ a (cell_of ρ g) ≡ g
  own_cell g v e = subst (λ z. ranked_fact ρ z (cell_of ρ g) ≡ g) e (fact_of_cell ρ g v)

  pub within_cell : (S : Fact ℕ → Type 0) (g : Fact ℕ) → Valid fs g → holder g ≡ a → S g → Within S (cell_of ρ g)
  within_cell S g v e s = (cell_fits ρ g v, subst S (sym (own_cell g v e)) s)

  pub cell_proper : length fs ≤ 256 → (g : Fact ℕ) → Valid fs g → Proper (cell_of ρ g)
  cell_proper small g v = fit_proper (length fs) ρ.principals (cell_of ρ g) small ρ.few (cell_fits ρ g v)

  -- H has the facts of a's that are in a list
  abbrev pub Has : (Cell → Type 0) → List (Fact ℕ) → Type 0
  Has H l = All (λ g. holder g ≡ a → H (cell_of ρ g)) l

  has_more : (H H' : Cell → Type 0) → length fs ≤ 256 → ((q : Cell) → Proper q → H q → H' q) → (l : List (Fact ℕ)) → All (Valid fs) l → Has H l → Has H' l
  has_more H H' small f [] v h = tt
  has_more H H' small f (g ∷ l) v h = ((λ e. f (cell_of ρ g) (cell_proper small g v.0) (h.0 e)), has_more H H' small f l v.1 h.1)

  -- WHAT FOLLOWS from given facts, of the written facts
  module _ (given : List (Fact ℕ)) where
    abbrev pub Consequence : Fact ℕ → Type 0
    Consequence g = Valid fs g × Following (Recorded fs) (map (meaning fs) given) (meaning fs g)

    consequences : (l : List (Fact ℕ)) → All Consequence l → All (Following (Recorded fs) (map (meaning fs) given)) (map (meaning fs) l)
    consequences [] h = tt
    consequences (g ∷ l) h = (h.0.1, consequences l h.1)

    pub consequence_closed : ClosedOn fs Consequence
    consequence_closed = record {
      sound = λ g s. s.0;
      follow = λ n gs g r h.
          let v = all_imp Consequence (Valid fs) (λ g s. s.0) gs h in
          let w = raised fs ok r v in
          (w.0, follows_rule (Recorded fs) (map (meaning fs) given) w.1 (is_fact fs ok g w.0) (consequences gs h));
    }

    pub consequence_given : (g : Fact ℕ) → Valid fs g → Among g given → Consequence g
    consequence_given g v m = (v, follows_given (Recorded fs) (map (meaning fs) given) (meaning fs g) (is_fact fs ok g v) (among_map (meaning fs) g given m))

    -- what is held follows, and what of a's facts is given is held
    pub record Entered (H : Cell → Type 0) : Type 0 where
      pub sound : (q : Cell) → Proper q → H q → Within Consequence q
      pub start : Has H given

    -- and it is closed under the rules of all records: so it is just what of a's facts follows
    pub record Settled (H : Cell → Type 0) : Type 0 where
      pub entered : Entered H
      pub closed : (r : ℕ) → r < length fs → (c : Common) → Among c (rules_of b links rows r) → true ≡ bit_at c.may (ρ.rank a) → Asked H c.by → H c.by.gives

    -- more that is held and follows
    pub entered_grown : (H H' : Cell → Type 0) → length fs ≤ 256 → All (Valid fs) given → Entered H → ((q : Cell) → Proper q → H q → H' q)
        → ((q : Cell) → Proper q → H' q → Within Consequence q) → Entered H'
    entered_grown H H' small v w f s = record { sound = s; start = has_more H H' small f given v w.start }

    module _ (H : Cell → Type 0) (w : Settled H) where
      -- a fact of another is no matter; a fact of a's is held
      Kept : Fact ℕ → Type 0
      Kept g = Valid fs g × (holder g ≡ a → H (cell_of ρ g))

      kept_closed : ClosedOn fs Kept
      unfolding Kept
      kept_closed = record {
        sound = λ g k. k.0;
        follow = λ n gs f r h.
            let v = all_imp Kept (Valid fs) (λ g k. k.0) gs h in (
              (raised fs ok r v).0,
              λ e.
                  let c = subst (λ z. Covered ρ b links rows z gs f) e (covered fs ok ρ b rep links rows below chained instanced r v) in
                  let near : All (λ g. H (cell_of ρ g)) gs =
                  all_of (λ g. H (cell_of ρ g)) gs (λ g m. (all_at Kept g gs h m).1 (all_at (λ g. holder g ≡ holder f) g gs (keeps_on fs r) m ∙ e)) in
                  subst H c.gives (w.closed c.its_record c.inside c.instance c.listed c.may (c.asked H near)),
            );
      }

      -- COMPLETENESS: what of a's facts follows is held
      pub settled_complete : All (Valid fs) given → (g : Fact ℕ) → holder g ≡ a → Consequence g → H (cell_of ρ g)
      unfolding Kept
      settled_complete v g e (u, (l, d, f)) =
          let starts : All Kept given = all_of Kept given (λ h m. (all_at (Valid fs) h given v m, all_at (λ f. holder f ≡ a → H (cell_of ρ f)) h given w.entered.start m)) in
          (holds fs ok Kept kept_closed given starts l d g u f).1 e

      -- SOUNDNESS: what of a's facts is held follows
      pub settled_sound : length fs ≤ 256 → (g : Fact ℕ) → Valid fs g → holder g ≡ a → H (cell_of ρ g) → Consequence g
      settled_sound small g v e h = subst Consequence (own_cell g v e) (w.entered.sound (cell_of ρ g) (cell_proper small g v) h).1

    -- two that are settled for the same given facts hold the same of a's facts
    pub settled_same : (H H' : Cell → Type 0) → Settled H → Settled H' → length fs ≤ 256 → All (Valid fs) given
        → (g : Fact ℕ) → Valid fs g → holder g ≡ a → H (cell_of ρ g) → H' (cell_of ρ g)
    settled_same H H' w w' small v g u e h = settled_complete H' w' v g e (settled_sound H w small g u e h)

  -- MORE IS GIVEN
  consequence_more : (given given' : List (Fact ℕ)) → ((g : Fact ℕ) → Among g given → Among g given') → (g : Fact ℕ) → Consequence given g → Consequence given' g
  consequence_more given given' h g (v, (l, d, e)) =
      let k : (f : Fact Tree) → Among f (map (meaning fs) given) → Among f (map (meaning fs) given') =
      λ f m. let i = among_image (meaning fs) f given m in subst (λ z. Among z (map (meaning fs) given')) (sym i.2) (among_map (meaning fs) i.0 given' (h i.0 i.1)) in
      (v, (l, derivation_more (Recorded fs) (map (meaning fs) given) (map (meaning fs) given') [] [] l k (λ f m. m) d, e))

  module _ (given : List (Fact ℕ)) (H : Cell → Type 0) (w : Entered given H) (g : Fact ℕ) (v : Valid fs g) where
    sound_more : (q : Cell) → Proper q → H q → Within (Consequence (given ++ (g ∷ []))) q
    sound_more q p h =
        let k = w.sound q p h in
        (k.0, consequence_more given (given ++ (g ∷ [])) (λ f m. among_left f given (g ∷ []) m) (ranked_fact ρ a q) k.1)

    -- a fact of another changes nothing
    pub entered_other : (holder g ≡ a → ⊥) → Entered (given ++ (g ∷ [])) H
    entered_other n = record {
      sound = sound_more;
      start = all_append (λ f. holder f ≡ a → H (cell_of ρ f)) given (g ∷ []) w.start ((λ e. absurd (n e)), tt);
    }

    -- a given fact of a's is held too, and nothing else is new
    pub entered_own : (H' : Cell → Type 0) → length fs ≤ 256 → All (Valid fs) given → holder g ≡ a → ((q : Cell) → Proper q → H q → H' q)
        → H' (cell_of ρ g) → ((q : Cell) → Proper q → H' q → H q ⊎ (cell_of ρ g ≡ q)) → Entered (given ++ (g ∷ [])) H'
    entered_own H' small valid e grows here only =
        let given' = given ++ (g ∷ []) in
        let c = consequence_given given' g v (among_right g given (g ∷ []) (inl refl)) in
        record {
          sound = λ q p h. ⊎_elim (sound_more q p) (λ d. subst (Within (Consequence given')) d (within_cell (Consequence given') g v e c)) (only q p h);
          start = all_append (λ f. holder f ≡ a → H' (cell_of ρ f)) given (g ∷ []) (has_more H H' small grows given valid w.start) ((λ z. here), tt);
        }

  pub settled_other : (given : List (Fact ℕ)) (H : Cell → Type 0) → Settled given H → (g : Fact ℕ) → Valid fs g → (holder g ≡ a → ⊥) → Settled (given ++ (g ∷ [])) H
  settled_other given H w g v n = record { entered = entered_other given H w.entered g v n; closed = w.closed }

  pub entered_none : (H : Cell → Type 0) → ((q : Cell) → Proper q → H q → ⊥) → Entered [] H
  entered_none H n = record { sound = λ q p h. absurd (n q p h); start = tt }
