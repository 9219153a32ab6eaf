-- The state after each stage of the survey: every principal holds just what follows from what was given so far, and no rank behind the last
-- principal's holds anything. Assumes nothing.
use Prim.Native.Nat.{ℕ, zero, suc, ◌+◌, ◌<◌, ◌≤◌}
use native.Mathlib.Nat.{add-zero}
use native.Mathlib.Omega.{arith}
use native.Mathlib.Decide.{dec_lt, ℕ_discrete}
use mathlib.Core.Path.{◌≡◌, refl, sym, ap, ◌∙◌, subst}
use mathlib.Core.Logic.{⊎_elim}
use mathlib.Core.List.{List, [], ◌∷◌, ◌++◌, append-nil, append_assoc}
use mathlib.Core.Bool.{true, false}
use lib.ListN.{length, get_or, take, length-replicate, get_or-replicate}
use lib.Seq.{take-suc, take_all, get_or-set_same, get_or-set_other}
use lib.Pow.{pow_mono}
use Rattle.logic.specs.declared.Record.{Record}
use Rattle.logic.specs.Book.{All}
use Rattle.logic.specs.Fact.{Fact}
use Rattle.logic.specs.Fact.Fact.{Sees, Believes, BelievesFresh, BelievesSaid, BelievesBelieves}
use Rattle.logic.proofs.Formulas.{Formulas}
use Rattle.logic.proofs.Member.{all_imp, all_append}
use Rattle.logic.proofs.Meaning.{IsPrincipal, Valid}
use Rattle.logic.proofs.Holder.{holder}
use Rattle.facts.specs.declared.Cell.{Cell}
use Rattle.facts.specs.declared.Instance.{Instance}
use Rattle.facts.specs.Facts.{bit_at, is_given}
use Rattle.facts.proofs.Premises.{Unless}
use Rattle.facts.proofs.Block.{Fit}
use Rattle.lanes.specs.Lanes.{State, entered}
use Rattle.lanes.proofs.Sets.{Proper}
use Rattle.lanes.proofs.Fires.{Held, Wide}
use Rattle.lanes.proofs.Given.{entered_wide, entered_grows, entered_only}
use Rattle.lanes.proofs.Runs.{Leads}
use Rattle.stamps.proofs.Places.{Inside}
use Rattle.flat.specs.Layout.{at, first_at, assumption_at, receiver_at, message_at, rank_at, stated_at}
use Rattle.stages.specs.Stages.{gives, nothing, assumed, assumed_in, receiver_in, delivered, delivered_from, stamps_from, IsTurn, Staged}
use Rattle.flat.proofs.Cells.{Ranking, cell_of, cell_fits, Represents}
use Rattle.search.proofs.GivenFacts.{Starts, no_fact, all_get_d}
use Rattle.rules.specs.Rules.{only_one, rules_of}
use Rattle.rules.specs.Close.{Closes}
use Rattle.rules.proofs.Tables.{Chained, Instanced}
use Rattle.rules.proofs.Entries.{Below}
use Rattle.rules.proofs.Ranks.{one_in}
use Rattle.rules.proofs.InBook.{rank_at_lem, only_in, in_only}
use Rattle.rules.proofs.RulesSound.{not_given}
use Rattle.rules.proofs.RulesSized.{fit_proper}
use Rattle.rules.proofs.Closing as closing
use Rattle.rules.proofs.Closing.{Clean, none_held, start_clean, reaches_wide, reaches_sound, reaches_clean, entered_clean}
use Rattle.rules.proofs.Settled.{entered_grown, entered_other}
use Rattle.rules.proofs.SettledState.{EnteredIn, SettledIn, start_entered, closes_settled, given_own, given_other}
use Rattle.tables.specs.Deliveries.{listed}
use Rattle.tables.proofs.Deliveries.{listed_length}
use Rattle.stages.specs.Stages.IsTurn.{none, more}
use Rattle.stages.specs.Stages.Staged.{begun, turn}
use Rattle.stages.proofs.Turns.{stamps_length}
use Rattle.search.specs.Laid.{every_assumption}
use Rattle.search.proofs.BookGiven.{received, assumed_upto, received_upto, given_to, all_in_force, small_messages, listed_receiver, is_received}
use Rattle.search.proofs.HeldBits.{OnlyCells, none_cells, entered_cells, reaches_cells, words_inside}

-- who holds a written fact is a principal
pub holder_principal : (fs : List Record) (g : Fact ℕ) → Valid fs g → IsPrincipal fs (holder g)
holder_principal fs (Sees a x) v = v.0
holder_principal fs (Believes a x) v = v.0
holder_principal fs (BelievesFresh a x) v = v.0
holder_principal fs (BelievesSaid a q x) v = v.0
holder_principal fs (BelievesBelieves a q x) v = v.0

all_take : (P : Fact ℕ → Type 0) (m : ℕ) (l : List (Fact ℕ)) → All P l → All P (take m l)
all_take P zero l h = tt
all_take P (suc m) [] h = tt
all_take P (suc m) (g ∷ l) h = (h.0, all_take P m l h.1)

-- the set of one rank is small
pub one_small : (b : List ℕ) (q : ℕ) → only_one b q < 256
one_small b q = let r = rank_at_lem b q in let h = pow_mono {i = rank_at b q} {j = 7} (omega arith) in omega arith

module _ (fs : List Record) (ok : Formulas fs) (ρ : Ranking fs) (b : List ℕ) (rep : Represents ρ b) (links rows : List ℕ) (below : Below links 256)
    (chained : Chained b links (length fs)) (instanced : Instanced fs b rows) (u : List ℕ) (laid : closing.Laid b links rows u (length fs)) (κ : ℕ) where
  -- what holds of every state: nothing is held behind the last rank
  pub record Sound (s : State) : Type 0 where
    pub wide : Wide s
    pub clean : Clean b links rows (length fs) s
    pub cells : OnlyCells s.words
    pub none : (j : ℕ) → ρ.principals ≤ j → j < 8 → (q : Cell) → Proper q → Held j s q → ⊥

  -- these facts were given; and then closed
  pub record Given (given : List (Fact ℕ)) (s : State) : Type 0 where
    pub sound : Sound s
    pub valid : All (Valid fs) given
    pub entered : (a : ℕ) (ia : IsPrincipal fs a) → EnteredIn fs ok ρ b rep links rows below chained instanced a ia given s

  pub record Closed (given : List (Fact ℕ)) (s : State) : Type 0 where
    pub sound : Sound s
    pub valid : All (Valid fs) given
    pub settled : (a : ℕ) (ia : IsPrincipal fs a) → SettledIn fs ok ρ b rep links rows below chained instanced a ia given s

  -- NOTHING YET
  pub none_given : (l : List ℕ) → Given [] (nothing l)
  none_given l = record {
    sound = record {
      wide = record { words = length-replicate {A = ℕ} 1024 0; pending = length-replicate {A = ℕ} 4 0 };
      clean = start_clean b links rows (length fs) (nothing l) refl;
      cells = none_cells 1024;
      none = λ j h m q p d. none_held (nothing l) refl j q d;
    };
    valid = tt;
    entered = λ a ia. start_entered fs ok ρ b rep links rows below chained instanced a ia (nothing l) refl;
  }

  -- A FACT IS GIVEN to who holds it
  module _ (given : List (Fact ℕ)) (s : State) (so : Given given s) (g : Fact ℕ) (v : Valid fs g) (q : ℕ) (e : q ≡ holder g) (i : Instance)
      (c : i.gives ≡ cell_of ρ g) where
    iq : IsPrincipal fs q
    iq = subst (IsPrincipal fs) (sym e) (holder_principal fs g v)

    there : Proper i.gives
    there = subst Proper (sym c) (fit_proper (length fs) ρ.principals (cell_of ρ g) laid.few ρ.few (cell_fits ρ g v))

    small : only_one b q < 256
    small = one_small b q

    next : State
    next = entered u κ (only_one b q) i s

    next_none : (j : ℕ) → ρ.principals ≤ j → j < 8 → (x : Cell) → Proper x → Held j next x → ⊥
    unfolding next
    next_none j h m x p d =
        ⊎_elim (so.sound.none j h m x p)
        (λ f.
        let z : rank_at b q ≡ j = one_in (rank_at b q) j (rank_at_lem b q) m f.1 in
        let y = rep.ranks q iq in
        let r = (ρ.ranked q iq).0 in
        omega arith)
        (entered_only u κ (only_one b q) i s so.sound.wide small there j x p d)

    next_entered : (a : ℕ) (ia : IsPrincipal fs a) → EnteredIn fs ok ρ b rep links rows below chained instanced a ia (given ++ (g ∷ [])) next
    unfolding next
    next_entered a ia = elim (ℕ_discrete (holder g) a) [
      | yes o ↦
          given_own fs ok ρ b rep links rows below chained instanced a ia u κ laid given so.valid s so.sound.wide (so.entered a ia) g v (only_one b q) small i c o
          (subst (λ z. true ≡ bit_at (only_one b q) (ρ.rank z)) (e ∙ o) (in_only fs ρ b rep q iq))
      | no o ↦
          given_other fs ok ρ b rep links rows below chained instanced a ia u κ laid given so.valid s so.sound.wide (so.entered a ia) g v (only_one b q) small i c o
          (λ m. o (sym e ∙ only_in fs ρ b rep q a iq ia m))
    ]

    pub one_given : Given (given ++ (g ∷ [])) (entered u κ (only_one b q) i s)
    unfolding next
    one_given = record {
      sound = record {
        wide = entered_wide u κ (only_one b q) i s so.sound.wide small there;
        clean = entered_clean b links rows u κ (length fs) laid s so.sound.wide (only_one b q) i small there so.sound.clean;
        cells = entered_cells u κ (only_one b q) i s so.sound.wide small there so.sound.cells;
        none = next_none;
      };
      valid = all_append (Valid fs) given (g ∷ []) so.valid (v, tt);
      entered = next_entered;
    }

  -- no rule leads from nothing
  none_leads : (j r : ℕ) → All (Leads j (λ q. ⊥)) (rules_of b links rows r)
  none_leads j r =
      all_imp (λ c. is_given c.by.kind ≡ false) (Leads j (λ q. ⊥)) (λ c e m a. (subst (λ z. Unless z (⊥ × ⊥)) e a).0) (rules_of b links rows r) (not_given b links rows r)

  -- CLOSING
  pub closes : (given : List (Fact ℕ)) (s : State) → Given given s → (t : State) → Closes b links rows u κ s t → Closed given t
  closes given s so t c = record {
    sound = record {
      wide = reaches_wide b links rows u κ (length fs) laid s so.sound.wide t c.reached;
      clean = reaches_clean b links rows u κ (length fs) laid s so.sound.wide so.sound.clean t c.reached;
      cells = reaches_cells b links rows u κ (length fs) laid s so.sound.wide so.sound.cells t c.reached;
      none = λ j h m. reaches_sound b links rows u κ (length fs) laid s so.sound.wide t c.reached j (λ q. ⊥) (λ r l. none_leads j r) (so.sound.none j h m);
    };
    valid = so.valid;
    settled = λ a ia.
        closes_settled fs ok ρ b rep links rows below chained instanced a ia u κ laid given so.valid s so.sound.wide (so.entered a ia) so.sound.clean t c;
  }

  -- what is closed may be given more
  pub opened : (given : List (Fact ℕ)) (s : State) → Closed given s → Given given s
  opened given s so = record { sound = so.sound; valid = so.valid; entered = λ a ia. (so.settled a ia).entered }

  -- ONLY FACTS OF THE BOOK are held
  module _ (given : List (Fact ℕ)) (s : State) (so : Closed given s) where
    only_facts : (P : ℕ) → P < 8 → (q : Cell) → Proper q → Held P s q → Fit (length fs) ρ.principals q × (P < ρ.principals)
    only_facts P m q p h = elim (dec_lt P ρ.principals) [
      | yes l ↦
          let n = ρ.named P l in
          (((so.settled (ρ.who P) n.0).entered.sound q p (subst (λ z. Held z s q) (sym n.1) h)).0, l)
      | no l ↦ absurd (so.sound.none P (omega arith) m q p h)
    ]

    pub all_inside : Inside s.words (length fs) ρ.principals
    all_inside = words_inside s (length fs) ρ.principals laid.few ρ.few so.sound.cells only_facts

  -- A FACT IS GIVEN TO OTHERS: a holds what he held
  apart_entered : (given : List (Fact ℕ)) (s : State) → Wide s → All (Valid fs) given → (a : ℕ) (ia : IsPrincipal fs a)
      → EnteredIn fs ok ρ b rep links rows below chained instanced a ia given s → (who : ℕ) → who < 256 → (i : Instance) → Proper i.gives
      → (true ≡ bit_at who (ρ.rank a) → ⊥) → EnteredIn fs ok ρ b rep links rows below chained instanced a ia given (entered u κ who i s)
  apart_entered given s w v a ia h who l i there m =
      entered_grown fs ok ρ b rep links rows below chained instanced a ia given (Held (ρ.rank a) s) (Held (ρ.rank a) (entered u κ who i s)) laid.few v h
      (entered_grows u κ who i s w l there (ρ.rank a))
      (λ q p y. ⊎_elim (h.sound q p) (λ f. absurd (m f.1)) (entered_only u κ who i s w l there (ρ.rank a) q p y))

  -- WHAT A BOOK GIVES
  module _ (α ms : List (Fact ℕ)) (starts : Starts ρ b α ms) where
    -- the facts given up to message m
    abbrev pub up_to : ℕ → List (Fact ℕ)
    up_to m = α ++ take m ms

    up_more : (m : ℕ) → m < length ms → up_to (suc m) ≡ up_to m ++ (get_or ms m no_fact ∷ [])
    up_more m l = ap (λ (z : List (Fact ℕ)). α ++ z) (take-suc ms m no_fact l) ∙ sym (append_assoc α (take m ms) (get_or ms m no_fact ∷ []))

    message_valid : (m : ℕ) → m < length ms → Valid fs (get_or ms m no_fact)
    message_valid m l = all_get_d (Valid fs) ms m l starts.valid_messages

    pub valid_upto : (m : ℕ) → All (Valid fs) (up_to m)
    valid_upto m = all_append (Valid fs) α (take m ms) starts.valid_assumptions (all_take (Valid fs) m ms starts.valid_messages)

    there_message : (m : ℕ) → m < length ms → Proper (at (message_at b m) 0)
    there_message m l =
        subst Proper (sym (starts.message m l).1)
        (fit_proper (length fs) ρ.principals (cell_of ρ (get_or ms m no_fact)) laid.few ρ.few (cell_fits ρ (get_or ms m no_fact) (message_valid m l)))

    assumed_given : (l₀ : List ℕ) (k : ℕ) → k ≤ length α → Given (take k α) (assumed_upto b u κ k (nothing l₀))
    unfolding assumed_upto assumed
    assumed_given l₀ zero l = none_given l₀
    assumed_given l₀ (suc k) l =
        let e = starts.assumption k l in
        subst (λ z. Given z (assumed_upto b u κ (suc k) (nothing l₀))) (sym (take-suc α k no_fact l))
        (one_given (take k α) (assumed_upto b u κ k (nothing l₀)) (assumed_given l₀ k (omega arith)) (get_or α k no_fact) (all_get_d (Valid fs) α k l starts.valid_assumptions)
        (first_at b (assumption_at b k)) e.0 (gives 64 k (stated_at b (assumption_at b k))) e.1)

    pub all_assumed : (l₀ : List ℕ) → Given (up_to 0) (assumed_upto b u κ (length α) (nothing l₀))
    all_assumed l₀ =
        subst (λ z. Given z (assumed_upto b u κ (length α) (nothing l₀))) (take_all (length α) α (omega arith) ∙ sym (append-nil α)) (assumed_given l₀ (length α) (omega arith))

    pub one_received : (m : ℕ) → m < length ms → (s : State) → Given (up_to m) s → Given (up_to (suc m)) (received b u κ m s)
    unfolding received
    one_received m l s so =
        let e = starts.message m l in
        subst (λ z. Given z (received b u κ m s)) (sym (up_more m l))
        (one_given (up_to m) s so (get_or ms m no_fact) (message_valid m l) (receiver_at b m) e.0 (gives 65 (m + 1) (at (message_at b m) 0)) e.1)

    -- ALL AT ONCE: the assumptions and the first m messages
    all_given : (l : List ℕ) (m : ℕ) → m ≤ length ms → Given (up_to m) (given_to b u κ (length α) m l)
    unfolding received_upto
    all_given l zero h = all_assumed l
    all_given l (suc m) h = one_received m h (given_to b u κ (length α) m l) (all_given l m (omega arith))

    pub found_closed : (l : List ℕ) (m : ℕ) → m ≤ length ms → (s : State) → Closes b links rows u κ (given_to b u κ (length α) m l) s → Closed (up_to m) s
    found_closed l m h s c = closes (up_to m) (given_to b u κ (length α) m l) (all_given l m h) s c

    pub found_inside : (l : List ℕ) (m : ℕ) → m ≤ length ms → (s : State) → Closes b links rows u κ (given_to b u κ (length α) m l) s → Inside s.words (length fs) ρ.principals
    found_inside l m h s c = all_inside (up_to m) s (found_closed l m h s c)

    -- THE STAGES. The deliveries are the book's messages.
    module _ (few : length ms ≤ 16) where
      abbrev ds : List ℕ
      ds = listed b (length ms)

      small_message : (m : ℕ) → m < length ms → message_at b m < 256
      small_message = small_messages ρ b α ms starts laid.few

      -- c messages from m on
      turn_given : (m c : ℕ) → m + c ≤ length ms → (s : State) → Given (up_to m) s → Given (up_to (m + c)) (delivered_from ds u κ m c s)
      unfolding delivered_from
      turn_given m zero l s so = subst (λ k. Given (up_to k) s) (sym (add-zero m)) so
      turn_given m (suc c) l s so =
          let h : m + c < length ms = omega arith in
          let e : m + suc c ≡ suc (m + c) = omega arith in
          subst (λ k. Given (up_to k) (delivered ds u κ (m + c) (delivered_from ds u κ m c s))) (sym e)
          (subst (Given (up_to (suc (m + c)))) (sym (is_received b (length ms) few small_message u κ (m + c) (delivered_from ds u κ m c s) h))
          (one_received (m + c) h (delivered_from ds u κ m c s) (turn_given m c (omega arith) s so)))

      -- a turn is within the messages
      turn_within : (m c : ℕ) → m ≤ length ms → IsTurn ds m c → m + c ≤ length ms
      turn_within m _ l none = omega arith
      turn_within m _ l (more c i h e) = let z = listed_length b (length ms) few in omega arith

      -- AFTER m MESSAGES
      pub staged_state : 8 ≡ κ → length α ≤ 64 → (n p : ℕ) (t₀ : List ℕ) (m : ℕ) (s : State) (f t : List ℕ) (h : ℕ)
          → Staged b links rows u ds n p every_assumption (length α) t₀ m s f t h → (m ≤ length ms) × Closed (up_to m) s
      staged_state e8 lα n p t₀ _ _ _ _ _ (begun s z c e) = (
        omega arith,
        closes (up_to 0) (assumed_upto b u κ (length α) (nothing [])) (all_assumed []) s
            (subst (λ x. Closes b links rows u κ x s) (all_in_force b u κ (length α) (nothing []) lα)
            (subst (λ k. Closes b links rows u k (assumed_in b u k every_assumption (length α) (nothing [])) s) e8 c)),
      )
      staged_state e8 lα n p t₀ _ _ _ _ _ (turn m c next s s' f t h z d en i cl e) =
          let w = staged_state e8 lα n p t₀ m s f t h d in
          let l = turn_within m c w.0 i in
          subst (λ k. (k ≤ length ms) × Closed (up_to k) s') (sym en) (
            l,
            closes (up_to (m + c)) (delivered_from ds u κ m c s) (turn_given m c l s (opened (up_to m) s w.1)) s'
                (subst (λ k. Closes b links rows u k (delivered_from ds u k m c s) s') e8 cl),
          )

      -- A TURN, SEEN BY ONE PRINCIPAL: he receives one message of it or none
      module _ (m : ℕ) (lm : m ≤ length ms) (s : State) (so : Closed (up_to m) s) (a : ℕ) (ia : IsPrincipal fs a) where
        abbrev After : ℕ → State → Type 0
        After k t = EnteredIn fs ok ρ b rep links rows below chained instanced a ia (up_to k) t

        abbrev SettledAfter : ℕ → State → Type 0
        SettledAfter k t = SettledIn fs ok ρ b rep links rows below chained instanced a ia (up_to k) t

        -- the messages from i on and before j are for others
        Quiet : ℕ → ℕ → Type 0
        Quiet i j = (k : ℕ) → i ≤ k → k < j → holder (get_or ms k no_fact) ≡ a → ⊥

        quiet_entered : (i d : ℕ) → i + d ≤ length ms → (t : State) → Quiet i (i + d) → After i t → After (i + d) t
        unfolding Quiet
        quiet_entered i zero l t q h = subst (λ k. After k t) (sym (add-zero i)) h
        quiet_entered i (suc d) l t q h =
            let j : i + d < length ms = omega arith in
            let e : i + suc d ≡ suc (i + d) = omega arith in
            subst (λ k. After k t) (sym e)
            (subst (λ z. EnteredIn fs ok ρ b rep links rows below chained instanced a ia z t) (sym (up_more (i + d) j))
            (entered_other fs ok ρ b rep links rows below chained instanced a ia (up_to (i + d)) (Held (ρ.rank a) t) (quiet_entered i d (omega arith) t (λ k x y. q k x (omega arith)) h)
            (get_or ms (i + d) no_fact) (message_valid (i + d) j) (q (i + d) (omega arith) (omega arith))))

        quiet_settled : (i d : ℕ) → i + d ≤ length ms → (t : State) → Quiet i (i + d) → SettledAfter i t → SettledAfter (i + d) t
        quiet_settled i d l t q w = record { entered = quiet_entered i d l t q w.entered; closed = w.closed }

        stamp : ℕ → ℕ
        stamp c = get_or (stamps_from ds m c) (ρ.rank a) 1

        data View (c : ℕ) : Type 0 where
          still : Quiet m (m + c) → After m (delivered_from ds u κ m c s) → stamp c ≡ 1 → View c
          one : (d : ℕ) → d < c → Quiet m (m + d) → After (suc (m + d)) (delivered_from ds u κ m c s) → stamp c ≡ m + d + 2 → View c

        -- one message more
        module _ (c : ℕ) (l : m + c < length ms) (free : get_or (stamps_from ds m c) (receiver_in ds (m + c)) 1 ≡ 1) where
          abbrev j : ℕ
          j = m + c

          abbrev before : State
          before = delivered_from ds u κ m c s

          abbrev after : State
          after = delivered_from ds u κ m (suc c) s

          abbrev g : Fact ℕ
          g = get_or ms j no_fact

          so_far : Given (up_to j) before
          so_far = turn_given m c (omega arith) s (opened (up_to m) s so)

          is_next : after ≡ received b u κ j before
          unfolding delivered_from
          is_next = is_received b (length ms) few small_message u κ j before l

          to_principal : IsPrincipal fs (receiver_at b j)
          to_principal = subst (IsPrincipal fs) (sym (starts.message j l).0) (holder_principal fs g (message_valid j l))

          to_rank : receiver_in ds j ≡ ρ.rank (receiver_at b j)
          to_rank = listed_receiver b (length ms) few small_message j l ∙ rep.ranks (receiver_at b j) to_principal

          -- to a
          module _ (o : holder g ≡ a) where
            his : receiver_in ds j ≡ ρ.rank a
            his = to_rank ∙ ap ρ.rank ((starts.message j l).0 ∙ o)

            rank_small : ρ.rank a < length (stamps_from ds m c)
            rank_small = let r = (ρ.ranked a ia).0 in let f = ρ.few in rw (stamps_length ds m c) (omega arith)

            his_stamp : stamp (suc c) ≡ m + c + 2
            unfolding stamp stamps_from
            his_stamp = rw his (get_or-set_same (stamps_from ds m c) (ρ.rank a) (m + c + 2) 1 rank_small)

            none_yet : stamp c ≡ 1
            unfolding stamp
            none_yet = subst (λ r. get_or (stamps_from ds m c) r 1 ≡ 1) his free

            entered_his : After j before → After (suc j) after
            unfolding received
            entered_his h =
                let e = starts.message j l in
                subst (After (suc j)) (sym is_next)
                (subst (λ z. EnteredIn fs ok ρ b rep links rows below chained instanced a ia z (received b u κ j before)) (sym (up_more j l)) (his_own e h))
              where
                his_own : (receiver_at b j ≡ holder g) × (at (message_at b j) 0 ≡ cell_of ρ g) → After j before
                    → EnteredIn fs ok ρ b rep links rows below chained instanced a ia (up_to j ++ (g ∷ [])) (received b u κ j before)
                his_own e h =
                    given_own fs ok ρ b rep links rows below chained instanced a ia u κ laid (up_to j) so_far.valid before so_far.sound.wide h g (message_valid j l)
                    (only_one b (receiver_at b j)) (one_small b (receiver_at b j)) (gives 65 (j + 1) (at (message_at b j) 0)) e.1 o
                    (subst (λ z. true ≡ bit_at (only_one b (receiver_at b j)) (ρ.rank z)) (e.0 ∙ o) (in_only fs ρ b rep (receiver_at b j) to_principal))

          -- to another
          module _ (o : holder g ≡ a → ⊥) where
            other_stamp : stamp (suc c) ≡ stamp c
            unfolding stamp stamps_from
            other_stamp =
                get_or-set_other (stamps_from ds m c) (receiver_in ds (m + c)) (ρ.rank a) (m + c + 2) 1
                (λ e. o (sym (starts.message j l).0 ∙ sym (sym (ρ.ranked a ia).1 ∙ ap ρ.who (e ∙ to_rank) ∙ (ρ.ranked (receiver_at b j) to_principal).1)))

            entered_apart : (k : ℕ) → k ≤ length ms → After k before → After k after
            unfolding received
            entered_apart k lk h = subst (After k) (sym is_next) go
              where
                go : After k (received b u κ j before)
                go =
                    apart_entered (up_to k) before so_far.sound.wide (valid_upto k) a ia h (only_one b (receiver_at b j)) (one_small b (receiver_at b j))
                    (gives 65 (j + 1) (at (message_at b j) 0)) (there_message j l) (λ y. o (sym (starts.message j l).0 ∙ only_in fs ρ b rep (receiver_at b j) a to_principal ia y))

          -- what he sees of it
          view_more : View c → View (suc c)
          unfolding Quiet
          view_more (still q h e) = elim (ℕ_discrete (holder g) a) [
            | yes o ↦ one c (omega arith) (λ k x y. q k x y) (entered_his o (quiet_entered m c (omega arith) before q h)) (his_stamp o)
            | no o ↦
                still
                (λ k x y. elim (ℕ_discrete k j) [
                  | yes z ↦ (λ w. o (subst (λ i. holder (get_or ms i no_fact) ≡ a) z w))
                  | no z ↦ q k x (omega arith)
                ])
                (entered_apart o m lm h) (other_stamp o ∙ e)
          ]
          view_more (one d ld q h e) = elim (ℕ_discrete (holder g) a) [
            | yes o ↦ absurd (let z = none_yet o in omega arith)
            | no o ↦ one d (omega arith) q (entered_apart o (suc (m + d)) (omega arith) h) (other_stamp o ∙ e)
          ]

        view : (c : ℕ) → IsTurn ds m c → View c
        unfolding Quiet stamp stamps_from delivered_from
        view _ none =
            still (λ k x y. absurd (omega arith)) (so.settled a ia).entered
            (get_or-replicate 8 (ρ.rank a) 1 1 (let r = (ρ.ranked a ia).0 in let f = ρ.few in omega arith))
        view _ (more c i h e) = view_more c (let z = listed_length b (length ms) few in omega arith) e (view c i)

        -- AFTER A TURN he holds what he held, or what follows with his one message; and its stamp is his
        pub data Seen (c : ℕ) (s' : State) : Type 0 where
          same : SettledAfter m s' → get_or (stamps_from ds m c) (ρ.rank a) 1 ≡ 1 → Seen c s'
          more_follows : (j : ℕ) → j < m + c → SettledAfter j s → SettledAfter (suc j) s' → get_or (stamps_from ds m c) (ρ.rank a) 1 ≡ j + 2 → Seen c s'

        pub turn_seen : (c : ℕ) → IsTurn ds m c → (s' : State) → Closes b links rows u κ (delivered_from ds u κ m c s) s' → Seen c s'
        unfolding stamp
        turn_seen c i s' cl = go (view c i)
          where
            l : m + c ≤ length ms
            l = turn_within m c lm i

            so_far : Given (up_to (m + c)) (delivered_from ds u κ m c s)
            so_far = turn_given m c l s (opened (up_to m) s so)

            settles : (k : ℕ) → After k (delivered_from ds u κ m c s) → SettledAfter k s'
            settles k h =
                closes_settled fs ok ρ b rep links rows below chained instanced a ia u κ laid (up_to k) (valid_upto k) (delivered_from ds u κ m c s) so_far.sound.wide h so_far.sound.clean s' cl

            go : View c → Seen c s'
            go (still q h e) = same (settles m h) e
            go (one d ld q h e) = more_follows (m + d) (omega arith) (quiet_settled m d (let z = l in omega arith) s q (so.settled a ia)) (settles (suc (m + d)) h) e
