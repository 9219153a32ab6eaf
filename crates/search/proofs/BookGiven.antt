-- What a book gives: its assumptions and its messages, each to its principal. The listed deliveries, with all assumptions in force, are
-- just these. Assumes nothing.
use Prim.Native.Nat.{ℕ, zero, suc, ◌+◌, ◌<◌, ◌≤◌}
use native.Mathlib.Nat.{zero-add}
use native.Mathlib.Omega.{arith}
use native.Mathlib.Decide.{ℕ_discrete}
use mathlib.Core.Path.{◌≡◌, refl, ap, ◌∙◌}
use mathlib.Core.List.{List}
use mathlib.Core.Bool.{Bool, true, ◌&&◌}
use lib.ListN.{length, get_or, length-replicate}
use lib.Dec.{T}
use borrow.Author.Tests.{lt-ltb}
use Rattle.logic.specs.declared.Record.{Record}
use Rattle.logic.specs.Fact.{Fact}
use Rattle.logic.proofs.Meaning.{Valid}
use Rattle.logic.proofs.Tests.{T_and, T_true}
use Rattle.facts.specs.declared.Cell.{Cell}
use Rattle.facts.specs.Facts.{bit_at}
use Rattle.flat.specs.Layout.{at, rank_at, receiver_at, message_at}
use Rattle.stages.specs.Stages.{gives, nothing, assumed, assumed_in, receiver_in, formula_in, only, delivered, delivered_from, given_all}
use Rattle.flat.proofs.Cells.{Ranking, cell_fits}
use Rattle.search.proofs.GivenFacts.{Starts, no_fact, all_get_d}
use Rattle.stages.specs.Numbers.{delivery}
use Rattle.lanes.specs.Lanes.{State, Common, common, entered}
use Rattle.tables.specs.Deliveries.{delivery_at, listed}
use Rattle.tables.proofs.Deliveries.{listed_length, listed_has}
use Rattle.rules.specs.Rules.{only_one}
use Rattle.rules.proofs.InBook.{rank_at_lem}
use Rattle.stages.proofs.Lengths.{Whole, entered_long}
use Rattle.search.specs.Laid.{every_assumption}

module _ (b u : List ℕ) (k : ℕ) where
  -- message m, counted from 0, is given to its receiver
  unfoldable pub received : ℕ → State → State
  received m s = entered u k (only_one b (receiver_at b m)) (gives 65 (m + 1) (at (message_at b m) 0)) s

  -- the first of them
  unfoldable pub assumed_upto : ℕ → State → State
  assumed_upto zero s = s
  assumed_upto (suc a) s = assumed b u k a (assumed_upto a s)

  unfoldable pub received_upto : ℕ → State → State
  received_upto zero s = s
  received_upto (suc m) s = received m (received_upto m s)

-- where assumptions and messages up to m are given, and the log is l
abbrev pub given_to : (b u : List ℕ) (k a m : ℕ) (l : List ℕ) → State
given_to b u k a m l = received_upto b u k m (assumed_upto b u k a (nothing l))

-- giving keeps the lengths
assumed_whole : (b u : List ℕ) (k a : ℕ) (s : State) → Whole s → Whole (assumed_upto b u k a s)
unfolding assumed_upto assumed
assumed_whole b u k zero s w = w
assumed_whole b u k (suc a) s w =
    let e = entered_long u k _ _ (assumed_upto b u k a s) in
    let h = assumed_whole b u k a s w in
    (e.0 ∙ h.0, e.1 ∙ h.1)

received_whole : (b u : List ℕ) (k m : ℕ) (s : State) → Whole s → Whole (received_upto b u k m s)
unfolding received_upto received
received_whole b u k zero s w = w
received_whole b u k (suc m) s w =
    let e = entered_long u k _ _ (received_upto b u k m s) in
    let h = received_whole b u k m s w in
    (e.0 ∙ h.0, e.1 ∙ h.1)

pub given_whole : (b u : List ℕ) (k a m : ℕ) (l : List ℕ) → Whole (given_to b u k a m l)
given_whole b u k a m l =
    received_whole b u k m (assumed_upto b u k a (nothing l)) (assumed_whole b u k a (nothing l) (length-replicate {A = ℕ} 1024 0, length-replicate {A = ℕ} 4 0))

-- a test of the numbers below n
below : (ℕ → Bool) → ℕ → Bool
below f zero = true
below f (suc n) = f n && below f n

below_at : (f : ℕ → Bool) (n a : ℕ) → T (below f n) → a < n → f a ≡ true
unfolding below
below_at f zero a t l = absurd (omega arith)
below_at f (suc n) a t l =
    let h = T_and (f n) (below f n) t in
    elim (ℕ_discrete a n) [
      | yes e ↦ rw e (T_true (f n) h.0)
      | no o ↦ below_at f n a h.1 (omega arith)
    ]

-- every assumption is in force
pub in_force : (a : ℕ) → a < 64 → bit_at every_assumption a ≡ true
unfolding bit_at below
in_force a l = below_at (bit_at every_assumption) 64 a tt l

-- EVERY ASSUMPTION is given
pub all_in_force : (b u : List ℕ) (k a : ℕ) (s : State) → a ≤ 64 → assumed_in b u k every_assumption a s ≡ assumed_upto b u k a s
unfolding assumed_in assumed_upto
all_in_force b u k zero s l = refl
all_in_force b u k (suc a) s l = rw (in_force a l, all_in_force b u k a s (omega arith)) refl

-- what is delivered is a formula of the book
pub small_messages : {fs : List Record} (ρ : Ranking fs) (b : List ℕ) (α ms : List (Fact ℕ)) → Starts ρ b α ms → length fs ≤ 256
    → (m : ℕ) → m < length ms → message_at b m < 256
small_messages {fs} ρ b α ms starts few m l =
    let e = ap (λ (q : Cell). q.formula) (starts.message m l).1 in
    let f = (cell_fits ρ (get_or ms m no_fact) (all_get_d (Valid fs) ms m l starts.valid_messages)).0 in
    omega arith

-- THE LISTED DELIVERIES are the messages
module _ (b : List ℕ) (n : ℕ) (few : n ≤ 16) (small : (m : ℕ) → m < n → message_at b m < 256) where
  pub listed_receiver : (m : ℕ) → m < n → receiver_in (listed b n) m ≡ rank_at b (receiver_at b m)
  unfolding delivery_at
  listed_receiver m l = rw (listed_has b n m few l) (let h = small m l in omega arith)

  pub listed_formula : (m : ℕ) → m < n → formula_in (listed b n) m ≡ message_at b m
  unfolding delivery_at
  listed_formula m l = rw (listed_has b n m few l) (let h = small m l in omega arith)

  pub is_delivery : (m : ℕ) → m < n → delivery (listed b n) m ≡ common (only_one b (receiver_at b m)) (gives 65 (m + 1) (at (message_at b m) 0))
  unfolding only
  is_delivery m l = rw (listed_receiver m l, listed_formula m l, lt-ltb (rank_at b (receiver_at b m)) 8 (rank_at_lem b (receiver_at b m))) refl

  pub is_received : (u : List ℕ) (k m : ℕ) (s : State) → m < n → delivered (listed b n) u k m s ≡ received b u k m s
  unfolding delivered received
  is_received u k m s l = ap (λ (c : Common). entered u k c.may c.by s) (is_delivery m l)

  pub are_received : (u : List ℕ) (k m : ℕ) (s : State) → m ≤ n → delivered_from (listed b n) u k 0 m s ≡ received_upto b u k m s
  unfolding delivered_from received_upto
  are_received u k zero s l = refl
  are_received u k (suc m) s l = rw (zero-add m, are_received u k m s (omega arith), is_received u k m (received_upto b u k m s) l) refl

  pub all_received : (u : List ℕ) (k : ℕ) (s : State) → delivered_from (listed b n) u k 0 (length (listed b n)) s ≡ received_upto b u k n s
  all_received u k s = rw (listed_length b n few) (are_received u k n s (omega arith))

  -- ALL THAT IS GIVEN is what the book gives
  pub is_given_lem : (u : List ℕ) (k a : ℕ) (l : List ℕ) → a ≤ 64 → given_all b u (listed b n) k every_assumption a l ≡ given_to b u k a n l
  is_given_lem u k a l h = all_received u k (assumed_in b u k every_assumption a (nothing l)) ∙ ap (received_upto b u k n) (all_in_force b u k a (nothing l) h)
