-- Whether a step follows, as tests on claims and records, one for each kind of step. For our own functions; that these tests are the
-- rules over trees is proved in proofs/Rules.antt and proofs/FollowsOverTrees.antt.
-- Below, y, e and z are the records of the formulas of the first premise a, the second premise b and the conclusion g.
use Rattle.std.specs.Prelude.{ℕ, zero, suc, ◌-◌, ◌+◌, List, [], ◌∷◌, Bool, false, cond, not, ◌&&◌, ◌||◌, get_or, set, leb, ltb, eqb}
use Rattle.logic.specs.declared.Record.{Record}
use Rattle.logic.specs.Step.{last_rule}
use Rattle.logic.specs.declared.Counts.{Counts}
use Rattle.format.specs.Index.{look_in, assumption_in, message_in}
use Rattle.logic.proofs.Clear.{clear_by}
use Rattle.claims.specs.declared.Claim.{Claim}
use Rattle.claims.specs.Claim.{claim, same_claim, opened_claim, stated_claim}
use Rattle.matching.specs.Instance.{is_instance_in}

-- Clear formulas, in a table of a number for each: 1 if it is clear.

abbrev pub is_clear_in : List ℕ → ℕ → Bool
is_clear_in t x = eqb (get_or t x 0) 1

-- the table t with the first n formulas entered, in their order: each is clear or not by its parts, which are earlier
unfoldable pub clears_up_to : (ℕ → Record) → List ℕ → ℕ → List ℕ
clears_up_to look t zero = t
clears_up_to look t (suc n) = set (clears_up_to look t n) n (cond (clear_by (is_clear_in (clears_up_to look t n)) (look n)) 1 0)

-- Assumptions and messages, from the index t of a book with counts n.

abbrev pub is_assumption_in : List ℕ → Counts → (i : ℕ) → Claim → Bool
is_assumption_in t n i g =
    ltb i n.assumptions
    && same_claim g (stated_claim (look_in n.formulas t) (look_in n.formulas t (assumption_in t i).first))

-- message i of the first m; messages count from 1
abbrev pub is_message_in : List ℕ → Counts → (m i : ℕ) → Claim → Bool
is_message_in t n m i g =
    (leb 1 i && (leb i m && leb i n.messages))
    && same_claim g (claim 1 (message_in t i).second 0 (message_in t i).third)

-- The rules.

-- p and q are the two ends of y
abbrev pub are_ends : (p q : ℕ) → Record → Bool
are_ends p q y = (eqb p y.first && eqb q y.third) || (eqb p y.third && eqb q y.first)

-- P believes y, of kind i, P sees e, of kind j, and the key or secret of y is that of e
abbrev pub is_under : (i j key : ℕ) (y e : Record) (a b : Claim) → Bool
is_under i j key y e a b =
    (eqb a.mode 2 && (eqb b.mode 1 && eqb b.p a.p))
    && (eqb y.kind i && (eqb e.kind j && eqb key e.second))

-- e is not from P
abbrev pub from_other : Record → Claim → Bool
from_other e a = not (eqb e.third a.p)

abbrev pub follows1 : (y e : Record) (a b g : Claim) → Bool
follows1 y e a b g =
    is_under 8 5 y.second y e a b
    && (from_other e a && (are_ends a.p g.q y && same_claim g (claim 4 a.p g.q e.first)))

abbrev pub follows2 : (y e : Record) (a b g : Claim) → Bool
follows2 y e a b g =
    is_under 9 6 y.first y e a b && (from_other e a && same_claim g (claim 4 a.p y.second e.first))

abbrev pub follows3 : (y e : Record) (a b g : Claim) → Bool
follows3 y e a b g =
    is_under 10 7 y.second y e a b && (are_ends a.p g.q y && same_claim g (claim 4 a.p g.q e.first))

abbrev pub follows9 : (y e : Record) (a b g : Claim) → Bool
follows9 y e a b g =
    is_under 8 5 y.second y e a b
    && (from_other e a && ((eqb a.p y.first || eqb a.p y.third) && same_claim g (claim 1 a.p 0 e.first)))

abbrev pub follows10 : (y e : Record) (a b g : Claim) → Bool
follows10 y e a b g =
    is_under 9 5 y.first y e a b
    && (from_other e a && (eqb y.second a.p && same_claim g (claim 1 a.p 0 e.first)))

abbrev pub follows11 : (y e : Record) (a b g : Claim) → Bool
follows11 y e a b g =
    is_under 9 6 y.first y e a b && (from_other e a && same_claim g (claim 1 a.p 0 e.first))

abbrev pub follows4 : (is_clear : Bool) (a b g : Claim) → Bool
follows4 is_clear a b g =
    is_clear && (eqb b.mode 4 && (same_claim a (claim 3 b.p 0 b.x) && same_claim g (claim 5 b.p b.q b.x)))

abbrev pub follows5 : (ℕ → Record) → (y : Record) (a b g : Claim) → Bool
follows5 look y a b g =
    (eqb a.mode 2 && eqb y.kind 15)
    && (same_claim b (claim 5 a.p y.first y.second) && same_claim g (opened_claim (look y.second) a.p y.second))

-- rules 6, 7, 8: P sees a formula of kind k and so its part x
abbrev pub is_seen_part : (k x : ℕ) (y : Record) (a g : Claim) → Bool
is_seen_part k x y a g = (eqb a.mode 1 && eqb y.kind k) && same_claim g (claim 1 a.p 0 x)

-- rules 12, 13: P believes the part x fresh, and so the conjunction
abbrev pub is_fresh_whole : (x : ℕ) (z : Record) (a g : Claim) → Bool
is_fresh_whole x z a g = (eqb g.mode 3 && eqb z.kind 4) && same_claim a (claim 3 g.p 0 x)

-- rules 14 to 17: in mode i, 4 or 5, of a conjunction and so of its part x
abbrev pub is_held_part : (i x : ℕ) (y : Record) (a g : Claim) → Bool
is_held_part i x y a g = (eqb a.mode i && eqb y.kind 4) && same_claim g (claim i a.p a.q x)

-- rules 18, 19: P believes a conjunction and so its part x
abbrev pub is_believed_part : (ℕ → Record) → (x : ℕ) (y : Record) (a g : Claim) → Bool
is_believed_part look x y a g = (eqb a.mode 2 && eqb y.kind 4) && same_claim g (opened_claim (look x) a.p x)

abbrev pub follows20 : (ℕ → Record) → (z : Record) (a b g : Claim) → Bool
follows20 look z a b g =
    (eqb g.mode 2 && eqb z.kind 4)
    && (same_claim a (opened_claim (look z.first) g.p z.first) && same_claim b (opened_claim (look z.second) g.p z.second))

-- rules 21 and 22: P believes y, of kind 17: for every V, Q controls X
abbrev pub is_delegated : (y : Record) (a : Claim) → Bool
is_delegated y a = eqb a.mode 2 && eqb y.kind 17

-- P believes that Q believes an instance of X, and so P believes it
abbrev pub follows21 : (ℕ → Record) → (y e : Record) (a b g : Claim) → Bool
follows21 look y e a b g =
    (is_delegated y a
    && (same_claim b (claim 5 a.p (look y.second).first b.x) && same_claim g (opened_claim e a.p b.x)))
    && is_instance_in look y.first (look y.second).second b.x

-- P believes an instance of "Q controls X"
abbrev pub follows22 : (ℕ → Record) → (y z : Record) (a g : Claim) → Bool
follows22 look y z a g =
    (is_delegated y a && (eqb z.kind 15 && same_claim g (claim 2 a.p 0 g.x)))
    && is_instance_in look y.first y.second g.x

-- the rules from 1 on
unfoldable pub rule_tests : (look : ℕ → Record) (is_clear : ℕ → Bool) (a b g : Claim) → List Bool
rule_tests look is_clear a b g =
    follows1 (look a.x) (look b.x) a b g
    ∷ follows2 (look a.x) (look b.x) a b g
    ∷ follows3 (look a.x) (look b.x) a b g
    ∷ follows4 (is_clear b.x) a b g
    ∷ follows5 look (look a.x) a b g
    ∷ is_seen_part 4 (look a.x).first (look a.x) a g
    ∷ is_seen_part 4 (look a.x).second (look a.x) a g
    ∷ is_seen_part 7 (look a.x).first (look a.x) a g
    ∷ follows9 (look a.x) (look b.x) a b g
    ∷ follows10 (look a.x) (look b.x) a b g
    ∷ follows11 (look a.x) (look b.x) a b g
    ∷ is_fresh_whole (look g.x).first (look g.x) a g
    ∷ is_fresh_whole (look g.x).second (look g.x) a g
    ∷ is_held_part 4 (look a.x).first (look a.x) a g
    ∷ is_held_part 4 (look a.x).second (look a.x) a g
    ∷ is_held_part 5 (look a.x).first (look a.x) a g
    ∷ is_held_part 5 (look a.x).second (look a.x) a g
    ∷ is_believed_part look (look a.x).first (look a.x) a g
    ∷ is_believed_part look (look a.x).second (look a.x) a g
    ∷ follows20 look (look g.x) a b g
    ∷ follows21 look (look a.x) (look b.x) a b g
    ∷ follows22 look (look a.x) (look g.x) a g
    ∷ []

-- whether the claim g follows by a step of kind k, whose first number is i and whose premises are a and b; t is the index of the book
-- with counts n, cs says which formulas are clear, m is the goal's message
unfoldable pub follows_in : (t : List ℕ) (n : Counts) (cs : List ℕ) (m k i : ℕ) (a b g : Claim) → Bool
follows_in t n cs m k i a b g =
    cond (leb 64 k && leb k (65 + last_rule))
    (get_or (is_assumption_in t n i g ∷ is_message_in t n m i g ∷ rule_tests (look_in n.formulas t) (is_clear_in cs) a b g) (k - 64) false)
    false
