-- The fault of a step, and the end of a derivation, as the checker's functions find them: in terms of the index t of a book with counts
-- n, the table cs of its clear formulas, and the table fs of the claims of earlier steps. For our own functions; that these are the
-- verdict over trees is proved in proofs/Stage.antt.
use Rattle.std.specs.Prelude.{ℕ, ◌-◌, ◌*◌, ◌≤◌, ◌<◌, ◌≡◌, ◌⊎◌, Result, Ok, Err, List, [], Bool, cond, not, ◌&&◌, ◌||◌, length, get_or, leb, ltb, eqb}
use Rattle.logic.specs.declared.Record.{Record}
use Rattle.logic.specs.declared.Counts.{Counts}
use Rattle.logic.specs.declared.Cause.{Cause}
use Rattle.logic.specs.Record.{word}
use Rattle.logic.specs.Count.{goals, counts_of}
use Rattle.logic.specs.Refusal.{number_of, Outcome}
use Rattle.logic.specs.Refusal.Outcome.{accepted, refused}
use Rattle.logic.specs.Book.{Book}
use Rattle.format.specs.Index.{index_size, filled, record_in, look_in}
use Rattle.format.specs.Variables.{loose_in}
use Rattle.logic.specs.Step.{numbers_in, step_size, goal_of, Verdict}
use Rattle.claims.specs.declared.Claim.{Claim}
use Rattle.checker.specs.declared.Sound.{Sound}
use Rattle.claims.specs.Claim.{same_claim, claim_in, claim_at, is_sound, stated_claim}
use Rattle.claims.specs.Follow.{clears_up_to, follows_in}

-- whether the premises i and j of a step of kind k are among the first `count` steps; kinds 64 and 65 have none
abbrev pub are_earlier : (k i j count : ℕ) → Bool
are_earlier k i j count = not (leb 66 k) || (ltb i count && (not (eqb (numbers_in k) 2) || ltb j count))

-- the first number that fits the step at the front of the bytes s, behind `count` steps, or 0
unfoldable pub fault_in : (t : List ℕ) (n : Counts) (cs : List ℕ) (m : ℕ) (fs : List ℕ) (count : ℕ) → List ℕ → ℕ
fault_in t n cs m fs count s =
    cond (leb 65535 count) 21
    (cond (eqb (numbers_in (get_or s 0 0)) 0) 16
    (cond (ltb (length s) (step_size (get_or s 0 0))) 16
    (cond (not (is_sound (look_in n.formulas t) (loose_in t) (claim_in s))) 17
    (cond (not (are_earlier (get_or s 0 0) (word s 8) (word s 10) count)) 18
    (cond (not (follows_in t n cs m (get_or s 0 0) (word s 8) (claim_at fs (word s 8)) (claim_at fs (word s 10)) (claim_in s))) 19
    0)))))

-- a step that was judged sound has no fault, and comes with its claim and its size; one that was not has the fault that is told
abbrev pub JudgedIs : Result Sound Cause → ℕ → List ℕ → Type 0
JudgedIs (Ok step) f s = (f ≡ 0) × (step.claim ≡ claim_in s) × (step.size ≡ step_size (get_or s 0 0))
JudgedIs (Err e) f s = number_of e ≡ f

-- behind the last of `count` steps
abbrev pub ending : (fs : List ℕ) (count : ℕ) (goal : Claim) → Outcome Unit
ending fs count goal = cond (ltb 0 count && same_claim (claim_at fs (count - 1)) goal) (accepted tt) (refused 20 count)

-- whether a table of so many claims has room for the steps of a derivation of so many bytes: a step has ten bytes or more, and no
-- derivation has more than 65,535 steps
abbrev pub HasRoom : (bytes claims : ℕ) → Type 0
HasRoom bytes claims = (bytes ≤ 10 * claims) ⊎ (65535 ≤ claims)

-- What the checker holds of a book: its records are rs, the goal is g, asked after message m.
pub record Posed (rs : List Record) (g : ℕ) (t : List ℕ) (n : Counts) (cs : List ℕ) (m : ℕ) (goal : Claim) : Type 0 where
  pub proper : Book rs
  pub counts : n ≡ counts_of rs
  -- the index, made in a table that has room for it
  pub t₀ : List ℕ
  pub room : index_size ≤ length t₀
  pub table : t ≡ filled t₀ [] rs
  -- the clear formulas, in a table of 256 numbers or more
  pub cs₀ : List ℕ
  pub clear_room : 256 ≤ length cs₀
  pub clears : cs ≡ clears_up_to (record_in t) cs₀ n.formulas
  pub present : g < length (goals rs)
  pub message : m ≡ (goal_of rs g).first
  pub asks : goal ≡ stated_claim (look_in n.formulas t) (look_in n.formulas t (goal_of rs g).second)

-- o is the verdict on the derivation s, whatever the book and the goal that this is held of
abbrev pub VerdictOf : (t : List ℕ) (n : Counts) (cs : List ℕ) (m : ℕ) (goal : Claim) (s : List ℕ) → Outcome Unit → Type 0
VerdictOf t n cs m goal s o = (rs : List Record) (g : ℕ) → Posed rs g t n cs m goal → Verdict rs g s o
