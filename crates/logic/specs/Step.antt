-- Derivations as bytes, and the checker's verdict on them. Document 01, "Derivations and their checker".
use Rattle.std.specs.Prelude.{ℕ, zero, suc, ◌+◌, ◌-◌, ◌*◌, ◌≤◌, ◌<◌, ◌≡◌, ◌⊎◌, List, [], ◌∷◌, ◌++◌, map, Bool, cond, not, ◌&&◌, ◌||◌, length, get_or, take, drop, T, leb, eqb}
use Rattle.logic.specs.declared.Record.{Record}
use Rattle.logic.specs.Record.{no_record, word}
use Rattle.logic.specs.Count.{formulas, assumptions, messages, goals}
use Rattle.logic.specs.Refusal.{Outcome}
use Rattle.logic.specs.Refusal.Outcome.{accepted, refused}
use Rattle.logic.specs.Reading.{reading}
use Rattle.logic.specs.Book.{All}
use Rattle.logic.specs.Formula.{Tree, no_tree}
use Rattle.logic.specs.Fact.{Fact, assumed, delivered, goal_fact}
use Rattle.logic.specs.Fact.Fact.{Sees}
use Rattle.logic.specs.Rule.{Rule}
use Rattle.logic.specs.Derivation.{EndsIn}
use Rattle.logic.specs.Written.{meaning, fact_in, is_malformed}

-- The bytes of a step: its kind, its fact, then numbers of two bytes each.

-- the rules count from 1 to this
abbrev pub last_rule : ℕ
last_rule = 22

-- rules 1 to 5, 9 to 11, 20 and 21 have two premises, the others one
abbrev pub has_two : ℕ → Bool
has_two r = (leb 1 r && leb r 5) || ((leb 9 r && leb r 11) || (eqb r 20 || eqb r 21))

abbrev pub premises_in : ℕ → ℕ
premises_in r = cond (has_two r) 2 1

-- how many numbers a step of this kind has: 64 an assumption number, 65 a message number, 65 + r the premises of rule r;
-- 0 for a byte that is no kind of step
unfoldable pub numbers_in : ℕ → ℕ
numbers_in k = cond (eqb k 64 || eqb k 65) 1 (cond (leb 66 k && leb k (65 + last_rule)) (premises_in (k - 65)) 0)

-- one byte of kind, seven of the fact, two for each number
unfoldable pub step_size : ℕ → ℕ
step_size k = 1 + 7 + 2 * numbers_in k

pub record Step : Type 0 where
  pub kind : ℕ
  -- the fact as it is written
  pub fact : List ℕ
  pub numbers : List ℕ

-- the step at the front of some bytes
unfoldable pub step_at : List ℕ → Step
step_at s =
    record {
      kind = get_or s 0 0;
      fact = take 7 (drop 1 s);
      numbers = take (numbers_in (get_or s 0 0)) (word s 8 ∷ word s 10 ∷ []);
    }

-- the steps of some bytes, one behind the other; the first argument bounds their number
unfoldable pub steps_from : ℕ → List ℕ → List Step
steps_from zero s = []
steps_from (suc n) [] = []
steps_from (suc n) (k ∷ s) = step_at (k ∷ s) ∷ steps_from n (drop (step_size k) (k ∷ s))

-- a step has at least one byte
abbrev pub steps_in : List ℕ → List Step
steps_in s = steps_from (length s) s

-- the earlier steps, counted from 0, that a step names as its premises: the numbers of a rule's step
abbrev pub premises_of : Step → List ℕ
premises_of q = cond (leb 66 q.kind) q.numbers []

-- the fact over trees that a step states in a book with the formula records fs
abbrev pub stated_by : List Record → Step → Fact Tree
stated_by fs q = meaning fs (fact_in q.fact)

-- what stands where there is no fact; no step that follows leads to it
abbrev pub no_fact : Fact Tree
no_fact = Sees 0 no_tree

-- Whether a step follows.

-- f is assumption i
abbrev pub IsAssumption : List Record → ℕ → Fact Tree → Type 0
IsAssumption rs i f = (i < length (assumptions rs)) × (assumed (formulas rs) (get_or (assumptions rs) i no_record) ≡ f)

-- f is "receiver sees formula" for message i, one of the messages 1 to m
abbrev pub IsMessage : List Record → ℕ → ℕ → Fact Tree → Type 0
IsMessage rs m i f =
    (1 ≤ i) × (i ≤ m) × (i ≤ length (messages rs)) × (delivered (formulas rs) (get_or (messages rs) (i - 1) no_record) ≡ f)

-- step q follows, behind steps with the facts `past`: it is the assumption or the message that it names, or its kind is 65 + r, and
-- the facts of its premises, in their order, and its own fact are an instance of rule r
abbrev pub StepFollows : List Record → ℕ → List (Fact Tree) → Step → Type 0
StepFollows rs m past q =
    ((q.kind ≡ 64) × IsAssumption rs (get_or q.numbers 0 0) (stated_by (formulas rs) q))
    ⊎ (((q.kind ≡ 65) × IsMessage rs m (get_or q.numbers 0 0) (stated_by (formulas rs) q))
    ⊎ ((r : ℕ) × (q.kind ≡ 65 + r) × Rule r (map (λ i. get_or past i no_fact) q.numbers) (stated_by (formulas rs) q)))

-- The verdict.

-- A is required: f is the number n if it does not hold, otherwise what is said next of it
abbrev pub Required : (n : ℕ) (A : Type 0) (next : ℕ → Type 0) → ℕ → Type 0
Required n A next f = ((A → ⊥) × (f ≡ n)) ⊎ (A × next f)

-- f is the first number that fits the step at the front of the bytes s, in the order 21, 16, 17, 18, 19, or 0
abbrev pub StepFault : List Record → ℕ → List (Fact Tree) → List ℕ → ℕ → Type 0
StepFault rs m past s =
    -- it is numbered below 65,535
    Required 21 (length past < 65535)
    -- its kind is known, and it is not cut
    (Required 16 ((0 < numbers_in (get_or s 0 0)) × (step_size (get_or s 0 0) ≤ length s))
    -- its fact is not malformed
    (Required 17 (T (not (is_malformed (formulas rs) (step_at s).fact)))
    -- its premises are earlier
    (Required 18 (All (λ i. i < length past) (premises_of (step_at s)))
    -- it follows
    (Required 19 (StepFollows rs m past (step_at s))
    (λ f. f ≡ 0)))))

-- at the end the last step is the goal, or it is 20 with the number of steps read
abbrev pub AtEnd : Fact Tree → List (Fact Tree) → Outcome Unit → Type 0
AtEnd goal past o = ((EndsIn goal past → ⊥) × (o ≡ refused 20 (length past))) ⊎ (EndsIn goal past × (o ≡ accepted tt))

-- o is the verdict on the bytes that are left behind steps with the facts `past`; the first number bounds the steps that are left
abbrev pub VerdictBehind : List Record → (m : ℕ) → Fact Tree → ℕ → List (Fact Tree) → List ℕ → Outcome Unit → Type 0
VerdictBehind rs m goal zero past s o = AtEnd goal past o
VerdictBehind rs m goal (suc n) past [] o = AtEnd goal past o
VerdictBehind rs m goal (suc n) past (k ∷ s) o =
    (StepFault rs m past (k ∷ s) 0
    × VerdictBehind rs m goal n (past ++ (stated_by (formulas rs) (step_at (k ∷ s)) ∷ [])) (drop (step_size k) (k ∷ s)) o)
    ⊎ ((f : ℕ) × StepFault rs m past (k ∷ s) (suc f) × (o ≡ refused (suc f) (length past)))

-- goal record g, or no record
abbrev pub goal_of : List Record → ℕ → Record
goal_of rs g = get_or (goals rs) g no_record

-- o is the verdict on the derivation s for goal g of the book with the records rs; "for a goal, m is its message number"
abbrev pub Verdict : List Record → ℕ → List ℕ → Outcome Unit → Type 0
Verdict rs g s o = VerdictBehind rs (goal_of rs g).first (goal_fact (formulas rs) (goal_of rs g)) (length s) [] s o

-- the same for a book that was read: the book's refusals come first, then 13 for a goal that is not there
abbrev pub CheckedAfter : Outcome (List Record) → ℕ → List ℕ → Outcome Unit → Type 0
CheckedAfter (refused f i) g s o = o ≡ refused f i
CheckedAfter (accepted rs) g s o = ((length (goals rs) ≤ g) × (o ≡ refused 13 g)) ⊎ ((g < length (goals rs)) × Verdict rs g s o)

-- o is what the checker answers for the bytes b of a book, goal number g and the bytes s of a derivation
abbrev pub Checked : List ℕ → ℕ → List ℕ → Outcome Unit → Type 0
Checked b g s o = CheckedAfter (reading b) g s o
