-- What an accepted book is, as plain statements about its records, without an order of tests.
-- That the reader accepts just these is proved in proofs/BookRead.antt.
use Rattle.std.specs.Prelude.{ℕ, ◌≤◌, ◌<◌, ◌≡◌, ◌⊎◌, List, [], ◌∷◌, ◌++◌, length, T}
use Rattle.logic.specs.declared.Sort.{Sort}
use Rattle.logic.specs.declared.Sort.TheVariants.{Absent, Name, Principal, Key, Formula, Variable, Control, Statement, Message}
use Rattle.logic.specs.declared.Record.{Record}
use Rattle.logic.specs.Kind.{body_of, is_field, is_formula_record, refers}
use Rattle.logic.specs.Record.{bytes}
use Rattle.logic.specs.Count.{formulas, principals, assumptions, messages, goals, formula_at}
use Rattle.logic.specs.Formula.{loose, may_delegate, tree_of}

-- a statement holds of each member of a list
abbrev pub All {ℓ} : {A : Type ℓ} → (A → Type 0) → List A → Type 0
All P [] = Unit
All P (a ∷ l) = P a × All P l

-- a statement holds of each field of a record
abbrev pub EachField : (Sort → ℕ → Type 0) → Record → Type 0
EachField P r =
    P (body_of r.kind).first r.first × P (body_of r.kind).second r.second × P (body_of r.kind).third r.third

-- a field is two bytes, and what the kind does not have is 0
abbrev pub Whole : Sort → ℕ → Type 0
Whole Absent x = x ≡ 0
Whole Name x = x < 65536
Whole Principal x = x < 65536
Whole Key x = x < 65536
Whole Formula x = x < 65536
Whole Variable x = x < 65536
Whole Control x = x < 65536
Whole Statement x = x < 65536
Whole Message x = x < 65536

-- the kinds that a field of each sort may refer to
abbrev pub MayBe : Sort → ℕ → Type 0
MayBe Absent k = Unit
MayBe Name k = Unit
MayBe Principal k = k ≡ 1
MayBe Key k = (k ≡ 2) ⊎ (k ≡ 16)
MayBe Formula k = ((3 ≤ k) × (k ≤ 15)) ⊎ (k ≡ 17)
MayBe Variable k = k ≡ 16
MayBe Control k = k ≡ 15
MayBe Statement k = (k ≡ 12) ⊎ (k ≡ 13)
MayBe Message k = Unit

-- formula x of fs has no variable outside kind 17
abbrev pub Closed : List Record → ℕ → Type 0
Closed fs x = loose (tree_of fs x) ≡ []

-- the references of r are to formulas of fs
abbrev pub RefersWithin : (fs : List Record) → Record → Type 0
RefersWithin fs r = EachField (λ s x. T (refers s) → x < length fs) r

-- the record r may stand behind the records `past`
pub record Proper (past : List Record) (r : Record) : Type 0 where
  -- its kind is one of the table's
  pub known : T (is_field (body_of r.kind).first)
  pub whole : EachField Whole r
  -- no message and no goal stands before an assumption, and no goal before a message; a formula record may stand anywhere
  pub assumptions_first : r.kind ≡ 32 → (messages past ≡ []) × (goals past ≡ [])
  pub goals_last : r.kind ≡ 33 → goals past ≡ []
  -- with it there are at most so many
  pub formula_limit : T (is_formula_record r.kind) → length (formulas past) < 256
  pub principal_limit : r.kind ≡ 1 → length (principals past) < 8
  pub assumption_limit : r.kind ≡ 32 → length (assumptions past) < 64
  pub message_limit : r.kind ≡ 33 → length (messages past) < 16
  pub goal_limit : r.kind ≡ 34 → length (goals past) < 32
  -- references are to formulas that stand before it, of the sort that the field asks
  pub earlier : RefersWithin (formulas past) r
  pub sorts : EachField (λ s x. MayBe s (formula_at past x).kind) r
  -- names rise in kinds 8 and 10
  pub rising : (r.kind ≡ 8) ⊎ (r.kind ≡ 10) → (formula_at past r.first).first < (formula_at past r.third).first
  -- the Z of a kind 17 holds no other kind 17, and no variable but V
  pub delegation : r.kind ≡ 17 → T (may_delegate (formula_at past r.first).first (tree_of (formulas past) r.second))
  -- nobody sends to himself
  pub to_another : r.kind ≡ 33 → r.first ≡ r.second → ⊥
  -- no formula of an assumption, a message or a goal has a variable outside kind 17
  pub closed : 32 ≤ r.kind → EachField (λ s x. T (refers s) → Closed (formulas past) x) r
  -- a goal is asked after a message that is there, or before the first
  pub goal_after : r.kind ≡ 34 → r.first ≤ length (messages past)
  -- no formula record is repeated
  pub new : T (is_formula_record r.kind) → All (λ q. r ≡ q → ⊥) (formulas past)

-- each record of the list may stand behind `past` and those before it
abbrev pub Follows : List Record → List Record → Type 0
Follows past [] = Unit
Follows past (r ∷ rs) = Proper past r × Follows (past ++ (r ∷ [])) rs

-- the records of a book
abbrev pub Book : List Record → Type 0
Book rs = Follows [] rs

-- s is an accepted book with the records rs
abbrev pub IsBook : List ℕ → List Record → Type 0
IsBook s rs = (bytes rs ≡ s) × Book rs
