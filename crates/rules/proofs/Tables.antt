-- What is asked of the three tables that are worked out of a book: the chains have every statement, the rows have the instances of what may stand
-- under a kind 17, and where a fact is new its users are looked at again, one of which has each rule that asks for it. Assumes nothing.
use Prim.Native.Nat.{ℕ, zero, suc, ◌+◌, ◌<◌, ◌≤◌}
use native.Mathlib.Omega.{arith}
use mathlib.Core.Path.{◌≡◌, refl, sym, subst}
use mathlib.Core.List.{List}
use mathlib.Core.Bool.{Bool, true, false, cond}
use lib.ListN.{length, get_or}
use lib.Dec.{T, ltb}
use borrow.Author.Tests.{ltb-true, ne_eqb}
use Rattle.logic.specs.declared.Record.{Record}
use Rattle.logic.specs.Book.{All}
use Rattle.logic.specs.Formula.{may_delegate, record_of, name_of, tree_of}
use Rattle.logic.specs.Derivation.{Among}
use Rattle.logic.proofs.Member.{among_left, among_right}
use Rattle.logic.proofs.RuleOn.{InstanceOn}
use Rattle.lanes.specs.Lanes.{Common}
use Rattle.lanes.proofs.Sets.{Uses}
use Rattle.flat.specs.Layout.{kind_at, first_at, second_at}
use Rattle.rules.specs.Rules.{row_has, scope_of, last_about, before, along, rules_of}

-- y stands in the chain that begins at t
pub data On (links : List ℕ) (y : ℕ) : ℕ → Type 0 where
  here : (t : ℕ) → (t ≡ 0 → ⊥) → t ≡ y → On links y t
  later : (t : ℕ) → (t ≡ 0 → ⊥) → On links y (before links t) → On links y t

-- every statement among the first n records stands in the chain of its key or secret
pub record Chained (b links : List ℕ) (n : ℕ) : Type 0 where
  pub shared : (y : ℕ) → y < n → kind_at b y ≡ 8 → On links y (last_about links (second_at b y))
  pub public : (y : ℕ) → y < n → kind_at b y ≡ 9 → On links y (last_about links (first_at b y))
  pub secret : (y : ℕ) → y < n → kind_at b y ≡ 10 → On links y (last_about links (second_at b y))

-- Formula y may stand under d, a kind 17: it holds no kind 17, and no variable but the one of d
abbrev pub Under : List Record → (d y : ℕ) → Type 0
Under fs d y = T (may_delegate (name_of fs (record_of fs d).first) (tree_of fs y))

-- The row of what may stand under a kind 17 has just the records that are it with one key put for the variable. A row has 256 places. Row 256 + x
-- has just the records of kind 17, by the array b, that let somebody control a formula with x in its row.
pub record Instanced (fs : List Record) (b rows : List ℕ) : Type 0 where
  pub few : length fs ≤ 256
  pub inside : (y x : ℕ) → y < length fs → x < 256 → row_has rows y x ≡ true → x < length fs
  pub only : (d y x : ℕ) → d < length fs → (record_of fs d).kind ≡ 17 → y < length fs → x < length fs → Under fs d y → row_has rows y x ≡ true
      → InstanceOn fs (record_of fs d).first y x
  pub every : (d y x : ℕ) → d < length fs → (record_of fs d).kind ≡ 17 → y < length fs → x < length fs → Under fs d y → InstanceOn fs (record_of fs d).first y x
      → row_has rows y x ≡ true
  pub back : (x d : ℕ) → x < 256 → d < 256 → row_has rows (256 + x) d ≡ true → (d < length fs) × (kind_at b d ≡ 17) × (row_has rows (scope_of b d) x ≡ true)
  pub forth : (x d : ℕ) → x < 256 → d < length fs → kind_at b d ≡ 17 → row_has rows (scope_of b d) x ≡ true → row_has rows (256 + x) d ≡ true

-- formula x has among its users a record that has c in its list
abbrev pub Recalls : (b links rows u : List ℕ) → Common → ℕ → Type 0
Recalls b links rows u c x = (r : ℕ) × (r < 256) × Uses u x r × Among c (rules_of b links rows r)

-- each formula that a rule asks about has such a user
abbrev pub Covers : (b links rows u : List ℕ) → ℕ → Type 0
Covers b links rows u n =
    (r : ℕ) → r < n → All (λ c. Recalls b links rows u c c.by.first.formula × Recalls b links rows u c c.by.second.formula) (rules_of b links rows r)

-- a chain goes down
pub before_below : (links : List ℕ) (t : ℕ) → (t ≡ 0 → ⊥) → before links t < t
unfolding before
before_below links t n = go (ltb (get_or links (256 + t) 0) t) refl
  where
    go : (v : Bool) → ltb (get_or links (256 + t) 0) t ≡ v → cond v (get_or links (256 + t) 0) 0 < t
    go true e = ltb-true (get_or links (256 + t) 0) t e
    go false e = omega arith

-- what a statement of the chain gives is given by the chain
pub among_along : (c : Common) (f : ℕ → List Common) (links : List ℕ) (y t : ℕ) → On links y t → (j : ℕ) → t < j → Among c (f y) → Among c (along f links j t)
unfolding along
among_along c f links y t o zero l m = absurd (omega arith)
among_along c f links y t (here _ n e) (suc j) l m = rw (ne_eqb t 0 n) (among_left c (f t) (along f links j (before links t)) (subst (λ x. Among c (f x)) (sym e) m))
among_along c f links y t (later _ n o) (suc j) l m =
    rw (ne_eqb t 0 n) (among_right c (f t) (along f links j (before links t)) (among_along c f links y (before links t) o j (let b = before_below links t n in omega arith) m))
