-- That an index is one of an accepted book, and that texts are for the owner, can be so in one way only, which is asked of each fact in a
-- struct. Assumes nothing.
use Rattle.std.specs.Prelude.{ℕ, ◌≡◌, ◌⊎◌, List}
use Rattle.std.specs.Coded.{Unit-prop, Coded-set, code_by, coded_bool}
use Rattle.logic.specs.declared.Audience.{Audience}
use Rattle.logic.specs.declared.Audience.TheVariants.{Owner, Guest}
use Rattle.logic.specs.declared.Record.{Record}
use Rattle.logic.specs.declared.Counts.{Counts}
use Rattle.logic.specs.declared.Sort.{Sort}
use Rattle.logic.specs.declared.Sort.TheVariants.{Absent, Name, Principal, Key, Formula, Variable, Control, Statement, Message}
use Rattle.logic.specs.Book.{Whole, MayBe}
use Rattle.logic.proofs.Formulas.{Formulas}
use Rattle.text.specs.Lines.{IsIndex}
use mathlib.Core.Path.{refl, ap}
use mathlib.Core.Logic.{inl, inr}
use mathlib.Core.Bool.{Bool, true, false}
use native.Mathlib.Omega.{arith}
use denote.Struct.Props.{props}

-- a field is two bytes, or has the kind that its sort asks for
whole_once : (s : Sort) (x : ℕ) → IsProp (Whole s x)
whole_once Absent x = hlevel props
whole_once Name x = hlevel props
whole_once Principal x = hlevel props
whole_once Key x = hlevel props
whole_once Formula x = hlevel props
whole_once Variable x = hlevel props
whole_once Control x = hlevel props
whole_once Statement x = hlevel props
whole_once Message x = hlevel props

-- of two statements of which one is false, at most one is so, and in one way
apart : {A B : Type 0} → IsProp A → IsProp B → (A → B → ⊥) → IsProp (A ⊎ B)
apart a b n (inl x) (inl y) = ap inl (a x y)
apart a b n (inl x) (inr y) = absurd (n x y)
apart a b n (inr x) (inl y) = absurd (n y x)
apart a b n (inr x) (inr y) = ap inr (b x y)

sort_once : (s : Sort) (k : ℕ) → IsProp (MayBe s k)
sort_once Absent k = Unit-prop
sort_once Name k = Unit-prop
sort_once Principal k = hlevel props
sort_once Key k = apart (hlevel props) (hlevel props) (λ a b. omega arith)
sort_once Formula k = apart (hlevel props) (hlevel props) (λ a b. omega arith)
sort_once Variable k = hlevel props
sort_once Control k = hlevel props
sort_once Statement k = apart (hlevel props) (hlevel props) (λ a b. omega arith)
sort_once Message k = Unit-prop

-- the formula records, and the index
pub formulas_once : (fs : List Record) → IsProp (Formulas fs)
formulas_once fs = hlevel (props, whole_once, sort_once)

pub is_index_once : (f : ℕ) (t : List ℕ) (n : Counts) → IsProp (IsIndex f t n)
is_index_once f t n = hlevel (props, formulas_once)

-- an audience as a truth value: whether it is the owner
abbrev is_owner : Audience → Bool
is_owner Owner = true
is_owner Guest = false

abbrev audience_of : Bool → Audience
audience_of true = Owner
audience_of false = Guest

audience_same : (a : Audience) → audience_of (is_owner a) ≡ a
audience_same Owner = refl
audience_same Guest = refl

pub owner_once : (a : Audience) → IsProp (a ≡ Owner)
owner_once a = Coded-set (code_by Bool coded_bool is_owner audience_of audience_same) a Owner
