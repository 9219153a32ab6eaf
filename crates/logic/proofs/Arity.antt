-- Rules count from 1 to the last, and a rule has as many premises as its number says.
use Prim.Native.Nat.{ℕ, ◌+◌, ◌-◌, ◌≤◌}
use mathlib.Core.Path.{◌≡◌, refl, sym, ◌∙◌}
use mathlib.Core.Logic.{◌⊎◌, inl, inr}
use mathlib.Core.List.{List}
use mathlib.Core.Bool.{Bool, true, false, cond, ◌&&◌}
use native.Mathlib.Omega.{arith}
use lib.ListN.{length, length-map}
use lib.Dec.{T, leb, eqb, leb→le, eqb→eq}
use borrow.Author.Tests.{le-leb, ne_eqb}
use Rattle.logic.specs.declared.Record.{Record}
use Rattle.logic.specs.Book.{All}
use Rattle.logic.specs.Formula.{Tree}
use Rattle.logic.specs.Fact.{Fact}
use Rattle.logic.specs.Rule.{Rule}
use Rattle.logic.specs.Rule.Rule.{rule1, rule2, rule3, rule4, rule5, rule6, rule7, rule8, rule9, rule10, rule11, rule12, rule13, rule14, rule15, rule16, rule17, rule18, rule19, rule20, rule21, rule22}
use Rattle.logic.specs.Written.{meaning}
use Rattle.logic.specs.Step.{last_rule, has_two, premises_in, numbers_in}
use Rattle.logic.proofs.Tests.{T_and}
use Rattle.logic.proofs.Formulas.{Formulas}
use Rattle.logic.proofs.Meaning.{Valid}
use Rattle.logic.proofs.RuleOn.{RuleOn, raised}

-- by computing, for each rule
computed : {n : ℕ} {ps : List (Fact Tree)} {f : Fact Tree} → Rule n ps f → T (leb 1 n && (leb n last_rule && eqb (length ps) (premises_in n)))
computed (rule1 P Q A B K R X ends other) = tt
computed (rule2 P Q K R X other) = tt
computed (rule3 P Q A B X Y ends) = tt
computed (rule4 P Q X is_clear) = tt
computed (rule5 P Q X) = tt
computed (rule6 P X Y) = tt
computed (rule7 P X Y) = tt
computed (rule8 P X Y) = tt
computed (rule9 P Q A B K R X ends other) = tt
computed (rule10 P K R X other) = tt
computed (rule11 P Q K R X other) = tt
computed (rule12 P X Y) = tt
computed (rule13 P X Y) = tt
computed (rule14 P Q X Y) = tt
computed (rule15 P Q X Y) = tt
computed (rule16 P Q X Y) = tt
computed (rule17 P Q X Y) = tt
computed (rule18 P X Y) = tt
computed (rule19 P X Y) = tt
computed (rule20 P X Y) = tt
computed (rule21 P Q v X X' i) = tt
computed (rule22 P Q v X X' i) = tt

-- what the number of a rule says
pub record Numbered (n premises : ℕ) : Type 0 where
  pub from : 1 ≤ n
  pub upto : n ≤ last_rule
  pub arity : premises ≡ premises_in n

pub numbered : {n : ℕ} {ps : List (Fact Tree)} {f : Fact Tree} → Rule n ps f → Numbered n (length ps)
numbered {n} {ps} r =
    let a = T_and (leb 1 n) (leb n last_rule && eqb (length ps) (premises_in n)) (computed r) in
    let b = T_and (leb n last_rule) (eqb (length ps) (premises_in n)) a.1 in
    record { from = leb→le 1 n a.0; upto = leb→le n last_rule b.0; arity = eqb→eq (length ps) (premises_in n) b.1 }

-- the same on records
pub numbered_on : (fs : List Record) → Formulas fs → {n : ℕ} {gs : List (Fact ℕ)} {g : Fact ℕ} → RuleOn fs n gs g → All (Valid fs) gs
    → Numbered n (length gs)
numbered_on fs ok {n} {gs} r v =
    let h = numbered (raised fs ok r v).1 in
    record { from = h.from; upto = h.upto; arity = sym (length-map gs (meaning fs)) ∙ h.arity }

-- one or two
pub premise_count : (n : ℕ) → (premises_in n ≡ 2) ⊎ (premises_in n ≡ 1)
premise_count n = go (has_two n)
  where
    go : (b : Bool) → (cond {A = ℕ} b 2 1 ≡ 2) ⊎ (cond {A = ℕ} b 2 1 ≡ 1)
    go true = inl refl
    go false = inr refl

-- a step of rule n has the numbers of its premises
pub step_numbers : (n : ℕ) → 1 ≤ n → n ≤ last_rule → numbers_in (65 + n) ≡ premises_in n
unfolding numbers_in
step_numbers n l h =
    let e : 65 + n - 65 ≡ n = omega arith in
    rw (ne_eqb (65 + n) 64 (λ z. omega arith), ne_eqb (65 + n) 65 (λ z. omega arith), le-leb 66 (65 + n) (omega arith), le-leb (65 + n) (65 + last_rule) (omega arith), e)
