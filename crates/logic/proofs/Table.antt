-- Laws of the table of kinds, by computing a test at each of its rows.
use Prim.Native.Nat.{ℕ, zero, suc, ◌≤◌, ◌<◌}
use native.Mathlib.Nat.{not-suc-le-zero}
use native.Mathlib.Decide.{dec_lt, ℕ_discrete}
use native.Mathlib.Omega.{arith}
use mathlib.Core.Path.{◌≡◌, refl, sym, subst}
use mathlib.Core.Bool.{Bool, true, false, not, cond, ◌&&◌, ◌||◌}
use lib.ListN.{get_or-eq_default}
use lib.Dec.{T, leb, eqb, leb→le, eqb→eq}
use Rattle.logic.specs.declared.Sort.{Sort}
use Rattle.logic.specs.declared.Sort.TheVariants.{Absent, Name, Principal, Key, Formula, Variable, Control, Statement, Message}
use Rattle.logic.specs.declared.Body.{Body}
use Rattle.logic.specs.Kind.{bodies, body_of, none, is_field, width, size_of, is_formula_record}
use Rattle.logic.specs.Book.{Whole}
use Rattle.logic.proofs.Tests.{T_and, T_if}

-- a test passes for each number below n
abbrev pub each : (ℕ → Bool) → ℕ → Bool
each p zero = true
each p (suc n) = p n && each p n

pub each_T : (p : ℕ → Bool) (n : ℕ) → T (each p n) → (k : ℕ) → k < n → T (p k)
each_T p zero t k l = absurd (not-suc-le-zero l)
each_T p (suc n) t k l =
    elim (ℕ_discrete k n) [
      | yes e ↦ subst (λ (x : ℕ). T (p x)) (sym e) (T_and (p n) (each p n) t).0
      | no d ↦ each_T p n (T_and (p n) (each p n) t).1 k (omega arith)
    ]

-- a kind past the end of the table has no body
pub no_body : (k : ℕ) → 35 ≤ k → body_of k ≡ none
unfolding body_of bodies
no_body k l = get_or-eq_default bodies none l

-- a test that passes at each of the 35 rows, and past them, passes for every kind
pub at_each_kind : (p : ℕ → Body → Bool) → T (each (λ k. p k (body_of k)) 35) → ((k : ℕ) → T (p k none)) → (k : ℕ) → T (p k (body_of k))
at_each_kind p t u k =
    elim (dec_lt k 35) [
      | yes l ↦ each_T (λ k. p k (body_of k)) 35 t k l
      | no d ↦ rw (no_body k (omega arith)) (u k)
    ]

-- the same for a test that passes where another does
pub at_each_kind_if : (p q : ℕ → Body → Bool)
    → T (each (λ k. not (p k (body_of k)) || q k (body_of k)) 35) → ((k : ℕ) → T (not (p k none) || q k none))
    → (k : ℕ) → T (p k (body_of k)) → T (q k (body_of k))
at_each_kind_if p q t u k = T_if (p k (body_of k)) (q k (body_of k)) (at_each_kind (λ k b. not (p k b) || q k b) t u k)

-- known kinds: those with a field
abbrev pub known : ℕ → Bool
known k = is_field (body_of k).first

-- a record has at most three fields
pub size_most : (k : ℕ) → size_of (body_of k) ≤ 7
unfolding body_of bodies
size_most k = leb→le _ 7 (at_each_kind (λ k b. leb (size_of b) 7) tt (λ k. tt) k)

-- a record has at least one byte
pub size_some : (k : ℕ) → 0 < size_of (body_of k)
size_some k = omega arith

-- the known kinds are the formula records, assumptions, messages and goals
pub data Kinds (k : ℕ) : Type 0 where
  formula : T (is_formula_record k) → Kinds k
  assumption : k ≡ 32 → Kinds k
  message : k ≡ 33 → Kinds k
  goal : k ≡ 34 → Kinds k

pub kinds : (k : ℕ) → T (known k) → Kinds k
unfolding body_of bodies
kinds k t =
    go (is_formula_record k) (eqb k 32) (eqb k 33) (eqb k 34) (λ x. x) (eqb→eq k 32) (eqb→eq k 33) (eqb→eq k 34)
    (at_each_kind_if
    (λ k b. is_field b.first)
    (λ k b. is_formula_record k || (eqb k 32 || (eqb k 33 || eqb k 34)))
    tt (λ k. tt) k t)
  where
    go : (f a m g : Bool) → (T f → T (is_formula_record k)) → (T a → k ≡ 32) → (T m → k ≡ 33) → (T g → k ≡ 34)
        → T (f || (a || (m || g))) → Kinds k
    go true a m g p q r s t = formula (p tt)
    go false true m g p q r s t = assumption (q tt)
    go false false true g p q r s t = message (r tt)
    go false false false true p q r s t = goal (s tt)
    go false false false false p q r s t = absurd t

-- formula records are kinds 1 to 17
pub formula_bounds : (k : ℕ) → T (is_formula_record k) → (1 ≤ k) × (k ≤ 17)
formula_bounds k t = (leb→le 1 k (T_and (leb 1 k) (leb k 17) t).0, leb→le k 17 (T_and (leb 1 k) (leb k 17) t).1)

pub known_small : (k : ℕ) → T (known k) → k < 35
known_small k t =
    elim (kinds k t) [
      | formula f ↦ let b = formula_bounds k f in omega arith
      | assumption e ↦ omega arith
      | message e ↦ omega arith
      | goal e ↦ omega arith
    ]

-- sizes by class
pub assumption_size : (k : ℕ) → k ≡ 32 → size_of (body_of k) ≡ 3
unfolding body_of bodies
assumption_size k e = rw e refl

pub goal_size : (k : ℕ) → k ≡ 34 → size_of (body_of k) ≡ 5
unfolding body_of bodies
goal_size k e = rw e refl

-- a field that is there is two bytes, and any other none
pub width_is : (s : Sort) → width s ≡ cond (is_field s) 2 0
width_is Absent = refl
width_is Name = refl
width_is Principal = refl
width_is Key = refl
width_is Formula = refl
width_is Variable = refl
width_is Control = refl
width_is Statement = refl
width_is Message = refl

-- `Whole` depends only on whether the field is there
abbrev pub Held : Bool → ℕ → Type 0
Held true x = x < 65536
Held false x = x ≡ 0

pub whole_held : (s : Sort) (x : ℕ) → Whole s x → Held (is_field s) x
whole_held Absent x w = w
whole_held Name x w = w
whole_held Principal x w = w
whole_held Key x w = w
whole_held Formula x w = w
whole_held Variable x w = w
whole_held Control x w = w
whole_held Statement x w = w
whole_held Message x w = w

pub held_whole : (s : Sort) (x : ℕ) → Held (is_field s) x → Whole s x
held_whole Absent x w = w
held_whole Name x w = w
held_whole Principal x w = w
held_whole Key x w = w
held_whole Formula x w = w
held_whole Variable x w = w
held_whole Control x w = w
held_whole Statement x w = w
held_whole Message x w = w
