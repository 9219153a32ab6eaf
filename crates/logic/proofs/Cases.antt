-- The seventeen kinds of formula, one by one: a proof about every formula record goes by these cases.
use Prim.Native.Nat.{ℕ, zero, suc, ◌≤◌}
use native.Mathlib.Omega.{arith}
use lib.Dec.{T, leb, leb→le}
use Rattle.logic.specs.Kind.{is_formula_record}
use Rattle.logic.proofs.Tests.{T_and}

pub data FormulaKind : ℕ → Type 0 where
  kind1 : FormulaKind 1
  kind2 : FormulaKind 2
  kind3 : FormulaKind 3
  kind4 : FormulaKind 4
  kind5 : FormulaKind 5
  kind6 : FormulaKind 6
  kind7 : FormulaKind 7
  kind8 : FormulaKind 8
  kind9 : FormulaKind 9
  kind10 : FormulaKind 10
  kind11 : FormulaKind 11
  kind12 : FormulaKind 12
  kind13 : FormulaKind 13
  kind14 : FormulaKind 14
  kind15 : FormulaKind 15
  kind16 : FormulaKind 16
  kind17 : FormulaKind 17

within : (k : ℕ) → k ≤ 16 → FormulaKind (suc k)
within zero h = kind1
within (suc zero) h = kind2
within (suc (suc zero)) h = kind3
within (suc (suc (suc zero))) h = kind4
within (suc (suc (suc (suc zero)))) h = kind5
within (suc (suc (suc (suc (suc zero))))) h = kind6
within (suc (suc (suc (suc (suc (suc zero)))))) h = kind7
within (suc (suc (suc (suc (suc (suc (suc zero))))))) h = kind8
within (suc (suc (suc (suc (suc (suc (suc (suc zero)))))))) h = kind9
within (suc (suc (suc (suc (suc (suc (suc (suc (suc zero))))))))) h = kind10
within (suc (suc (suc (suc (suc (suc (suc (suc (suc (suc zero)))))))))) h = kind11
within (suc (suc (suc (suc (suc (suc (suc (suc (suc (suc (suc zero))))))))))) h = kind12
within (suc (suc (suc (suc (suc (suc (suc (suc (suc (suc (suc (suc zero)))))))))))) h = kind13
within (suc (suc (suc (suc (suc (suc (suc (suc (suc (suc (suc (suc (suc zero))))))))))))) h = kind14
within (suc (suc (suc (suc (suc (suc (suc (suc (suc (suc (suc (suc (suc (suc zero)))))))))))))) h = kind15
within (suc (suc (suc (suc (suc (suc (suc (suc (suc (suc (suc (suc (suc (suc (suc zero))))))))))))))) h = kind16
within (suc (suc (suc (suc (suc (suc (suc (suc (suc (suc (suc (suc (suc (suc (suc (suc zero)))))))))))))))) h = kind17
within (suc (suc (suc (suc (suc (suc (suc (suc (suc (suc (suc (suc (suc (suc (suc (suc (suc k))))))))))))))))) h = absurd (omega arith)

pub formula_kind : (k : ℕ) → T (is_formula_record k) → FormulaKind k
formula_kind zero t = absurd t
formula_kind (suc k) t =
    let h = leb→le (suc k) 17 (T_and (leb 1 (suc k)) (leb (suc k) 17) t).1 in
    within k (omega arith)
