-- Who lets somebody control each record. Behind the 256 rows of instances row 256 + x has the records of kind 17 that let somebody control a
-- formula with x in its row.
use Rattle.std.specs.Prelude.{ℕ, zero, suc, ◌+◌, List, cond, eqb, leb}
use Rattle.facts.specs.Names.{delegation}
use Rattle.flat.specs.Layout.{kind_at}
use Rattle.rules.specs.Rules.{row_has, scope_of}
use Rattle.tables.specs.Users.{used}

-- record x under the kind 17 d, if it is in row y: d goes into the row of x behind the instances
unfoldable pub under_one : List ℕ → (y d x : ℕ) → List ℕ
under_one rows y d x = cond (row_has rows y x) (used rows (256 + x) d) rows

-- for the first so many records
unfoldable pub under_upto : List ℕ → (y d x : ℕ) → List ℕ
under_upto rows y d zero = rows
under_upto rows y d (suc x) = under_one (under_upto rows y d x) y d x

-- a record of kind 17 and what it lets somebody control
unfoldable pub delegated_one : List ℕ → ℕ → List ℕ → List ℕ
delegated_one b d rows = cond (eqb (kind_at b d) delegation) (under_upto rows (scope_of b d) d 256) rows

unfoldable pub delegated_upto : List ℕ → ℕ → List ℕ → List ℕ
delegated_upto b zero rows = rows
delegated_upto b (suc d) rows = delegated_one b d (delegated_upto b d rows)

-- all records; more than 256 leave the table as it is
unfoldable pub delegations_of : List ℕ → ℕ → List ℕ → List ℕ
delegations_of b n rows = cond (leb n 256) (delegated_upto b n rows) rows
