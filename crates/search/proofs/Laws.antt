-- Laws that the proofs of this crate's functions cite, over plain variables. Assumes nothing.
use Prim.Native.Nat.{ℕ, zero, suc, ◌+◌, ◌*◌, ◌%◌, ◌≤◌}
use native.Mathlib.Nat.{mul-le-mul}
use native.Mathlib.Omega.{arith}
use mathlib.Core.Path.{◌≡◌, refl, subst, ◌∙◌}
use mathlib.Core.List.{List, []}
use mathlib.Core.Bool.{Bool, true, false, cond}
use lib.ListN.{length, set, length-set, take, replicate}
use lib.Dec.{eqb}
use Rattle.logic.specs.Refusal.{Outcome}
use Rattle.logic.specs.Proof.{Answer}
use Rattle.flat.specs.Layout.{kind_at, rank_at}
use Rattle.search.specs.Answers.{names_upto}
use Rattle.logic.specs.declared.Counts.{Counts}
use Rattle.logic.specs.declared.Record.{Record}
use Rattle.instances.specs.Rows.{has_delegation, instances_of}
use Rattle.tables.specs.Delegations.{delegations_of}
use Rattle.tables.specs.Links.{linked}
use Rattle.tables.specs.Users.{users_of}
use Rattle.tables.specs.Deliveries.{deliveries_of}
use Rattle.stages.specs.Stages.{Surveys}
use Rattle.search.specs.Found.{FoundIs, LaidFoundIs}
use Rattle.search.specs.Laid.{laid_flat, laid_rows, every_assumption, LaidSurveyIs, SurveyIs}

pub block_small : (n p : ℕ) → n ≤ 256 → p ≤ 8 → n * (3 + 2 * p) ≤ 4864
block_small n p hn hp = mul-le-mul {n₁ = n} {m₁ = 3 + 2 * p} {n₂ = 256} {m₂ = 19} hn (omega arith)

pub names_length : (b : List ℕ) (x : ℕ) (l : List ℕ) → length (names_upto b x l) ≡ length l
unfolding names_upto
names_length b zero l = refl
names_length b (suc x) l = go (eqb (kind_at b x) 1) (names_length b x l)
  where
    go : (z : Bool) → length (names_upto b x l) ≡ length l → length (cond z (set (names_upto b x l) (rank_at b x) x) (names_upto b x l)) ≡ length l
    go true e = length-set (names_upto b x l) (rank_at b x) x ∙ e
    go false e = e

-- the rows of an index, by whether there is a kind 17
pub no_rows : (ix : List ℕ) (n : Counts) {v : Bool} → v ≡ has_delegation ix n.formulas → v ≡ false → [] ≡ laid_rows ix n
no_rows ix n e h = rw (← e, h) refl

pub all_rows : (ix : List ℕ) (n : Counts) {v : Bool} {b rows rows' : List ℕ} → v ≡ has_delegation ix n.formulas → v ≡ true → b ≡ laid_flat ix n
    → rows ≡ instances_of ix n.formulas (replicate 2048 0) → rows' ≡ delegations_of b n.formulas rows → rows' ≡ laid_rows ix n
all_rows ix n e h eb er ed = rw (← e, h, ← eb, ← er) ed

-- the survey of a book that is laid out, from its parts; and that of an index
pub survey_is : (n : Counts) (t t₁ b links rows u ds t' : List ℕ) (r : ℕ) → links ≡ linked b n.formulas (replicate 512 0)
    → u ≡ users_of b n.formulas (replicate 1024 0) → t₁ ≡ replicate (length t) 0 → ds ≡ deliveries_of b n.messages (replicate 16 0)
    → Surveys b links rows u (take n.messages ds) n.formulas n.principals every_assumption n.assumptions t₁ t' r → LaidSurveyIs b rows n t t' r
survey_is n t t₁ b links rows u ds t' r el eu et ed a =
    let p : Surveys b links rows u (take n.messages ds) n.formulas n.principals every_assumption n.assumptions t₁ t' r ≡ LaidSurveyIs b rows n t t' r = rw (el, eu, ed, et) refl in
    subst (λ (T : Type 0). T) p a

pub survey_of_lem : (ix : List ℕ) (n : Counts) (t t' b rows : List ℕ) (r : ℕ) → b ≡ laid_flat ix n → rows ≡ laid_rows ix n → LaidSurveyIs b rows n t t' r → SurveyIs ix n t t' r
survey_of_lem ix n t t' b rows r eb er a =
    subst (λ (rows : List ℕ). LaidSurveyIs (laid_flat ix n) rows n t t' r) er (subst (λ (b : List ℕ). LaidSurveyIs b rows n t t' r) eb a)

-- the same for a goal of a book that is laid out, from its parts; and of an index
pub found_same : (c : Counts) (goal : Record) (b links rows u ds log d d' : List ℕ) (o : Outcome Answer) → links ≡ linked b c.formulas (replicate 512 0)
    → u ≡ users_of b c.formulas (replicate 1024 0) → ds ≡ deliveries_of b goal.first (replicate 16 0)
    → FoundIs b links rows u (take goal.first ds) c.formulas c.principals c.assumptions (goal.second % 256) log d d' o
    → LaidFoundIs b rows c goal log d d' o
found_same c goal b links rows u ds log d d' o el eu ed w =
    let e : FoundIs b links rows u (take goal.first ds) c.formulas c.principals c.assumptions (goal.second % 256) log d d' o ≡ LaidFoundIs b rows c goal log d d' o = rw (el, eu, ed) refl in
    subst (λ (T : Type 0). T) e w

-- and for an index
pub found_of : (ix : List ℕ) (c : Counts) (goal : Record) (b rows log d d' : List ℕ) (o : Outcome Answer) → b ≡ laid_flat ix c → rows ≡ laid_rows ix c
    → LaidFoundIs b rows c goal log d d' o → LaidFoundIs (laid_flat ix c) (laid_rows ix c) c goal log d d' o
found_of ix c goal b rows log d d' o eb er w =
    subst (λ (rows : List ℕ). LaidFoundIs (laid_flat ix c) rows c goal log d d' o) er (subst (λ (b : List ℕ). LaidFoundIs b rows c goal log d d' o) eb w)
