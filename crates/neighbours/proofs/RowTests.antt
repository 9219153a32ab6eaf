-- What is left to show of a row: of a book's survey and goal that a test passes, which can be computed (the book is read, its survey is
-- made, and what the row says is compared); of the checker its answer. Assumes nothing.
use Prim.Native.Nat.{ℕ, zero, suc, ◌+◌, ◌≤◌, ◌<◌}
use mathlib.Core.Path.{◌≡◌, refl, ap, ap₂, ◌∙◌}
use mathlib.Core.List.{List, [], ◌∷◌}
use mathlib.Core.Bool.{Bool, true, false, cond, not, ◌&&◌}
use lib.ListN.{length, get_or}
use lib.Dec.{T, eqb, ltb, leb, eqb→eq, ltb→lt, leb→le, le→leb, T_not, lit<}
use Rattle.logic.specs.declared.Record.{Record}
use Rattle.logic.specs.Record.{same, bytes}
use Rattle.logic.specs.Count.{formulas, goals}
use Rattle.logic.specs.Refusal.{Outcome}
use Rattle.logic.specs.Refusal.Outcome.{accepted, refused}
use Rattle.logic.specs.Reading.{reading}
use Rattle.logic.specs.Book.{All, Book}
use Rattle.logic.specs.Place.{F}
use Rattle.logic.specs.Step.{goal_of}
use Rattle.logic.specs.Survey.{is_within, held, held_after}
use Rattle.logic.proofs.Tests.{T_and, and_T}
use Rattle.logic.proofs.Member.{all_imp}
use Rattle.logic.proofs.Same.{same_path}
use Rattle.logic.proofs.BookRead.{accepted_is_book}
use Rattle.logic.proofs.GoalByte.{goal_byte, reached_by_byte}
use Rattle.search.proofs.SurveyOf.{table_of, table_surveys}
use Rattle.neighbours.specs.Rows.{Row, Right}
use Rattle.neighbours.specs.Rows.Row.{proving, checking, surveying}

-- whether a test holds of each member of a list
unfoldable pub each : {A : Type 0} → (A → Bool) → List A → Bool
each p [] = true
each p (a ∷ l) = p a && each p l

pub each_all : {A : Type 0} (p : A → Bool) (P : A → Type 0) → ((a : A) → T (p a) → P a) → (l : List A) → T (each p l) → All P l
unfolding each
each_all p P f [] t = tt
each_all p P f (a ∷ l) t = let h = T_and (p a) (each p l) t in (f a h.0, each_all p P f l h.1)

bytes_small : (s : List ℕ) → T (each (λ v. ltb v 256) s) → (i : ℕ) → get_or s i 0 < 256
unfolding each
bytes_small [] t i = lit< tt
bytes_small (v ∷ s) t zero = ltb→lt v 256 (T_and (ltb v 256) (each (λ w. ltb w 256) s) t).0
bytes_small (v ∷ s) t (suc i) = bytes_small s (T_and (ltb v 256) (each (λ w. ltb w 256) s) t).1 i

-- reached or not, by the byte of the goal
by_byte : (b : Bool) (A : Type 0) (v m : ℕ) → ((1 ≤ v) × (v ≤ 1 + m) → A) × (A → (1 ≤ v) × (v ≤ 1 + m))
    → T (cond b (is_within m v) (not (is_within m v))) → cond b A (A → ⊥)
by_byte true A v m f t = let h = T_and (leb 1 v) (leb v (1 + m)) t in f.0 (leb→le 1 v h.0, leb→le v (1 + m) h.1)
by_byte false A v m f t =
    λ a. let h = f.1 a in T_not (is_within m v) t (and_T (leb 1 v) (leb v (1 + m)) (le→leb 1 v h.0) (le→leb v (1 + m) h.1))

-- whether two lists of records are the same
unfoldable pub same_records : List Record → List Record → Bool
same_records [] [] = true
same_records [] (r ∷ qs) = false
same_records (r ∷ rs) [] = false
same_records (r ∷ rs) (q ∷ qs) = same r q && same_records rs qs

same_records_lem : (rs qs : List Record) → T (same_records rs qs) → rs ≡ qs
unfolding same_records
same_records_lem [] [] t = refl
same_records_lem [] (r ∷ qs) t = absurd t
same_records_lem (r ∷ rs) [] t = absurd t
same_records_lem (r ∷ rs) (q ∷ qs) t = let h = T_and (same r q) (same_records rs qs) t in ap₂ (λ a l. a ∷ l) (same_path r q h.0) (same_records_lem rs qs h.1)

unfoldable pub is_read : List Record → Outcome (List Record) → Bool
is_read rs (accepted qs) = same_records qs rs
is_read rs (refused f i) = false

-- whether the bytes of these records are a book that is accepted
unfoldable pub accepts : List Record → Bool
accepts rs = each (λ v. ltb v 256) (bytes rs) && is_read rs (reading (bytes rs))

accepted_by_test : (rs : List Record) → T (accepts rs) → (reading (bytes rs) ≡ accepted rs) × Book rs
unfolding accepts is_read
accepted_by_test rs t =
    let h = T_and (each (λ v. ltb v 256) (bytes rs)) (is_read rs (reading (bytes rs))) t in
    let e = go (reading (bytes rs)) refl h.1 in
    (e, (accepted_is_book (bytes rs) rs (bytes_small (bytes rs) h.0) e).1)
  where
    go : (o : Outcome (List Record)) → reading (bytes rs) ≡ o → T (is_read rs o) → reading (bytes rs) ≡ accepted rs
    go (accepted qs) e t = e ∙ ap accepted (same_records_lem qs rs t)
    go (refused f i) e t = absurd t

-- what a row says of goal 0 and some places of a book with the records rs and the survey t
unfoldable pub agrees : Bool → ℕ → List (ℕ × ℕ) → List Record → List ℕ → Bool
agrees is_reached h places rs t =
    cond is_reached (is_within (goal_of rs 0).first (goal_byte rs 0 t)) (not (is_within (goal_of rs 0).first (goal_byte rs 0 t)))
    && (eqb (held_after (goal_of rs 0).first t) h
    && each (λ (p : ℕ × ℕ). eqb (get_or t p.0 0) p.1) places)

-- WHAT IS LEFT TO SHOW OF A ROW
abbrev pub Shown : Row → Type 0
Shown (proving rs is_reached h places) = T (accepts rs && (ltb 0 (length (goals rs)) && agrees is_reached h places rs (table_of rs)))
Shown (checking rs derivation steps answer) = Right (checking rs derivation steps answer)
Shown (surveying rs size h) = T (accepts rs && (eqb (F (formulas rs)) size && eqb (held (table_of rs)) h))

shown_right : (q : Row) → Shown q → Right q
unfolding agrees
shown_right (proving rs is_reached h places) t =
    let a = T_and (accepts rs) _ t in
    let b = accepted_by_test rs a.0 in
    let u = table_of rs in
    let s = table_surveys rs b.1 in
    let m = (goal_of rs 0).first in
    let v = goal_byte rs 0 u in
    let c = T_and (ltb 0 (length (goals rs))) (agrees is_reached h places rs u) a.1 in
    let l = ltb→lt 0 (length (goals rs)) c.0 in
    let d = T_and (cond is_reached (is_within m v) (not (is_within m v))) _ c.1 in
    let e = T_and (eqb (held_after m u) h) _ d.1 in (
      b.0,
      l,
      by_byte is_reached _ v m (reached_by_byte rs b.1 0 l u s) d.0,
      (
        u,
        s,
        eqb→eq (held_after m u) h e.0,
        each_all _ _ (λ (p : ℕ × ℕ) k. eqb→eq (get_or u p.0 0) p.1 k) places e.1,
      ),
    )
shown_right (checking rs derivation steps answer) t = t
shown_right (surveying rs size h) t =
    let a = T_and (accepts rs) _ t in
    let b = accepted_by_test rs a.0 in
    let c = T_and (eqb (F (formulas rs)) size) (eqb (held (table_of rs)) h) a.1 in
    (b.0, eqb→eq (F (formulas rs)) size c.0, (table_of rs, table_surveys rs b.1, eqb→eq (held (table_of rs)) h c.1))

-- ROWS THAT ARE SHOWN ARE RIGHT
pub rows_shown : (l : List Row) → All Shown l → All Right l
rows_shown l h = all_imp Shown Right shown_right l h
