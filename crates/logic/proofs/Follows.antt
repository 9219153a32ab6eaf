-- Runs of records that may stand behind others: one record more, what holds of each record, the limits on their number.
use Prim.Native.Nat.{ℕ, zero, suc, ◌+◌, ◌≤◌, ◌<◌, zero-le}
use native.Mathlib.Nat.{not-suc-le-zero, le_of_suc-le-suc}
use native.Mathlib.Omega.{arith}
use mathlib.Core.Path.{◌≡◌, refl, sym, subst}
use mathlib.Core.Bool.{Bool, true, false, not, cond}
use mathlib.Core.List.{List, [], ◌∷◌, ◌++◌, append-nil}
use lib.ListN.{length, get_or, length-append}
use lib.Seq.{append_snoc}
use lib.Dec.{T, eqb, eqb→eq}
use Rattle.logic.specs.declared.Record.{Record}
use Rattle.logic.specs.Kind.{body_of, is_field, is_formula_record}
use Rattle.logic.specs.Count.{of_kind, formulas, principals, assumptions, messages, goals}
use Rattle.logic.specs.Book.{All, EachField, Whole, Proper, Follows, Book}
use Rattle.logic.proofs.Tests.{T_true, T_false}

-- records of a kind, in two runs
pub of_kind_append : (p : ℕ → Bool) (rs qs : List Record) → of_kind p (rs ++ qs) ≡ of_kind p rs ++ of_kind p qs
unfolding of_kind
of_kind_append p [] qs = refl
of_kind_append p (r ∷ rs) qs = rw (of_kind_append p rs qs) (go (p r.kind))
  where
    go : (b : Bool) → cond b (r ∷ (of_kind p rs ++ of_kind p qs)) (of_kind p rs ++ of_kind p qs)
        ≡ cond b (r ∷ of_kind p rs) (of_kind p rs) ++ of_kind p qs
    go true = refl
    go false = refl

-- one record more, of the kind or of another
pub of_kind_more : (p : ℕ → Bool) (rs : List Record) (r : Record) → T (p r.kind) → of_kind p (rs ++ (r ∷ [])) ≡ of_kind p rs ++ (r ∷ [])
unfolding of_kind
of_kind_more p rs r t = rw (of_kind_append p rs (r ∷ []), T_true (p r.kind) t)

pub of_kind_other : (p : ℕ → Bool) (rs : List Record) (r : Record) → T (not (p r.kind)) → of_kind p (rs ++ (r ∷ [])) ≡ of_kind p rs
unfolding of_kind
of_kind_other p rs r t = rw (of_kind_append p rs (r ∷ []), T_false (p r.kind) t, append-nil)

-- of the records that pass the test q, those that pass the narrower test p
pub of_kind_within : (p q : ℕ → Bool) → ((k : ℕ) → T (p k) → T (q k)) → (rs : List Record) → of_kind p (of_kind q rs) ≡ of_kind p rs
unfolding of_kind
of_kind_within p q f [] = refl
of_kind_within p q f (r ∷ rs) = go (of_kind_within p q f rs) (q r.kind) (p r.kind) refl refl
  where
    go : of_kind p (of_kind q rs) ≡ of_kind p rs → (a b : Bool) → q r.kind ≡ a → p r.kind ≡ b
        → of_kind p (cond a (r ∷ of_kind q rs) (of_kind q rs)) ≡ cond b (r ∷ of_kind p rs) (of_kind p rs)
    go h true b d e = rw (e, h)
    go h false true d e = absurd (subst T d (f r.kind (subst T (sym e) tt)))
    go h false false d e = h

-- what holds of each member

pub all_append : (P : Record → Type 0) (rs qs : List Record) → All P rs → All P qs → All P (rs ++ qs)
all_append P [] qs a b = b
all_append P (r ∷ rs) qs a b = (a.0, all_append P rs qs a.1 b)

pub all_of_kind : (P : Record → Type 0) (p : ℕ → Bool) (rs : List Record) → All P rs → All P (of_kind p rs)
unfolding of_kind
all_of_kind P p [] a = tt
all_of_kind P p (r ∷ rs) a = go (p r.kind) (all_of_kind P p rs a.1)
  where
    go : (b : Bool) → All P (of_kind p rs) → All P (cond b (r ∷ of_kind p rs) (of_kind p rs))
    go true h = (a.0, h)
    go false h = h

-- the records of a kind are of that kind
pub of_kind_all : (p : ℕ → Bool) (rs : List Record) → All (λ r. T (p r.kind)) (of_kind p rs)
unfolding of_kind
of_kind_all p [] = tt
of_kind_all p (r ∷ rs) = go (p r.kind) refl (of_kind_all p rs)
  where
    go : (b : Bool) → p r.kind ≡ b → All (λ r. T (p r.kind)) (of_kind p rs)
        → All (λ r. T (p r.kind)) (cond b (r ∷ of_kind p rs) (of_kind p rs))
    go true e h = (rw e tt, h)
    go false e h = h

pub all_at : (P : Record → Type 0) (rs : List Record) (i : ℕ) (d : Record) → All P rs → i < length rs → P (get_or rs i d)
all_at P [] i d a l = absurd (not-suc-le-zero l)
all_at P (r ∷ rs) zero d a l = a.0
all_at P (r ∷ rs) (suc i) d a l = all_at P rs i d a.1 (le_of_suc-le-suc l)

-- runs that follow

pub follows_append : (past rs qs : List Record) → Follows past rs → Follows (past ++ rs) qs → Follows past (rs ++ qs)
follows_append past [] qs f g = rw append-nil at g
follows_append past (r ∷ rs) qs f g = (f.0, follows_append (past ++ (r ∷ [])) rs qs f.1 (rw append_snoc g))

pub follows_snoc : (past rs : List Record) (r : Record) → Follows past rs → Proper (past ++ rs) r → Follows past (rs ++ (r ∷ []))
follows_snoc past rs r f p = follows_append past rs (r ∷ []) f (p, tt)

pub follows_all : (P : Record → Type 0) → ((past : List Record) (r : Record) → Proper past r → P r)
    → (past rs : List Record) → Follows past rs → All P rs
follows_all P f past [] h = tt
follows_all P f past (r ∷ rs) h = (f past r h.0, follows_all P f (past ++ (r ∷ [])) rs h.1)

pub book_known : (rs : List Record) → Book rs → All (λ r. T (is_field (body_of r.kind).first)) rs
book_known rs b = follows_all _ (λ past r p. p.known) [] rs b

pub book_whole : (rs : List Record) → Book rs → All (EachField Whole) rs
book_whole rs b = follows_all _ (λ past r p. p.whole) [] rs b

-- limits: what is kept at each record is kept by a run

pub limit_more : (p : ℕ → Bool) (m : ℕ) (past : List Record) (r : Record) → (T (p r.kind) → length (of_kind p past) < m)
    → length (of_kind p past) ≤ m → length (of_kind p (past ++ (r ∷ []))) ≤ m
unfolding of_kind
limit_more p m past r f l = rw (of_kind_append p past (r ∷ []), length-append) (go (p r.kind) f)
  where
    go : (b : Bool) → (T b → length (of_kind p past) < m) → length (of_kind p past) + length (cond b (r ∷ []) []) ≤ m
    go true f = let h = f tt in omega arith
    go false f = omega arith

pub limit_kept : (p : ℕ → Bool) (m : ℕ) → ((past : List Record) (r : Record) → Proper past r → T (p r.kind) → length (of_kind p past) < m)
    → (past rs : List Record) → Follows past rs → length (of_kind p past) ≤ m → length (of_kind p (past ++ rs)) ≤ m
limit_kept p m f past [] h l = rw append-nil l
limit_kept p m f past (r ∷ rs) h l =
    rw append_snoc at (limit_kept p m f (past ++ (r ∷ [])) rs h.1 (limit_more p m past r (f past r h.0) l))

pub formula_limit_lem : (rs : List Record) → Book rs → length (formulas rs) ≤ 256
unfolding of_kind
formula_limit_lem rs b = limit_kept is_formula_record 256 (λ past r p. p.formula_limit) [] rs b zero-le

pub principal_limit_lem : (rs : List Record) → Book rs → length (principals rs) ≤ 8
unfolding of_kind
principal_limit_lem rs b = limit_kept (λ k. eqb k 1) 8 (λ past r p t. p.principal_limit (eqb→eq r.kind 1 t)) [] rs b zero-le

pub assumption_limit_lem : (rs : List Record) → Book rs → length (assumptions rs) ≤ 64
unfolding of_kind
assumption_limit_lem rs b = limit_kept (λ k. eqb k 32) 64 (λ past r p t. p.assumption_limit (eqb→eq r.kind 32 t)) [] rs b zero-le

pub message_limit_lem : (rs : List Record) → Book rs → length (messages rs) ≤ 16
unfolding of_kind
message_limit_lem rs b = limit_kept (λ k. eqb k 33) 16 (λ past r p t. p.message_limit (eqb→eq r.kind 33 t)) [] rs b zero-le

pub goal_limit_lem : (rs : List Record) → Book rs → length (goals rs) ≤ 32
unfolding of_kind
goal_limit_lem rs b = limit_kept (λ k. eqb k 34) 32 (λ past r p t. p.goal_limit (eqb→eq r.kind 34 t)) [] rs b zero-le
