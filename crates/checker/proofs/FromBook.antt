-- From the book that was read to the verdict on a derivation. Assumes nothing.
use Prim.Native.Nat.{ℕ, ◌<◌, ◌≤◌}
use native.Mathlib.Omega.{arith}
use mathlib.Core.Path.{◌≡◌, refl, sym, ap, subst, ◌∙◌}
use mathlib.Core.Logic.{inl, inr}
use mathlib.Core.List.{List}
use lib.ListN.{length}
use Rattle.logic.specs.declared.Record.{Record}
use Rattle.logic.specs.declared.Counts.{Counts}
use Rattle.logic.specs.Count.{goals}
use Rattle.logic.specs.Refusal.{Outcome}
use Rattle.logic.specs.Refusal.Outcome.{refused}
use Rattle.logic.specs.Reading.{reading}
use Rattle.format.specs.Index.{index_size, record_in, look_in, goal_in}
use Rattle.logic.specs.Step.{Checked, goal_of}
use Rattle.format.proofs.Indexing.{Indexed, book_indexed, goal_shown}
use Rattle.book.proofs.OpenBook.{Opened}
use Rattle.claims.specs.declared.Claim.{Claim}
use Rattle.claims.specs.Claim.{stated_claim}
use Rattle.claims.specs.Follow.{clears_up_to}
use Rattle.checker.specs.Judge.{VerdictOf}

pub check_refused : (b : List ℕ) (g : ℕ) (s : List ℕ) (f i : ℕ) → reading b ≡ refused f i → Checked b g s (refused f i)
check_refused b g s f i e = rw e refl

module _ {b t₀ t : List ℕ} {n : Counts} (room : index_size ≤ length t₀) (h : Opened b t₀ t n) (g : ℕ) (s : List ℕ) where
  goal_count : n.goals ≡ length (goals h.records)
  goal_count = ap (λ (c : Counts). c.goals) h.counts

  pub check_no_goal : n.goals ≤ g → Checked b g s (refused 13 g)
  check_no_goal l = let e = goal_count in rw h.read (inl (omega arith, refl))

  module _ (l : g < n.goals) where
    present : g < length (goals h.records)
    present = let e = goal_count in omega arith

    goal_record : {a : Record} → a ≡ goal_in t g → a ≡ goal_of h.records g
    goal_record e =
        e ∙ goal_shown t₀ t h.records (subst (λ u. Indexed t₀ u h.records) (sym h.table) (book_indexed t₀ h.records room h.proper))
        h.proper g present

    pub check_verdict : (cs₀ cs : List ℕ) (a q : Record) (w : Claim) (o : Outcome Unit) → 256 ≤ length cs₀
        → cs ≡ clears_up_to (record_in t) cs₀ n.formulas → a ≡ goal_in t g → q ≡ look_in n.formulas t a.second
        → w ≡ stated_claim (look_in n.formulas t) q → VerdictOf t n cs a.first w s o → Checked b g s o
    check_verdict cs₀ cs a q w o k ec ea eq ew v =
        let d = goal_record ea in
        rw h.read (inr (
          present,
          v h.records g (record {
            proper = h.proper;
            counts = h.counts;
            t₀ = t₀;
            room = room;
            table = h.table;
            cs₀ = cs₀;
            clear_room = k;
            clears = ec;
            present = present;
            message = ap (λ (x : Record). x.first) d;
            asks = ew ∙ ap (stated_claim (look_in n.formulas t)) (eq ∙ ap (λ (x : Record). look_in n.formulas t x.second) d);
          }),
        ))
