-- EXACTLY ONE VERDICT: each goal of an accepted book and all bytes have one. That there is one is seen from how the checker works.
use Prim.Native.Nat.{ℕ, ◌<◌}
use mathlib.Core.Path.{◌≡◌, refl}
use mathlib.Core.List.{List, []}
use lib.ListN.{length, replicate, length-replicate}
use lib.Dec.{lit≤}
use Rattle.logic.specs.declared.Record.{Record}
use Rattle.logic.specs.Count.{goals, counts_of}
use Rattle.logic.specs.Refusal.{Outcome}
use Rattle.logic.specs.Book.{Book}
use Rattle.format.specs.Index.{index_size, filled, record_in, look_in}
use Rattle.logic.specs.Step.{goal_of, Verdict}
use Rattle.logic.proofs.Verdict.{verdict_once}
use Rattle.claims.specs.Claim.{stated_claim}
use Rattle.claims.specs.Follow.{clears_up_to}
use Rattle.checker.proofs.Stage.{verdict_exists}

pub one_verdict : (rs : List Record) → Book rs → (g : ℕ) → g < length (goals rs) → (s : List ℕ)
    → (o : Outcome Unit) × (Verdict rs g s o × ((u : Outcome Unit) → Verdict rs g s u → u ≡ o))
one_verdict rs b g l s =
    let t = filled (replicate index_size 0) [] rs in
    let n = counts_of rs in
    let goal = stated_claim (look_in n.formulas t) (look_in n.formulas t (goal_of rs g).second) in
    let h = verdict_exists {rs = rs} {g = g} {t = t} {n = n} {cs = clears_up_to (record_in t) (replicate 256 0) n.formulas} {m = (goal_of rs g).first} {goal = goal}
    (record {
      proper = b;
      counts = refl;
      t₀ = replicate index_size 0;
      room = rw length-replicate (lit≤ tt);
      table = refl;
      cs₀ = replicate 256 0;
      clear_room = rw length-replicate (lit≤ tt);
      clears = refl;
      present = l;
      message = refl;
      asks = refl;
    }) s in
    (h.0, (h.1, λ u v. verdict_once rs g s u h.0 v h.1))
