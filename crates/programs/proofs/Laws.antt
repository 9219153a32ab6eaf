-- What an answer says of its number. Assumes nothing.
use Prim.Native.Nat.{ℕ, ◌≤◌}
use native.Mathlib.Omega.{arith}
use mathlib.Core.Path.{◌≡◌, refl, sym, ap, subst, ◌∙◌}
use mathlib.Core.Logic.{inl, inr}
use mathlib.Core.List.{List}
use lib.ListN.{length}
use Rattle.logic.specs.declared.Record.{Record}
use Rattle.logic.specs.declared.Counts.{Counts}
use Rattle.std.specs.Prelude.{Result, Ok}
use Rattle.logic.specs.declared.Refusal.{Refusal}
use Rattle.logic.specs.Count.{counts_of}
use Rattle.logic.specs.Refusal.{Outcome, told}
use Rattle.logic.specs.Refusal.Outcome.{accepted, refused}
use Rattle.logic.specs.Reading.{reading, counted}
use Rattle.logic.specs.Proof.{Answer, Promises, ProvedAfter, Proved}
use Rattle.logic.specs.Proof.Answer.{reached}
use Rattle.logic.proofs.Bytes.{Bytes}
use Rattle.logic.proofs.BookRead.{accepted_is_book}
use Rattle.logic.proofs.Follows.{goal_limit_lem}

-- what the prover wrote lies within its buffer
pub proved_within : (book : List ℕ) (g : ℕ) (work work' d d' : List ℕ) {o : Outcome Answer} {k l h : ℕ} → Proved book g work work' d d' o
    → o ≡ accepted (reached k l h) → l ≤ length d'
proved_within book g work work' d d' {o} {k} {l} {h} = go (reading book)
  where
    go : (z : Outcome (List Record)) → ProvedAfter z g work work' d d' o → o ≡ accepted (reached k l h) → l ≤ length d'
    go (refused f i) p e = absurd (let y = p.0 in let z : ◌≡◌ {A = ℕ} 0 1 = cc in omega arith)
    go (accepted rs) (inl p) e = absurd (let y = p.1 in let z : ◌≡◌ {A = ℕ} 0 1 = cc in omega arith)
    go (accepted rs) (inr (m, inl p)) e = absurd (let y = p.1 in let z : ◌≡◌ {A = ℕ} 0 1 = cc in omega arith)
    go (accepted rs) (inr (m, inr (a, b, c, w, (x, y, q)))) e = answer x (let z : accepted x ≡ accepted (reached k l h) = sym y ∙ e in (cc)) q
      where
        answer : (x : Answer) → x ≡ reached k l h → Promises rs g d d' x → l ≤ length d'
        answer x z q = let p = subst (λ (v : Answer). Promises rs g d d' v) z q in let i = p.2 in let j = p.3 in omega arith

-- a book that was read has at most 32 goals
pub few_goals : (x : List ℕ) → Bytes x → {o : Result Counts Refusal} {n : Counts} → told o ≡ counted (reading x) → o ≡ Ok n → n.goals ≤ 32
few_goals x b {o} {n} e h = go (reading x) refl
  where
    go : (z : Outcome (List Record)) → reading x ≡ z → n.goals ≤ 32
    go (accepted rs) k =
        let q : accepted n ≡ accepted (counts_of rs) = sym (ap told h) ∙ e ∙ ap counted k in
        let y : n ≡ counts_of rs = (cc) in
        let l = goal_limit_lem rs (accepted_is_book x rs b k).1 in
        let w = ap (λ (m : Counts). m.goals) y in
        omega arith
    go (refused m i) k =
        absurd (let q : accepted n ≡ refused m i = sym (ap told h) ∙ e ∙ ap counted k in let z : ◌≡◌ {A = ℕ} 0 1 = cc in omega arith)
