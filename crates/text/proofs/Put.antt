-- The rest of a list as a part of it, and what is put into it. Assumes nothing.
use Prim.Native.Nat.{ℕ, ◌+◌, ◌-◌, ◌≤◌}
use native.Mathlib.Omega.{arith}
use mathlib.Core.Path.{◌≡◌, sym, ap, ◌∙◌}
use mathlib.Core.List.{List, [], ◌++◌, append_assoc, append-nil}
use lib.ListN.{length, take, drop, length-drop, drop_of_length-le}
use lib.Seq.{sets, sets-eq, take_all, drop-drop}
use Rattle.digits.proofs.Puts.{sets_front}
use Rattle.digits.specs.Puts.{Puts}

-- the rest of a list as a part of it
pub rest_whole : (s : List ℕ) (at : ℕ) → take (length s - at) (drop at s) ≡ drop at s
rest_whole s at = take_all (length s - at) (drop at s) (rw length-drop (omega arith))

-- what is put at the front of the rest of a list is put into the list
pub part_puts : (o : List ℕ) (at : ℕ) {t ys : List ℕ} {k : ℕ} → Puts (take (length o - at) (drop at o)) 0 t ys k → at + length t ≤ length o
    → Puts o at t (take at o ++ (ys ++ drop (length o - at) (drop at o))) (at + k)
part_puts o at {t} {ys} {k} u l =
    let e : ys ≡ t ++ drop (at + length t) o =
    u.list ∙ ap (λ (r : List ℕ). sets r 0 t) (rest_whole o at) ∙ sets_front t (drop at o) (rw length-drop (omega arith)) ∙ ap (λ (r : List ℕ). t ++ r) (drop-drop (length t) at o) in
    let n : drop (length o - at) (drop at o) ≡ [] = drop_of_length-le (drop at o) {i = length o - at} (rw length-drop (omega arith)) in
    record {
      place = omega (arith, u.place);
      list = rw (e, n, append-nil) (sym (sets-eq t o at l ∙ append_assoc (take at o) t (drop (at + length t) o)));
    }
