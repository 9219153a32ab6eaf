-- Texts put into a list one behind the other. Assumes nothing.
use Prim.Native.Nat.{ℕ, ◌+◌, ◌<◌, ◌≤◌}
use native.Mathlib.Nat.{zero-add}
use native.Mathlib.Omega.{arith}
use native.Mathlib.Decide.{dec_lt}
use mathlib.Core.Path.{◌≡◌, refl, sym, ap, ◌∙◌, subst}
use mathlib.Core.List.{List, [], ◌++◌, append_assoc}
use lib.ListN.{length, take, drop, length-append}
use lib.Seq.{sets, sets-eq, length-sets, take-append_seam}
use borrow.Author.Tests.{lt-ltb, le-ltb}
use Rattle.logic.specs.Refusal.{Outcome}
use Rattle.logic.specs.Refusal.Outcome.{accepted, refused}
use Rattle.logic.specs.Text.{length_told, at_front}
use Rattle.logic.specs.Reason.{whole}
use Rattle.digits.specs.Puts.{Puts, last_place, Appends}
use Rattle.digits.proofs.Put.{sets_append, sets_out}

-- what was put, and the place behind it
pub puts_end : {o q : List ℕ} (s : List ℕ) {at k end : ℕ} → q ≡ sets o at s → k ≡ length s → end ≡ at + k → Puts o at s q end
puts_end {o} {q} s {at} {k} {end} e g h = record { place = h ∙ ap (λ (z : ℕ). at + z) g; list = e }

pub puts_none : (o : List ℕ) (at : ℕ) → Puts o at [] o at
puts_none o at = record { place = omega arith; list = refl }

pub puts_then : {o p q s t : List ℕ} {at a b : ℕ} → Puts o at s p a → Puts p a t q b → Puts o at (s ++ t) q b
puts_then {o} {p} {q} {s} {t} {at} {a} {b} x y =
    record {
      place = y.place ∙ rw (x.place, length-append s t) (omega arith);
      list = y.list ∙ rw (x.list, x.place) (sym (sets_append s t o at));
    }

pub puts_as : {o p s t : List ℕ} {at a : ℕ} → s ≡ t → Puts o at s p a → Puts o at t p a
puts_as {o} {p} {s} {t} {at} {a} e x = record { place = rw (← e) x.place; list = rw (← e) x.list }

pub puts_length : {o p t : List ℕ} {at a : ℕ} → Puts o at t p a → length p ≡ length o
puts_length {o} {p} {t} {at} {a} x = ap length x.list ∙ length-sets o at t

-- AT THE FRONT: a text that fits stands there, and the rest stays
pub sets_front : (s o : List ℕ) → length s ≤ length o → sets o 0 s ≡ s ++ drop (length s) o
sets_front s o l = sets-eq s o 0 (omega arith) ∙ rw (zero-add (length s)) refl

pub front_is : (s o : List ℕ) {q : List ℕ} {k : ℕ} → q ≡ sets o 0 s → k ≡ length s → k ≤ length o → take k q ≡ s
front_is s o e g l = rw (e, g, sets_front s o (omega arith)) (take-append_seam s (drop (length s) o))

-- a text that is put whole, or not at all
module _ (s b : List ℕ) {k : ℕ} (e : k ≡ length s) where
  abbrev Told : Outcome ℕ → List ℕ → Type 0
  Told o b' = (o ≡ length_told (whole (length b) s)) × (b' ≡ at_front (whole (length b) s) b)

  pub whole_short : {o : Outcome ℕ} → length b < k → o ≡ refused 14 0 → Told o b
  whole_short l h = rw (lt-ltb (length b) (length s) (omega arith)) (h, refl)

  pub whole_put : {b' : List ℕ} → k ≤ length b → b' ≡ sets b 0 s → Told (accepted k) b'
  whole_put l h = rw (le-ltb (length b) (length s) (omega arith)) (ap (λ (n : ℕ). accepted n) e, h ∙ sets_front s b (omega arith))

-- WHAT A WRITER PUTS: part by part. One bound on the whole is enough, or that the list is no longer than places are counted.
pub record Writes (o : List ℕ) (at : ℕ) (t : List ℕ) (p : List ℕ) (end : ℕ) : Type 0 where
  pub puts : at + length t ≤ last_place → Puts o at t p end
  pub appends : length o ≤ last_place → Appends o at t p end

pub writes : {o p t : List ℕ} {at a : ℕ} → Appends o at t p a → Writes o at t p a
writes {o} {p} {t} {at} {a} x = record { puts = λ l. record { place = omega (arith, x.place); list = x.list }; appends = λ l. x }

pub writes_none : (o : List ℕ) (at : ℕ) → Writes o at [] o at
writes_none o at = record { puts = λ l. puts_none o at; appends = λ l. record { place = omega arith; list = refl } }

appends_then : {o p q s t : List ℕ} {at a b : ℕ} → length o ≤ last_place → Appends o at s p a → Appends p a t q b → Appends o at (s ++ t) q b
appends_then {o} {p} {q} {s} {t} {at} {a} {b} l x y =
    record {
      place = rw length-append (omega (arith, x.place, y.place));
      list =
          y.list
          ∙ elim (dec_lt last_place (at + length s)) [
            | yes h ↦
                let n : length p ≤ a = omega (arith, x.place, ap length x.list, length-sets o at s) in
                let v : sets p a t ≡ p = sets_out t p a n in
                let z : sets (sets o at s) (at + length s) t ≡ p = rw (← x.list) (sets_out t p (at + length s) (omega arith)) in
                v ∙ sym (sets_append s t o at ∙ z)
            | no h ↦ let e : a ≡ at + length s = omega (arith, x.place) in rw (x.list, e) (sym (sets_append s t o at))
          ];
    }

pub writes_then : {o p q s t : List ℕ} {at a b : ℕ} → Writes o at s p a → Writes p a t q b → Writes o at (s ++ t) q b
writes_then {o} {p} {q} {s} {t} {at} {a} {b} x y =
    record {
      puts = λ l.
          let m : at + (length s + length t) ≤ last_place = rw length-append at l in
          let u = x.puts (omega arith) in
          puts_then u (y.puts (omega (arith, u.place)));
      appends = λ l.
          let u = x.appends l in
          appends_then l u (y.appends (omega (arith, ap length u.list, length-sets o at s)));
    }

-- a text that stands as two in the definition
pub writes_end : {o p q s : List ℕ} (t u : List ℕ) {at a b : ℕ} → Writes o at s p a → Writes p a (t ++ u) q b → Writes o at ((s ++ t) ++ u) q b
writes_end {o} {p} {q} {s} t u {at} {a} {b} x y = rw append_assoc (writes_then x y)

pub writes_as : {o p s t : List ℕ} {at a : ℕ} → s ≡ t → Writes o at s p a → Writes o at t p a
writes_as {o} {p} {s} {t} {at} {a} e x = subst (λ (u : List ℕ). Writes o at u p a) e x

-- a writer's text stands at the front of the buffer that it was made from
pub front_written : {o p s q q' : List ℕ} {a r m : ℕ} → (p ≡ o) × (a ≡ 0) → Writes p a s q r → q' ≡ q → length s ≤ m → m ≤ last_place
    → (q' ≡ sets o 0 s) × (r ≡ length s) × (r ≤ m)
front_written {o} {p} {s} {q} {q'} {a} {r} {m} e x g l h =
    let u = x.puts (omega (arith, e.1)) in
    let k : r ≡ length s = omega (arith, u.place, e.1) in
    (g ∙ u.list ∙ rw (e.0, e.1) refl, k, omega arith)

pub front_puts : {o p s q q' : List ℕ} {a r m : ℕ} → (p ≡ o) × (a ≡ 0) → Writes p a s q r → q' ≡ q → length s ≤ m → m ≤ last_place
    → Puts o 0 s q' r × (r ≤ m)
front_puts e x g l h =
    let u = front_written e x g l h in
    (record { place = omega (arith, u.1); list = u.0 }, u.2)

-- the whole that was put, and where it ends, for a contract
pub appends_of : {o p t : List ℕ} {at a : ℕ} → Writes o at t p a → length o ≤ last_place → Appends o at t p a
appends_of x l = x.appends l

pub appends_as : {o p s t : List ℕ} {at a : ℕ} → s ≡ t → Writes o at s p a → length o ≤ last_place → Appends o at t p a
appends_as e x l = let y = writes_as e x in y.appends l
